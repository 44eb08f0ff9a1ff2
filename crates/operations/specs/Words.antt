-- The words of the operations of each kind and of the constants.
use Rattle.std.specs.Prelude.{ℕ, List, codes}
use Rattle.operations.specs.declared.kinds.Binary.{Binary}
use Rattle.operations.specs.declared.kinds.Binary.TheVariants as binary
use Rattle.operations.specs.declared.kinds.Fetch.{Fetch}
use Rattle.operations.specs.declared.kinds.Fetch.TheVariants as fetch
use Rattle.operations.specs.declared.kinds.Multiply.{Multiply}
use Rattle.operations.specs.declared.kinds.Multiply.TheVariants as multiply
use Rattle.operations.specs.declared.kinds.Scan.{Scan}
use Rattle.operations.specs.declared.kinds.Scan.TheVariants as scan
use Rattle.operations.specs.declared.kinds.Shift.{Shift}
use Rattle.operations.specs.declared.kinds.Shift.TheVariants as shift
use Rattle.operations.specs.declared.kinds.Special.{Special}
use Rattle.operations.specs.declared.kinds.Special.TheVariants as special
use Rattle.operations.specs.declared.operands.Constant.{Constant}
use Rattle.operations.specs.declared.operands.Constant.TheVariants as constant

-- of those that make one word of two
abbrev pub binary_word : Binary → List ℕ
binary_word binary.Or = codes "or"
binary_word binary.And = codes "and"
binary_word binary.Xor = codes "xor"
binary_word binary.Add = codes "add"
binary_word binary.Sub = codes "sub"
binary_word binary.Subr = codes "subr"
binary_word binary.Addc = codes "addc"
binary_word binary.Subc = codes "subc"
binary_word binary.Subcr = codes "subcr"

-- of those that write the latch
abbrev pub multiply_word : Multiply → List ℕ
multiply_word multiply.Pass = codes "pass"
multiply_word multiply.Mul = codes "mul"
multiply_word multiply.Umul = codes "umul"

-- of the shifts and rotations
abbrev pub shift_word : Shift → List ℕ
shift_word shift.Asr = codes "asr"
shift_word shift.Lsr = codes "lsr"
shift_word shift.Ror = codes "ror"
shift_word shift.Rorc = codes "rorc"
shift_word shift.Asl = codes "asl"
shift_word shift.Lsl = codes "lsl"
shift_word shift.Rol = codes "rol"
shift_word shift.Rolc = codes "rolc"

-- of those that count bits
abbrev pub scan_word : Scan → List ℕ
scan_word scan.First = codes "ff1"
scan_word scan.Ones = codes "popc"

-- of those that fetch or store a register
abbrev pub special_word : Special → List ℕ
special_word special.FetchIp = codes "ip@"
special_word special.StoreIp = codes "ip!"
special_word special.FetchCount = codes "cc@"
special_word special.StoreCount = codes "cc!"

-- of those that read the latch
abbrev pub fetch_word : Fetch → List ℕ
fetch_word fetch.Plain = codes "mul@"
fetch_word fetch.Negated = codes "-mul@"
fetch_word fetch.Added = codes "mul@+"
fetch_word fetch.Subtracted = codes "-mul@+"

-- of the constants
abbrev pub constant_word : Constant → List ℕ
constant_word constant.Zero = codes "#0"
constant_word constant.MinusOne = codes "#-1"
constant_word constant.Max = codes "#$7FFFFFFF"
constant_word constant.Min = codes "#$80000000"
