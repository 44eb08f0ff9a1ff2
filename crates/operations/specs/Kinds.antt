-- The operations of each kind in the order of their numbers.
use Rattle.std.specs.Prelude.{ℕ, List, [], ◌∷◌}
use Rattle.operations.specs.declared.kinds.Binary.{Binary}
use Rattle.operations.specs.declared.kinds.Binary.TheVariants.{Or, And, Xor, Add, Sub, Subr, Addc, Subc, Subcr}
use Rattle.operations.specs.declared.kinds.Fetch.{Fetch}
use Rattle.operations.specs.declared.kinds.Fetch.TheVariants.{Plain, Negated, Added, Subtracted}
use Rattle.operations.specs.declared.kinds.Multiply.{Multiply}
use Rattle.operations.specs.declared.kinds.Multiply.TheVariants.{Pass, Mul, Umul}
use Rattle.operations.specs.declared.kinds.Scan.{Scan}
use Rattle.operations.specs.declared.kinds.Scan.TheVariants.{First, Ones}
use Rattle.operations.specs.declared.kinds.Shift.{Shift}
use Rattle.operations.specs.declared.kinds.Shift.TheVariants.{Asr, Lsr, Ror, Rorc, Asl, Lsl, Rol, Rolc}
use Rattle.operations.specs.declared.kinds.Special.{Special}
use Rattle.operations.specs.declared.kinds.Special.TheVariants.{FetchIp, StoreIp, FetchCount, StoreCount}

-- those that make one word of two
abbrev pub binaries : List Binary
binaries = Or ∷ And ∷ Xor ∷ Add ∷ Sub ∷ Subr ∷ Addc ∷ Subc ∷ Subcr ∷ []

-- the place of one of them
abbrev pub binary_number : Binary → ℕ
binary_number Or = 0
binary_number And = 1
binary_number Xor = 2
binary_number Add = 3
binary_number Sub = 4
binary_number Subr = 5
binary_number Addc = 6
binary_number Subc = 7
binary_number Subcr = 8

-- those that write the latch
abbrev pub multiplies : List Multiply
multiplies = Pass ∷ Mul ∷ Umul ∷ []

-- the place of one of them
abbrev pub multiply_number : Multiply → ℕ
multiply_number Pass = 0
multiply_number Mul = 1
multiply_number Umul = 2

-- the shifts and rotations
abbrev pub shifts : List Shift
shifts = Asr ∷ Lsr ∷ Ror ∷ Rorc ∷ Asl ∷ Lsl ∷ Rol ∷ Rolc ∷ []

-- the place of one of them
abbrev pub shift_number : Shift → ℕ
shift_number Asr = 0
shift_number Lsr = 1
shift_number Ror = 2
shift_number Rorc = 3
shift_number Asl = 4
shift_number Lsl = 5
shift_number Rol = 6
shift_number Rolc = 7

-- those that count bits
abbrev pub scans : List Scan
scans = First ∷ Ones ∷ []

-- the place of one of them
abbrev pub scan_number : Scan → ℕ
scan_number First = 0
scan_number Ones = 1

-- those that fetch or store a register
abbrev pub specials : List Special
specials = FetchIp ∷ StoreIp ∷ FetchCount ∷ StoreCount ∷ []

-- the place of one of them
abbrev pub special_number : Special → ℕ
special_number FetchIp = 0
special_number StoreIp = 1
special_number FetchCount = 2
special_number StoreCount = 3

-- those that read the latch
abbrev pub fetches : List Fetch
fetches = Plain ∷ Negated ∷ Added ∷ Subtracted ∷ []

-- the place of one of them
abbrev pub fetch_number : Fetch → ℕ
fetch_number Plain = 0
fetch_number Negated = 1
fetch_number Added = 2
fetch_number Subtracted = 3
