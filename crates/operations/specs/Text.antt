-- Operations as people write them.
use Rattle.std.specs.Prelude.{ℕ, List, ◌++◌, codes, decimal}
use Rattle.operations.specs.Places.{near_number, place_number, stack_number}
use Rattle.operations.specs.Words.{binary_word, constant_word, fetch_word, multiply_word, scan_word, shift_word, special_word}
use Rattle.operations.specs.declared.operands.Operand.{Operand}
use Rattle.operations.specs.declared.operands.Operand.TheVariants as operand
use Rattle.operations.specs.declared.operands.Source.{Source}
use Rattle.operations.specs.declared.operands.Source.TheVariants.{Own, Moved, Other}
use Rattle.operations.specs.declared.operation.Operation.{Operation}
use Rattle.operations.specs.declared.operation.Operation.TheVariants as operation
use Rattle.operations.specs.declared.places.Near.{Near}
use Rattle.operations.specs.declared.places.Place.{Place}
use Rattle.operations.specs.declared.places.StackNumber.{StackNumber}
use Rattle.std.specs.Fmt.{signed_decimal}
use Rattle.words.specs.Numbers.{condition_word}

-- s0 to s7
abbrev pub place_text : Place → List ℕ
place_text place = codes "s" ++ decimal (place_number place)

-- s0 to s3
abbrev pub near_text : Near → List ℕ
near_text near = codes "s" ++ decimal (near_number near)

-- 0 to 3
abbrev pub stack_text : StackNumber → List ℕ
stack_text stack = decimal (stack_number stack)

-- s1 of the own stack, s1p that is moved, 2s1 of stack 2
abbrev pub source_text : Source → List ℕ
source_text (Own place) = place_text place
source_text (Moved near) = near_text near ++ codes "p"
source_text (Other stack near) = stack_text stack ++ near_text near

-- places and constants
abbrev pub operand_text : Operand → List ℕ
operand_text (operand.Source source) = source_text source
operand_text (operand.Constant constant) = constant_word constant

-- the operation's word, and its argument where it has one
abbrev pub operation_text : Operation → List ℕ
operation_text operation.Nop = codes "nop"
operation_text (operation.Push value) = codes "push " ++ signed_decimal value
operation_text (operation.Append byte) = codes "<# " ++ decimal byte
operation_text (operation.Combine binary operand) = binary_word binary ++ codes " " ++ operand_text operand
operation_text (operation.Latch multiply operand) = multiply_word multiply ++ codes " " ++ operand_text operand
operation_text (operation.Pick source) = codes "pick " ++ source_text source
operation_text (operation.Pin place) = codes "pin " ++ place_text place
operation_text (operation.Flag condition) = condition_word condition
operation_text (operation.Shift shift) = shift_word shift
operation_text (operation.Scan scan) = scan_word scan
operation_text (operation.Special special) = special_word special
operation_text (operation.Fetch fetch) = fetch_word fetch
