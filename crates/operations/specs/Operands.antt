-- Second operands and the bytes that name them.
use Rattle.std.specs.Prelude.{ℕ, ◌+◌, ◌-◌, ◌*◌, ◌/◌, ◌%◌, ◌^◌, cond, List, [], ◌∷◌, Some, None, Option, nat_lt}
use Rattle.operations.specs.Places.{near_number, nears, place_number, places, stack_number, stacks}
use Rattle.operations.specs.declared.operands.Constant.{Constant}
use Rattle.operations.specs.declared.operands.Constant.TheVariants as constant
use Rattle.operations.specs.declared.operands.Operand.{Operand}
use Rattle.operations.specs.declared.operands.Operand.TheVariants as operand
use Rattle.operations.specs.declared.operands.Source.{Source}
use Rattle.operations.specs.declared.operands.Source.TheVariants.{Own, Moved, Other}
use Rattle.operations.specs.declared.places.Near.{Near}
use Rattle.operations.specs.declared.places.StackNumber.{StackNumber}
use Rattle.std.specs.Option.{option_map}
use Rattle.std.specs.List.{slice_get}

-- the constants in order
abbrev pub constants : List Constant
constants = constant.Zero ∷ constant.MinusOne ∷ constant.Max ∷ constant.Min ∷ []

-- a constant's place in that order
abbrev pub constant_number : Constant → ℕ
constant_number constant.Zero = 0
constant_number constant.MinusOne = 1
constant_number constant.Max = 2
constant_number constant.Min = 3

-- the word that a constant stands for
abbrev pub constant_value : Constant → ℕ
constant_value constant.Zero = 0
constant_value constant.MinusOne = 2 ^ 32 - 1
constant_value constant.Max = 2 ^ 31 - 1
constant_value constant.Min = 2 ^ 31

-- a place of another stack, if both numbers name something
abbrev pub other_place : Option StackNumber → Option Near → Option Source
other_place None near = None
other_place (Some stack) near = option_map (Other stack) near

-- 0 to 7 are places of the own stack, 8 to 11 those that are moved to the top, 12 + 4 n + p is place p of stack n
abbrev pub decoded_source : ℕ → Option Source
decoded_source byte =
    cond (nat_lt byte 8) (option_map Own (slice_get places byte)) (
    cond (nat_lt byte 12) (option_map Moved (slice_get nears (byte - 8)))
    (other_place (slice_get stacks ((byte - 12) / 4)) (slice_get nears ((byte - 12) % 4))))

-- the byte of a place
abbrev pub encoded_source : Source → ℕ
encoded_source (Own place) = place_number place
encoded_source (Moved near) = 8 + near_number near
encoded_source (Other stack near) = 12 + 4 * stack_number stack + near_number near

-- a place as a second operand
abbrev pub source_operand : Source → Operand
source_operand = operand.Source

-- 0 to 27 are places, 28 to 31 the constants
abbrev pub decoded_operand : ℕ → Option Operand
decoded_operand byte = cond (nat_lt byte 28) (option_map source_operand (decoded_source byte)) (option_map operand.Constant (slice_get constants (byte - 28)))

-- the byte of a second operand
abbrev pub encoded_operand : Operand → ℕ
encoded_operand (operand.Source source) = encoded_source source
encoded_operand (operand.Constant constant) = 28 + constant_number constant
