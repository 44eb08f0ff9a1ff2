-- Which operation an operation byte and an argument byte mean, and the two bytes of an operation.
use Rattle.std.specs.Prelude.{ℕ, ◌+◌, ◌-◌, ◌++◌, cond, map, List, [], ◌∷◌, Some, None, Option, ◌==◌, nat_lt}
use Rattle.std.specs.Int.{w8}
use Rattle.std.proofs.Common.{of_z, to_z}
use Rattle.words.specs.Numbers.{condition_number, conditions}
use Rattle.operations.specs.Kinds.{binaries, binary_number, fetch_number, fetches, multiplies, multiply_number, scan_number, scans, shift_number, shifts, special_number, specials}
use Rattle.operations.specs.Operands.{decoded_operand, decoded_source, encoded_operand, encoded_source}
use Rattle.operations.specs.Places.{place_number, places}
use Rattle.operations.specs.declared.kinds.Binary.{Binary}
use Rattle.operations.specs.declared.kinds.Multiply.{Multiply}
use Rattle.operations.specs.declared.operation.Operation.{Operation}
use Rattle.operations.specs.declared.operation.Operation.TheVariants.{Nop, Push, Append, Combine, Latch, Pick, Pin, Flag, Shift, Scan, Special, Fetch}
use Rattle.std.specs.Option.{option_map}
use Rattle.std.specs.List.{slice_get}

-- an operation that uses no argument, so that its argument byte is 0
abbrev pub bare : Operation → ℕ → Option Operation
bare operation argument = cond (argument == 0) (Some operation) None

-- an operation on the top and a second operand
abbrev pub combined : Binary → ℕ → Option Operation
combined binary argument = option_map (Combine binary) (decoded_operand argument)

-- an operation that writes the latch
abbrev pub latched : Multiply → ℕ → Option Operation
latched multiply argument = option_map (Latch multiply) (decoded_operand argument)

-- the operations numbered 0 to 16, each with what its argument byte makes of it
abbrev pub firsts : List (ℕ → Option Operation)
firsts =
    bare Nop ∷
    (λ argument. Some (Push (to_z w8 argument))) ∷
    (λ argument. Some (Append argument)) ∷
    (map combined binaries ++ (map latched multiplies ++
    (λ argument. option_map Pick (decoded_source argument)) ∷
    (λ argument. option_map Pin (slice_get places argument)) ∷ []))

-- what an entry of that list makes of the argument byte
abbrev pub given : Option (ℕ → Option Operation) → ℕ → Option Operation
given None argument = None
given (Some entry) argument = entry argument

-- those numbered 33 to 50
abbrev pub last_operations : List Operation
last_operations = map Shift shifts ++ (map Scan scans ++ (map Special specials ++ map Fetch fetches))

-- those numbered 17 to 50, which use no argument: the flags of the conditions, and then the last ones
abbrev pub unargued : ℕ → Option Operation
unargued number = cond (nat_lt number 33) (option_map Flag (slice_get conditions (number - 17))) (slice_get last_operations (number - 33))

-- the operation that two bytes mean; where it uses no argument, the argument byte is 0
abbrev pub decoded_operation : ℕ → ℕ → Option Operation
decoded_operation number argument =
    cond (nat_lt number 17) (given (slice_get firsts number) argument) (
    cond (argument == 0) (unargued number) None)

-- the two bytes of an operation
abbrev pub encoded_operation : Operation → List ℕ
encoded_operation Nop = 0 ∷ 0 ∷ []
encoded_operation (Push value) = 1 ∷ of_z w8 value ∷ []
encoded_operation (Append byte) = 2 ∷ byte ∷ []
encoded_operation (Combine binary operand) = (3 + binary_number binary) ∷ encoded_operand operand ∷ []
encoded_operation (Latch multiply operand) = (12 + multiply_number multiply) ∷ encoded_operand operand ∷ []
encoded_operation (Pick source) = 15 ∷ encoded_source source ∷ []
encoded_operation (Pin place) = 16 ∷ place_number place ∷ []
encoded_operation (Flag condition) = (17 + condition_number condition) ∷ 0 ∷ []
encoded_operation (Shift shift) = (33 + shift_number shift) ∷ 0 ∷ []
encoded_operation (Scan scan) = (41 + scan_number scan) ∷ 0 ∷ []
encoded_operation (Special special) = (43 + special_number special) ∷ 0 ∷ []
encoded_operation (Fetch fetch) = (47 + fetch_number fetch) ∷ 0 ∷ []
