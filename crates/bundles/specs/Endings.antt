-- Bytes 6 to 15 of a bundle: slot 3 and a tail, or a call or a jump in the place of both.
use Rattle.std.specs.Prelude.{ℕ, ◌-◌, cond, List, [], ◌∷◌, ◌++◌, Some, None, Option, drop, slice_index}
use Rattle.branches.specs.Targets.{decoded_target, encoded_target}
use Rattle.branches.specs.declared.targets.Target.{Target}
use Rattle.bundles.specs.Tails.{decoded_tail, encoded_tail, unused}
use Rattle.bundles.specs.declared.ending.Ending.{Ending}
use Rattle.bundles.specs.declared.ending.Ending.TheVariants.{Slot, Call, Jump}
use Rattle.bundles.specs.declared.tails.Tail.{Tail}
use Rattle.operations.specs.Operations.{decoded_operation, encoded_operation}
use Rattle.operations.specs.declared.operation.Operation.{Operation}
use Rattle.std.specs.Option.{option_map}
use Rattle.std.specs.List.{slice_get}

-- a byte by its place in the bundle
abbrev pub ending_byte : List ℕ → ℕ → ℕ
ending_byte ending place = slice_index ending (place - 6)

-- an operation and a tail, if there are both
abbrev pub slot_of : Option Operation → Option Tail → Option Ending
slot_of None tail = None
slot_of (Some operation) None = None
slot_of (Some operation) (Some tail) = Some (Slot operation tail)

-- bytes 6 and 7 are slot 3, the rest the tail
abbrev pub slotted : List ℕ → Option Ending
slotted e = slot_of (decoded_operation (ending_byte e 6) (ending_byte e 7)) (decoded_tail (drop 2 e))

-- bytes 11 to 14 are the target; slot 3 is written as zero
abbrev pub leap_target : List ℕ → Option Target
leap_target e =
    cond (unused (ending_byte e 6 ∷ ending_byte e 7 ∷ ending_byte e 9 ∷ ending_byte e 10 ∷ ending_byte e 15 ∷ []))
    (decoded_target (ending_byte e 11) (ending_byte e 12) (ending_byte e 13) (ending_byte e 14)) None

-- the formats in the order of their numbers: moves, setup, branch, call and jump
abbrev pub endings : List (List ℕ → Option Ending)
endings = slotted ∷ slotted ∷ slotted ∷ (λ e. option_map Call (leap_target e)) ∷ (λ e. option_map Jump (leap_target e)) ∷ []

-- what a format makes of the bytes
abbrev pub given : Option (List ℕ → Option Ending) → List ℕ → Option Ending
given None e = None
given (Some format) e = format e

-- the ending that ten bytes mean
abbrev pub decoded_ending : List ℕ → Option Ending
decoded_ending e = given (slice_get endings (ending_byte e 8)) e

-- the bytes of a call or a jump: a format with a target
abbrev pub leap_bytes : ℕ → Target → List ℕ
leap_bytes format target = 0 ∷ 0 ∷ format ∷ 0 ∷ 0 ∷ (encoded_target target ++ 0 ∷ [])

-- the ten bytes of an ending
abbrev pub encoded_ending : Ending → List ℕ
encoded_ending (Slot operation tail) = encoded_operation operation ++ encoded_tail tail
encoded_ending (Call target) = leap_bytes 3 target
encoded_ending (Jump target) = leap_bytes 4 target
