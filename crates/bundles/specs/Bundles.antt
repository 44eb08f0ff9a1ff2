-- A bundle's sixteen bytes: slots 0 to 2, an operation byte and an argument byte each, and the ending.
use Rattle.std.specs.Prelude.{ℕ, cond, List, [], ◌∷◌, ◌++◌, length, drop, Some, None, Option, ◌==◌, slice_index, slice_index_or}
use Rattle.bundles.specs.Endings.{decoded_ending, encoded_ending}
use Rattle.bundles.specs.declared.bundle.Bundle.{Bundle}
use Rattle.bundles.specs.declared.ending.Ending.{Ending}
use Rattle.bundles.specs.declared.ending.Ending.TheVariants.{Slot, Call, Jump}
use Rattle.operations.specs.Operations.{decoded_operation, encoded_operation}
use Rattle.operations.specs.declared.kinds.Special.TheVariants.{FetchIp}
use Rattle.operations.specs.declared.operation.Operation.{Operation}
use Rattle.operations.specs.declared.operation.Operation.TheVariants.{Nop, Special}
use Rattle.operations.specs.declared.places.StackNumber.{StackNumber}
use Rattle.operations.specs.declared.places.StackNumber.TheVariants.{Zero, One, Two, Three}
use Rattle.std.specs.List.{flat_map}

-- a bundle of its four parts, if they are all there
abbrev pub bundle_of : Option Operation → Option Operation → Option Operation → Option Ending → Option Bundle
bundle_of None slot1 slot2 ending = None
bundle_of (Some slot0) None slot2 ending = None
bundle_of (Some slot0) (Some slot1) None ending = None
bundle_of (Some slot0) (Some slot1) (Some slot2) None = None
bundle_of (Some slot0) (Some slot1) (Some slot2) (Some ending) = Some (record { slots = slot0 ∷ slot1 ∷ slot2 ∷ []; ending = ending })

-- the operation of two bytes, the first at a place
abbrev pub operation_in : List ℕ → ℕ → ℕ → Option Operation
operation_in bytes first second = decoded_operation (slice_index bytes first) (slice_index bytes second)

-- the bundle that bytes mean; there are sixteen of them
abbrev pub decoded : List ℕ → Option Bundle
decoded bytes =
    cond (length bytes == 16)
    (bundle_of (operation_in bytes 0 1) (operation_in bytes 2 3) (operation_in bytes 4 5) (decoded_ending (drop 6 bytes))) None

-- the sixteen bytes of a bundle
abbrev pub encoded : Bundle → List ℕ
encoded bundle = flat_map encoded_operation bundle.slots ++ encoded_ending bundle.ending

-- what slot 3 runs: a call ip@, and a jump nothing
abbrev pub last_operation : Ending → Operation
last_operation (Slot operation tail) = operation
last_operation (Call target) = Special FetchIp
last_operation (Jump target) = Nop

-- the operation that a stack's slot runs
abbrev pub operation_at : Bundle → StackNumber → Operation
operation_at bundle Zero = slice_index_or bundle.slots 0 Nop
operation_at bundle One = slice_index_or bundle.slots 1 Nop
operation_at bundle Two = slice_index_or bundle.slots 2 Nop
operation_at bundle Three = last_operation bundle.ending
