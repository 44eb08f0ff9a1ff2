-- A branch's offset, in two bytes with the high one first.
use Rattle.std.specs.Prelude.{◌≡◌, ℕ, ◌+◌, ◌*◌, ◌/◌, ◌%◌, false, List, [], ◌∷◌, ℤ, Option, Result, MatchResult}
use Rattle.std.specs.Int.{w16}
use Rattle.std.proofs.Common.{of_z, to_z}
use Rattle.branches.specs.Made.{made_if}
use Rattle.branches.specs.Near.{near}
use Rattle.branches.specs.declared.offset.Offset.{Offset}
use Rattle.branches.specs.declared.offset.TooFar.{TooFar}

-- the offset of so many bundles, if they are near
abbrev pub offset_of : ℤ → Option Offset
offset_of bundles = made_if (near bundles) (λ close. record { bundles = bundles; close = close })

-- the offset of so many bundles, or that they are too far
abbrev pub IsOffsetOf : ℤ → Result Offset TooFar → Type 0
IsOffsetOf bundles result = MatchResult result (λ offset. offset.bundles ≡ bundles) (λ error. (error.bundles ≡ bundles) × (near bundles ≡ false))

-- the offset that two bytes mean
abbrev pub decoded_offset : ℕ → ℕ → Option Offset
decoded_offset high low = offset_of (to_z w16 (high * 256 + low))

-- the two bytes of an offset
abbrev pub encoded_offset : Offset → List ℕ
encoded_offset offset = (of_z w16 offset.bundles / 256 % 256) ∷ (of_z w16 offset.bundles % 256) ∷ []
