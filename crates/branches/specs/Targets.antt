-- The target of a call or a jump, in four bytes with the high one first.
use Rattle.std.specs.Prelude.{◌≡◌, ℕ, ◌+◌, ◌*◌, ◌/◌, ◌%◌, false, List, [], ◌∷◌, Option, Result, MatchResult}
use Rattle.branches.specs.Made.{made_if}
use Rattle.branches.specs.Whole.{whole}
use Rattle.branches.specs.declared.targets.NoBundle.{NoBundle}
use Rattle.branches.specs.declared.targets.Target.{Target}

-- the target at an address, if it is a bundle's
abbrev pub target_of : ℕ → Option Target
target_of address = made_if (whole address) (λ bundle. record { address = address; bundle = bundle })

-- the target at an address, or that no bundle stands there
abbrev pub IsTargetAt : ℕ → Result Target NoBundle → Type 0
IsTargetAt address result = MatchResult result (λ target. target.address ≡ address) (λ error. (error.address ≡ address) × (whole address ≡ false))

-- the target that four bytes mean
abbrev pub decoded_target : ℕ → ℕ → ℕ → ℕ → Option Target
decoded_target first second third fourth = target_of (first * 16777216 + second * 65536 + third * 256 + fourth)

-- the four bytes of a target
abbrev pub encoded_target : Target → List ℕ
encoded_target target = (target.address / 16777216 % 256) ∷ (target.address / 65536 % 256) ∷ (target.address / 256 % 256) ∷ (target.address % 256) ∷ []
