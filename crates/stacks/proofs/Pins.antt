-- What stands where after a pin.
use Rattle.std.proofs.Common.{◌≡◌, ℕ, zero, suc, ◌+◌, ◌<◌, List, [], ◌∷◌, drop, length, refl, arith}
use Rattle.std.proofs.lemmas.Grind.{common_steps}
use Rattle.std.proofs.lemmas.Option.{gets}
use Rattle.std.specs.List.{slice_get}
use Rattle.stacks.specs.Changes.{pinned}

pub pin_here : (xs : List ℕ) (p k : ℕ) → k + 1 ≡ p → p < length xs → slice_get (pinned p xs) k ≡ slice_get xs 0
pin_here [] p k e h = refl
pin_here (x ∷ xs) zero k e h = absurd (omega arith)
pin_here (x ∷ xs) (suc p) k e h = grind (arith, common_steps, gets)

pub pin_else : (xs : List ℕ) (p k : ℕ) → (k + 1 ≡ p → ⊥) → slice_get (pinned p xs) k ≡ slice_get (drop 1 xs) k
pin_else [] p k h = refl
pin_else (x ∷ xs) zero k h = refl
pin_else (x ∷ xs) (suc p) k h = grind (arith, common_steps, gets)
