-- Stacks in a row.
use Rattle.std.proofs.Common.{◌≡◌, ℕ, zero, suc, ◌<◌, List, [], ◌∷◌, length, get_or, refl, le_of_suc-le-suc, not-suc-le-zero}
use Rattle.stacks.specs.Held.{held, held_at}
use Rattle.stacks.specs.declared.stack.Stack.{Stack}

pub held_at_lem : (ss : List Stack) (k : ℕ) (d : Stack) → k < length ss → held_at ss k ≡ held (get_or ss k d)
held_at_lem [] k d h = absurd (not-suc-le-zero h)
held_at_lem (s ∷ ss) zero d h = refl
held_at_lem (s ∷ ss) (suc k) d h = held_at_lem ss k d (le_of_suc-le-suc h)
