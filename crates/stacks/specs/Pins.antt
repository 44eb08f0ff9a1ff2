-- The stack effects of pins, line by line.
use Rattle.std.specs.Prelude.{◌≡◌, ℕ, List, ◌∷◌}
use Rattle.stacks.specs.Changes.{pinned}

-- pin s0: x —, pin s1: x0 x1 — x1, pin s2: x0 x1 x2 — x2 x1, .. pin s7: x0 .. x7 — x7 x1 .. x6
abbrev pub Pins : Type 0
Pins =
    (x0 x1 x2 x3 x4 x5 x6 x7 : ℕ) (xs : List ℕ) →
    (pinned 0 (x0 ∷ xs) ≡ xs) ×
    (pinned 1 (x1 ∷ x0 ∷ xs) ≡ x1 ∷ xs) ×
    (pinned 2 (x2 ∷ x1 ∷ x0 ∷ xs) ≡ x1 ∷ x2 ∷ xs) ×
    (pinned 3 (x3 ∷ x2 ∷ x1 ∷ x0 ∷ xs) ≡ x2 ∷ x1 ∷ x3 ∷ xs) ×
    (pinned 4 (x4 ∷ x3 ∷ x2 ∷ x1 ∷ x0 ∷ xs) ≡ x3 ∷ x2 ∷ x1 ∷ x4 ∷ xs) ×
    (pinned 5 (x5 ∷ x4 ∷ x3 ∷ x2 ∷ x1 ∷ x0 ∷ xs) ≡ x4 ∷ x3 ∷ x2 ∷ x1 ∷ x5 ∷ xs) ×
    (pinned 6 (x6 ∷ x5 ∷ x4 ∷ x3 ∷ x2 ∷ x1 ∷ x0 ∷ xs) ≡ x5 ∷ x4 ∷ x3 ∷ x2 ∷ x1 ∷ x6 ∷ xs) ×
    (pinned 7 (x7 ∷ x6 ∷ x5 ∷ x4 ∷ x3 ∷ x2 ∷ x1 ∷ x0 ∷ xs) ≡ x6 ∷ x5 ∷ x4 ∷ x3 ∷ x2 ∷ x1 ∷ x7 ∷ xs)
