-- The stack effects of the own places, line by line.
use Rattle.std.specs.Prelude.{◌≡◌, ℕ, List, ◌∷◌, Some}
use Rattle.operations.specs.declared.operands.Operand.TheVariants.{Source}
use Rattle.operations.specs.declared.operands.Source.TheVariants.{Own}
use Rattle.operations.specs.declared.places.Place.TheVariants.{S0, S1, S2, S3, S4, S5, S6, S7}
use Rattle.operations.specs.declared.places.StackNumber.{StackNumber}
use Rattle.effects.specs.Operands.{effect}

-- s0: x — x x, s1: x0 x1 — x0 x1 x0, .. s7: x0 .. x7 — x0 .. x7 x0
abbrev pub Copies : Type 0
Copies =
    (x0 x1 x2 x3 x4 x5 x6 x7 : ℕ) (xs : List ℕ) (all : StackNumber → List ℕ) →
    (effect (Source (Own S0)) (x0 ∷ xs) all ≡ Some (x0 ∷ x0 ∷ xs)) ×
    (effect (Source (Own S1)) (x1 ∷ x0 ∷ xs) all ≡ Some (x0 ∷ x1 ∷ x0 ∷ xs)) ×
    (effect (Source (Own S2)) (x2 ∷ x1 ∷ x0 ∷ xs) all ≡ Some (x0 ∷ x2 ∷ x1 ∷ x0 ∷ xs)) ×
    (effect (Source (Own S3)) (x3 ∷ x2 ∷ x1 ∷ x0 ∷ xs) all ≡ Some (x0 ∷ x3 ∷ x2 ∷ x1 ∷ x0 ∷ xs)) ×
    (effect (Source (Own S4)) (x4 ∷ x3 ∷ x2 ∷ x1 ∷ x0 ∷ xs) all ≡ Some (x0 ∷ x4 ∷ x3 ∷ x2 ∷ x1 ∷ x0 ∷ xs)) ×
    (effect (Source (Own S5)) (x5 ∷ x4 ∷ x3 ∷ x2 ∷ x1 ∷ x0 ∷ xs) all ≡ Some (x0 ∷ x5 ∷ x4 ∷ x3 ∷ x2 ∷ x1 ∷ x0 ∷ xs)) ×
    (effect (Source (Own S6)) (x6 ∷ x5 ∷ x4 ∷ x3 ∷ x2 ∷ x1 ∷ x0 ∷ xs) all ≡ Some (x0 ∷ x6 ∷ x5 ∷ x4 ∷ x3 ∷ x2 ∷ x1 ∷ x0 ∷ xs)) ×
    (effect (Source (Own S7)) (x7 ∷ x6 ∷ x5 ∷ x4 ∷ x3 ∷ x2 ∷ x1 ∷ x0 ∷ xs) all ≡ Some (x0 ∷ x7 ∷ x6 ∷ x5 ∷ x4 ∷ x3 ∷ x2 ∷ x1 ∷ x0 ∷ xs))
