-- What an operand does to a stack before its operation. Lists have the top first; beside each line stands the
-- stack effect with the top last.
use Rattle.std.specs.Prelude.{ℕ, List, [], ◌∷◌, Some, None, Option}
use Rattle.operations.specs.Operands.{constant_value}
use Rattle.operations.specs.Places.{near_number, place_number, stack_number}
use Rattle.operations.specs.declared.operands.Operand.{Operand}
use Rattle.operations.specs.declared.operands.Operand.TheVariants.{Source, Constant}
use Rattle.operations.specs.declared.operands.Source.{Source as Place}
use Rattle.operations.specs.declared.operands.Source.TheVariants.{Own, Moved, Other}
use Rattle.operations.specs.declared.places.Near.{Near}
use Rattle.operations.specs.declared.places.Near.TheVariants.{S0, S1, S2, S3}
use Rattle.operations.specs.declared.places.StackNumber.{StackNumber}
use Rattle.stacks.specs.Held.{held_at}
use Rattle.stacks.specs.declared.stack.Stack.{Stack}
use Rattle.std.specs.List.{slice_get}

-- the words of each of the four stacks
abbrev pub words_of : List Stack → StackNumber → List ℕ
words_of stacks n = (held_at stacks (stack_number n)).words

-- a word on top of others, if there is one
abbrev pub onto : Option ℕ → List ℕ → Option (List ℕ)
onto None xs = None
onto (Some x) xs = Some (x ∷ xs)

-- a word is moved to the top; nothing where words lack
abbrev pub moved : Near → List ℕ → Option (List ℕ)
moved S0 [] = None
moved S0 (x0 ∷ xs) = Some (x0 ∷ xs)  -- x0 — x0
moved S1 [] = None
moved S1 (x1 ∷ []) = None
moved S1 (x1 ∷ x0 ∷ xs) = Some (x0 ∷ x1 ∷ xs)  -- x0 x1 — x1 x0
moved S2 [] = None
moved S2 (x2 ∷ []) = None
moved S2 (x2 ∷ x1 ∷ []) = None
moved S2 (x2 ∷ x1 ∷ x0 ∷ xs) = Some (x0 ∷ x2 ∷ x1 ∷ xs)  -- x0 x1 x2 — x1 x2 x0
moved S3 [] = None
moved S3 (x3 ∷ []) = None
moved S3 (x3 ∷ x2 ∷ []) = None
moved S3 (x3 ∷ x2 ∷ x1 ∷ []) = None
moved S3 (x3 ∷ x2 ∷ x1 ∷ x0 ∷ xs) = Some (x0 ∷ x3 ∷ x2 ∷ x1 ∷ xs)  -- x0 x1 x2 x3 — x1 x2 x3 x0

-- the stack effect of a place; nothing where words lack, of the own stack or of another
abbrev pub placed : Place → List ℕ → (StackNumber → List ℕ) → Option (List ℕ)
placed (Own place) xs all = onto (slice_get xs (place_number place)) xs  -- s1: x0 x1 — x0 x1 x0
placed (Moved near) xs all = moved near xs
placed (Other stack near) xs all = onto (slice_get (all stack) (near_number near)) xs

-- an operand's stack effect: that of its place, or a constant on top
abbrev pub effect : Operand → List ℕ → (StackNumber → List ℕ) → Option (List ℕ)
effect (Source place) xs all = placed place xs all
effect (Constant constant) xs all = Some (constant_value constant ∷ xs)

-- an operation's words: n2 is the top, n1 the word below it
pub record TopTwo : Type 0 where
  pub n1 : ℕ
  pub n2 : ℕ
  pub rest : List ℕ

-- the two uppermost words, if there are two
abbrev pub top_two : List ℕ → Option TopTwo
top_two [] = None
top_two (n2 ∷ []) = None
top_two (n2 ∷ n1 ∷ xs) = Some (record { n1 = n1; n2 = n2; rest = xs })

-- those of a stack that an operand had its effect on
abbrev pub top_two_of : Option (List ℕ) → Option TopTwo
top_two_of None = None
top_two_of (Some xs) = top_two xs
