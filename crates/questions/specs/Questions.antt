-- Questions that are asked in turn, each beside the refusal that its no stands for.
use Rattle.std.specs.Prelude.{Bool, cond, List, [], ◌∷◌, Some, None, Ok, Err, Option, Result}

-- the refusal of the first question that gets a no, if any does
abbrev pub first_no : {R : Type 0} → List (Bool × R) → Option R
first_no [] = None
first_no (q ∷ qs) = cond q.0 (first_no qs) (Some q.1)

-- the answer of a call that asked: its value, or the refusal
abbrev pub answered : {R X : Type 0} → Option R → X → Result X R
answered None x = Ok x
answered (Some e) x = Err e

-- what a buffer holds after a call that asked: the new, or after a refusal the old
abbrev pub held_after : {R X : Type 0} → Option R → X → X → X
held_after None new old = new
held_after (Some e) new old = old

-- the first refusal of two rounds of questions
abbrev pub or_else : {R : Type 0} → Option R → Option R → Option R
or_else None later = later
or_else (Some e) later = Some e
