-- The answers of calls that ask, and then make a value on the heap.
use Rattle.std.specs.Prelude.{◌≡◌, ℕ, List, Some, None, Ok, Err, Option, Result, codes}
use Rattle.questions.specs.declared.failures.Failure.{Failure}
use Rattle.questions.specs.declared.failures.Failure.TheVariants.{Refused, OutOfMemory}

-- what was asked, and of what is right: a value where nothing got a no, else the first no;
-- want of memory only after what is asked before memory is
abbrev pub Makes : {V R S : Type 0} → Result V (Failure R) → Option R → Option S → (V → Type 0) → Type 0
Makes (Ok value) asked before right = (asked ≡ None) × right value
Makes (Err (Refused refusal)) asked before right = asked ≡ Some refusal
Makes (Err OutOfMemory) asked before right = before ≡ None

-- how a failure is shown, if its refusal says how that is
abbrev pub failure_text : {R : Type 0} → (R → Option (List ℕ)) → Failure R → Option (List ℕ)
failure_text shown (Refused refusal) = shown refusal
failure_text shown OutOfMemory = Some (codes "there is not memory enough")

-- what holds of a refusal, if a failure is one
abbrev pub ForRefused : {R : Type 0} → Failure R → (R → Type 0) → Type 0
ForRefused (Refused refusal) P = P refusal
ForRefused OutOfMemory P = Unit {0}

-- a failure with its refusal turned into another
abbrev pub MapsTo : {R S : Type 0} → Failure R → (R → S → Type 0) → Failure S → Type 0
MapsTo (Refused refusal) P (Refused other) = P refusal other
MapsTo OutOfMemory P OutOfMemory = Unit {0}
MapsTo a P b = ⊥
