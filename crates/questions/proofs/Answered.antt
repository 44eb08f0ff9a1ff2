-- What an answer tells of the questions that were asked.
use Rattle.std.proofs.Common.{◌≡◌, Bool, true, false, cond, [], ◌∷◌, Some, None, Ok, Err, Option, refl}
use Rattle.questions.specs.Questions.{answered, first_no}

-- an accepted call got no no
pub accepted : {R X : Type 0} (o : Option R) (x y : X) → answered o x ≡ Ok y → o ≡ None
accepted None x y e = refl
accepted (Some r) x y e = cc

-- an accepted call gave its value
pub given : {R X : Type 0} (o : Option R) (x y : X) → answered o x ≡ Ok y → x ≡ y
given None x y e = cc
given (Some r) x y e = cc

-- a refused call got this no
pub refused : {R X : Type 0} (o : Option R) (x : X) (r : R) → answered o x ≡ Err r → o ≡ Some r
refused None x r e = cc
refused (Some s) x r e = cc

-- a question before the last got a yes, if no question got a no
pub passed : {R : Type 0} (b : Bool) (later : Option R) (r : R) → cond b later (Some r) ≡ None → (b ≡ true) × (later ≡ None)
passed true later r e = (refl, e)
passed false later r e = cc

-- a question that got a yes leaves the answer to the later ones
pub passes : {R : Type 0} (b : Bool) (later : Option R) (r : R) (u : Unit {0}) → answered (first_no ((b, r) ∷ [])) (tt {0}) ≡ Ok u → cond b later (Some r) ≡ later
passes true later r u e = refl
passes false later r u e = cc

-- a question that got a no decides
pub stops : {R : Type 0} (b : Bool) (later : Option R) (r s : R) → answered (first_no ((b, r) ∷ [])) (tt {0}) ≡ Err s → cond b later (Some r) ≡ Some s
stops true later r s e = cc
stops false later r s e = cc
