-- What the code asks of a block is what opening asks, and what a block that passes is known by.
use Rattle.std.proofs.Common.{cond, ok_or, Option, Ok, refl, false, Bool, [], ◌∷◌, ◌≡◌, ℕ, Bool, true, false, Option, eqb, ok_or, Ok, refl, cond, ℕ, List, [], ◌∷◌, length, get_or, take, Some, None}
use Rattle.std.specs.List.{between}
use Rattle.std.proofs.lemmas.Bool.{eq-eqb, eqb-true}
use Rattle.questions.specs.Questions.{first_no}
use Rattle.questions.proofs.Answered.{passed}
use Rattle.blocks.specs.declared.refusals.BlockRefusal.TheVariants.{NotWhole, WrongKind, WrongEdition, WrongPlace, NotZero, WrongCheck}
use Rattle.blocks.specs.Asking.{opening}
use Rattle.blocks.specs.Check.{check_word}
use Rattle.blocks.specs.Headers.{headed}
use Rattle.blocks.specs.declared.headers.Header.{Header}
use Rattle.blocks.specs.Layout.{two_at, four_at, all_zero}
use Rattle.blocks.specs.Headers.{headed}
use Rattle.blocks.specs.declared.headers.Header.{Header}

-- a block that passed every question
pub record Sound (kind place : ℕ) (xs : List ℕ) : Type 0 where
  pub long : length xs ≡ 512
  pub kind_is : get_or xs 0 0 ≡ kind
  pub edition_is : get_or xs 1 0 ≡ 1
  pub number_is : two_at xs 2 ≡ place
  pub zeros_are : all_zero (between 4 12 xs) ≡ true
  pub check_is : four_at xs 508 ≡ check_word (take 508 xs)

-- what was there under a condition
some_if : {R X : Type 0} (b : Bool) (x y : X) (r : R) → ok_or (cond b (Some x) None) r ≡ Ok y → (b ≡ true) × (x ≡ y)
some_if true x y r e = (refl, cc)
some_if false x y r e = cc

module _ (kind place : ℕ) (xs : List ℕ) where
  -- what is left to ask of a whole block
  -- what the code is left to ask of a whole block, by its header and with what it worked out
  pub whole : (o : Option Header) (h : Header) → o ≡ headed xs → ok_or o NotWhole ≡ Ok h → (byte word : ℕ) (zeros : Bool) → byte ≡ kind → zeros ≡ all_zero (between 4 12 xs) → word ≡ check_word (take 508 xs)
      → opening kind place xs
      ≡ first_no ((eqb h.kind byte, WrongKind) ∷ (eqb h.edition 1, WrongEdition) ∷ (eqb h.number place, WrongPlace) ∷ (zeros, NotZero) ∷ (eqb h.check word, WrongCheck) ∷ [])
  unfolding opening
  whole o h is e byte word zeros b z w = let p = some_if _ _ _ _ (rw is at e) in rw (b, z, w) (rw (p.0, ← p.1))

  pub sound : opening kind place xs ≡ None → Sound kind place xs
  unfolding opening
  sound none =
      let a = passed (eqb (length xs) 512) _ _ none in
      let b = passed (eqb (get_or xs 0 0) kind) _ _ a.1 in
      let d = passed (eqb (get_or xs 1 0) 1) _ _ b.1 in
      let e = passed (eqb (two_at xs 2) place) _ _ d.1 in
      let f = passed (all_zero (between 4 12 xs)) _ _ e.1 in
      let g = passed (eqb (four_at xs 508) (check_word (take 508 xs))) _ _ f.1 in
      record {
        long = eqb-true _ _ a.0;
        kind_is = eqb-true _ _ b.0;
        edition_is = eqb-true _ _ d.0;
        number_is = eqb-true _ _ e.0;
        zeros_are = f.0;
        check_is = eqb-true _ _ g.0;
      }

  pub opens : Sound kind place xs → opening kind place xs ≡ None
  unfolding opening
  opens h =
      simp (eq-eqb (length xs) 512 h.long, eq-eqb (get_or xs 0 0) kind h.kind_is, eq-eqb (get_or xs 1 0) 1 h.edition_is, eq-eqb (two_at xs 2) place h.number_is, h.zeros_are, eq-eqb (four_at xs 508) (check_word (take 508 xs)) h.check_is)
