-- A list of so many elements is made of them, and a bundle's parts give the whole.
use Rattle.std.proofs.Common.{◌≡◌, ℕ, zero, suc, ◌+◌, ◌<◌, List, [], ◌∷◌, ◌++◌, length, get_or, drop, Some, sym, ap, ◌∙◌, add-one, arith, drop-cons}
use Rattle.bundles.specs.Bundles.{decoded, operation_in}
use Rattle.bundles.specs.Endings.{decoded_ending}
use Rattle.bundles.specs.declared.ending.Ending.{Ending}
use Rattle.operations.specs.declared.operation.Operation.{Operation}
use Rattle.std.proofs.lemmas.Bool.{eq-eqb}
use Rattle.std.proofs.lemmas.List.{drop_all}

module _ {A : Type 0} (x : A) where
  -- the elements from a place on
  abbrev pub elements : ℕ → ℕ → List A → List A
  elements zero from xs = []
  elements (suc n) from xs = get_or xs from x ∷ elements n (from + 1) xs

  pub listed : (n from : ℕ) (xs : List A) → from + n ≡ length xs → drop from xs ≡ elements n from xs
  listed zero from xs long = drop_all from xs (omega arith)
  listed (suc n) from xs long =
      let here : from < length xs = omega arith in
      let next : from + 1 + n ≡ length xs = omega arith in
      drop-cons xs from x here ∙ ap (λ i. get_or xs from x ∷ drop i xs) (sym (add-one from)) ∙ ap (λ rest. get_or xs from x ∷ rest) (listed n (from + 1) xs next)

pub decoded_is :
    (xs : List ℕ) (first second third : Operation) (ending : Ending) → length xs ≡ 16 → operation_in xs 0 1 ≡ Some first → operation_in xs 2 3 ≡ Some second → operation_in xs 4 5 ≡ Some third
    → decoded_ending (drop 6 xs) ≡ Some ending → decoded xs ≡ Some (record { slots = first ∷ second ∷ third ∷ []; ending = ending })
decoded_is xs first second third ending long a b c e = simp (eq-eqb (length xs) 16 long, a, b, c, e)

pub joined : (a b c d e f g h : List ℕ) → a ≡ e → b ≡ f → c ≡ g → d ≡ h → (a ++ (b ++ (c ++ []))) ++ d ≡ (e ++ (f ++ (g ++ []))) ++ h
joined a b c d e f g h ae bf cg dh = cc
