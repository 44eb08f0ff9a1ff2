-- Places in a table that is put together from others.
use Rattle.std.proofs.Common.{◌≡◌, ℕ, zero, suc, ◌+◌, map, length, List, [], ◌∷◌, ◌++◌, Some, ap, ◌∙◌, arith}
use Rattle.std.proofs.lemmas.Option.{slice_get-map}
use Rattle.std.specs.Option.{option_map}
use Rattle.std.specs.List.{slice_get}

-- what a list has at a place, it has there with more behind it
in_front : {A : Type 0} (xs after : List A) (k : ℕ) (x : A) → slice_get xs k ≡ Some x → slice_get (xs ++ after) k ≡ Some x
in_front [] after k x found = cc
in_front (y ∷ xs) after zero x found = found
in_front (y ∷ xs) after (suc k) x found = in_front xs after k x found

-- what a kind has at a place, a table of its values' meanings, with others before and behind it, has so much further on
module _ {A B : Type 0} (meaning : A → B) (xs : List A) (k : ℕ) (x : A) (found : slice_get xs k ≡ Some x) where
  pub further_on : (before after : List B) (j : ℕ) → j ≡ length before + k → slice_get (before ++ (map meaning xs ++ after)) j ≡ Some (meaning x)
  further_on [] after j is =
      let same : j ≡ k = omega arith in
      in_front (map meaning xs) after j (meaning x) (slice_get-map meaning xs j ∙ ap (λ i. option_map meaning (slice_get xs i)) same ∙ ap (option_map meaning) found)
  further_on (y ∷ before) after zero is = absurd (omega arith)
  further_on (y ∷ before) after (suc j) is = further_on before after j (omega arith)
