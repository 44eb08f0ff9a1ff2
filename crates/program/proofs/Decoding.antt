-- The bundles of some chunks of sixteen bytes, as the code decodes them.
use Rattle.std.proofs.Common.{◌≡◌, ℕ, zero, suc, ◌+◌, ◌<◌, List, [], ◌∷◌, ◌++◌, length, get_or, take, drop, Some, None, Option, sym, ap, ◌∙◌, refl}
use Rattle.std.specs.List.{filter_map, cons_option}
use Rattle.std.specs.Simd.{first_chunks}
use Rattle.std.proofs.lemmas.List.{at_drop_more, take_more}
use Rattle.std.proofs.lemmas.List.Elements.{filter_map-append}
use Rattle.bundles.specs.Bundles.{decoded}
use Rattle.bundles.specs.declared.bundle.Bundle.{Bundle}
use Rattle.program.specs.declared.refusals.LoadRefusal.{LoadRefusal}
use Rattle.program.specs.declared.refusals.LoadRefusal.TheVariants.{Unlawful}
use Rattle.program.specs.Loading.{meant, lawful_then, unlawful, in_front, bundles_of}

-- are these chunks lawful, one after the other?
abbrev pub unlawful_of : ℕ → List (List ℕ) → Option LoadRefusal
unlawful_of place [] = None
unlawful_of place (chunk ∷ chunks) = lawful_then place (meant chunk) (unlawful_of (place + 1) chunks)

pub unlawful_is : (place n : ℕ) (bytes : List ℕ) → unlawful place n bytes ≡ unlawful_of place (first_chunks 16 n bytes)
unlawful_is place zero bytes = refl
unlawful_is place (suc n) bytes = ap (lawful_then place (meant (take 16 bytes))) (unlawful_is (place + 1) n (drop 16 bytes))

in_front_is : (o : Option Bundle) (later : List Bundle) → in_front o later ≡ cons_option o later
in_front_is None later = refl
in_front_is (Some bundle) later = refl

pub bundles_are : (n : ℕ) (bytes : List ℕ) → bundles_of n bytes ≡ filter_map meant (first_chunks 16 n bytes)
bundles_are zero bytes = refl
bundles_are (suc n) bytes = ap (in_front (meant (take 16 bytes))) (bundles_are n (drop 16 bytes)) ∙ in_front_is (meant (take 16 bytes)) (filter_map meant (first_chunks 16 n (drop 16 bytes)))

-- what one decodes is what it means
pub meaning : (o : Option Bundle) (chunk : List ℕ) → o ≡ decoded chunk → meant chunk ≡ o
unfolding meant
meaning o chunk is = sym is

module _ (i : ℕ) (chunks : List (List ℕ)) (here : i < length chunks) (inv : unlawful_of i (drop i chunks) ≡ unlawful_of 0 chunks) where
  turn : (o : Option Bundle) → meant (get_or chunks i []) ≡ o → unlawful_of 0 chunks ≡ lawful_then i o (unlawful_of (i + 1) (drop (i + 1) chunks))
  turn o is = sym inv ∙ at_drop_more (unlawful_of i) chunks i [] here ∙ ap (λ p. lawful_then i p (unlawful_of (i + 1) (drop (i + 1) chunks))) is

  pub refuses : meant (get_or chunks i []) ≡ None → unlawful_of 0 chunks ≡ Some (Unlawful i)
  refuses none = turn None none

  pub passes : (bundle : Bundle) → meant (get_or chunks i []) ≡ Some bundle → unlawful_of (i + 1) (drop (i + 1) chunks) ≡ unlawful_of 0 chunks
  passes bundle some = sym (turn (Some bundle) some)

  pub gathers : (bundle : Bundle) → meant (get_or chunks i []) ≡ Some bundle → filter_map meant (take (i + 1) chunks) ≡ filter_map meant (take i chunks) ++ bundle ∷ []
  gathers bundle some = ap (filter_map meant) (take_more chunks i [] here) ∙ filter_map-append meant (take i chunks) (get_or chunks i [] ∷ []) ∙ ap (λ o. filter_map meant (take i chunks) ++ cons_option o []) some
