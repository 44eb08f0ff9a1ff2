-- The blocks of an image as a list: what is asked of them, one after the other.
use Rattle.std.proofs.Common.{◌≡◌, ℕ, zero, suc, ◌+◌, ◌<◌, List, [], ◌∷◌, length, get_or, drop, Some, None, Option, sym, ap, ◌∙◌, refl}
use Rattle.std.proofs.lemmas.List.{at_drop_more}
use Rattle.std.specs.Simd.{first_chunks}
use Rattle.questions.specs.Questions.{or_else}
use Rattle.blocks.specs.Asking.{opening}
use Rattle.images.specs.declared.refusals.ImageRefusal.{ImageRefusal}
use Rattle.images.specs.Images.{in_block, blocks_asked}

-- the first no to these blocks, from a place on
abbrev pub asked_of : ℕ → ℕ → List (List ℕ) → Option ImageRefusal
asked_of kind place [] = None
asked_of kind place (block ∷ blocks) = or_else (in_block place (opening kind place block)) (asked_of kind (place + 1) blocks)

pub asked_is : (kind place n : ℕ) (image : List ℕ) → blocks_asked kind place n image ≡ asked_of kind place (first_chunks 512 n image)
asked_is kind place zero image = refl
asked_is kind place (suc n) image = ap (or_else _) (asked_is kind (place + 1) n (drop 512 image))

module _ (kind i : ℕ) (blocks : List (List ℕ)) (here : i < length blocks) (inv : asked_of kind i (drop i blocks) ≡ asked_of kind 0 blocks) where
  turn : (o : Option ImageRefusal) → in_block i (opening kind i (get_or blocks i [])) ≡ o → asked_of kind 0 blocks ≡ or_else o (asked_of kind (i + 1) (drop (i + 1) blocks))
  turn o is = sym inv ∙ at_drop_more (asked_of kind i) blocks i [] here ∙ ap (λ p. or_else p (asked_of kind (i + 1) (drop (i + 1) blocks))) is

  -- a block that opens leaves the answer to the later ones
  pub passes : in_block i (opening kind i (get_or blocks i [])) ≡ None → asked_of kind (i + 1) (drop (i + 1) blocks) ≡ asked_of kind 0 blocks
  passes none = sym (turn None none)

  -- one that does not open decides
  pub stops : (e : ImageRefusal) → in_block i (opening kind i (get_or blocks i [])) ≡ Some e → asked_of kind 0 blocks ≡ Some e
  stops e some = turn (Some e) some
