-- Every image that is accepted is the image of what it carries.
use Rattle.std.proofs.Common.{◌≡◌, ℕ, zero, suc, ◌+◌, ◌-◌, ◌*◌, ◌%◌, ◌≤◌, eqb, leb, List, [], ◌∷◌, ◌++◌, length, take, drop, replicate, Some, None, Option, sym, refl, ap, ◌∙◌, arith, length-append, length-drop, take-append-drop, length-take}
use Rattle.std.proofs.lemmas.List.{append-nil, take_at, drop_at, nil_from_length}
use Rattle.std.proofs.lemmas.Bool.{eqb-true, leb-true}
use Rattle.questions.specs.Questions.{first_no, or_else}
use Rattle.questions.proofs.Answered.{passed}
use Rattle.blocks.specs.Asking.{opening}
use Rattle.blocks.specs.Kinds.{kind_byte, most_blocks}
use Rattle.blocks.specs.Layout.{sealed, payload_of}
use Rattle.blocks.specs.declared.kinds.Kind.{Kind}
use Rattle.blocks.specs.declared.refusals.BlockRefusal.{BlockRefusal}
use Rattle.blocks.proofs.Asked.{sound}
use Rattle.std.proofs.lemmas.List.Elements.{All-take, All-drop}
use Rattle.blocks.proofs.Bytes.{Byte, Bytes}
use Rattle.blocks.proofs.OnlySealed.{only-sealed}
use Rattle.images.specs.declared.refusals.ImageRefusal.TheVariants.{Length}
use Rattle.images.specs.Images.{in_block, blocks_in, sizes, blocks_asked, checking, payloads_of, blocks_for, filled_to, sealed_from, sealed_all}

or_none : {R : Type 0} (a b : Option R) → or_else a b ≡ None → (a ≡ None) × (b ≡ None)
or_none None b e = (refl, e)
or_none (Some r) b e = cc

in_block_none : (place : ℕ) (o : Option BlockRefusal) → in_block place o ≡ None → o ≡ None
in_block_none place None e = refl
in_block_none place (Some r) e = cc

-- a payload that is long enough is not filled up
pub filled_whole : (payload : List ℕ) → length payload ≡ 496 → filled_to 496 payload ≡ payload
filled_whole payload long = ap (λ n. payload ++ replicate (496 - n) 0) long ∙ append-nil payload

pub length_payload : (block : List ℕ) → length block ≡ 512 → length (payload_of block) ≡ 496
length_payload block long = simp (length-take, length-drop) (omega arith)

pub length-payloads : (n : ℕ) (image : List ℕ) → length image ≡ n * 512 → length (payloads_of n image) ≡ n * 496
length-payloads zero image long = refl
length-payloads (suc n) image long =
    let first : length (take 512 image) ≡ 512 = simp length-take (omega arith) in
    let rest : length (drop 512 image) ≡ n * 512 = simp length-drop (omega arith) in
    let a = length_payload (take 512 image) first in
    let b = length-payloads n (drop 512 image) rest in
    length-append (payload_of (take 512 image)) (payloads_of n (drop 512 image)) ∙ omega arith

pub only_sealed_from : (kind n place : ℕ) (image : List ℕ) → Bytes image → length image ≡ n * 512 → blocks_asked kind place n image ≡ None → image ≡ sealed_from kind place n (payloads_of n image)
only_sealed_from kind zero place image bytes long none = nil_from_length image (omega arith)
only_sealed_from kind (suc n) place image bytes long none =
    let block = take 512 image in
    let others = drop 512 image in
    let payload = payload_of block in
    let later = payloads_of n others in
    let p = or_none (in_block place (opening kind place block)) (blocks_asked kind (place + 1) n others) none in
    let first : length block ≡ 512 = simp length-take (omega arith) in
    let rest : length others ≡ n * 512 = simp length-drop (omega arith) in
    let whole = length_payload block first in
    let here = only-sealed kind place block (All-take Byte 512 image bytes) (sound kind place block (in_block_none place (opening kind place block) p.0)) in
    let there = only_sealed_from kind n (place + 1) others (All-drop Byte 512 image bytes) rest p.1 in
    let front : filled_to 496 (take 496 (payload ++ later)) ≡ payload = ap (filled_to 496) (take_at payload later 496 whole) ∙ filled_whole payload whole in
    let back : drop 496 (payload ++ later) ≡ later = drop_at payload later 496 whole in
    sym (take-append-drop 512 image) ∙ ap (λ b. b ++ others) here ∙ ap (λ l. sealed kind place payload ++ l) there
    ∙ sym (ap (λ f. sealed kind place f ++ sealed_from kind (place + 1) n (drop 496 (payload ++ later))) front ∙ ap (λ l. sealed kind place payload ++ sealed_from kind (place + 1) n l) back)

-- an accepted image is whole blocks, and each one opens
pub accepted_image : (kind : Kind) (image : List ℕ) → checking kind image ≡ None → (length image ≡ blocks_in image * 512) × (blocks_asked (kind_byte kind) 0 (blocks_in image) image ≡ None)
accepted_image kind image none =
    let p = or_none (first_no ((eqb (length image % 512) 0, Length) ∷ sizes kind (blocks_in image))) (blocks_asked (kind_byte kind) 0 (blocks_in image) image) none in
    let q = passed (eqb (length image % 512) 0) (first_no (sizes kind (blocks_in image))) Length p.0 in
    let whole = eqb-true (length image % 512) 0 q.0 in
    (omega arith, p.1)

-- and not more blocks than an image of its kind may have
pub accepted-size : (kind : Kind) (image : List ℕ) → checking kind image ≡ None → blocks_in image ≤ most_blocks kind
accepted-size kind image none =
    let n = blocks_in image in
    let p = or_none (first_no ((eqb (length image % 512) 0, Length) ∷ sizes kind n)) (blocks_asked (kind_byte kind) 0 n image) none in
    let q = passed (eqb (length image % 512) 0) (first_no (sizes kind n)) Length p.0 in
    let r = passed (leb 1 n) (first_no ((leb n (most_blocks kind), Length) ∷ [])) Length q.1 in
    leb-true n (most_blocks kind) (passed (leb n (most_blocks kind)) None Length r.1).0

pub only-sealed-all : (kind : Kind) (image : List ℕ) → Bytes image → checking kind image ≡ None → image ≡ sealed_all kind (payloads_of (blocks_in image) image)
only-sealed-all kind image bytes none =
    let h = accepted_image kind image none in
    let l = length-payloads (blocks_in image) image h.0 in
    let count : blocks_in image ≡ blocks_for (payloads_of (blocks_in image) image) = omega arith in
    only_sealed_from (kind_byte kind) (blocks_in image) 0 image bytes h.0 h.1 ∙ ap (λ n. sealed_from (kind_byte kind) 0 n (payloads_of (blocks_in image) image)) count
