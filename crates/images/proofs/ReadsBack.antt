-- An image that was sealed is accepted, and gives the bytes and the filling back.
use Rattle.std.proofs.Common.{◌≡◌, ℕ, zero, suc, ◌+◌, ◌-◌, ◌*◌, ◌%◌, ◌<◌, ◌≤◌, leb, List, [], ◌∷◌, ◌++◌, length, take, drop, replicate, None, Ok, sym, refl, ap, ◌∙◌, ⊎_elim, append_assoc, arith, length-append, length-drop, take-append-drop, length-take}
use lib.ListN.{length-replicate}
use Rattle.std.proofs.lemmas.List.{append-nil, take_at, take_all, drop_at, drop_all, replicate-append-replicate}
use Rattle.std.proofs.lemmas.Bool.{cases_lt, eq-eqb, leb-true}
use Rattle.questions.specs.Questions.{first_no, answered, or_else}
use Rattle.questions.proofs.Answered.{passed}
use Rattle.blocks.specs.Asking.{opening}
use Rattle.blocks.specs.Kinds.{kind_byte, most_blocks}
use Rattle.blocks.specs.Layout.{sealed, payload_of}
use Rattle.blocks.specs.declared.kinds.Kind.{Kind}
use Rattle.blocks.specs.declared.kinds.Kind.TheVariants.{Code, Table}
use Rattle.std.proofs.lemmas.List.Elements.{All-append, All-replicate, All-take, All-drop}
use Rattle.blocks.proofs.Bytes.{Byte, Bytes}
use Rattle.blocks.proofs.ReadsBack.{long-sealed, payload_back, opens-sealed}
use Rattle.images.specs.declared.refusals.ImageRefusal.TheVariants.{Length}
use Rattle.images.specs.Images.{in_block, blocks_in, sizes, blocks_asked, checking, payloads_of, read_back, blocks_for, filled_to, sealed_from, sealed_all}

-- the payload that is sealed first
abbrev first : List ℕ → List ℕ
first bytes = filled_to 496 (take 496 bytes)

long-first : (bytes : List ℕ) → length (first bytes) ≡ 496
long-first bytes = simp (length-append, length-replicate, length-take) (omega arith)

bytes-first : (bytes : List ℕ) → Bytes bytes → Bytes (first bytes)
bytes-first bytes b =
    let n = 496 - length (take 496 bytes) in
    All-append Byte (take 496 bytes) (replicate n 0) (All-take Byte 496 bytes b) (All-replicate Byte n 0 (omega arith))

module _ (kind : ℕ) where
  head_block : (place n : ℕ) (bytes : List ℕ) → take 512 (sealed_from kind place (suc n) bytes) ≡ sealed kind place (first bytes)
  head_block place n bytes = take_at (sealed kind place (first bytes)) (sealed_from kind (place + 1) n (drop 496 bytes)) 512 (long-sealed kind place (first bytes) (long-first bytes))

  tail_blocks : (place n : ℕ) (bytes : List ℕ) → drop 512 (sealed_from kind place (suc n) bytes) ≡ sealed_from kind (place + 1) n (drop 496 bytes)
  tail_blocks place n bytes = drop_at (sealed kind place (first bytes)) (sealed_from kind (place + 1) n (drop 496 bytes)) 512 (long-sealed kind place (first bytes) (long-first bytes))

  long_from : (n place : ℕ) (bytes : List ℕ) → length (sealed_from kind place n bytes) ≡ n * 512
  long_from zero place bytes = refl
  long_from (suc n) place bytes =
      let a = long-sealed kind place (first bytes) (long-first bytes) in
      let b = long_from n (place + 1) (drop 496 bytes) in
      length-append (sealed kind place (first bytes)) (sealed_from kind (place + 1) n (drop 496 bytes)) ∙ omega arith

  asked_from : kind < 256 → (n place : ℕ) (bytes : List ℕ) → place + n ≤ 65536 → Bytes bytes → blocks_asked kind place n (sealed_from kind place n bytes) ≡ None
  asked_from small zero place bytes fits b = refl
  asked_from small (suc n) place bytes fits b =
      let opens = opens-sealed kind place (first bytes) small (omega arith) (long-first bytes) (bytes-first bytes b) in
      ap (λ o. or_else (in_block place (opening kind place o)) (blocks_asked kind (place + 1) n (drop 512 (sealed_from kind place (suc n) bytes)))) (head_block place n bytes)
      ∙ ap (λ o. or_else (in_block place o) (blocks_asked kind (place + 1) n (drop 512 (sealed_from kind place (suc n) bytes)))) opens
      ∙ ap (blocks_asked kind (place + 1) n) (tail_blocks place n bytes)
      ∙ asked_from small n (place + 1) (drop 496 bytes) (omega arith) (All-drop Byte 496 bytes b)

  -- a filled payload, and then what is left filled up, is all of it filled up
  filled_more : (n : ℕ) (bytes : List ℕ) → length bytes ≤ suc n * 496 → first bytes ++ filled_to (n * 496) (drop 496 bytes) ≡ filled_to (suc n * 496) bytes
  filled_more n bytes short =
      let front = take 496 bytes in
      let back = drop 496 bytes in
      let lf = length-take 496 bytes in
      let lb = length-drop 496 bytes in
      ⊎_elim
      (λ (last : length bytes < 496).
      let all : front ≡ bytes = take_all 496 bytes (omega arith) in
      let none : back ≡ [] = drop_all 496 bytes (omega arith) in
      let z : n * 496 - 0 ≡ n * 496 = omega arith in
      let m : (496 - length bytes) + n * 496 ≡ suc n * 496 - length bytes = omega arith in
      ap (λ f. filled_to 496 f ++ filled_to (n * 496) back) all ∙ ap (λ l. filled_to 496 bytes ++ filled_to (n * 496) l) none ∙ ap (λ k. filled_to 496 bytes ++ replicate k 0) z
      ∙ append_assoc bytes (replicate (496 - length bytes) 0) (replicate (n * 496) 0)
      ∙ ap (λ z. bytes ++ z) (replicate-append-replicate (496 - length bytes) (n * 496) 0 ∙ ap (λ k. replicate k 0) m))
      (λ (more : 496 ≤ length bytes).
      let whole : 496 - length front ≡ 0 = omega arith in
      let m : n * 496 - length back ≡ suc n * 496 - length bytes = omega arith in
      ap (λ k. (front ++ replicate k 0) ++ filled_to (n * 496) back) whole ∙ ap (λ f. f ++ filled_to (n * 496) back) (append-nil front)
      ∙ sym (append_assoc front back (replicate (n * 496 - length back) 0))
      ∙ ap (λ l. l ++ replicate (n * 496 - length back) 0) (take-append-drop 496 bytes) ∙ ap (λ k. bytes ++ replicate k 0) m)
      (cases_lt (length bytes) 496)

  payloads_from : (n place : ℕ) (bytes : List ℕ) → length bytes ≤ n * 496 → payloads_of n (sealed_from kind place n bytes) ≡ filled_to (n * 496) bytes
  payloads_from zero place [] short = refl
  payloads_from zero place (x ∷ bytes) short = absurd (omega arith)
  payloads_from (suc n) place bytes short =
      let rest : length (drop 496 bytes) ≤ n * 496 = simp length-drop (omega arith) in
      ap (λ b. payload_of b ++ payloads_of n (drop 512 (sealed_from kind place (suc n) bytes))) (head_block place n bytes)
      ∙ ap (λ p. p ++ payloads_of n (drop 512 (sealed_from kind place (suc n) bytes))) (payload_back kind place (first bytes) (long-first bytes))
      ∙ ap (λ l. first bytes ++ payloads_of n l) (tail_blocks place n bytes)
      ∙ ap (λ l. first bytes ++ l) (payloads_from n (place + 1) (drop 496 bytes) rest) ∙ filled_more n bytes short

small_kind : (kind : Kind) → kind_byte kind < 256
small_kind Code = omega arith
small_kind Table = omega arith

most_fits : (kind : Kind) → most_blocks kind ≤ 8192
most_fits Code = omega arith
most_fits Table = omega arith

pub reads_back_all : (kind : Kind) (bytes : List ℕ) → Bytes bytes → first_no (sizes kind (blocks_for bytes)) ≡ None → read_back kind (sealed_all kind bytes) ≡ Ok (filled_to (496 * blocks_for bytes) bytes)
reads_back_all kind bytes b sizes-pass =
    let n = blocks_for bytes in
    let two = passed (leb 1 n) (first_no ((leb n (most_blocks kind), Length) ∷ [])) Length sizes-pass in
    let three = passed (leb n (most_blocks kind)) None Length two.1 in
    let most = leb-true n (most_blocks kind) three.0 in
    let few = most_fits kind in
    let image = sealed_all kind bytes in
    let long = long_from (kind_byte kind) n 0 bytes in
    let count : blocks_in image ≡ n = omega arith in
    let whole = eq-eqb (length image % 512) 0 (omega arith) in
    let accepted : checking kind image ≡ None =
    ap (λ w. or_else (first_no ((w, Length) ∷ sizes kind (blocks_in image))) (blocks_asked (kind_byte kind) 0 (blocks_in image) image)) whole
    ∙ ap (λ m. or_else (first_no (sizes kind m)) (blocks_asked (kind_byte kind) 0 m image)) count
    ∙ ap (λ o. or_else o (blocks_asked (kind_byte kind) 0 n image)) sizes-pass
    ∙ asked_from (kind_byte kind) (small_kind kind) n 0 bytes (omega arith) b in
    let length-fits : length bytes ≤ n * 496 = omega arith in
    let turned : n * 496 ≡ 496 * n = omega arith in
    ap (λ o. answered o (payloads_of (blocks_in image) image)) accepted
    ∙ ap (λ m. Ok (payloads_of m image)) count
    ∙ ap Ok (payloads_from (kind_byte kind) n 0 bytes length-fits ∙ ap (λ m. filled_to m bytes) turned)
