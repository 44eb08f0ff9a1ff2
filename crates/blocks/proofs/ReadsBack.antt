-- A sealed block opens, and gives its payload back.
use Rattle.std.proofs.Common.{◌≡◌, ℕ, suc, ◌+◌, ◌/◌, ◌%◌, ◌^◌, ◌<◌, List, [], ◌∷◌, ◌++◌, length, get_or, take, replicate, None, Ok, fold, sym, refl, ap, ◌∙◌, arith, length-append}
use Rattle.std.proofs.lemmas.Nat.{xor_lt}
use Rattle.std.proofs.lemmas.List.{take_at, get_or-append_right}
use Rattle.questions.specs.Questions.{answered}
use Rattle.blocks.specs.Asking.{opening, opened}
use Rattle.blocks.specs.Check.{check_word, mixed, rotated}
use Rattle.blocks.specs.Layout.{two_bytes, four_bytes, covered, sealed, four_at, payload_of}
use Rattle.blocks.proofs.Asked.{Sound, opens}
use Rattle.std.proofs.lemmas.List.Elements.{All-append, All-cons, All-replicate}
use Rattle.std.proofs.lemmas.Nat.{from_be_bytes-to_be_bytes_4}
use Rattle.blocks.proofs.Bytes.{Byte, Bytes}

mixed_fits : (w b : ℕ) → b < 256 → w < 2 ^ 32 → mixed w b < 2 ^ 32
mixed_fits w b hb hw = xor_lt 32 (rotated w) b (omega arith) (omega arith)

pub check_fits : (xs : List ℕ) (w : ℕ) → w < 2 ^ 32 → Bytes xs → fold mixed w xs < 2 ^ 32
check_fits [] w hw hb = hw
check_fits (x ∷ xs) w hw hb = check_fits xs (mixed w x) (mixed_fits w x (hb 0 0 (omega arith)) hw) (λ k d here. hb (suc k) d (omega arith))

covered-bytes : (kind number : ℕ) (p : List ℕ) → kind < 256 → Bytes p → Bytes (covered kind number p)
covered-bytes kind number p hk hp =
    let z = replicate 8 0 ++ p in
    let zeros = All-append Byte (replicate 8 0) p (All-replicate Byte 8 0 (omega arith)) hp in
    let low = All-cons Byte (number % 256) z (omega arith) zeros in
    let high = All-cons Byte (number / 256 % 256) (number % 256 ∷ z) (omega arith) low in
    All-cons Byte kind (1 ∷ two_bytes number ++ z) hk (All-cons Byte 1 (two_bytes number ++ z) (omega arith) high)

word_after : (b : List ℕ) (w : ℕ) → length b ≡ 508 → w < 2 ^ 32 → four_at (b ++ four_bytes w) 508 ≡ w
word_after b w lb hw =
    let e0 : get_or (b ++ four_bytes w) 508 0 ≡ w / 16777216 % 256 = get_or-append_right b (four_bytes w) 508 508 0 lb (omega arith) in
    let e1 : get_or (b ++ four_bytes w) 509 0 ≡ w / 65536 % 256 = get_or-append_right b (four_bytes w) 508 509 0 lb (omega arith) in
    let e2 : get_or (b ++ four_bytes w) 510 0 ≡ w / 256 % 256 = get_or-append_right b (four_bytes w) 508 510 0 lb (omega arith) in
    let e3 : get_or (b ++ four_bytes w) 511 0 ≡ w % 256 = get_or-append_right b (four_bytes w) 508 511 0 lb (omega arith) in
    omega (arith, from_be_bytes-to_be_bytes_4 w hw)

module _ (kind number : ℕ) (p : List ℕ) (lp : length p ≡ 496) where
  long-covered : length (covered kind number p) ≡ 508
  long-covered = omega (arith, lp)

  body_back : take 508 (sealed kind number p) ≡ covered kind number p
  unfolding sealed
  body_back = take_at (covered kind number p) (four_bytes (check_word (covered kind number p))) 508 long-covered

  pub long-sealed : length (sealed kind number p) ≡ 512
  unfolding sealed
  long-sealed = length-append (covered kind number p) (four_bytes (check_word (covered kind number p))) ∙ ap (λ n. n + 4) long-covered

  pub payload_back : payload_of (sealed kind number p) ≡ p
  unfolding sealed
  payload_back = take_at p (four_bytes (check_word (covered kind number p))) 496 lp

module _ (kind number : ℕ) (p : List ℕ) (hk : kind < 256) (hn : number < 65536) (lp : length p ≡ 496) (bp : Bytes p) where
  word_back : four_at (sealed kind number p) 508 ≡ check_word (take 508 (sealed kind number p))
  unfolding sealed
  word_back =
      let fits = check_fits (covered kind number p) 0 (omega arith) (covered-bytes kind number p hk bp) in
      word_after (covered kind number p) (check_word (covered kind number p)) (long-covered kind number p lp) fits ∙ sym (ap check_word (body_back kind number p lp))

  sound-sealed : Sound kind number (sealed kind number p)
  unfolding sealed
  sound-sealed = record { long = long-sealed kind number p lp; kind_is = refl; edition_is = refl; number_is = omega arith; zeros_are = refl; check_is = word_back }

  pub opens-sealed : opening kind number (sealed kind number p) ≡ None
  opens-sealed = opens kind number (sealed kind number p) sound-sealed

  pub reads_back : opened kind number (sealed kind number p) ≡ Ok p
  reads_back = ap (λ o. answered o (payload_of (sealed kind number p))) opens-sealed ∙ ap Ok (payload_back kind number p lp)
