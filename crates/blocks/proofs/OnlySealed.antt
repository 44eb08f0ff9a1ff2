-- Every block that opens is the sealing of what it carries.
use Rattle.std.proofs.Common.{◌≡◌, ℕ, true, eqb, List, [], ◌∷◌, ◌++◌, length, take, drop, replicate, refl, ap, ◌∙◌, arith, length-drop, take-append-drop, length-take}
use Rattle.std.proofs.lemmas.Slice.Eq.{text_from_reads}
use Rattle.std.proofs.lemmas.List.{drop-drop, get_or-take, get_or-drop, take_at}
use Rattle.std.proofs.lemmas.Bool.{eqb-true, and_parts}
use Rattle.blocks.specs.Check.{check_word}
use Rattle.blocks.specs.Layout.{two_bytes, four_bytes, covered, sealed, all_zero, payload_of}
use Rattle.blocks.proofs.Asked.{Sound}
use Rattle.blocks.proofs.Bytes.{Bytes}

zero_list : (xs : List ℕ) → all_zero xs ≡ true → xs ≡ replicate (length xs) 0
zero_list [] e = refl
zero_list (x ∷ xs) e =
    let p = and_parts (eqb x 0) (all_zero xs) e in
    let z = eqb-true x 0 p.0 in
    rw z (ap (λ l. 0 ∷ l) (zero_list xs p.1))

-- the header's start, its zeros, the payload and the check word
four_parts : (xs : List ℕ) → xs ≡ take 4 xs ++ (take 8 (drop 4 xs) ++ (payload_of xs ++ drop 508 xs))
four_parts xs =
    let a = take-append-drop 4 xs in
    let b = take-append-drop 8 (drop 4 xs) in
    let d = take-append-drop 496 (drop 12 xs) in
    let e = drop-drop 8 4 xs in
    let f = drop-drop 496 12 xs in
    cc

module _ (kind place : ℕ) (xs : List ℕ) (bytes : Bytes xs) (h : Sound kind place xs) where
  first4 : take 4 xs ≡ kind ∷ 1 ∷ two_bytes place
  first4 =
      let l : length (take 4 xs) ≡ 4 = simp length-take (omega (arith, h.long)) in
      let b2 = bytes 2 0 (omega (arith, h.long)) in
      let b3 = bytes 3 0 (omega (arith, h.long)) in
      text_from_reads (take 4 xs) (kind ∷ 1 ∷ two_bytes place) l (
        get_or-take 4 xs 0 0 (omega arith) ∙ h.kind_is,
        (
          get_or-take 4 xs 1 0 (omega arith) ∙ h.edition_is,
          (
            get_or-take 4 xs 2 0 (omega arith) ∙ omega (arith, h.number_is),
            (
              get_or-take 4 xs 3 0 (omega arith) ∙ omega (arith, h.number_is),
              tt,
            ),
          ),
        ),
      )

  next8 : take 8 (drop 4 xs) ≡ replicate 8 0
  next8 =
      let l : length (take 8 (drop 4 xs)) ≡ 8 = simp (length-take, length-drop) (omega (arith, h.long)) in
      zero_list (take 8 (drop 4 xs)) h.zeros_are ∙ ap (λ n. replicate n 0) l

  last4 : drop 508 xs ≡ four_bytes (check_word (take 508 xs))
  last4 =
      let l : length (drop 508 xs) ≡ 4 = simp length-drop (omega (arith, h.long)) in
      let b0 = bytes 508 0 (omega (arith, h.long)) in
      let b1 = bytes 509 0 (omega (arith, h.long)) in
      let b2 = bytes 510 0 (omega (arith, h.long)) in
      let b3 = bytes 511 0 (omega (arith, h.long)) in
      text_from_reads (drop 508 xs) (four_bytes (check_word (take 508 xs))) l (
        get_or-drop 508 xs 0 0 ∙ omega (arith, h.check_is),
        (
          get_or-drop 508 xs 1 0 ∙ omega (arith, h.check_is),
          (
            get_or-drop 508 xs 2 0 ∙ omega (arith, h.check_is),
            (
              get_or-drop 508 xs 3 0 ∙ omega (arith, h.check_is),
              tt,
            ),
          ),
        ),
      )

  whole : xs ≡ covered kind place (payload_of xs) ++ drop 508 xs
  whole = let a = four_parts xs in rw (first4, next8) at a

  body : take 508 xs ≡ covered kind place (payload_of xs)
  body =
      let l : length (payload_of xs) ≡ 496 = simp (length-take, length-drop) (omega (arith, h.long)) in
      let k : length (covered kind place (payload_of xs)) ≡ 508 = omega (arith, l) in
      ap (take 508) whole ∙ take_at (covered kind place (payload_of xs)) (drop 508 xs) 508 k

  pub only-sealed : xs ≡ sealed kind place (payload_of xs)
  unfolding sealed
  only-sealed = whole ∙ ap (λ l. covered kind place (payload_of xs) ++ l) (last4 ∙ ap (λ l. four_bytes (check_word l)) body)
