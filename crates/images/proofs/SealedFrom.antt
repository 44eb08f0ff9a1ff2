-- A turn of the loop that seals payloads: what is there, and then what is left, gives the whole.
use Rattle.std.proofs.Common.{◌≡◌, ℕ, suc, ◌+◌, ◌<◌, ◌≤◌, min, List, [], ◌++◌, length, take, drop, sym, ap, ◌∙◌, ⊎_elim, append_assoc, arith, length-append}
use Rattle.std.proofs.lemmas.List.{append-nil, take_at, take_all, drop_at, drop_all, nil_from_length}
use Rattle.std.proofs.lemmas.Bool.{cases_lt}
use Rattle.blocks.specs.Layout.{sealed}
use Rattle.images.specs.Images.{blocks_for, filled_to, sealed_from}

-- a chunk of at most 496 is the first payload of what is left, and the rest comes after it
chunk_off : (part later : List ℕ) → length part ≡ min 496 (length (part ++ later)) → (take 496 (part ++ later) ≡ part) × (drop 496 (part ++ later) ≡ later)
chunk_off part later fits =
    let both = length-append part later in
    ⊎_elim
    (λ (short : length part < 496).
    let none : later ≡ [] = nil_from_length later (omega arith) in
    rw (none, append-nil part) (take_all 496 part (omega arith), drop_all 496 part (omega arith)))
    (λ (full : 496 ≤ length part). let long : length part ≡ 496 = omega arith in (take_at part later 496 long, drop_at part later 496 long))
    (cases_lt (length part) 496)

pub sealed_more : (kind place : ℕ) (rest part later whole items block : List ℕ) → rest ≡ part ++ later → length part ≡ min 496 (length rest) → 0 < length rest
    → items ++ sealed_from kind place (blocks_for rest) rest ≡ whole → block ≡ sealed kind place (filled_to 496 part)
    → ((items ++ block) ++ sealed_from kind (place + 1) (blocks_for later) later ≡ whole) × (blocks_for rest ≡ blocks_for later + 1)
sealed_more kind place rest part later whole items block cut fits some inv is =
    let parts = chunk_off part later (rw cut at fits) in
    let both : length rest ≡ length part + length later = ap length cut ∙ length-append part later in
    let count : blocks_for rest ≡ suc (blocks_for later) = omega arith in
    let first : take 496 rest ≡ part = rw cut parts.0 in
    let others : drop 496 rest ≡ later = rw cut parts.1 in (
      append_assoc items block (sealed_from kind (place + 1) (blocks_for later) later)
          ∙ ap (λ b. items ++ (b ++ sealed_from kind (place + 1) (blocks_for later) later)) is
          ∙ sym (ap (λ m. items ++ sealed_from kind place m rest) count ∙ ap (λ p. items ++ (sealed kind place (filled_to 496 p) ++ sealed_from kind (place + 1) (blocks_for later) (drop 496 rest))) first
          ∙ ap (λ l. items ++ (sealed kind place (filled_to 496 part) ++ sealed_from kind (place + 1) (blocks_for later) l)) others)
          ∙ inv,
      omega arith,
    )
