-- What `rotate_left` gives is the arithmetic rotation.
use Rattle.std.proofs.Common.{◌≡◌, ℕ, ◌+◌, ◌*◌, ◌/◌, ◌%◌, ◌^◌, ◌<◌, sym, ap, ◌∙◌, arith}
use lib.Bits.{bit_or}
use Rattle.std.proofs.lemmas.Nat.{or_shifted}
use Rattle.blocks.specs.Check.{rotated}

pub rotated_is : (w : ℕ) → w < 2 ^ 32 → bit_or ((w * 32) % 2 ^ 32) (w / 2 ^ 27) ≡ rotated w
rotated_is w h =
    let low : w / 2 ^ 27 < 2 ^ 5 = omega arith in
    let high : (w * 32) % 2 ^ 32 ≡ (w % 2 ^ 27) * 2 ^ 5 = omega arith in
    ap (λ n. bit_or n (w / 2 ^ 27)) high ∙ or_shifted (w % 2 ^ 27) 5 (w / 2 ^ 27) low ∙ ap (λ n. n + w / 2 ^ 27) (sym high)
