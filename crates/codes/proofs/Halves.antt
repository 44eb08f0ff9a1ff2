-- The two halves of a byte come apart again.
use Rattle.std.proofs.Common.{◌≡◌, ℕ, ◌+◌, ◌*◌, ◌/◌, ◌%◌, ◌<◌, arith}

pub low_half : (low high : ℕ) → low < 16 → (low + 16 * high) % 16 ≡ low
low_half low high small = omega arith

pub high_half : (low high : ℕ) → low < 16 → (low + 16 * high) / 16 ≡ high
high_half low high small = omega arith
