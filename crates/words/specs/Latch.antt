-- Numbers of 64 bits: what goes into a multiplier's latch, and what is fetched from it.
use Rattle.std.specs.Prelude.{◌≡◌, ℕ, ◌+◌, ◌-◌, ◌*◌, ◌/◌, ◌%◌, ◌^◌, not, ◌*ℤ◌, nat_le}
use Rattle.std.proofs.Common.{of_z}
use Rattle.std.specs.Int.{w64}
use Rattle.words.specs.Words.{bit, signed}
use Rattle.words.specs.declared.fetches.Accumulated.{Accumulated}
use Rattle.words.specs.declared.pair.Pair.{Pair}

-- the number of 64 bits that two words are
abbrev pub number : Pair → ℕ
number p = p.high * 2 ^ 32 + p.low

-- the two words of a number
abbrev pub pair_of : ℕ → Pair
pair_of d = record { low = d % 2 ^ 32; high = d / 2 ^ 32 }

-- the signed product, in 64 bits
abbrev pub mul : ℕ → ℕ → ℕ
mul n1 n2 = of_z w64 (signed n1 *ℤ signed n2)

-- the unsigned product
abbrev pub umul : ℕ → ℕ → ℕ
umul u1 u2 = u1 * u2

-- the number that two words are, the high one on top
abbrev pub pass : ℕ → ℕ → ℕ
pass dl dh = number (record { low = dl; high = dh })

-- the latch as it is
abbrev pub fetch : ℕ → ℕ
fetch latch = latch

-- its negative
abbrev pub fetch_negated : ℕ → ℕ
fetch_negated latch = (2 ^ 64 - latch) % 2 ^ 64

-- the number before plus the latch: a carry out of 64 bits is counted
abbrev pub fetch_added : ℕ → Accumulated → Accumulated
fetch_added latch b = record {
  value = (b.value + latch) % 2 ^ 64;
  carry = nat_le (2 ^ 64) (b.value + latch);
  count = (b.count + bit (nat_le (2 ^ 64) (b.value + latch))) % 2 ^ 32;
}

-- the number before minus the latch: the carry is set if nothing was borrowed, else the count falls
abbrev pub fetch_subtracted : ℕ → Accumulated → Accumulated
fetch_subtracted latch b = record {
  value = (b.value + (2 ^ 64 - latch)) % 2 ^ 64;
  carry = nat_le latch b.value;
  count = (b.count + (2 ^ 32 - bit (not (nat_le latch b.value)))) % 2 ^ 32;
}

-- the carry count and the number below it, as one number of 96 bits
abbrev pub whole : Accumulated → ℕ
whole r = r.count * 2 ^ 64 + r.value

-- whatever was added before, the count keeps the sum exact, modulo 2 ^ 96
abbrev pub SumKept : ℕ → Accumulated → Accumulated → Type 0
SumKept latch b r = whole r ≡ (whole b + latch) % 2 ^ 96

-- to add what was subtracted gives back the number before
abbrev pub DifferenceKept : ℕ → Accumulated → Accumulated → Type 0
DifferenceKept latch b r = (whole r + latch) % 2 ^ 96 ≡ whole b
