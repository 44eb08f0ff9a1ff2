-- Sums and differences. n1 is the word below the top, n2 the top; u1 and u2 are the same words, unsigned.
use Rattle.std.specs.Prelude.{◌≡◌, ℕ, ◌+◌, ◌-◌, ◌*◌, ◌%◌, ◌^◌, Bool, false, not, ℤ, pos, ◌+ℤ◌, ◌-ℤ◌, nat_le}
use Rattle.words.specs.Words.{bit, outside, signed}
use Rattle.words.specs.declared.flagged.Flagged.{Flagged}

-- n1 + n2 + c; the carry is set if u1 + u2 + c does not fit the word
abbrev pub addc : ℕ → ℕ → Bool → Flagged
addc u1 u2 c = record {
  word = (u1 + u2 + bit c) % 2 ^ 32;
  flags = record {
    carry = nat_le (2 ^ 32) (u1 + u2 + bit c);
    overflow = outside (signed u1 +ℤ signed u2 +ℤ pos (bit c));
  };
}

-- n1 − n2 + c; the carry is set if u1 − u2 + c is not below 0
abbrev pub subc : ℕ → ℕ → Bool → Flagged
subc u1 u2 c = record {
  word = (u1 + (2 ^ 32 - u2) + bit c) % 2 ^ 32;
  flags = record {
    carry = nat_le u2 (u1 + bit c);
    overflow = outside (signed u1 -ℤ signed u2 +ℤ pos (bit c));
  };
}

-- n2 − n1 + c
abbrev pub subcr : ℕ → ℕ → Bool → Flagged
subcr u1 u2 c = subc u2 u1 c

-- n1 + n2
abbrev pub add : ℕ → ℕ → Flagged
add u1 u2 = addc u1 u2 false

-- n1 − n2
abbrev pub sub : ℕ → ℕ → Flagged
sub u1 u2 = subc u1 u2 false

-- n2 − n1
abbrev pub subr : ℕ → ℕ → Flagged
subr u1 u2 = sub u2 u1

-- the carry and the word of an addition together are the exact sum
abbrev pub CarryExact : ℕ → Flagged → Type 0
CarryExact sum r = r.word + 2 ^ 32 * bit r.flags.carry ≡ sum

-- the word of u1 − u2 is exact if the carry is set, and else 2 ^ 32 was borrowed
abbrev pub BorrowExact : ℕ → ℕ → Flagged → Type 0
BorrowExact u1 u2 r = r.word + u2 ≡ u1 + 2 ^ 32 * bit (not r.flags.carry)

-- overflow is false exactly if the word, read as signed, is z
abbrev pub ExactlyUnlessOverflow : ℤ → Flagged → Type 0
ExactlyUnlessOverflow z r = (r.flags.overflow ≡ false → signed r.word ≡ z) × (signed r.word ≡ z → r.flags.overflow ≡ false)
