-- Bits of words: or, and, xor, and two counts.
use Rattle.std.specs.Prelude.{◌≡◌, ℕ, ◌+◌, ◌*◌, ◌/◌, ◌%◌, ◌^◌, ◌<◌, ◌≤◌, bit_and, bit_or, bit_xor, count_ones}
use Rattle.std.specs.Int.Count.{count_leading_zeros}

-- each bit of one word or of the other
abbrev pub or : ℕ → ℕ → ℕ
or u1 u2 = bit_or u1 u2

-- each bit of one word and of the other
abbrev pub and : ℕ → ℕ → ℕ
and u1 u2 = bit_and u1 u2

-- each bit of one word and not of the other
abbrev pub xor : ℕ → ℕ → ℕ
xor u1 u2 = bit_xor u1 u2

-- how many bits stand above the highest that is set
abbrev pub ff1 : ℕ → ℕ
ff1 u = count_leading_zeros 32 u

-- how many bits are set
abbrev pub popc : ℕ → ℕ
popc u = count_ones u

-- n places to the left the first one is the highest bit; where there is none, n is 32
abbrev pub FirstOne : ℕ → ℕ → Type 0
FirstOne u n = (0 < u → (2 ^ 31 ≤ u * 2 ^ n) × (u * 2 ^ n < 2 ^ 32)) × (u ≡ 0 → n ≡ 32)

-- the lowest bit, and those of the word one place to the right; none in 0
abbrev pub Population : ℕ → ℕ → Type 0
Population u n = (n ≡ u % 2 + popc (u / 2)) × (popc 0 ≡ 0)
