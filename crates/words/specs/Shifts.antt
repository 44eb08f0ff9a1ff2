-- Shifts and rotations by one place.
use Rattle.std.specs.Prelude.{◌≡◌, ℕ, ◌+◌, ◌*◌, ◌/◌, ◌%◌, ◌^◌, Bool, false, pos, ◌+ℤ◌, ◌==◌, nat_le}
use Rattle.words.specs.Words.{bit, differ, signed}
use Rattle.words.specs.declared.flagged.Flagged.{Flagged}

-- the lowest bit
abbrev pub lowest : ℕ → Bool
lowest u = u % 2 == 1

-- the highest bit, the sign
abbrev pub highest : ℕ → Bool
highest u = nat_le (2 ^ 31) u

-- to the right: the lowest bit goes to the carry, and h becomes the highest
abbrev pub right : ℕ → Bool → Flagged
right u h = record { word = u / 2 + 2 ^ 31 * bit h; flags = record { carry = lowest u; overflow = false } }

-- to the left: the highest bit goes to the carry, and l becomes the lowest
abbrev pub left : ℕ → Bool → Flagged
left u l = record { word = (u * 2 + bit l) % 2 ^ 32; flags = record { carry = highest u; overflow = false } }

-- arithmetic: the sign stays
abbrev pub asr : ℕ → Flagged
asr u = right u (highest u)

-- logical: 0 comes in
abbrev pub lsr : ℕ → Flagged
lsr u = right u false

-- the bit that leaves comes in
abbrev pub ror : ℕ → Flagged
ror u = right u (lowest u)

-- the carry comes in
abbrev pub rorc : ℕ → Bool → Flagged
rorc u c = right u c

-- logical: 0 comes in
abbrev pub lsl : ℕ → Flagged
lsl u = left u false

-- arithmetic: 0 comes in, and overflow says that the sign changed
abbrev pub asl : ℕ → Flagged
asl u = record { word = (lsl u).word; flags = record { carry = highest u; overflow = differ (highest u) (highest (lsl u).word) } }

-- the bit that leaves comes in
abbrev pub rol : ℕ → Flagged
rol u = left u (highest u)

-- the carry comes in
abbrev pub rolc : ℕ → Bool → Flagged
rolc u c = left u c

-- the word and the carry, shifted to the right, together are what was shifted, with h above it
abbrev pub RightExact : ℕ → Bool → Flagged → Type 0
RightExact u h r = r.word * 2 + bit r.flags.carry ≡ u + 2 ^ 32 * bit h

-- the word is half of the signed number, rounded down, and the carry what is left
abbrev pub Halves : ℕ → Flagged → Type 0
Halves u r = signed r.word +ℤ signed r.word +ℤ pos (bit r.flags.carry) ≡ signed u

-- a word and a carry are back
abbrev pub Back : ℕ → Bool → Flagged → Type 0
Back u c r = (r.word ≡ u) × (r.flags.carry ≡ c)
