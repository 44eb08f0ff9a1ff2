-- How a block of 512 bytes lies: a header of 12 bytes, a payload of 496, and the check word of both.
use Rattle.std.specs.Prelude.{ℕ, ◌+◌, ◌*◌, ◌/◌, ◌%◌, Bool, true, ◌&&◌, List, [], ◌∷◌, ◌++◌, replicate, ◌==◌, slice_index}
use Rattle.std.specs.List.{between}
use Rattle.blocks.specs.Check.{check_word}

-- a number in two bytes, the high byte first
abbrev pub two_bytes : ℕ → List ℕ
two_bytes n = (n / 256 % 256) ∷ (n % 256) ∷ []

-- a number in four bytes, the high byte first
abbrev pub four_bytes : ℕ → List ℕ
four_bytes n = (n / 16777216 % 256) ∷ (n / 65536 % 256) ∷ (n / 256 % 256) ∷ (n % 256) ∷ []

-- bytes 0 to 11: the kind, edition 1, the block's number and eight zeros
abbrev pub header : ℕ → ℕ → List ℕ
header kind number = kind ∷ 1 ∷ (two_bytes number ++ replicate 8 0)

-- bytes 0 to 507, of which the check word is made
abbrev pub covered : ℕ → ℕ → List ℕ → List ℕ
covered kind number payload = header kind number ++ payload

-- the whole block
unfoldable pub sealed : ℕ → ℕ → List ℕ → List ℕ
sealed kind number payload = covered kind number payload ++ four_bytes (check_word (covered kind number payload))

-- the number in the two bytes from a place on
abbrev pub two_at : List ℕ → ℕ → ℕ
two_at bytes i = slice_index bytes i * 256 + slice_index bytes (i + 1)

-- the number in the four bytes from a place on
abbrev pub four_at : List ℕ → ℕ → ℕ
four_at bytes i = slice_index bytes i * 16777216 + slice_index bytes (i + 1) * 65536 + slice_index bytes (i + 2) * 256 + slice_index bytes (i + 3)

-- are all of these bytes 0?
abbrev pub all_zero : List ℕ → Bool
all_zero [] = true
all_zero (b ∷ bs) = b == 0 && all_zero bs

-- bytes 12 to 507
abbrev pub payload_of : List ℕ → List ℕ
payload_of bytes = between 12 508 bytes
