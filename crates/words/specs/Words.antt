-- How a word is read. A word is a number u below 2 ^ 32; read as signed, it is the number n.
use Rattle.std.specs.Prelude.{ℕ, ◌-◌, ◌^◌, Bool, true, false, not, ◌||◌, ℤ, pos, negsuc, int_le, int_lt}
use Rattle.std.proofs.Common.{to_z}
use Rattle.std.specs.Int.{from_bool, w32}

-- the word as a signed number
abbrev pub signed : ℕ → ℤ
signed u = to_z w32 u

-- not −2^31 ≤ z < 2^31
abbrev pub outside : ℤ → Bool
outside z = int_lt z (negsuc (2 ^ 31 - 1)) || int_le (pos (2 ^ 31)) z

-- a flag as a number
abbrev pub bit : Bool → ℕ
bit c = from_bool c

-- one holds and the other does not
abbrev pub differ : Bool → Bool → Bool
differ true b = not b
differ false b = b
