-- The check word of a block.
use Rattle.std.specs.Prelude.{ℕ, ◌+◌, ◌*◌, ◌/◌, ◌%◌, ◌^◌, List, fold, bit_xor}

-- a word of 32 bits rotated left by 5
abbrev pub rotated : ℕ → ℕ
rotated word = (word * 32) % 2 ^ 32 + word / 2 ^ 27

-- the check word after one byte more
abbrev pub mixed : ℕ → ℕ → ℕ
mixed word byte = bit_xor (rotated word) byte

-- the check word of some bytes, from 0 on
abbrev pub check_word : List ℕ → ℕ
check_word bytes = fold mixed 0 bytes
