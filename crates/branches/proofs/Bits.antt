-- Named stacks come back from their four bits.
use Rattle.std.proofs.Common.{◌≡◌, ℕ, Bool, List, [], ◌∷◌, length, Some, ◌∙◌, arith}
use Rattle.branches.proofs.Made.{stacks_of_named}
use Rattle.branches.specs.Stacks.{decoded_stacks, encoded_stacks, stacks_of}
use Rattle.branches.specs.declared.stacks.Stacks.{Stacks}
use Rattle.codes.specs.Bits.{bit}
use Rattle.std.proofs.Common.{get_or, ◌+◌, ◌*◌, false}

abbrev bits_of : List Bool → ℕ
bits_of named = bit (get_or named 0 false) + 2 * bit (get_or named 1 false) + 4 * bit (get_or named 2 false) + 8 * bit (get_or named 3 false)

four_back : (a b c d : Bool) → decoded_stacks (bits_of (a ∷ b ∷ c ∷ d ∷ [])) ≡ stacks_of (a ∷ b ∷ c ∷ d ∷ [])
four_back a b c d = grind arith

bits_back : (named : List Bool) → length named ≡ 4 → decoded_stacks (bits_of named) ≡ stacks_of named
bits_back (a ∷ b ∷ c ∷ d ∷ []) long = four_back a b c d
bits_back [] long = cc
bits_back (a ∷ []) long = cc
bits_back (a ∷ b ∷ []) long = cc
bits_back (a ∷ b ∷ c ∷ []) long = cc
bits_back (a ∷ b ∷ c ∷ d ∷ e ∷ named) long = cc

pub stacks_back : (stacks : Stacks) → length stacks.named ≡ 4 → decoded_stacks (encoded_stacks stacks) ≡ Some stacks
stacks_back stacks long = bits_back stacks.named long ∙ stacks_of_named stacks
