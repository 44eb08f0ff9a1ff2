-- A word that wraps the exact number z, read as signed, is z exactly if z is not outside the signed words.
use Rattle.std.proofs.Common.{ℕ, ◌^◌, ◌<◌, Bool, pos, ◌+ℤ◌, ◌-ℤ◌, arith}
use Rattle.std.proofs.lemmas.Int.{ints}
use Rattle.std.proofs.lemmas.Bool.Decides.{nat_tests}
use Rattle.words.specs.Words.{bit, signed}
use Rattle.words.specs.Sums.{ExactlyUnlessOverflow, addc, subc}

pub bit_below : (c : Bool) → bit c < 2
bit_below c = grind (arith, nat_tests)

module _ (u1 u2 : ℕ) (c : Bool) (h1 : u1 < 2 ^ 32) (h2 : u2 < 2 ^ 32) where
  pub addc_exact : ExactlyUnlessOverflow (signed u1 +ℤ signed u2 +ℤ pos (bit c)) (addc u1 u2 c)
  addc_exact = grind (arith, ints, nat_tests, bit_below)

  pub subc_exact : ExactlyUnlessOverflow (signed u1 -ℤ signed u2 +ℤ pos (bit c)) (subc u1 u2 c)
  subc_exact = grind (arith, ints, nat_tests, bit_below)
