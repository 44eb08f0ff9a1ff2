-- After a subtraction each condition compares its operands.
use Rattle.std.proofs.Common.{ℕ, ◌^◌, ◌<◌, refl, arith}
use Rattle.std.proofs.lemmas.Int.{ints}
use Rattle.std.proofs.lemmas.Bool.Decides.{nat_tests}
use Rattle.words.specs.Sums.{sub}
use Rattle.words.specs.Comparisons.{Compares}
use Rattle.words.specs.declared.condition.Condition.TheVariants.{True, Zero, Negative, Overflow, Below, Above, Less, Greater, False, NotZero, NotNegative, NoOverflow, NotBelow, NotAbove, NotLess, NotGreater}

module _ (a b : ℕ) (ha : a < 2 ^ 32) (hb : b < 2 ^ 32) where
  pub compares : Compares a b (sub a b)
  compares True = refl
  compares Zero = grind (arith, nat_tests)
  compares Negative = grind (arith, ints, nat_tests)
  compares Overflow = grind (arith, ints, nat_tests)
  compares Below = grind (arith, nat_tests)
  compares Above = grind (arith, nat_tests)
  compares Less = grind (arith, ints, nat_tests)
  compares Greater = grind (arith, ints, nat_tests)
  compares False = refl
  compares NotZero = grind (arith, nat_tests)
  compares NotNegative = grind (arith, ints, nat_tests)
  compares NoOverflow = grind (arith, ints, nat_tests)
  compares NotBelow = grind (arith, nat_tests)
  compares NotAbove = grind (arith, nat_tests)
  compares NotLess = grind (arith, ints, nat_tests)
  compares NotGreater = grind (arith, ints, nat_tests)
