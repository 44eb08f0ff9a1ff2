-- What the conditions say after a subtraction: they compare its operands as numbers do.
use Rattle.std.specs.Prelude.{◌≡◌, ℕ, Bool, true, false, not, ◌-ℤ◌, ◌==◌, int_le, int_lt, nat_le, nat_lt}
use Rattle.words.specs.Words.{differ, outside, signed}
use Rattle.words.specs.Conditions.{holds, of_word}
use Rattle.words.specs.declared.condition.Condition.{Condition}
use Rattle.words.specs.declared.condition.Condition.TheVariants.{True, Zero, Negative, Overflow, Below, Above, Less, Greater, False, NotZero, NotNegative, NoOverflow, NotBelow, NotAbove, NotLess, NotGreater}
use Rattle.words.specs.declared.flagged.Flagged.{Flagged}

-- the comparison of two words that a condition stands for; the difference's sign is wrong exactly if it overflowed
abbrev pub compared : Condition → ℕ → ℕ → Bool
compared True a b = true
compared Zero a b = a == b
compared Negative a b = differ (int_lt (signed a) (signed b)) (outside (signed a -ℤ signed b))
compared Overflow a b = outside (signed a -ℤ signed b)
compared Below a b = nat_lt a b
compared Above a b = nat_lt b a
compared Less a b = int_lt (signed a) (signed b)
compared Greater a b = int_lt (signed b) (signed a)
compared False a b = false
compared NotZero a b = not (a == b)
compared NotNegative a b = not (differ (int_lt (signed a) (signed b)) (outside (signed a -ℤ signed b)))
compared NoOverflow a b = not (outside (signed a -ℤ signed b))
compared NotBelow a b = nat_le b a
compared NotAbove a b = nat_le a b
compared NotLess a b = int_le (signed b) (signed a)
compared NotGreater a b = int_le (signed a) (signed b)

-- r is the outcome of a − b: each of the sixteen conditions then compares a with b
abbrev pub Compares : ℕ → ℕ → Flagged → Type 0
Compares a b r = (k : Condition) → holds k (of_word r.word r.flags) ≡ compared k a b
