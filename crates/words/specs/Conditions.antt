-- When a condition holds. It looks at the number n on top and at the flags.
use Rattle.std.specs.Prelude.{◌≡◌, ℕ, ◌-◌, ◌^◌, Bool, true, false, cond, not, ◌&&◌, ◌||◌, List, map, take, drop, pos, ◌==◌, int_lt}
use Rattle.words.specs.Words.{differ, signed}
use Rattle.words.specs.Numbers.{conditions}
use Rattle.words.specs.declared.condition.Condition.{Condition}
use Rattle.words.specs.declared.condition.Condition.TheVariants.{True, Zero, Negative, Overflow, Below, Above, Less, Greater, False, NotZero, NotNegative, NoOverflow, NotBelow, NotAbove, NotLess, NotGreater}
use Rattle.words.specs.declared.flags.Flags.{Flags}
use Rattle.words.specs.declared.pair.Pair.{Pair}
use Rattle.words.specs.declared.status.Status.{Status}

-- a word on top, with the flags
abbrev pub of_word : ℕ → Flags → Status
of_word u f = record { zero = (u == 0); negative = int_lt (signed u) (pos 0); flags = f }

-- a pair on top, its high word uppermost: it is 0 only if both words are
abbrev pub of_pair : Pair → Flags → Status
of_pair p f = record { zero = p.low == 0 && (p.high == 0); negative = int_lt (signed p.high) (pos 0); flags = f }

-- which conditions hold: t, 0=, 0<, ov, u<, u>, <, >, and f, 0<>, 0>=, no, u>=, u<=, >=, <=
abbrev pub holds : Condition → Status → Bool
holds True s = true
holds Zero s = s.zero
holds Negative s = s.negative
holds Overflow s = s.flags.overflow
holds Below s = not s.flags.carry
holds Above s = s.flags.carry && not s.zero
holds Less s = differ s.negative s.flags.overflow
holds Greater s = not s.zero && not (differ s.negative s.flags.overflow)
holds False s = false
holds NotZero s = not s.zero
holds NotNegative s = not s.negative
holds NoOverflow s = not s.flags.overflow
holds NotBelow s = s.flags.carry
holds NotAbove s = not s.flags.carry || s.zero
holds NotLess s = not (differ s.negative s.flags.overflow)
holds NotGreater s = s.zero || differ s.negative s.flags.overflow

-- the conditions in the order of their numbers, 0 to 15
abbrev pub numbered : List Condition
numbered = conditions

-- the condition whose number is 8 more or 8 less
abbrev pub opposite : Condition → Condition
opposite True = False
opposite Zero = NotZero
opposite Negative = NotNegative
opposite Overflow = NoOverflow
opposite Below = NotBelow
opposite Above = NotAbove
opposite Less = NotLess
opposite Greater = NotGreater
opposite False = True
opposite NotZero = Zero
opposite NotNegative = Negative
opposite NoOverflow = Overflow
opposite NotBelow = Below
opposite NotAbove = Above
opposite NotLess = Less
opposite NotGreater = Greater

-- the condition numbered k + 8 is the opposite of the condition numbered k
abbrev pub EightApart : Type 0
EightApart = drop 8 numbered ≡ map opposite (take 8 numbered)

-- a flag as a word: all bits set, or none
abbrev pub flag_word : Bool → ℕ
flag_word b = cond b (2 ^ 32 - 1) 0
