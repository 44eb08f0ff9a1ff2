-- The sixteen conditions in the order of their numbers, and their words; the one numbered k + 8 is the opposite of k.
use Rattle.std.specs.Prelude.{ℕ, List, [], ◌∷◌, codes}
use Rattle.words.specs.declared.condition.Condition.{Condition}
use Rattle.words.specs.declared.condition.Condition.TheVariants.{True, Zero, Negative, Overflow, Below, Above, Less, Greater, False, NotZero, NotNegative, NoOverflow, NotBelow, NotAbove, NotLess, NotGreater}

-- t 0= 0< ov u< u> < > and their opposites
abbrev pub conditions : List Condition
conditions = True ∷ Zero ∷ Negative ∷ Overflow ∷ Below ∷ Above ∷ Less ∷ Greater ∷ False ∷ NotZero ∷ NotNegative ∷ NoOverflow ∷ NotBelow ∷ NotAbove ∷ NotLess ∷ NotGreater ∷ []

-- a condition's number
abbrev pub condition_number : Condition → ℕ
condition_number True = 0
condition_number Zero = 1
condition_number Negative = 2
condition_number Overflow = 3
condition_number Below = 4
condition_number Above = 5
condition_number Less = 6
condition_number Greater = 7
condition_number False = 8
condition_number NotZero = 9
condition_number NotNegative = 10
condition_number NoOverflow = 11
condition_number NotBelow = 12
condition_number NotAbove = 13
condition_number NotLess = 14
condition_number NotGreater = 15

-- their words
abbrev pub condition_word : Condition → List ℕ
condition_word True = codes "t"
condition_word Zero = codes "0="
condition_word Negative = codes "0<"
condition_word Overflow = codes "ov"
condition_word Below = codes "u<"
condition_word Above = codes "u>"
condition_word Less = codes "<"
condition_word Greater = codes ">"
condition_word False = codes "f"
condition_word NotZero = codes "0<>"
condition_word NotNegative = codes "0>="
condition_word NoOverflow = codes "no"
condition_word NotBelow = codes "u>="
condition_word NotAbove = codes "u<="
condition_word NotLess = codes ">="
condition_word NotGreater = codes "<="
