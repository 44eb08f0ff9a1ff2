-- What a change makes of a stack's words, the top first.
use Rattle.std.specs.Prelude.{ℕ, zero, suc, cond, List, [], ◌∷◌, ◌++◌, length, drop, nat_le, slice_set}
use Rattle.stacks.specs.declared.changes.Change.{Change}
use Rattle.stacks.specs.declared.changes.Change.TheVariants.{Replace, Pin}
use Rattle.stacks.specs.declared.changes.Few.{Few}
use Rattle.stacks.specs.declared.changes.Few.TheVariants.{Zero, One, Two, Three, Four}

-- a few words
abbrev pub few_words : Few → List ℕ
few_words Zero = []
few_words (One xs) = xs
few_words (Two xs) = xs
few_words (Three xs) = xs
few_words (Four xs) = xs

-- the top goes to place k, in the place of the word there; at place 0 it is only gone
abbrev pub pinned : ℕ → List ℕ → List ℕ
pinned k [] = []
pinned zero (x ∷ xs) = xs
pinned (suc k) (x ∷ xs) = slice_set xs k x

-- the words after a change
abbrev pub changed : Change → List ℕ → List ℕ
changed (Replace off on) xs = few_words on ++ drop off xs
changed (Pin k) xs = pinned k xs

-- the words that stand after a change: those before it, where 64 do not hold the new ones
abbrev pub settled : Change → List ℕ → List ℕ
settled change xs = cond (nat_le (length (changed change xs)) 64) (changed change xs) xs
