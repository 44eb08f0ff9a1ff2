-- A stack as the rules see it.
use Rattle.std.specs.Prelude.{ℕ, zero, suc, Bool, false, List, [], ◌∷◌}
use Rattle.stacks.specs.Words.{words_in}
use Rattle.stacks.specs.declared.stack.Stack.{Stack}
use Rattle.words.specs.declared.flags.Flags.{Flags}

-- its words, the top first, the flags c and o, the flag X, and the carry count
pub record Held : Type 0 where
  pub words : List ℕ
  pub flags : Flags
  pub skips : Bool
  pub count : ℕ

-- what a stack holds
abbrev pub held : Stack → Held
held s = record { words = words_in s.words; flags = s.flags; skips = s.skips; count = s.count }

-- a new stack: no word, all clear
abbrev pub empty : Held
empty = record { words = []; flags = record { carry = false; overflow = false }; skips = false; count = 0 }

-- what the k-th of some stacks holds; past the end there are empty ones
abbrev pub held_at : List Stack → ℕ → Held
held_at [] k = empty
held_at (s ∷ ss) zero = held s
held_at (s ∷ ss) (suc k) = held_at ss k
