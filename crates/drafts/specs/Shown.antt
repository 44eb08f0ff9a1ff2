-- What a slot leaves, as it is shown.
use Rattle.std.specs.Prelude.{ℕ, Bool, false, cond, List, ◌∷◌, length, Some, None, Option, nat_le}
use Rattle.drafts.specs.declared.draft.Draft.{Draft}
use Rattle.drafts.specs.declared.draft.LatchWrite.{LatchWrite}
use Rattle.drafts.specs.declared.draft.SlotFault.{SlotFault}
use Rattle.stacks.specs.Changes.{changed}
use Rattle.stacks.specs.Held.{Held}
use Rattle.words.specs.declared.flagged.Flagged.{Flagged}

-- the stack after the slot, what it writes to the latch, the target that it sets, whether it pushed a pair, and its fault
pub record Shown : Type 0 where
  pub stack : Held
  pub write : Option LatchWrite
  pub target : Option ℕ
  pub paired : Bool
  pub fault : Option SlotFault

-- a stack with other words
abbrev pub with_words : Held → List ℕ → Held
with_words h xs = record { words = xs; flags = h.flags; skips = h.skips; count = h.count }

-- other words, and nothing else
abbrev pub plain : Held → List ℕ → Shown
plain h xs = record { stack = with_words h xs; write = None; target = None; paired = false; fault = None }

-- a word with its flags on top of other words
abbrev pub flagged : Held → Flagged → List ℕ → Shown
flagged h f xs = record {
  stack = record { words = f.word ∷ xs; flags = f.flags; skips = h.skips; count = h.count };
  write = None;
  target = None;
  paired = false;
  fault = None;
}

-- a fault: the old stack, and nothing else
abbrev pub faulty : Held → SlotFault → Shown
faulty h fault = record { stack = h; write = None; target = None; paired = false; fault = Some fault }

-- what a draft shows over the stack that it was made for
abbrev pub shown : Draft → Held → Shown
shown d h = record {
  stack = record { words = changed d.change h.words; flags = d.flags; skips = h.skips; count = d.count };
  write = d.write;
  target = d.target;
  paired = d.paired;
  fault = d.fault;
}

-- a stack as a draft leaves it: as before, where 64 words do not hold what it shows
abbrev pub settled_by : Draft → Held → Held
settled_by d h = cond (nat_le (length (shown d h).stack.words) 64) (shown d h).stack h
