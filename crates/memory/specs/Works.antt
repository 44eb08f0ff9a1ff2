-- The caller's bytes as a memory, all open.
use Rattle.std.specs.Prelude.{◌≡◌, ℕ, List, [], ◌∷◌, map, length, take, Option, nat_le}
use Rattle.std.specs.Borrow.{MutBor}
use Rattle.questions.specs.Questions.{first_no}
use Rattle.memory.specs.declared.refusals.WorkRefusal.{WorkRefusal}
use Rattle.memory.specs.declared.refusals.WorkRefusal.TheVariants.{TooLong}
use Rattle.memory.specs.Cells.{Cell, open_cell}

-- what bytes mean as a memory
unfoldable pub open_cells : List ℕ → List Cell
open_cells bytes = map open_cell (take 4194304 bytes)

-- what is asked before bytes are made a memory
abbrev pub work_asks : List ℕ → Option WorkRefusal
work_asks bytes = first_no ((nat_le (length bytes) 4194304, TooLong) ∷ [])

-- the same bytes of the caller's, earlier and later
pub record SameBytes (x y : MutBor (List ℕ)) : Type 0 where
  pub name_is : x.ghost_name ≡ y.ghost_name
  pub long : length x.now ≡ length y.now

-- the caller's bytes, handed on as they are: what is done to the second is done to the first
pub record Lent (x y : MutBor (List ℕ)) : Type 0 where
  pub name_is : y.ghost_name ≡ x.ghost_name
  pub held : y.now ≡ x.now
