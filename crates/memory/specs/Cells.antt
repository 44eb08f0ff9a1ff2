-- A memory means a list of cells, each a byte and a mark: what is asked of it, and what it then answers and holds.
use Rattle.std.specs.Prelude.{◌≡◌, ℕ, ◌≤◌, Bool, true, false, List, [], ◌∷◌, map, length, Option, Result, nat_lt, slice_index_or, slice_set}
use Rattle.questions.specs.Questions.{first_no, answered, held_after}
use Rattle.memory.specs.declared.marks.Mark.{Mark}
use Rattle.memory.specs.declared.marks.Mark.TheVariants as marks
use Rattle.memory.specs.declared.refusals.MemoryRefusal.{MemoryRefusal}
use Rattle.memory.specs.declared.refusals.MemoryRefusal.TheVariants as refusals

-- one byte of a memory
pub record Cell : Type 0 where
  pub byte : ℕ
  pub mark : Mark

-- a byte that is read and written
abbrev pub open_cell : ℕ → Cell
open_cell b = record { byte = b; mark = marks.Open }

-- a byte that is only read
abbrev pub kept_cell : ℕ → Cell
kept_cell b = record { byte = b; mark = marks.Kept }

-- a byte that is neither, listed as 0
abbrev pub spoiled_cell : Cell
spoiled_cell = record { byte = 0; mark = marks.Spoiled }

-- whether it may be written
abbrev pub is_open : Mark → Bool
is_open marks.Open = true
is_open marks.Kept = false
is_open marks.Spoiled = false

-- whether it may be read
abbrev pub is_sound : Mark → Bool
is_sound marks.Open = true
is_sound marks.Kept = true
is_sound marks.Spoiled = false

-- what is at an address (past the end, nothing that could be read)
abbrev pub cell_at : List Cell → ℕ → Cell
cell_at cells at = slice_index_or cells at spoiled_cell

-- the marks alone, in order
abbrev pub marks_of : List Cell → List Mark
marks_of cells = map (λ c. c.mark) cells

-- the bytes alone, in order
abbrev pub bytes_of : List Cell → List ℕ
bytes_of cells = map (λ c. c.byte) cells

-- what every memory keeps: it has at most 4,194,304 bytes, and a spoiled one is listed as 0
pub record Lawful (cells : List Cell) : Type 0 where
  pub bounded : length cells ≤ 4194304
  pub zeroed : (at : ℕ) → (cell_at cells at).mark ≡ marks.Spoiled → (cell_at cells at).byte ≡ 0

-- what is asked before a mark is given
abbrev pub mark_asks : List Cell → ℕ → Option MemoryRefusal
mark_asks cells at = first_no ((nat_lt at (length cells), refusals.OutOfRange) ∷ [])

-- what is asked, in turn, before a byte is read
abbrev pub read_asks : List Cell → ℕ → Option MemoryRefusal
read_asks cells at = first_no (
    (nat_lt at (length cells), refusals.OutOfRange)
    ∷ (is_sound (cell_at cells at).mark, refusals.Spoiled)
    ∷ [])

-- what is asked, in turn, before a byte is written
abbrev pub write_asks : List Cell → ℕ → Option MemoryRefusal
write_asks cells at = first_no (
    (nat_lt at (length cells), refusals.OutOfRange)
    ∷ (is_sound (cell_at cells at).mark, refusals.Spoiled)
    ∷ (is_open (cell_at cells at).mark, refusals.NotOpen)
    ∷ [])

-- what is left to ask of a mark that was given, before its byte is written
abbrev pub open_asks : Mark → Option MemoryRefusal
open_asks mark = first_no ((is_sound mark, refusals.Spoiled) ∷ (is_open mark, refusals.NotOpen) ∷ [])

-- the answer of `mark`
unfoldable pub marked : List Cell → ℕ → Result Mark MemoryRefusal
marked cells at = answered (mark_asks cells at) (cell_at cells at).mark

-- the answer of `read`
unfoldable pub read_out : List Cell → ℕ → Result ℕ MemoryRefusal
read_out cells at = answered (read_asks cells at) (cell_at cells at).byte

-- the answer of `write`
unfoldable pub wrote : List Cell → ℕ → Result (Unit {0}) MemoryRefusal
wrote cells at = answered (write_asks cells at) tt

-- what a memory holds after `write`
unfoldable pub written : List Cell → ℕ → ℕ → List Cell
written cells at byte = held_after (write_asks cells at) (slice_set cells at (open_cell byte)) cells

-- `stays` relates a memory to itself at any later time; its marks, and so its size, never change
pub record Steady {M : Type 0} (cells : M → List Cell) (stays : M → M → Type 0) : Type 0 where
  pub idle : (m : M) → stays m m
  pub onward : (a b c : M) → stays a b → stays b c → stays a c
  pub marks : (a b : M) → stays a b → marks_of (cells a) ≡ marks_of (cells b)
