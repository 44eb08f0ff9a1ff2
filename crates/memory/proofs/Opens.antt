-- What bytes that are all open have at each address, and hold when one is written.
use Rattle.std.proofs.Common.{◌≡◌, ℕ, ◌<◌, min, List, map, length, get_or, take, set, sym, ap, ◌∙◌, arith, length-take}
use lib.ListN.{length-map}
use lib.Seq.{take-set-lt}
use Rattle.std.proofs.lemmas.List.{get_or-map, get_or-take, map-set}
use Rattle.memory.specs.declared.marks.Mark.TheVariants as marks
use Rattle.memory.specs.Cells.{cell_at, open_cell, spoiled_cell, written}
use Rattle.memory.specs.Works.{open_cells}
use Rattle.memory.proofs.Laws as laws

pub length-opens : (xs : List ℕ) → length (open_cells xs) ≡ min (length xs) 4194304
unfolding open_cells
length-opens xs = simp (length-map, length-take) (omega arith)

module _ (xs : List ℕ) (at : ℕ) (here : at < length (open_cells xs)) where
  within : at < min (length xs) 4194304
  within = omega (arith, length-opens xs)

  cell_open : cell_at (open_cells xs) at ≡ open_cell (get_or xs at 0)
  unfolding open_cells
  cell_open =
      let l : at < length (take 4194304 xs) = simp length-take (omega (arith, within)) in
      get_or-map open_cell (take 4194304 xs) at 0 spoiled_cell l ∙ ap open_cell (get_or-take 4194304 xs at 0 (omega (arith, within)))

  pub open_mark : (cell_at (open_cells xs) at).mark ≡ marks.Open
  open_mark = ap (λ c. c.mark) cell_open

  pub open_byte : (cell_at (open_cells xs) at).byte ≡ get_or xs at 0
  open_byte = ap (λ c. c.byte) cell_open

  put : (byte : ℕ) → open_cells (set xs at byte) ≡ set (open_cells xs) at (open_cell byte)
  unfolding open_cells
  put byte = ap (map open_cell) (take-set-lt 4194304 xs at byte (omega (arith, within))) ∙ map-set open_cell (take 4194304 xs) at byte

  pub open_written : (byte : ℕ) → written (open_cells xs) at byte ≡ open_cells (set xs at byte)
  open_written byte = laws.written-accepted (open_cells xs) at byte (laws.writes (open_cells xs) at here open_mark) ∙ sym (put byte)

-- what the calls of work are proved with
pub ruleset opens = (length-opens, open_mark, open_byte, open_written, laws.answering)
