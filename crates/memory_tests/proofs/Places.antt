-- What a sparse memory has at each place.
use Rattle.std.proofs.Common.{◌≡◌, ℕ, suc, ◌+◌, ◌-◌, ◌<◌, ◌≤◌, List, ◌∷◌, ◌++◌, map, length, get_or, set, replicate, sym, ap, ◌∙◌, arith, length-append}
use lib.ListN.{length-replicate, length-map}
use Rattle.std.proofs.lemmas.List.{get_or-replicate, get_or_append_left, get_or-append_right, get_or-map, set-append_right, map-set}
use Rattle.memory.specs.declared.marks.Mark.TheVariants as marks
use Rattle.memory.specs.Cells.{Cell, cell_at, open_cell, kept_cell, spoiled_cell, written}
use Rattle.memory.proofs.Laws as laws
use Rattle.memory_tests.specs.Sparse.{sparse_cells}

module _ (hole stamp : ℕ) (bytes : List ℕ) where
  abbrev cells : List Cell
  cells = sparse_cells hole stamp bytes

  abbrev rest : List Cell
  rest = kept_cell stamp ∷ map open_cell bytes

  pub size : length (sparse_cells hole stamp bytes) ≡ hole + 1 + length bytes
  size = simp (length-append, length-replicate, length-map) (omega arith)

  module _ (at : ℕ) where
    hole_cell : at < hole → cell_at cells at ≡ spoiled_cell
    hole_cell low =
        get_or_append_left (replicate hole spoiled_cell) rest spoiled_cell at (rw length-replicate low) ∙ get_or-replicate hole at spoiled_cell spoiled_cell low

    pub hole_mark : at < hole → (cell_at (sparse_cells hole stamp bytes) at).mark ≡ marks.Spoiled
    hole_mark low = ap (λ c. c.mark) (hole_cell low)

    cell-rest : hole ≤ at → cell_at cells at ≡ cell_at rest (at - hole)
    cell-rest high = get_or-append_right (replicate hole spoiled_cell) rest hole at spoiled_cell (length-replicate hole spoiled_cell) high

    stamp_cell : at ≡ hole → cell_at cells at ≡ kept_cell stamp
    stamp_cell here = let z : at - hole ≡ 0 = omega arith in cell-rest (omega arith) ∙ ap (cell_at rest) z

    pub stamp_mark : at ≡ hole → (cell_at (sparse_cells hole stamp bytes) at).mark ≡ marks.Kept
    stamp_mark here = ap (λ c. c.mark) (stamp_cell here)

    pub stamp_byte : at ≡ hole → (cell_at (sparse_cells hole stamp bytes) at).byte ≡ stamp
    stamp_byte here = ap (λ c. c.byte) (stamp_cell here)

    cell_open : (i : ℕ) → at ≡ hole + 1 + i → i < length bytes → cell_at cells at ≡ open_cell (get_or bytes i 0)
    cell_open i is below =
        let next : at - hole ≡ suc i = omega arith in
        cell-rest (omega arith) ∙ ap (cell_at rest) next ∙ get_or-map open_cell bytes i 0 spoiled_cell below

    pub open_mark : hole < at → at < hole + 1 + length bytes → (cell_at (sparse_cells hole stamp bytes) at).mark ≡ marks.Open
    open_mark high low = ap (λ c. c.mark) (cell_open (at - hole - 1) (omega arith) (omega arith))

    pub open_byte : (i : ℕ) → at ≡ hole + 1 + i → i < length bytes → (cell_at (sparse_cells hole stamp bytes) at).byte ≡ get_or bytes i 0
    open_byte i is below = ap (λ c. c.byte) (cell_open i is below)

    pub open_written : (i byte : ℕ) → at ≡ hole + 1 + i → i < length bytes → written (sparse_cells hole stamp bytes) at byte ≡ sparse_cells hole stamp (set bytes i byte)
    open_written i byte is below =
        let next : at - hole ≡ suc i = omega arith in
        laws.written-accepted cells at byte (laws.writes cells at (omega (arith, size)) (open_mark (omega arith) (omega arith)))
        ∙ set-append_right (replicate hole spoiled_cell) rest hole at (open_cell byte) (length-replicate hole spoiled_cell) (omega arith)
        ∙ ap (λ k. replicate hole spoiled_cell ++ set rest k (open_cell byte)) next
        ∙ sym (ap (λ l. replicate hole spoiled_cell ++ (kept_cell stamp ∷ l)) (map-set open_cell bytes i byte))

-- what the calls of a sparse memory are proved with
pub ruleset places = (size, hole_mark, stamp_mark, stamp_byte, open_mark, open_byte, open_written, laws.answering)
