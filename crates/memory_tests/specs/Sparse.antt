-- A sparse memory: a hole of spoiled bytes that takes no room, one kept byte, and open bytes.
use Rattle.std.specs.Prelude.{◌≡◌, ℕ, ◌+◌, ◌<◌, List, ◌∷◌, ◌++◌, map, replicate}
use Rattle.memory.specs.Cells.{Cell, open_cell, kept_cell, spoiled_cell}
use Rattle.memory_tests.specs.declared.sparse.Place.{Place}
use Rattle.memory_tests.specs.declared.sparse.Place.TheVariants.{Hole, Stamp, Byte}

-- what it means
abbrev pub sparse_cells : ℕ → ℕ → List ℕ → List Cell
sparse_cells hole stamp bytes = replicate hole spoiled_cell ++ (kept_cell stamp ∷ map open_cell bytes)

-- what stands at an address: the hole, then the kept byte, then sixteen open ones
abbrev pub StandsAt : ℕ → ℕ → Place → Type 0
StandsAt hole at Hole = at < hole
StandsAt hole at Stamp = at ≡ hole
StandsAt hole at (Byte i) = (at ≡ hole + 1 + i) × (i < 16)
