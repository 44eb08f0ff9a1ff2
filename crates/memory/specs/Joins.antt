-- One memory behind another, cut where a memory may not go on.
use Rattle.std.specs.Prelude.{◌≡◌, ℕ, ◌+◌, ◌<◌, List, ◌++◌, length, take, drop}
use Rattle.memory.specs.declared.joins.Part.{Part}
use Rattle.memory.specs.declared.joins.Part.TheVariants.{Front, Back}
use Rattle.memory.specs.Cells.{Cell}

-- what the two mean as one
unfoldable pub joined : List Cell → List Cell → List Cell
joined front back = take 4194304 (front ++ back)

-- what lies past the cut: no part of the whole, and never changed
unfoldable pub cut_off : List Cell → List Cell → List Cell
cut_off front back = drop 4194304 (front ++ back)

-- what the lender of the front holds, once the whole means something else
abbrev pub front_after : List Cell → List Cell → List Cell → List Cell
front_after front back whole = take (length front) (whole ++ cut_off front back)

-- what the lender of the back holds, once the whole means something else
abbrev pub back_after : List Cell → List Cell → List Cell → List Cell
back_after front back whole = drop (length front) (whole ++ cut_off front back)

-- where an address lies, of two memories whose first has a size: in the front, or past it at an address of the back's own
abbrev pub LiesIn : ℕ → ℕ → Part → Type 0
LiesIn front at Front = at < front
LiesIn front at (Back within) = at ≡ front + within
