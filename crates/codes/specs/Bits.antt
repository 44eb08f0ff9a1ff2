-- A bit as a number.
use Rattle.std.specs.Prelude.{ℕ, Bool, true, false, List, [], ◌∷◌}

-- what 0 and 1 stand for
abbrev pub bits : List Bool
bits = false ∷ true ∷ []

-- 1 where it is set
abbrev pub bit : Bool → ℕ
bit false = 0
bit true = 1
