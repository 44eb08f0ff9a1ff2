-- Which move a code, a selector and a value byte mean, and the three bytes of a move.
use Rattle.std.specs.Prelude.{ℕ, ◌+◌, ◌++◌, cond, map, ◌&&◌, List, [], ◌∷◌, Some, None, Option, ◌==◌}
use Rattle.std.specs.Int.{w8}
use Rattle.std.proofs.Common.{of_z, to_z}
use Rattle.moves.specs.Parts.{size_number, sizes}
use Rattle.moves.specs.Selectors.{access_selector, decoded_access, decoded_reach, reach_selector}
use Rattle.moves.specs.declared.moving.Move.{Move}
use Rattle.moves.specs.declared.moving.Move.TheVariants.{Idle, Offset, Load, Store, Set, Get}
use Rattle.moves.specs.declared.parts.Size.{Size}
use Rattle.std.specs.Option.{option_map}
use Rattle.std.specs.List.{slice_get}

-- nothing is moved
abbrev pub idle : ℕ → ℕ → Option Move
idle selector value = cond (selector == 0 && value == 0) (Some Idle) None

-- a signed offset for the other side's address
abbrev pub offset : ℕ → ℕ → Option Move
offset selector value = cond (selector == 0) (Some (Offset (to_z w8 value))) None

-- a load
abbrev pub loading : Size → ℕ → ℕ → Option Move
loading size selector value = cond (value == 0) (option_map (Load size) (decoded_reach selector)) None

-- a store
abbrev pub storing : Size → ℕ → ℕ → Option Move
storing size selector value = cond (value == 0) (option_map (Store size) (decoded_reach selector)) None

-- a register is set from a stack
abbrev pub setting : ℕ → ℕ → Option Move
setting selector value = cond (value == 0) (option_map Set (decoded_access selector)) None

-- a register is put on a stack
abbrev pub getting : ℕ → ℕ → Option Move
getting selector value = cond (value == 0) (option_map Get (decoded_access selector)) None

-- the moves in the order of their codes, each with what the selector and the value make of it
abbrev pub codes : List (ℕ → ℕ → Option Move)
codes =
    idle ∷
    offset ∷
    (map loading sizes ++ (map storing sizes ++
    setting ∷
    getting ∷ []))

-- what an entry of that list makes of the selector and the value
abbrev pub given : Option (ℕ → ℕ → Option Move) → ℕ → ℕ → Option Move
given None selector value = None
given (Some entry) selector value = entry selector value

-- the move that three bytes mean
abbrev pub decoded_move : ℕ → ℕ → ℕ → Option Move
decoded_move code selector value = given (slice_get codes code) selector value

-- the three bytes of a move
abbrev pub encoded_move : Move → List ℕ
encoded_move Idle = 0 ∷ 0 ∷ 0 ∷ []
encoded_move (Offset value) = 1 ∷ 0 ∷ of_z w8 value ∷ []
encoded_move (Load size reach) = (2 + size_number size) ∷ reach_selector reach ∷ 0 ∷ []
encoded_move (Store size reach) = (6 + size_number size) ∷ reach_selector reach ∷ 0 ∷ []
encoded_move (Set access) = 10 ∷ access_selector access ∷ 0 ∷ []
encoded_move (Get access) = 11 ∷ access_selector access ∷ 0 ∷ []
