-- Bytes 8 to 15 of a bundle that has four operations: the format, and moves, a setup or a branch.
use Rattle.std.specs.Prelude.{ℕ, ◌-◌, Bool, true, cond, map, ◌&&◌, List, [], ◌∷◌, ◌++◌, Some, None, Option, ◌==◌, slice_index}
use Rattle.branches.specs.Branches.{decoded_branch, encoded_branch}
use Rattle.branches.specs.Checks.{decoded_check, encoded_check}
use Rattle.branches.specs.declared.checks.Check.{Check}
use Rattle.bundles.specs.declared.tails.Tail.{Tail}
use Rattle.bundles.specs.declared.tails.Tail.TheVariants as tail
use Rattle.moves.specs.Moves.{decoded_move, encoded_move}
use Rattle.moves.specs.declared.moving.Move.{Move}
use Rattle.std.specs.Option.{option_map}
use Rattle.std.specs.List.{slice_get}

-- a byte by its place in the bundle
abbrev pub tail_byte : List ℕ → ℕ → ℕ
tail_byte tail place = slice_index tail (place - 8)

-- whether unused bytes are all 0
abbrev pub unused : List ℕ → Bool
unused [] = true
unused (byte ∷ bytes) = byte == 0 && unused bytes

-- both sides' moves, if there are both
abbrev pub moves_of : Option Move → Option Move → Option Tail
moves_of None odd = None
moves_of (Some even) None = None
moves_of (Some even) (Some odd) = Some (tail.Moves even odd)

-- bytes 9 to 11 are the even side, 12 to 14 the odd side
abbrev pub moving : List ℕ → Option Tail
moving t =
    cond (unused (tail_byte t 15 ∷ []))
    (moves_of (decoded_move (tail_byte t 9) (tail_byte t 10) (tail_byte t 11)) (decoded_move (tail_byte t 12) (tail_byte t 13) (tail_byte t 14))) None

-- a setup of four checks, if they are all there
abbrev pub setup_of : Option Check → Option Check → Option Check → Option Check → Option Tail
setup_of None one two three = None
setup_of (Some zero) None two three = None
setup_of (Some zero) (Some one) None three = None
setup_of (Some zero) (Some one) (Some two) None = None
setup_of (Some zero) (Some one) (Some two) (Some three) = Some (tail.Setup (record { checks = zero ∷ one ∷ two ∷ three ∷ [] }))

-- bytes 9 to 12 are condition bytes for stacks 0 to 3
abbrev pub setting_up : List ℕ → Option Tail
setting_up t =
    cond (unused (tail_byte t 13 ∷ tail_byte t 14 ∷ tail_byte t 15 ∷ []))
    (setup_of (decoded_check (tail_byte t 9)) (decoded_check (tail_byte t 10)) (decoded_check (tail_byte t 11)) (decoded_check (tail_byte t 12))) None

-- byte 9 is a condition byte, byte 10 names stacks, bytes 11 and 12 are the offset
abbrev pub branching : List ℕ → Option Tail
branching t =
    cond (unused (tail_byte t 13 ∷ tail_byte t 14 ∷ tail_byte t 15 ∷ []))
    (option_map tail.Branch (decoded_branch (tail_byte t 9) (tail_byte t 10) (tail_byte t 11) (tail_byte t 12))) None

-- the formats in the order of their numbers
abbrev pub formats : List (List ℕ → Option Tail)
formats = moving ∷ setting_up ∷ branching ∷ []

-- what a format makes of the bytes
abbrev pub given : Option (List ℕ → Option Tail) → List ℕ → Option Tail
given None t = None
given (Some format) t = format t

-- the tail that eight bytes mean
abbrev pub decoded_tail : List ℕ → Option Tail
decoded_tail t = given (slice_get formats (tail_byte t 8)) t

-- the eight bytes of a tail
abbrev pub encoded_tail : Tail → List ℕ
encoded_tail (tail.Moves even odd) = 0 ∷ (encoded_move even ++ (encoded_move odd ++ 0 ∷ []))
encoded_tail (tail.Setup setup) = 1 ∷ (map encoded_check setup.checks ++ 0 ∷ 0 ∷ 0 ∷ [])
encoded_tail (tail.Branch branch) = 2 ∷ (encoded_branch branch ++ 0 ∷ 0 ∷ 0 ∷ [])
