-- Moves as people write them.
use Rattle.std.specs.Prelude.{ℕ, List, ◌++◌, codes, decimal}
use Rattle.moves.specs.Parts.{set_number}
use Rattle.moves.specs.Sides.{stack_on}
use Rattle.moves.specs.declared.moving.Move.{Move}
use Rattle.moves.specs.declared.moving.Move.TheVariants.{Idle, Offset, Load, Store, Set, Get}
use Rattle.moves.specs.declared.parts.Index.TheVariants as index
use Rattle.moves.specs.declared.parts.Mode.{Mode}
use Rattle.moves.specs.declared.parts.Mode.TheVariants.{Still, Plus, Step, PlusStep}
use Rattle.moves.specs.declared.parts.Register.{Register}
use Rattle.moves.specs.declared.parts.Register.TheVariants.{R, N, L, F}
use Rattle.moves.specs.declared.parts.SetNumber.{SetNumber}
use Rattle.moves.specs.declared.parts.Size.{Size}
use Rattle.moves.specs.declared.parts.Size.TheVariants.{One, Two, Four, Eight}
use Rattle.moves.specs.declared.selectors.Access.{Access}
use Rattle.moves.specs.declared.selectors.Reach.{Reach}
use Rattle.moves.specs.declared.side.Side.{Side}
use Rattle.operations.specs.Text.{stack_text}
use Rattle.operations.specs.declared.places.StackNumber.{StackNumber}
use Rattle.std.specs.Fmt.{signed_decimal}

-- the loads of 1, 2, 4 and 8 bytes
abbrev pub load_word : Size → List ℕ
load_word One = codes "ldb"
load_word Two = codes "ldh"
load_word Four = codes "ld"
load_word Eight = codes "ld2"

-- the stores
abbrev pub store_word : Size → List ℕ
store_word One = codes "stb"
store_word Two = codes "sth"
store_word Four = codes "st"
store_word Eight = codes "st2"

-- what follows Rn
abbrev pub mode_text : Mode → List ℕ
mode_text Still = codes ""
mode_text (Plus index.N) = codes "+N"
mode_text (Step index.N) = codes " N+"
mode_text (PlusStep index.N) = codes "+N+"
mode_text (Plus index.Top) = codes "+s0"
mode_text (Step index.Top) = codes " s0+"
mode_text (PlusStep index.Top) = codes "+s0+"

-- a register without the number of its set
abbrev pub register_text : Register → List ℕ
register_text R = codes "R"
register_text N = codes "N"
register_text L = codes "L"
register_text F = codes "F"

-- the number of a set
abbrev pub set_text : SetNumber → List ℕ
set_text set = decimal (set_number set)

-- a load or a store after its word
abbrev pub address_text : StackNumber → Reach → List ℕ
address_text stack reach = stack_text stack ++ (codes ": R" ++ (set_text reach.port.set ++ mode_text reach.mode))

-- a set or a get after its word
abbrev pub named_text : StackNumber → Access → List ℕ
named_text stack a = stack_text stack ++ (codes ": " ++ (register_text a.register ++ set_text a.port.set))

-- a move, on a side
abbrev pub move_text : Side → Move → List ℕ
move_text side Idle = codes "none"
move_text side (Offset value) = codes "offset " ++ signed_decimal value
move_text side (Load size reach) = load_word size ++ (codes " " ++ address_text (stack_on side reach.port.stack) reach)
move_text side (Store size reach) = store_word size ++ (codes " " ++ address_text (stack_on side reach.port.stack) reach)
move_text side (Set a) = codes "set " ++ named_text (stack_on side a.port.stack) a
move_text side (Get a) = codes "get " ++ named_text (stack_on side a.port.stack) a
