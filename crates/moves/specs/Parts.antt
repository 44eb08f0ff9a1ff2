-- What a move is put together from, in the order of the numbers.
use Rattle.std.specs.Prelude.{ℕ, List, [], ◌∷◌}
use Rattle.moves.specs.declared.parts.Half.{Half}
use Rattle.moves.specs.declared.parts.Half.TheVariants.{Lower, Higher}
use Rattle.moves.specs.declared.parts.Index.TheVariants as index
use Rattle.moves.specs.declared.parts.Mode.{Mode}
use Rattle.moves.specs.declared.parts.Mode.TheVariants.{Still, Plus, Step, PlusStep}
use Rattle.moves.specs.declared.parts.Register.{Register}
use Rattle.moves.specs.declared.parts.Register.TheVariants.{R, N, L, F}
use Rattle.moves.specs.declared.parts.SetNumber.{SetNumber}
use Rattle.moves.specs.declared.parts.SetNumber.TheVariants as set
use Rattle.moves.specs.declared.parts.Size.{Size}
use Rattle.moves.specs.declared.parts.Size.TheVariants as size

-- the sizes
abbrev pub sizes : List Size
sizes = size.One ∷ size.Two ∷ size.Four ∷ size.Eight ∷ []

-- a size's place among them
abbrev pub size_number : Size → ℕ
size_number size.One = 0
size_number size.Two = 1
size_number size.Four = 2
size_number size.Eight = 3

-- how many bytes it is
abbrev pub size_bytes : Size → ℕ
size_bytes size.One = 1
size_bytes size.Two = 2
size_bytes size.Four = 4
size_bytes size.Eight = 8

-- the sets of registers
abbrev pub sets : List SetNumber
sets = set.Zero ∷ set.One ∷ set.Two ∷ set.Three ∷ []

-- a set's number
abbrev pub set_number : SetNumber → ℕ
set_number set.Zero = 0
set_number set.One = 1
set_number set.Two = 2
set_number set.Three = 3

-- a side's two stacks
abbrev pub halves : List Half
halves = Lower ∷ Higher ∷ []

-- which of them
abbrev pub half_number : Half → ℕ
half_number Lower = 0
half_number Higher = 1

-- Rn, Rn+N, Rn N+, Rn+N+, Rn+s0, Rn s0+ and Rn+s0+
abbrev pub modes : List Mode
modes = Still ∷ Plus index.N ∷ Step index.N ∷ PlusStep index.N ∷ Plus index.Top ∷ Step index.Top ∷ PlusStep index.Top ∷ []

-- a mode's number
abbrev pub mode_number : Mode → ℕ
mode_number Still = 0
mode_number (Plus index.N) = 1
mode_number (Step index.N) = 2
mode_number (PlusStep index.N) = 3
mode_number (Plus index.Top) = 4
mode_number (Step index.Top) = 5
mode_number (PlusStep index.Top) = 6

-- the registers of a set
abbrev pub registers : List Register
registers = R ∷ N ∷ L ∷ F ∷ []

-- a register's number
abbrev pub register_number : Register → ℕ
register_number R = 0
register_number N = 1
register_number L = 2
register_number F = 3
