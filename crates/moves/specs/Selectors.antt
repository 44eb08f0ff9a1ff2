-- Selector bytes: n in bits 0 and 1, the higher stack in bit 2, bit 3 is 0, and above them a mode or a register.
use Rattle.std.specs.Prelude.{ℕ, ◌+◌, ◌*◌, ◌/◌, ◌%◌, Some, None, Option}
use Rattle.moves.specs.Parts.{half_number, halves, mode_number, modes, register_number, registers, set_number, sets}
use Rattle.moves.specs.declared.parts.Half.{Half}
use Rattle.moves.specs.declared.parts.Mode.{Mode}
use Rattle.moves.specs.declared.parts.Register.{Register}
use Rattle.moves.specs.declared.parts.SetNumber.{SetNumber}
use Rattle.moves.specs.declared.selectors.Access.{Access}
use Rattle.moves.specs.declared.selectors.Port.{Port}
use Rattle.moves.specs.declared.selectors.Reach.{Reach}
use Rattle.std.specs.List.{slice_get}

-- a port of a set and a stack, if there are both
abbrev pub port_of : Option SetNumber → Option Half → Option Port
port_of None half = None
port_of (Some set) None = None
port_of (Some set) (Some half) = Some (record { set = set; stack = half })

-- the low half of a selector
abbrev pub decoded_port : ℕ → Option Port
decoded_port low = port_of (slice_get sets (low % 4)) (slice_get halves (low / 4))

-- a port as the low half of a selector
abbrev pub encoded_port : Port → ℕ
encoded_port port = set_number port.set + 4 * half_number port.stack

-- a reach of a port and a mode, if there are both
abbrev pub reach_of : Option Port → Option Mode → Option Reach
reach_of None mode = None
reach_of (Some port) None = None
reach_of (Some port) (Some mode) = Some (record { port = port; mode = mode })

-- the selector of a load or a store
abbrev pub decoded_reach : ℕ → Option Reach
decoded_reach selector = reach_of (decoded_port (selector % 16)) (slice_get modes (selector / 16))

-- the byte of such a selector
abbrev pub reach_selector : Reach → ℕ
reach_selector reach = encoded_port reach.port + 16 * mode_number reach.mode

-- an access of a port and a register, if there are both
abbrev pub access_of : Option Port → Option Register → Option Access
access_of None register = None
access_of (Some port) None = None
access_of (Some port) (Some register) = Some (record { register = register; port = port })

-- the selector of a set or a get
abbrev pub decoded_access : ℕ → Option Access
decoded_access selector = access_of (decoded_port (selector % 16)) (slice_get registers (selector / 16))

-- the byte of such a selector
abbrev pub access_selector : Access → ℕ
access_selector access = encoded_port access.port + 16 * register_number access.register
