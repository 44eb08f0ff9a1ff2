-- A branch: a condition byte, the stacks that are asked, and an offset of two bytes.
use Rattle.std.specs.Prelude.{ℕ, ◌+◌, ◌*◌, ◌/◌, ◌%◌, cond, ◌&&◌, List, [], ◌∷◌, ◌++◌, Some, None, Option, ◌==◌}
use Rattle.branches.specs.Checks.{decoded_check, encoded_check}
use Rattle.branches.specs.Offsets.{decoded_offset, encoded_offset}
use Rattle.branches.specs.Stacks.{decoded_stacks, encoded_stacks}
use Rattle.branches.specs.declared.branch.Branch.{Branch}
use Rattle.branches.specs.declared.branch.Choice.{Choice}
use Rattle.branches.specs.declared.branch.Needed.{Needed}
use Rattle.branches.specs.declared.branch.Needed.TheVariants.{One, All}
use Rattle.branches.specs.declared.checks.Check.{Check}
use Rattle.branches.specs.declared.offset.Offset.{Offset}
use Rattle.branches.specs.declared.stacks.Stacks.{Stacks}
use Rattle.std.specs.Option.{option_map}
use Rattle.std.specs.List.{slice_get}

-- bit 4 of the byte that names stacks: clear, one is enough; set, all must hold
abbrev pub neededs : List Needed
neededs = One ∷ All ∷ []

-- that bit
abbrev pub needed_number : Needed → ℕ
needed_number One = 0
needed_number All = 1

-- a choice of its three parts, if they are all there
abbrev pub choice_of : Option Check → Option Stacks → Option Needed → Option Choice
choice_of None stacks needed = None
choice_of (Some check) None needed = None
choice_of (Some check) (Some stacks) None = None
choice_of (Some check) (Some stacks) (Some needed) = Some (record { check = check; stacks = stacks; needed = needed })

-- the choice that a condition byte and the byte of the stacks mean
abbrev pub decoded_choice : ℕ → ℕ → Option Choice
decoded_choice condition named = choice_of (decoded_check condition) (decoded_stacks (named % 16)) (slice_get neededs (named / 16))

-- the two bytes of a choice
abbrev pub encoded_choice : Choice → List ℕ
encoded_choice choice = encoded_check choice.check ∷ (encoded_stacks choice.stacks + 16 * needed_number choice.needed) ∷ []

-- naming no stack means always, and then both bytes are 0
abbrev pub decoded_taken : ℕ → ℕ → Option (Option Choice)
decoded_taken condition named = cond (condition == 0 && named == 0) (Some None) (option_map Some (decoded_choice condition named))

-- the two bytes
abbrev pub encoded_taken : Option Choice → List ℕ
encoded_taken None = 0 ∷ 0 ∷ []
encoded_taken (Some choice) = encoded_choice choice

-- a branch of its two parts, if they are both there
abbrev pub branch_of : Option (Option Choice) → Option Offset → Option Branch
branch_of None offset = None
branch_of (Some choice) None = None
branch_of (Some choice) (Some offset) = Some (record { choice = choice; offset = offset })

-- the branch that four bytes mean
abbrev pub decoded_branch : ℕ → ℕ → ℕ → ℕ → Option Branch
decoded_branch condition named high low = branch_of (decoded_taken condition named) (decoded_offset high low)

-- the four bytes of a branch
abbrev pub encoded_branch : Branch → List ℕ
encoded_branch branch = encoded_taken branch.choice ++ encoded_offset branch.offset
