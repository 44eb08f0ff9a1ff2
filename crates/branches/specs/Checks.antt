-- Condition bytes: the condition in bits 0 to 3, and bit 4 if it pops.
use Rattle.std.specs.Prelude.{ℕ, ◌+◌, ◌*◌, ◌/◌, ◌%◌, Bool, Some, None, Option}
use Rattle.branches.specs.declared.checks.Check.{Check}
use Rattle.codes.specs.Bits.{bit, bits}
use Rattle.std.specs.List.{slice_get}
use Rattle.words.specs.Numbers.{condition_number, conditions}
use Rattle.words.specs.declared.condition.Condition.{Condition}

-- a check of a condition and its bit, if there are both
abbrev pub check_of : Option Condition → Option Bool → Option Check
check_of None pops = None
check_of (Some condition) None = None
check_of (Some condition) (Some pops) = Some (record { condition = condition; pops = pops })

-- the check that a byte means
abbrev pub decoded_check : ℕ → Option Check
decoded_check byte = check_of (slice_get conditions (byte % 16)) (slice_get bits (byte / 16))

-- the byte of a check
abbrev pub encoded_check : Check → ℕ
encoded_check check = condition_number check.condition + 16 * bit check.pops
