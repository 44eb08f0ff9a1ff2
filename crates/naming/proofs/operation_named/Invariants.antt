use Rattle.std.proofs.Common.{ℕ, ◌<◌}
use Rattle.naming.specs.Naming.{NotWritten}
use Rattle.operations.specs.Operations.{decoded_operation}
use Rattle.naming.proofs.operation_named.Given as goal

abbrev pub invariant-loop-number : goal.invariant-loop-number
invariant-loop-number l = (k : ℕ) → k < l.number → (argument : ℕ) → argument < 256 → NotWritten l.text (decoded_operation k argument)
