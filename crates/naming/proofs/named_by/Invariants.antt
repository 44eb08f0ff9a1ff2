use Rattle.std.proofs.Common.{ℕ, ◌<◌}
use Rattle.naming.specs.Naming.{NotWritten}
use Rattle.operations.specs.Operations.{decoded_operation}
use Rattle.naming.proofs.named_by.Given as goal

abbrev pub invariant-loop-argument : goal.invariant-loop-argument
invariant-loop-argument l = (k : ℕ) → k < l.argument → NotWritten l.text (decoded_operation l.number k)
