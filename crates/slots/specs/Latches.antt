-- Which latch a stack's slot reads.
use Rattle.std.specs.Prelude.{ℕ}
use Rattle.operations.specs.declared.places.StackNumber.{StackNumber}
use Rattle.operations.specs.declared.places.StackNumber.TheVariants.{Zero, One, Two, Three}
use Rattle.slots.specs.declared.latches.Latches.{Latches}

-- stacks 0 and 1 share one, stacks 2 and 3 the other
abbrev pub latch_of : Latches → StackNumber → ℕ
latch_of latches Zero = latches.low
latch_of latches One = latches.low
latch_of latches Two = latches.high
latch_of latches Three = latches.high
