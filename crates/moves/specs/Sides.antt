-- The stacks that a side serves: 0 and 2 the even one, 1 and 3 the odd one.
use Rattle.moves.specs.declared.parts.Half.{Half}
use Rattle.moves.specs.declared.parts.Half.TheVariants.{Lower, Higher}
use Rattle.moves.specs.declared.side.Side.{Side}
use Rattle.moves.specs.declared.side.Side.TheVariants.{Even, Odd}
use Rattle.operations.specs.declared.places.StackNumber.{StackNumber}
use Rattle.operations.specs.declared.places.StackNumber.TheVariants.{Zero, One, Two, Three}

-- a side's stack
abbrev pub stack_on : Side → Half → StackNumber
stack_on Even Lower = Zero
stack_on Even Higher = Two
stack_on Odd Lower = One
stack_on Odd Higher = Three
