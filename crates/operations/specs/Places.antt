-- Places in stacks and the stacks themselves, in the order of their numbers.
use Rattle.std.specs.Prelude.{ℕ, List, [], ◌∷◌}
use Rattle.operations.specs.declared.places.Place.{Place}
use Rattle.operations.specs.declared.places.Place.TheVariants as place
use Rattle.operations.specs.declared.places.Near.{Near}
use Rattle.operations.specs.declared.places.Near.TheVariants as near
use Rattle.operations.specs.declared.places.StackNumber.{StackNumber}
use Rattle.operations.specs.declared.places.StackNumber.TheVariants as stack

-- the eight places of a slot's own stack, from the top down
abbrev pub places : List Place
places = place.S0 ∷ place.S1 ∷ place.S2 ∷ place.S3 ∷ place.S4 ∷ place.S5 ∷ place.S6 ∷ place.S7 ∷ []

-- how far a place lies below the top
abbrev pub place_number : Place → ℕ
place_number place.S0 = 0
place_number place.S1 = 1
place_number place.S2 = 2
place_number place.S3 = 3
place_number place.S4 = 4
place_number place.S5 = 5
place_number place.S6 = 6
place_number place.S7 = 7

-- the four places near the top, from the top down
abbrev pub nears : List Near
nears = near.S0 ∷ near.S1 ∷ near.S2 ∷ near.S3 ∷ []

-- how far a near place lies below the top
abbrev pub near_number : Near → ℕ
near_number near.S0 = 0
near_number near.S1 = 1
near_number near.S2 = 2
near_number near.S3 = 3

-- the four stacks
abbrev pub stacks : List StackNumber
stacks = stack.Zero ∷ stack.One ∷ stack.Two ∷ stack.Three ∷ []

-- a stack's number
abbrev pub stack_number : StackNumber → ℕ
stack_number stack.Zero = 0
stack_number stack.One = 1
stack_number stack.Two = 2
stack_number stack.Three = 3
