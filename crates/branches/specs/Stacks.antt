-- The stacks that a branch names, one bit for each, stack 0 in the lowest.
use Rattle.std.specs.Prelude.{ℕ, ◌+◌, ◌*◌, ◌/◌, ◌%◌, Bool, false, cond, List, [], ◌∷◌, None, Option, ◌==◌, count_by, nat_lt, slice_index_or}
use Rattle.branches.specs.Made.{made_if}
use Rattle.branches.specs.Named.{any_of}
use Rattle.branches.specs.declared.stacks.Stacks.{Stacks}
use Rattle.codes.specs.Bits.{bit}
use Rattle.operations.specs.declared.places.StackNumber.{StackNumber}
use Rattle.operations.specs.declared.places.StackNumber.TheVariants.{Zero, One, Two, Three}

-- the stacks named, if there are any
abbrev pub stacks_of : List Bool → Option Stacks
stacks_of named = made_if (any_of named) (λ some. record { named = named; some = some })

-- whether a stack is among them
abbrev pub names : Stacks → StackNumber → Bool
names stacks Zero = slice_index_or stacks.named 0 false
names stacks One = slice_index_or stacks.named 1 false
names stacks Two = slice_index_or stacks.named 2 false
names stacks Three = slice_index_or stacks.named 3 false

-- how many they are
abbrev pub named_count : Stacks → ℕ
named_count stacks = count_by (λ named. named) stacks.named

-- the stacks that four bits name
abbrev pub decoded_stacks : ℕ → Option Stacks
decoded_stacks bits = cond (nat_lt bits 16) (stacks_of ((bits % 2 == 1) ∷ (bits / 2 % 2 == 1) ∷ (bits / 4 % 2 == 1) ∷ (bits / 8 == 1) ∷ [])) None

-- the four bits of named stacks
abbrev pub encoded_stacks : Stacks → ℕ
encoded_stacks stacks = bit (names stacks Zero) + 2 * bit (names stacks One) + 4 * bit (names stacks Two) + 8 * bit (names stacks Three)
