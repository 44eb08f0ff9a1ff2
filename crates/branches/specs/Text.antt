-- Conditions and branches as people write them.
use Rattle.std.specs.Prelude.{ℕ, Bool, false, cond, ◌||◌, List, [], ◌∷◌, ◌++◌, Some, None, Option, codes, decimal, ◌==◌}
use Rattle.branches.specs.Stacks.{named_count, names}
use Rattle.branches.specs.declared.branch.Branch.{Branch}
use Rattle.branches.specs.declared.branch.Choice.{Choice}
use Rattle.branches.specs.declared.branch.Needed.{Needed}
use Rattle.branches.specs.declared.branch.Needed.TheVariants as needed
use Rattle.branches.specs.declared.checks.Check.{Check}
use Rattle.branches.specs.declared.offset.Offset.{Offset}
use Rattle.branches.specs.declared.offset.TooFar.{TooFar}
use Rattle.branches.specs.declared.stacks.Stacks.{Stacks}
use Rattle.branches.specs.declared.targets.NoBundle.{NoBundle}
use Rattle.branches.specs.declared.targets.Target.{Target}
use Rattle.operations.specs.Places.{stacks}
use Rattle.operations.specs.Text.{stack_text}
use Rattle.operations.specs.declared.places.StackNumber.{StackNumber}
use Rattle.std.specs.Fmt.{signed_decimal}
use Rattle.words.specs.Numbers.{condition_word}

-- a question mark if it pops, else a colon
abbrev pub check_text : Check → List ℕ
check_text check = cond check.pops (codes "?" ++ condition_word check.condition) (codes ":" ++ condition_word check.condition)

-- a signed number of bundles
abbrev pub offset_text : Offset → List ℕ
offset_text offset = signed_decimal offset.bundles

-- an address
abbrev pub target_text : Target → List ℕ
target_text target = decimal target.address

-- what is said of an offset that is too far
abbrev pub too_far_text : TooFar → List ℕ
too_far_text error = codes "a branch by " ++ (signed_decimal error.bundles ++ codes " bundles goes too far")

-- what is said of an address where no bundle stands
abbrev pub no_bundle_text : NoBundle → List ℕ
no_bundle_text error = codes "no bundle stands at address " ++ decimal error.address

-- between stacks of which one is enough, or of which all must hold
abbrev pub separator : Needed → List ℕ
separator needed.One = codes "|"
separator needed.All = codes "&"

-- a stack in a row: nothing if it is not named, a separator first if it follows another
abbrev pub piece_text : Needed → Bool → Bool → StackNumber → List ℕ
piece_text needed follows named stack = cond named (cond follows (separator needed ++ stack_text stack) (stack_text stack)) (codes "")

-- stacks in a row, the first of which follows another or not
abbrev pub row_text : Needed → Stacks → Bool → List StackNumber → List ℕ
row_text needed s follows [] = []
row_text needed s follows (stack ∷ others) = piece_text needed follows (names s stack) stack ++ row_text needed s (follows || names s stack) others

-- the named stacks in a row
abbrev pub stacks_text : Needed → Stacks → List ℕ
stacks_text needed s = row_text needed s false stacks

-- whether all must hold of so many
abbrev pub all_of : Needed → ℕ → Bool
all_of needed.One count = false
all_of needed.All count = count == 1

-- whether all must hold of one stack alone, so that no separator says so
abbrev pub is_lone : Choice → Bool
is_lone choice = all_of choice.needed (named_count choice.stacks)

-- the stacks, then what is asked of them
abbrev pub choice_text : Choice → List ℕ
choice_text choice =
    cond (is_lone choice) (stacks_text choice.needed choice.stacks ++ (codes "& " ++ check_text choice.check))
    (stacks_text choice.needed choice.stacks ++ (codes " " ++ check_text choice.check))

-- a branch that is taken always, or by what stacks say
abbrev pub taken_text : Option Choice → Offset → List ℕ
taken_text None offset = codes "br " ++ offset_text offset
taken_text (Some choice) offset = codes "br " ++ (choice_text choice ++ (codes " " ++ offset_text offset))

-- a branch
abbrev pub branch_text : Branch → List ℕ
branch_text branch = taken_text branch.choice branch.offset
