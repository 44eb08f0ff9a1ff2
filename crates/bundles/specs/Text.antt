-- Bundles as people write them: the operations, then the tail, with semicolons between.
use Rattle.std.specs.Prelude.{ℕ, map, List, [], ◌∷◌, ◌++◌, codes}
use Rattle.branches.specs.Text.{branch_text, check_text, target_text}
use Rattle.bundles.specs.declared.bundle.Bundle.{Bundle}
use Rattle.bundles.specs.declared.ending.Ending.{Ending}
use Rattle.bundles.specs.declared.ending.Ending.TheVariants.{Slot, Call, Jump}
use Rattle.bundles.specs.declared.tails.Setup.{Setup}
use Rattle.bundles.specs.declared.tails.Tail.{Tail}
use Rattle.bundles.specs.declared.tails.Tail.TheVariants as tail
use Rattle.moves.specs.Text.{move_text}
use Rattle.moves.specs.declared.side.Side.TheVariants.{Even, Odd}
use Rattle.operations.specs.Text.{operation_text}

-- a semicolon between two texts
abbrev pub beside : List ℕ → List ℕ → List ℕ
beside left right = left ++ (codes "; " ++ right)

-- texts in a row
abbrev pub in_a_row : List (List ℕ) → List ℕ
in_a_row [] = []
in_a_row (text ∷ []) = text
in_a_row (text ∷ next ∷ texts) = beside text (in_a_row (next ∷ texts))

-- the checks of stacks 0 to 3
abbrev pub setup_text : Setup → List ℕ
setup_text setup = in_a_row (map check_text setup.checks)

-- both moves, four checks, or a branch
abbrev pub tail_text : Tail → List ℕ
tail_text (tail.Moves even odd) = beside (move_text Even even) (move_text Odd odd)
tail_text (tail.Setup setup) = setup_text setup
tail_text (tail.Branch branch) = branch_text branch

-- slot 3 and the tail, or a call or a jump in the place of both
abbrev pub ending_text : Ending → List ℕ
ending_text (Slot operation tail) = beside (operation_text operation) (tail_text tail)
ending_text (Call target) = codes "call " ++ target_text target
ending_text (Jump target) = codes "jmp " ++ target_text target

-- a bundle
abbrev pub bundle_text : Bundle → List ℕ
bundle_text bundle = in_a_row (map operation_text bundle.slots ++ ending_text bundle.ending ∷ [])
