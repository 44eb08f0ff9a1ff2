use Rattle.std.proofs.Common.{◌≡◌, Bool, true, false, List, [], ◌∷◌, refl, sym, ◌∙◌}
use mathlib.Core.Bool.{beq}
use Rattle.branches.proofs.Made.{stacks_of_named}
use Rattle.branches.specs.Named.{any_of}
use Rattle.branches.proofs.stacks.Stacks.new.Goals as goal
use Rattle.std.specs.List.{list_any}

any_true : (named : List Bool) → list_any (λ is. beq is true) named ≡ any_of named
any_true [] = refl
any_true (true ∷ named) = refl
any_true (false ∷ named) = any_true named

pub invariant_of-result : goal.invariant_of-result
invariant_of-result c = record { some = sym (any_true c.args.named) ∙ sym c.contains.ensures.value ∙ c.if-contains.true }

pub returns-then-contains-clause-value : goal.returns-then-contains-clause-value
returns-then-contains-clause-value c = sym (stacks_of_named _)
