-- A value that needs a fact is made where the fact is known.
use Rattle.std.proofs.Common.{◌≡◌, Bool, true, false, Some, refl, ap}
use mathlib.Core.Bool.{Bool-set}
use Rattle.branches.specs.Made.{made_if}
use Rattle.branches.specs.Offsets.{offset_of}
use Rattle.branches.specs.Stacks.{stacks_of}
use Rattle.branches.specs.Targets.{target_of}
use Rattle.branches.specs.declared.offset.Offset.{Offset}
use Rattle.branches.specs.declared.stacks.Stacks.{Stacks}
use Rattle.branches.specs.declared.targets.Target.{Target}

made_if-true : {A : Type 0} (is : Bool) (make : is ≡ true → A) (held : is ≡ true) → made_if is make ≡ Some (make held)
made_if-true true make held = ap (λ k. Some (make k)) (Bool-set true true refl held)
made_if-true false make held = cc

pub offset_of_bundles : (offset : Offset) → offset_of offset.bundles ≡ Some offset
offset_of_bundles offset = made_if-true _ _ offset.close

pub stacks_of_named : (stacks : Stacks) → stacks_of stacks.named ≡ Some stacks
stacks_of_named stacks = made_if-true _ _ stacks.some

pub target_of_address : (target : Target) → target_of target.address ≡ Some target
target_of_address target = made_if-true _ _ target.bundle
