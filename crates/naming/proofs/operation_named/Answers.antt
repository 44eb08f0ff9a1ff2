use Rattle.std.proofs.Common.{subst, below_more}
use Rattle.naming.specs.Naming.{NamedBy}
use Rattle.naming.proofs.operation_named.Goals as goal

pub loop-number-preserved : goal.loop-number-preserved
loop-number-preserved c =
    below_more _ _ c.loop-number.invariant
    (subst (NamedBy c.loop-number.number c.args.text.now) c.in_default.is c.in_ok-operation.ensures)
