use Rattle.std.proofs.Common.{subst, below_more, arith}
use Rattle.naming.specs.Naming.{NamedAt}
use Rattle.naming.proofs.named_by.Goals as goal

pub loop-argument-preserved : goal.loop-argument-preserved
loop-argument-preserved c =
    below_more _ _ c.loop-argument.invariant
    (subst (NamedAt c.args.number c.loop-argument.argument c.args.text.now) c.in_default.is c.in_ok-operation.ensures)

pub returns-in_default : goal.returns-in_default
returns-in_default c argument small =
    below_more _ _ c.loop-argument.invariant
    (subst (NamedAt c.args.number c.loop-argument.argument c.args.text.now) c.in_default.is c.in_ok-operation.ensures)
    argument (omega arith)
