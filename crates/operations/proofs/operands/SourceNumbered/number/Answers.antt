use Rattle.std.proofs.Common.{Some, sym, ap, ◌∙◌}
use Rattle.operations.proofs.Sources.{other_back}
use Rattle.operations.proofs.operands.SourceNumbered.number.Goals as goal

pub returns-in-Other-clause-back : goal.returns-in-Other-clause-back
returns-in-Other-clause-back c =
    let n = c.number-in-Other in
    let p = c.number-in-Other-2 in
    other_back n.result p.result c.in-Other.stack c.in-Other.near p.ensures.below n.ensures.back p.ensures.back ∙ ap Some (sym c.in-Other.is)
