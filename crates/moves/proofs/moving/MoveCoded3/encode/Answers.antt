use Rattle.std.proofs.Common.{Some, sym, ap, ◌∙◌}
use Rattle.moves.proofs.Sizes.{load_back, store_back}
use Rattle.moves.proofs.moving.MoveCoded3.encode.Goals as goal

pub returns-in-Load-clause-back : goal.returns-in-Load-clause-back
returns-in-Load-clause-back c =
    load_back c.number.result c.number-in-Load.result c.in-Load.size c.in-Load.reach c.number.ensures.back c.number-in-Load.ensures.back ∙ ap Some (sym c.in-Load.is)

pub returns-in-Store-clause-back : goal.returns-in-Store-clause-back
returns-in-Store-clause-back c =
    store_back c.number-in-Store.result c.number-in-Store-2.result c.in-Store.size c.in-Store.reach c.number-in-Store.ensures.back c.number-in-Store-2.ensures.back ∙ ap Some (sym c.in-Store.is)
