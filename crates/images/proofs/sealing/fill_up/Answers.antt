use Rattle.std.proofs.Common.{◌++◌, length, ap, ◌∙◌}
use Rattle.std.proofs.lemmas.List.{drop-replicate}
use Rattle.images.proofs.sealing.fill_up.Goals as goal

pub returns : goal.returns
returns c =
    let part = c.args.part.now in
    rw (c.copy_from_slice.ensures.after) (ap (λ rest. part ++ rest) (c.split_at_mut-front.ensures.back ∙ drop-replicate (length part) 496 0))
