use Rattle.std.proofs.Common.{◌≡◌, rules, length, ap, ◌∙◌}
use Rattle.blocks.specs.Asking.{opened}
use Rattle.blocks.proofs.Bytes.{bytes_from}
use Rattle.blocks.proofs.ReadsBack.{reads_back}
use Rattle.blocks.proofs.sealing.seal.Goals as goal

pub returns-clause-back : goal.returns-clause-back
returns-clause-back c =
    let payload = c.args.payload.now in
    let long : length payload ≡ 496 = search rules in
    λ _. ap (opened c.args.kind c.args.number) c.lay.ensures ∙ reads_back c.args.kind c.args.number payload c.ranges.kind.fits c.ranges.number.fits long (bytes_from payload (λ i. (c.type_inv.payload i).fits))
