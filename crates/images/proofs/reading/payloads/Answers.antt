use Rattle.std.proofs.Common.{◌≡◌, vec_items, sym, ap, ◌∙◌, take_all}
use Rattle.std.specs.List.{flat_map}
use Rattle.questions.proofs.Answered.{accepted}
use Rattle.blocks.specs.Layout.{payload_of}
use Rattle.blocks.proofs.Bytes.{bytes_from}
use Rattle.images.specs.Images.{blocks_in, payloads_of, sealed_all}
use Rattle.images.proofs.OnlySealed.{only-sealed-all}
use Rattle.images.proofs.Payloads.{payloads_are}
use Rattle.images.proofs.reading.payloads.Goals as goal

pub returns : goal.returns
returns c =
    let image = c.args.image.now in
    let none = accepted _ _ _ (sym c.check.ensures ∙ c.in_ok-count.was) in
    let gathered : vec_items c.loop-block.bytes ≡ payloads_of (blocks_in image) image =
    c.loop-block.invariant ∙ ap (flat_map payload_of) (take_all _ _ c.loop-block-test.false ∙ c.as_chunks.ensures.front) ∙ sym (payloads_are (blocks_in image) image) in
    record {
      answers = (none, gathered);
      exact = only-sealed-all c.args.kind image (bytes_from image (λ i. (c.type_inv.image i).fits)) none ∙ sym (ap (sealed_all c.args.kind) gathered);
    }
