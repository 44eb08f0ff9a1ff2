use Rattle.std.proofs.Common.{◌≡◌, rules, None, vec_items, ap, ◌∙◌, arith}
use Rattle.questions.specs.Questions.{first_no}
use Rattle.blocks.specs.Kinds.{kind_byte}
use Rattle.blocks.specs.Layout.{sealed}
use Rattle.blocks.proofs.Bytes.{bytes_from}
use Rattle.images.specs.Images.{blocks_for, filled_to, read_back, sealed_all, sizes}
use Rattle.images.proofs.ReadsBack.{reads_back_all}
use Rattle.images.proofs.SealedFrom.{sealed_more}
use Rattle.images.proofs.sealing.seal_all.Goals as goal

pub loop-place-preserved : goal.loop-place-preserved
loop-place-preserved c =
    let kind = kind_byte c.args.kind in
    let part = c.in-Some.part.now in
    let step = c.in-Some.ensures.steps in
    let size = c.loop-place.invariant.size in
    let fits = rw size at step.0.1.1 in
    let made : c.seal_block.result ≡ sealed kind c.loop-place.place-iterator.count (filled_to 496 part) = rw (← step.1, ← c.fill_up-payload.ensures) c.seal_block.ensures in
    let more = sealed_more kind c.loop-place.place-iterator.count _ part _ _ (vec_items c.loop-place.image) c.seal_block.result step.0.1.0 fits step.0.1.2 c.loop-place.invariant.whole made in
    record {
      whole = rw (c.in_ok-extend_from_slice.ensures.items, step.2) more.0;
      counted = omega (arith, step.2, more.1, c.loop-place.invariant.counted);
      size = step.0.0 ∙ size;
    }

pub returns-clause-back : goal.returns-clause-back
returns-clause-back c =
    let kind = c.args.kind in
    let bytes = c.args.bytes.now in
    let passes : first_no (sizes kind (blocks_for bytes)) ≡ None = search rules in
    let whole : vec_items c.loop-place.image ≡ sealed_all kind bytes = search rules in
    ap (read_back kind) whole ∙ reads_back_all kind bytes (bytes_from bytes (λ i. (c.type_inv.bytes i).fits)) passes
