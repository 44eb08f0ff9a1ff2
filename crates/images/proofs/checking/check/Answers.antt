use Rattle.std.proofs.Common.{Ok, ◌≡◌, ◌∙◌, None, Some, sym, ap}
use Rattle.std.proofs.lemmas.Result.{err_from_is_err_and}
use Rattle.std.proofs.lemmas.List.{at_drop_all}
use Rattle.questions.proofs.Answered.{accepted, given, refused}
use Rattle.blocks.specs.Kinds.{kind_byte}
use Rattle.images.specs.Images.{blocks_in, blocks_asked, measured}
use Rattle.images.proofs.BlocksAsked.{asked_of, asked_is, passes, stops}
use Rattle.images.proofs.checking.check.Goals as goal

pub loop-place-preserved : goal.loop-place-preserved
loop-place-preserved c =
    passes (kind_byte c.args.kind) c.loop-place.place c.as_chunks.result.0.now c.loop-place-test.true c.loop-place.invariant
    (accepted _ tt c.in_ok-check_block.field-0 (sym c.check_block.ensures ∙ c.in_ok-check_block.was))

pub returns-in_err-check_block : goal.returns-in_err-check_block
returns-in_err-check_block c =
    let image = c.args.image.now in
    let kind = kind_byte c.args.kind in
    let count = sym c.count_blocks.ensures ∙ c.in_ok-count.was in
    let long : measured c.args.kind image ≡ None = accepted _ _ _ count in
    let e = c.in_err-check_block.field-0.0 in
    let no = refused _ tt e (sym c.check_block.ensures ∙ c.in_err-check_block.was) in
    let first : blocks_asked kind 0 (blocks_in image) image ≡ Some e =
    asked_is kind 0 (blocks_in image) image ∙ ap (asked_of kind 0) (sym c.as_chunks.ensures.front) ∙ stops kind c.loop-place.place c.as_chunks.result.0.now c.loop-place-test.true c.loop-place.invariant e no in
    let p = err_from_is_err_and c.from_residual-in_err-check_block.result c.from_residual-in_err-check_block.ensures.1 in
    rw (p.1, p.2) (rw (long, first))

pub returns : goal.returns
returns c =
    let image = c.args.image.now in
    let kind = kind_byte c.args.kind in
    let count = sym c.count_blocks.ensures ∙ c.in_ok-count.was in
    let long : measured c.args.kind image ≡ None = accepted _ _ _ count in
    let many = given _ _ _ count in
    let all : blocks_asked kind 0 (blocks_in image) image ≡ None =
    asked_is kind 0 (blocks_in image) image ∙ ap (asked_of kind 0) (sym c.as_chunks.ensures.front) ∙ sym c.loop-place.invariant ∙ at_drop_all (asked_of kind c.loop-place.place) c.as_chunks.result.0.now c.loop-place.place c.loop-place-test.false in
    rw (long, all) (ap Ok (sym many))
