use Rattle.std.proofs.Common.{◌≡◌, ◌∙◌, ◌/◌, ◌++◌, [], ◌∷◌, None, Some, sym, ap, arith, length, take_all}
use Rattle.std.specs.Result.{result_ok}
use Rattle.std.proofs.lemmas.List.{at_drop_all}
use Rattle.std.proofs.lemmas.Result.{err_from_is_err_and}
use Rattle.std.specs.List.{filter_map}
use Rattle.program.specs.Loading.{unlawful, meant}
use Rattle.program.specs.declared.refusals.LoadRefusal.TheVariants.{Unlawful}
use Rattle.program.proofs.Decoding.{unlawful_of, unlawful_is, bundles_are, meaning, refuses, passes, gathers}
use Rattle.program.proofs.loading.decode_all.Goals as goal

pub returns-in_err-ok_or-clause-answers : goal.returns-in_err-ok_or-clause-answers
returns-in_err-ok_or-clause-answers c =
    let bytes = c.args.bytes.now in
    let chunks = c.as_chunks.result.0.now in
    let place = c.loop-place.place in
    let n = length bytes / 16 in
    let none : c.decode.result ≡ None = c.ok_or.ensures.ok_part ∙ ap result_ok c.in_err-ok_or.was in
    let first : unlawful 0 n bytes ≡ Some (Unlawful place) =
    unlawful_is 0 n bytes ∙ ap (unlawful_of 0) (sym c.as_chunks.ensures.front) ∙ refuses place chunks c.loop-place-test.true c.loop-place.invariant.asked (meaning _ _ c.decode.ensures.value ∙ none) in
    let is : Unlawful place ≡ c.in_err-ok_or.field-0.0 = let e = rw none at c.ok_or.ensures.value in let w = c.in_err-ok_or.was in cc (e, w) in
    let p = err_from_is_err_and c.from_residual-in_err-ok_or.result c.from_residual-in_err-ok_or.ensures.1 in
    rw (p.1, p.2) (first ∙ ap Some is)

pub loop-place-preserved : goal.loop-place-preserved
loop-place-preserved c =
    let here = c.loop-place-test.true in
    let inv = c.loop-place.invariant in
    let chunks = c.as_chunks.result.0.now in
    let pushed = c.push_reserved.ensures in
    let some = meaning _ _ c.decode.ensures.value ∙ c.ok_or.ensures.ok_part ∙ ap result_ok c.in_ok-ok_or.was in
    record {
      asked = passes c.loop-place.place chunks here inv.asked c.in_ok-ok_or.field-0 some;
      decoded = pushed.items ∙ ap (λ l. l ++ c.in_ok-ok_or.field-0 ∷ []) inv.decoded ∙ sym (gathers c.loop-place.place chunks here inv.asked _ some);
      counted = omega (arith, pushed.len, inv.counted);
      room = omega (arith, pushed.capacity, inv.room);
    }

pub returns-clause-answers : goal.returns-clause-answers
returns-clause-answers c =
    let bytes = c.args.bytes.now in
    let n = length bytes / 16 in
    let chunks = c.as_chunks.result.0.now in
    let over = c.loop-place-test.false in (
      unlawful_is 0 n bytes ∙ ap (unlawful_of 0) (sym c.as_chunks.ensures.front) ∙ sym c.loop-place.invariant.asked ∙ at_drop_all (unlawful_of c.loop-place.place) chunks c.loop-place.place over,
      c.loop-place.invariant.decoded ∙ ap (filter_map meant) (take_all _ _ over ∙ c.as_chunks.ensures.front) ∙ sym (bundles_are n bytes),
    )
