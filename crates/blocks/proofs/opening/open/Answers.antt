use Rattle.std.proofs.Common.{refl, ◌≡◌, rules, None, Some, sym, ap, ◌∙◌}
use Rattle.questions.specs.Questions.{answered}
use Rattle.questions.proofs.Answered.{passes, stops}
use Rattle.blocks.specs.Asking.{opening}
use Rattle.blocks.specs.Kinds.{kind_byte}
use Rattle.blocks.specs.Layout.{payload_of}
use Rattle.blocks.proofs.Asked.{sound, whole}
use Rattle.blocks.proofs.Bytes.{bytes_from}
use Rattle.blocks.proofs.OnlySealed.{only-sealed}
use Rattle.blocks.proofs.opening.open.Goals as goal

pub returns-in_err-ask-4-clause-answers : goal.returns-in_err-ask-4-clause-answers
returns-in_err-ask-4-clause-answers c =
    let asked = whole _ _ _ _ c.in_ok-header.header c.read.ensures (sym c.ok_or.ensures.value ∙ c.in_ok-header.was) c.from.result _ c.all_zero.result c.from.ensures c.all_zero.ensures refl in
    let no : opening (kind_byte c.args.kind) c.args.place c.args.bytes.now ≡ Some c.in_err-ask-4.field-0.0 =
    asked ∙ passes _ _ _ _ (sym c.ask.ensures ∙ c.in_ok-ask.was)
    ∙ passes _ _ _ _ (sym c.ask-2.ensures ∙ c.in_ok-ask-2.was)
    ∙ passes _ _ _ _ (sym c.ask-3.ensures ∙ c.in_ok-ask-3.was)
    ∙ stops _ _ _ _ (sym c.ask-4.ensures ∙ c.in_err-ask-4.was) in
    search rules

pub returns-in_err-ask-5-clause-answers : goal.returns-in_err-ask-5-clause-answers
returns-in_err-ask-5-clause-answers c =
    let asked = whole _ _ _ _ c.in_ok-header.header c.read.ensures (sym c.ok_or.ensures.value ∙ c.in_ok-header.was) c.from.result c.check_word-word.result c.all_zero.result c.from.ensures c.all_zero.ensures c.check_word-word.ensures in
    let no : opening (kind_byte c.args.kind) c.args.place c.args.bytes.now ≡ Some c.in_err-ask-5.field-0.0 =
    asked ∙ passes _ _ _ _ (sym c.ask.ensures ∙ c.in_ok-ask.was)
    ∙ passes _ _ _ _ (sym c.ask-2.ensures ∙ c.in_ok-ask-2.was)
    ∙ passes _ _ _ _ (sym c.ask-3.ensures ∙ c.in_ok-ask-3.was)
    ∙ passes _ _ _ _ (sym c.ask-4.ensures ∙ c.in_ok-ask-4.was)
    ∙ stops _ _ _ _ (sym c.ask-5.ensures ∙ c.in_err-ask-5.was) in
    search rules

pub returns : goal.returns
returns c =
    let kind = kind_byte c.args.kind in
    let xs = c.args.bytes.now in
    let asked = whole _ _ _ _ c.in_ok-header.header c.read.ensures (sym c.ok_or.ensures.value ∙ c.in_ok-header.was) c.from.result c.check_word-word.result c.all_zero.result c.from.ensures c.all_zero.ensures c.check_word-word.ensures in
    let none : opening kind c.args.place xs ≡ None =
    asked ∙ passes _ _ _ _ (sym c.ask.ensures ∙ c.in_ok-ask.was)
    ∙ passes _ _ _ _ (sym c.ask-2.ensures ∙ c.in_ok-ask-2.was)
    ∙ passes _ _ _ _ (sym c.ask-3.ensures ∙ c.in_ok-ask-3.was)
    ∙ passes _ _ _ _ (sym c.ask-4.ensures ∙ c.in_ok-ask-4.was)
    ∙ passes _ _ _ _ (sym c.ask-5.ensures ∙ c.in_ok-ask-5.was) in
    record {
      answers = sym (ap (λ o. answered o (payload_of xs)) none);
      exact = only-sealed kind c.args.place xs (bytes_from xs (λ i. (c.type_inv.bytes i).fits)) (sound kind c.args.place xs none);
    }
