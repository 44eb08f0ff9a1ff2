use Rattle.std.proofs.Common.{◌&&◌, eqb, rules, refl, ◌∙◌, tests}
use Rattle.std.specs.List.{list_all}
use Rattle.std.proofs.lemmas.Iterator.{YieldsList-from_slice}
use Rattle.std.proofs.lemmas.Iterator.Search.{all_from_yields_List}
use Rattle.std.proofs.lemmas.List.Recursion.{same_from_clauses}
use Rattle.blocks.specs.Layout.{all_zero}
use Rattle.blocks.proofs.opening.all_zero.Goals as goal

pub returns : goal.returns
returns c =
    all_from_yields_List (λ b. eqb b 0) _ _ _ c.all.ensures.ran (YieldsList-from_slice c.args.bytes.now cc) (λ x b q k. search (rules, tests))
    ∙ same_from_clauses (list_all (λ b. eqb b 0)) all_zero (λ b later. eqb b 0 && later) refl (λ _ _. refl) (λ _ _. refl) c.args.bytes.now
