use Rattle.std.proofs.Common.{◌≡◌, pos, ◌+ℤ◌, sym, ap, ◌∙◌, subst, arith, w64, to_z, of_z}
use Rattle.std.proofs.lemmas.Int.{ints}
use Rattle.std.proofs.lemmas.Bool.Decides.{nat_tests}
use Rattle.words.specs.Sums.{ExactlyUnlessOverflow, addc}
use Rattle.words.specs.Words.{bit, outside, signed}
use Rattle.words.proofs.Exactness.{addc_exact, bit_below}
use Rattle.words.proofs.sums.addc.Goals as goal

pub overflow_add-sum-2 : goal.overflow_add-sum-2
overflow_add-sum-2 c = omega (arith, ints, bit_below c.args.c)

pub returns-clause-value : goal.returns-clause-value
returns-clause-value c =
    let z : to_z w64 (of_z w64 (to_z w64 (of_z w64 (to_z w64 (of_z w64 c.from.result) +ℤ to_z w64 (of_z w64 c.from-2.result))) +ℤ to_z w64 (of_z w64 c.from-3.result))) ≡ signed c.args.n1 +ℤ signed c.args.n2 +ℤ pos (bit c.args.c) = omega (arith, ints, bit_below c.args.c) in
    let o : c.is_outside.result ≡ (addc c.args.n1 c.args.n2 c.args.c).flags.overflow = c.is_outside.ensures ∙ ap outside z in
    let w : c.carrying_add-word.result.0 ≡ (addc c.args.n1 c.args.n2 c.args.c).word = grind (arith, nat_tests) in
    let k : c.carrying_add-word.result.1 ≡ (addc c.args.n1 c.args.n2 c.args.c).flags.carry = grind (arith, nat_tests) in
    λ i. record { word = w i; flags = record { carry = k i; overflow = o i } }

pub returns-clause-exact : goal.returns-clause-exact
returns-clause-exact c =
    subst (ExactlyUnlessOverflow (signed c.args.n1 +ℤ signed c.args.n2 +ℤ pos (bit c.args.c))) (sym (returns-clause-value c)) (addc_exact c.args.n1 c.args.n2 c.args.c (omega arith) (omega arith))
