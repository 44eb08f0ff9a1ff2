use Rattle.std.proofs.Common.{◌≡◌, length, rules, ap, sym, ◌∙◌}
use Rattle.bundles.specs.Endings.{decoded_ending}
use Rattle.bundles.proofs.Sixteen.{decoded_is, listed}
use Rattle.bundles.proofs.bundle.BundleCoded16.decode.Goals as goal

pub returns-clause-value : goal.returns-clause-value
returns-clause-value c =
    let xs = c.args.bytes.now in
    let long : length xs ≡ 16 = search rules in
    let rest = c.in_ok-decode-4.ensures.value ∙ ap decoded_ending (sym (listed 0 10 6 xs (sym long))) in
    sym (decoded_is xs _ _ _ _ long (sym c.in_ok-decode.ensures.value) (sym c.in_ok-decode-2.ensures.value) (sym c.in_ok-decode-3.ensures.value) (sym rest))

pub returns-clause-only : goal.returns-clause-only
returns-clause-only c =
    let long : 16 ≡ length c.args.bytes.now = search rules in
    rw (c.in_ok-decode.ensures.only, c.in_ok-decode-2.ensures.only, c.in_ok-decode-3.ensures.only, c.in_ok-decode-4.ensures.only) (sym (listed 0 16 0 c.args.bytes.now long))
