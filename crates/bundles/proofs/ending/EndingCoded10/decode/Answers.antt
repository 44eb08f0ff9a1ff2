use Rattle.std.proofs.Common.{◌≡◌, length, rules}
use Rattle.bundles.proofs.Sixteen.{listed}
use Rattle.bundles.proofs.ending.EndingCoded10.decode.Goals as goal

pub returns-in_ok-decode-in_default-2-clause-only :
    goal.returns-in_ok-decode-in_default-2-clause-only
returns-in_ok-decode-in_default-2-clause-only c =
    let long : 10 ≡ length c.args.bytes.now = search rules in
    let whole = listed 0 10 0 c.args.bytes.now long in
    rw (c.in_ok-decode-in_default.ensures.only, c.in_ok-decode-in_default-2.ensures.only) (cc)
