use Rattle.std.proofs.Common.{◌^◌, ◌<◌, ap, ◌∙◌, rules, w32}
use Rattle.branches.specs.Targets.{target_of}
use Rattle.branches.proofs.Made.{target_of_address}
use Rattle.std.specs.Int.{from_be_bytes}
use Rattle.std.proofs.lemmas.Nat.{from_be_bytes-to_be_bytes_4}
use Rattle.branches.proofs.targets.TargetCoded4.encode.Goals as goal

pub returns-clause-back : goal.returns-clause-back
returns-clause-back c =
    let small : c.args.self.address < 2 ^ 32 = search rules in
    ap target_of (ap (from_be_bytes w32) c.to_be_bytes.ensures ∙ from_be_bytes-to_be_bytes_4 c.args.self.address small) ∙ target_of_address c.args.self
