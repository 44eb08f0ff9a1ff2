use Rattle.std.proofs.Common.{ℕ, ℤ, ap, ◌∙◌, rules, w16, SFits, to_z, of_z}
use Rattle.branches.specs.Offsets.{offset_of}
use Rattle.branches.proofs.Made.{offset_of_bundles}
use Rattle.std.specs.Int.{from_be_bytes, to_be_bytes}
use Rattle.std.proofs.Math.Facts.{Fits-of_z}
use Rattle.std.proofs.lemmas.Int.{to_z-of_z}
use Rattle.std.proofs.lemmas.Nat.{from_be_bytes-to_be_bytes_2}
use Rattle.branches.proofs.offset.OffsetCoded2.encode.Goals as goal

pub returns-clause-back : goal.returns-clause-back
returns-clause-back c =
    let bundles = c.args.self.bundles in
    let fits : SFits w16 bundles = search rules in
    let there = to_z-of_z w16 bundles fits in
    let bytes = c.to_be_bytes.ensures ∙ ap (λ (z : ℤ). to_be_bytes w16 (of_z w16 z)) there in
    let joined = ap (from_be_bytes w16) bytes ∙ from_be_bytes-to_be_bytes_2 (of_z w16 bundles) (Fits-of_z fits).fits in
    ap (λ (n : ℕ). offset_of (to_z w16 n)) joined ∙ ap offset_of there ∙ offset_of_bundles c.args.self
