use Rattle.std.proofs.Common.{◌≡◌, ◌≤◌, length, take, drop, vec_items, vec_len, vec_capacity}
use Rattle.std.specs.List.{filter_map}
use Rattle.program.specs.Loading.{meant}
use Rattle.program.proofs.Decoding.{unlawful_of}
use Rattle.program.proofs.loading.decode_all.Given as goal

-- the bundles so far are lawful, and what is left of the questions gives the whole
abbrev pub invariant-loop-place : goal.invariant-loop-place
invariant-loop-place l = record {
  asked : unlawful_of l.place (drop l.place l.chunks) ≡ unlawful_of 0 l.chunks;
  decoded : vec_items l.bundles ≡ filter_map meant (take l.place l.chunks);
  counted : vec_len l.bundles ≡ l.place;
  room : length l.chunks ≤ vec_capacity l.bundles;
}
