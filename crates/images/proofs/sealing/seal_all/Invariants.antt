use Rattle.std.proofs.Common.{◌≡◌, ◌+◌, ◌++◌, vec_items}
use Rattle.blocks.specs.Kinds.{kind_byte}
use Rattle.images.specs.Images.{blocks_for, sealed_from, sealed_all}
use Rattle.images.proofs.sealing.seal_all.Given as goal

-- what is there, and then what is left, gives the whole
abbrev pub invariant-loop-place : goal.invariant-loop-place
invariant-loop-place l = record {
  whole : vec_items l.image ++ sealed_from (kind_byte l.kind) l.place-iterator.count (blocks_for l.place-iterator.iter.rest.now) l.place-iterator.iter.rest.now ≡ sealed_all l.kind l.bytes;
  counted : l.place-iterator.count + blocks_for l.place-iterator.iter.rest.now ≡ l.blocks;
  size : l.place-iterator.iter.size ≡ 496;
}
