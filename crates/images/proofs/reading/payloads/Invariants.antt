use Rattle.std.proofs.Common.{◌≡◌, take, vec_items}
use Rattle.std.specs.List.{flat_map}
use Rattle.blocks.specs.Layout.{payload_of}
use Rattle.images.proofs.reading.payloads.Given as goal

-- what is there are the payloads of the blocks so far
abbrev pub invariant-loop-block : goal.invariant-loop-block
invariant-loop-block l = vec_items l.bytes ≡ flat_map payload_of (take l.block-index l.blocks)
