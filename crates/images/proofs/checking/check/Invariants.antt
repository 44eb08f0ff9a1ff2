use Rattle.std.proofs.Common.{◌≡◌, drop}
use Rattle.blocks.specs.Kinds.{kind_byte}
use Rattle.images.proofs.BlocksAsked.{asked_of}
use Rattle.images.proofs.checking.check.Given as goal

-- what is left gives the whole
abbrev pub invariant-loop-place : goal.invariant-loop-place
invariant-loop-place l = asked_of (kind_byte l.kind) l.place (drop l.place l.blocks) ≡ asked_of (kind_byte l.kind) 0 l.blocks
