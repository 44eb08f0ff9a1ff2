-- What a block says of itself.
use Rattle.std.specs.Prelude.{ℕ, cond, List, length, Some, None, Option, ◌==◌, slice_index}
use Rattle.blocks.specs.declared.headers.Header.{Header}
use Rattle.blocks.specs.Layout.{two_at, four_at}

-- the header and the check word of a whole block, sound or not
abbrev pub headed : List ℕ → Option Header
headed bytes = cond (length bytes == 512) (Some (record { kind = slice_index bytes 0; edition = slice_index bytes 1; number = two_at bytes 2; check = four_at bytes 508 })) None
