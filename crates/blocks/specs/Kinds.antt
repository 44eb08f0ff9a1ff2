-- The two kinds of blocks.
use Rattle.std.specs.Prelude.{ℕ, cond, List, ◌++◌, Some, None, Option, Result, ok_or, codes, decimal, ◌==◌}
use Rattle.blocks.specs.declared.kinds.Kind.{Kind}
use Rattle.blocks.specs.declared.kinds.Kind.TheVariants.{Code, Table}
use Rattle.blocks.specs.declared.kinds.UnknownKind.{UnknownKind}

-- the byte that stands for a kind
abbrev pub kind_byte : Kind → ℕ
kind_byte Code = 1
kind_byte Table = 2

-- the kind that a byte stands for
abbrev pub kind_named : ℕ → Option Kind
kind_named byte = cond (byte == 1) (Some Code) (cond (byte == 2) (Some Table) None)

-- the kind that a byte is taken for, or that it is unknown
abbrev pub kind_of : ℕ → Result Kind UnknownKind
kind_of byte = ok_or (kind_named byte) (record { byte = byte })

-- how an unknown kind is shown
abbrev pub unknown_text : ℕ → List ℕ
unknown_text byte = codes "no kind of block has the byte " ++ decimal byte

-- how many blocks an image of a kind has at most
abbrev pub most_blocks : Kind → ℕ
most_blocks Code = 2048
most_blocks Table = 8192
