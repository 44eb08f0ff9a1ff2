-- Images: payloads sealed in order, and read back.
use Rattle.std.specs.Prelude.{ℕ, zero, suc, ◌+◌, ◌-◌, ◌/◌, ◌%◌, min, Bool, cond, List, [], ◌∷◌, ◌++◌, length, take, drop, replicate, Some, None, Option, Result, ◌==◌, nat_le, slice_index}
use Rattle.questions.specs.Questions.{first_no, answered, or_else}
use Rattle.blocks.specs.Asking.{opening}
use Rattle.blocks.specs.Kinds.{kind_byte, most_blocks}
use Rattle.blocks.specs.Layout.{sealed, payload_of}
use Rattle.blocks.specs.declared.kinds.Kind.{Kind}
use Rattle.blocks.specs.declared.kinds.Kind.TheVariants.{Code, Table}
use Rattle.blocks.specs.declared.refusals.BlockRefusal.{BlockRefusal}
use Rattle.images.specs.declared.refusals.ImageRefusal.{ImageRefusal}
use Rattle.images.specs.declared.refusals.ImageRefusal.TheVariants.{Length, Block}

-- a table's first byte is a table's kind; every other image is asked as code
abbrev pub kind_of : List ℕ → Kind
kind_of image = cond (slice_index image 0 == 2) Table Code

-- how many whole blocks an image has
abbrev pub blocks_in : List ℕ → ℕ
blocks_in image = length image / 512

-- are there as many blocks as an image of a kind may have?
abbrev pub sizes : Kind → ℕ → List (Bool × ImageRefusal)
sizes kind blocks = (nat_le 1 blocks, Length) ∷ (nat_le blocks (most_blocks kind), Length) ∷ []

-- the first no to an image's length
abbrev pub measured : Kind → List ℕ → Option ImageRefusal
measured kind image = first_no (((length image % 512 == 0), Length) ∷ sizes kind (blocks_in image))

-- a refusal of the block at a place
abbrev pub in_block : ℕ → Option BlockRefusal → Option ImageRefusal
in_block place None = None
in_block place (Some refusal) = Some (Block place refusal)

-- the first no to some blocks, from a place on
abbrev pub blocks_asked : ℕ → ℕ → ℕ → List ℕ → Option ImageRefusal
blocks_asked kind place zero bytes = None
blocks_asked kind place (suc n) bytes = or_else (in_block place (opening kind place (take 512 bytes))) (blocks_asked kind (place + 1) n (drop 512 bytes))

-- the first no to an image: is it as many whole blocks as it may be, and does each one open?
abbrev pub checking : Kind → List ℕ → Option ImageRefusal
checking kind image = or_else (measured kind image) (blocks_asked (kind_byte kind) 0 (blocks_in image) image)

-- the payloads of some blocks, one after the other
abbrev pub payloads_of : ℕ → List ℕ → List ℕ
payloads_of zero bytes = []
payloads_of (suc n) bytes = payload_of (take 512 bytes) ++ payloads_of n (drop 512 bytes)

-- what an image gives when it is read
abbrev pub read_back : Kind → List ℕ → Result (List ℕ) ImageRefusal
read_back kind image = answered (checking kind image) (payloads_of (blocks_in image) image)

-- how many payloads it takes to hold some bytes
abbrev pub blocks_for : List ℕ → ℕ
blocks_for bytes = length bytes / 496 + min 1 (length bytes % 496)

-- bytes filled up with zeros to a length
abbrev pub filled_to : ℕ → List ℕ → List ℕ
filled_to n bytes = bytes ++ replicate (n - length bytes) 0

-- bytes cut into payloads, the last one filled up, and sealed under numbers from a place on
abbrev pub sealed_from : ℕ → ℕ → ℕ → List ℕ → List ℕ
sealed_from kind place zero bytes = []
sealed_from kind place (suc n) bytes = sealed kind place (filled_to 496 (take 496 bytes)) ++ sealed_from kind (place + 1) n (drop 496 bytes)

-- the image of some bytes
abbrev pub sealed_all : Kind → List ℕ → List ℕ
sealed_all kind bytes = sealed_from (kind_byte kind) 0 (blocks_for bytes) bytes
