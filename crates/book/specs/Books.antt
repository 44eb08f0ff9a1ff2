-- A read-only image of table blocks as a memory.
use Rattle.std.specs.Prelude.{◌≡◌, ℕ, ◌*◌, ◌/◌, ◌%◌, ◌<◌, Bool, false, List, map, length, take, drop, is_ok, Ok, Err, Option, Result, IfSome, option_map, slice_index, slice_index_or}
use Rattle.std.specs.Result.{result_ok}
use Rattle.std.specs.Borrow.{Bor}
use Rattle.std.specs.List.{range_with_len}
use Rattle.blocks.specs.Asking.{opened}
use Rattle.blocks.specs.Kinds.{kind_byte}
use Rattle.blocks.specs.declared.kinds.Kind.TheVariants.{Table}
use Rattle.blocks.specs.declared.refusals.BlockRefusal.{BlockRefusal}
use Rattle.images.specs.Images.{blocks_in, measured}
use Rattle.images.specs.declared.refusals.ImageRefusal.{ImageRefusal}
use Rattle.memory.specs.Cells.{Cell, kept_cell, spoiled_cell}

-- is the image as many whole blocks as a table may have?
abbrev pub book_asks : List ℕ → Option ImageRefusal
book_asks = measured Table

-- the block at a place
abbrev pub block_at : List ℕ → ℕ → List ℕ
block_at image place = take 512 (drop (512 * place) image)

-- what the block at a place gives when it is opened as a table's
abbrev pub table_at : List ℕ → ℕ → Result (List ℕ) BlockRefusal
table_at image place = opened (kind_byte Table) place (block_at image place)

-- a byte of a payload is kept, and one of a block that gives none is spoiled
abbrev pub cell_in : Result (List ℕ) BlockRefusal → ℕ → Cell
cell_in (Ok payload) i = kept_cell (slice_index payload i)
cell_in (Err e) i = spoiled_cell

-- an address: byte a mod 496 of the payload of block a div 496
abbrev pub book_cell : List ℕ → ℕ → Cell
book_cell image at = cell_in (table_at image (at / 496)) (at % 496)

-- how many addresses a book has
abbrev pub book_size : List ℕ → ℕ
book_size image = 496 * blocks_in image

-- what a book means
unfoldable pub book_cells : List ℕ → List Cell
book_cells image = map (book_cell image) (range_with_len 0 (book_size image))

-- the payload of the block at a place, if the block is sound
abbrev pub payload_at : List ℕ → ℕ → Option (List ℕ)
payload_at image place = result_ok (table_at image place)

-- is that block sound?
abbrev pub sound_at : List ℕ → ℕ → Bool
sound_at image place = is_ok (table_at image place)

-- these flags say of each block of an image, in order, whether it is sound
abbrev pub Sounds : List ℕ → List Bool → Type 0
Sounds image flags = (length flags ≡ blocks_in image)
    × ((place : ℕ) → place < blocks_in image → slice_index_or flags place false ≡ sound_at image place)

-- this is the payload of the block of an address
pub record IsShelvedAt (image : List ℕ) (at : ℕ) (payload : Option (Bor (List ℕ))) : Type 0 where
  pub inside : at / 496 < blocks_in image
  pub gives : option_map (λ bytes. bytes.now) payload ≡ payload_at image (at / 496)
  pub long : IfSome payload (λ bytes. length bytes.now ≡ 496)
