-- Why a book keeps what every memory keeps. (A proof that the trait's members hold, so it stands here.)
use Rattle.std.specs.Prelude.{◌≡◌, ℕ, zero, suc, ◌+◌, ◌/◌, ◌%◌, ◌≤◌, List, map, Ok, Err, Result, refl}
use Rattle.std.proofs.Common.{arith}
use Rattle.std.specs.List.{range_with_len}
use Rattle.std.proofs.lemmas.List.FromFn.{length-map-range_with_len}
use Rattle.blocks.specs.declared.refusals.BlockRefusal.{BlockRefusal}
use Rattle.images.specs.Images.{blocks_in}
use Rattle.memory.specs.declared.marks.Mark.TheVariants as marks
use Rattle.memory.specs.Cells.{Lawful, cell_at}
use Rattle.book.specs.Books.{book_cell, book_cells, book_size, cell_in, table_at}

cell-zeroed : (gives : Result (List ℕ) BlockRefusal) (i : ℕ) → (cell_in gives i).mark ≡ marks.Spoiled → (cell_in gives i).byte ≡ 0
cell-zeroed (Ok payload) i e = cc
cell-zeroed (Err r) i e = refl

zeroed_from : (image : List ℕ) (a n at : ℕ) → (cell_at (map (book_cell image) (range_with_len a n)) at).mark ≡ marks.Spoiled → (cell_at (map (book_cell image) (range_with_len a n)) at).byte ≡ 0
zeroed_from image a zero at = λ e. refl
zeroed_from image a (suc n) zero = cell-zeroed (table_at image (a / 496)) (a % 496)
zeroed_from image a (suc n) (suc at) = zeroed_from image (a + 1) n at

pub book_lawful : (image : List ℕ) → blocks_in image ≤ 8192 → Lawful (book_cells image)
unfolding book_cells
book_lawful image few = record {
  bounded = omega (arith, length-map-range_with_len (book_cell image) 0 (book_size image));
  zeroed = zeroed_from image 0 (book_size image);
}
