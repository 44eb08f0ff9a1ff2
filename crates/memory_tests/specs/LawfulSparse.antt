-- Why a sparse memory keeps what every memory keeps. (A proof that the trait's members hold, so it stands here.)
use Rattle.std.specs.Prelude.{◌≡◌, ℕ, zero, suc, ◌≤◌, List, ◌∷◌, length}
use Rattle.std.proofs.Common.{refl, ap, arith, length-append}
use Rattle.std.proofs.lemmas.List.{length-replicate, length-map}
use Rattle.memory.specs.declared.marks.Mark.TheVariants as marks
use Rattle.memory.specs.Cells.{Lawful, cell_at, marks_of}
use Rattle.memory.specs.LawfulWorks.{all_sound, all_open}
use Rattle.memory_tests.specs.Sparse.{sparse_cells}

zeroed : (hole stamp : ℕ) (bytes : List ℕ) (at : ℕ) → (cell_at (sparse_cells hole stamp bytes) at).mark ≡ marks.Spoiled → (cell_at (sparse_cells hole stamp bytes) at).byte ≡ 0
zeroed zero stamp bytes zero e = cc
zeroed zero stamp bytes (suc at) e = all_sound bytes at e
zeroed (suc hole) stamp bytes zero e = refl
zeroed (suc hole) stamp bytes (suc at) e = zeroed hole stamp bytes at e

pub sparse_lawful : (hole stamp : ℕ) (bytes : List ℕ) → hole ≤ 4194287 → length bytes ≡ 16 → Lawful (sparse_cells hole stamp bytes)
sparse_lawful hole stamp bytes few full = record {
  bounded = simp (length-append, length-replicate, length-map) (omega arith);
  zeroed = zeroed hole stamp bytes;
}

pub sparse_marks : (hole s t : ℕ) (xs ys : List ℕ) → length xs ≡ length ys → marks_of (sparse_cells hole s xs) ≡ marks_of (sparse_cells hole t ys)
sparse_marks zero s t xs ys e = ap (λ l. marks.Kept ∷ l) (all_open xs ys e)
sparse_marks (suc hole) s t xs ys e = ap (λ l. marks.Spoiled ∷ l) (sparse_marks hole s t xs ys e)
