-- Why the caller's bytes keep what every memory keeps. (A proof that the trait's members hold, so it stands here.)
use Rattle.std.specs.Prelude.{◌≡◌, ℕ, zero, suc, List, [], ◌∷◌, map, length, take, refl}
use Rattle.std.proofs.Common.{◌∙◌, ap, arith, length-take}
use Rattle.std.proofs.lemmas.List.{length-map}
use Rattle.memory.specs.declared.marks.Mark.TheVariants as marks
use Rattle.memory.specs.Cells.{Lawful, Steady, cell_at, marks_of, open_cell}
use Rattle.memory.specs.Works.{open_cells, SameBytes}

-- open bytes are no spoiled ones
pub all_sound : (bytes : List ℕ) (at : ℕ) → (cell_at (map open_cell bytes) at).mark ≡ marks.Spoiled → (cell_at (map open_cell bytes) at).byte ≡ 0
all_sound [] at e = refl
all_sound (b ∷ bytes) zero e = cc
all_sound (b ∷ bytes) (suc at) e = all_sound bytes at e

pub opens_lawful : (bytes : List ℕ) → Lawful (open_cells bytes)
unfolding open_cells
opens_lawful bytes = record {
  bounded = simp (length-map, length-take) (omega arith);
  zeroed = all_sound (take 4194304 bytes);
}

-- equally many open bytes have equal marks
pub all_open : (xs ys : List ℕ) → length xs ≡ length ys → marks_of (map open_cell xs) ≡ marks_of (map open_cell ys)
all_open [] [] e = refl
all_open [] (y ∷ ys) e = absurd (omega arith)
all_open (x ∷ xs) [] e = absurd (omega arith)
all_open (x ∷ xs) (y ∷ ys) e = ap (λ l. marks.Open ∷ l) (all_open xs ys (omega arith))

pub opens_steady : Steady (λ bytes. open_cells bytes.now) SameBytes
unfolding open_cells
opens_steady = record {
  idle = λ x. record { name_is = refl; long = refl };
  onward = λ x y z p q. record { name_is = p.name_is ∙ q.name_is; long = p.long ∙ q.long };
  marks = λ x y p. all_open (take 4194304 x.now) (take 4194304 y.now) (simp (length-take, p.long));
}
