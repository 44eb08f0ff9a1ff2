-- Why a join keeps what every memory keeps. (A proof that the trait's members hold, so it stands here.)
use Rattle.std.specs.Prelude.{◌≡◌, ℕ, zero, suc, List, [], ◌∷◌, ◌++◌, take, refl}
use Rattle.std.proofs.lemmas.List.{map-append, take-map}
use Rattle.std.proofs.Common.{sym, ap, ◌∙◌, arith, length-take}
use Rattle.memory.specs.declared.marks.Mark.TheVariants as marks
use Rattle.memory.specs.Cells.{Cell, Lawful, cell_at, marks_of}
use Rattle.memory.specs.Joins.{joined}

abbrev Zeroed : List Cell → Type 0
Zeroed cells = (at : ℕ) → (cell_at cells at).mark ≡ marks.Spoiled → (cell_at cells at).byte ≡ 0

zeroed-append : (xs ys : List Cell) → Zeroed xs → Zeroed ys → Zeroed (xs ++ ys)
zeroed-append [] ys h k at = k at
zeroed-append (x ∷ xs) ys h k zero = h 0
zeroed-append (x ∷ xs) ys h k (suc at) = zeroed-append xs ys (λ i. h (suc i)) k at

zeroed-take : (n : ℕ) (xs : List Cell) → Zeroed xs → Zeroed (take n xs)
zeroed-take zero xs h at = λ _. refl
zeroed-take (suc n) [] h at = λ _. refl
zeroed-take (suc n) (x ∷ xs) h zero = h 0
zeroed-take (suc n) (x ∷ xs) h (suc at) = zeroed-take n xs (λ i. h (suc i)) at

pub joined_lawful : (front back : List Cell) → Lawful front → Lawful back → Lawful (joined front back)
unfolding joined
joined_lawful front back f b = record {
  bounded = simp length-take (omega arith);
  zeroed = zeroed-take 4194304 (front ++ back) (zeroed-append front back f.zeroed b.zeroed);
}

marks-joined : (front back : List Cell) → marks_of (joined front back) ≡ take 4194304 (marks_of front ++ marks_of back)
unfolding joined
marks-joined front back = sym (take-map (λ c. c.mark) 4194304 (front ++ back)) ∙ ap (take 4194304) (map-append (λ c. c.mark) front back)

pub joined-marks : (f b g c : List Cell) → marks_of f ≡ marks_of g → marks_of b ≡ marks_of c → marks_of (joined f b) ≡ marks_of (joined g c)
joined-marks f b g c p q =
    let old = marks-joined f b in
    let new = marks-joined g c in
    cc
