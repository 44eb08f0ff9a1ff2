-- What lenders hold, from what the memory that borrowed from them came to mean.
use Rattle.std.proofs.Common.{◌≡◌, ℕ, ◌<◌, ◌≤◌, cond, List, [], ◌∷◌, ◌++◌, map, length, take, drop, Some, None, Ok, Err, Option, Result, sym, refl, ap, ◌∙◌, ⊎_elim, arith, take-append-drop}
use lib.Seq.{take-append_seam, drop-append_seam}
use Rattle.std.proofs.lemmas.List.{take_all}
use Rattle.std.proofs.lemmas.Bool.{lt-leb, cases_lt}
use Rattle.questions.specs.Questions.{answered}
use Rattle.memory.specs.declared.refusals.WorkRefusal.{WorkRefusal}
use Rattle.memory.specs.declared.refusals.WorkRefusal.TheVariants.{TooLong}
use Rattle.memory.specs.Cells.{Cell, marks_of, bytes_of, open_cell, written}
use Rattle.memory.specs.Works.{open_cells, work_asks}
use Rattle.memory.specs.Joins.{joined, cut_off, front_after, back_after}
use Rattle.memory.proofs.Laws.{marks-length}

-- the answers to the question about the caller's bytes
module _ (o : Option WorkRefusal) where
  pub asked_yes : (u : Unit {0}) → ◌≡◌ {A = Result (Unit {0}) WorkRefusal} (Ok u) (answered o tt) → o ≡ None
  asked_yes u e =
      elim o as (λ q. ◌≡◌ {A = Result (Unit {0}) WorkRefusal} (Ok u) (answered q tt) → q ≡ None)
      [ None ↦ λ _. refl | Some r ↦ λ e. absurd (let z : ◌≡◌ {A = ℕ} 0 1 = cc in omega arith) ] e

  pub asked_no : (r : WorkRefusal) → ◌≡◌ {A = Result (Unit {0}) WorkRefusal} (Err r) (answered o tt) → o ≡ Some r
  asked_no r e =
      elim o as (λ q. ◌≡◌ {A = Result (Unit {0}) WorkRefusal} (Err r) (answered q tt) → q ≡ Some r)
      [ None ↦ λ e. absurd (let z : ◌≡◌ {A = ℕ} 0 1 = cc in omega arith) | Some s ↦ λ e. cc ] e

pub accepted-length : (bytes : List ℕ) → work_asks bytes ≡ None → length bytes ≤ 4194304
accepted-length bytes e =
    ⊎_elim
    (λ (long : 4194304 < length bytes).
    absurd (let f = sym (ap (λ t. cond t None (Some TooLong)) (lt-leb (length bytes) 4194304 long)) ∙ e in let z : ◌≡◌ {A = ℕ} 0 1 = cc in omega arith))
    (λ few. few)
    (cases_lt 4194304 (length bytes))

bytes_open : (xs : List ℕ) → bytes_of (map open_cell xs) ≡ xs
bytes_open [] = refl
bytes_open (x ∷ xs) = ap (λ l. x ∷ l) (bytes_open xs)

-- the caller's bytes are the bytes of the cells that they came to mean
pub bytes_back : (bytes : List ℕ) (cells : List Cell) → length bytes ≤ 4194304 → open_cells bytes ≡ cells → bytes ≡ bytes_of cells
unfolding open_cells
bytes_back bytes cells few e = sym (take_all 4194304 bytes few) ∙ sym (bytes_open (take 4194304 bytes)) ∙ ap bytes_of e

pub bytes_written : (bytes last : List ℕ) (at byte : ℕ) → length bytes ≤ 4194304 → length last ≡ length bytes → open_cells last ≡ written (open_cells bytes) at byte
    → bytes_of (written (open_cells bytes) at byte) ≡ last
bytes_written bytes last at byte few same e = sym (bytes_back last (written (open_cells bytes) at byte) (omega arith) e)

-- the lenders f and b became g and c while the whole became another
module _ (f b g c whole : List Cell) (marks : marks_of f ≡ marks_of g) (cut : cut_off f b ≡ cut_off g c) (is : joined g c ≡ whole) where
  all : g ++ c ≡ whole ++ cut_off f b
  unfolding joined cut_off
  all = sym (take-append-drop 4194304 (g ++ c)) ∙ ap (λ w. w ++ cut_off g c) is ∙ ap (λ l. whole ++ l) (sym cut)

  pub front_after_lem : g ≡ front_after f b whole
  front_after_lem = sym (take-append_seam g c) ∙ ap (take (length g)) all ∙ ap (λ n. take n (whole ++ cut_off f b)) (sym (marks-length f g marks))

  pub back_after_lem : c ≡ back_after f b whole
  back_after_lem = sym (drop-append_seam g c) ∙ ap (drop (length g)) all ∙ ap (λ n. drop n (whole ++ cut_off f b)) (sym (marks-length f g marks))
