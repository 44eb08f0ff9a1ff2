-- A question to a join is the same question to its front or its back.
use Rattle.std.proofs.Common.{◌≡◌, ℕ, ◌+◌, ◌<◌, min, ltb, List, ◌++◌, length, take, drop, set, sym, refl, ap, ◌∙◌, ⊎_elim, arith, length-append, length-take}
use lib.Seq.{take-set-lt}
use Rattle.std.proofs.lemmas.List.{get_or-take, get_or_append_left, get_or-append_right, set-append_left, set-append_right, drop-set-lt}
use Rattle.std.proofs.lemmas.Bool.{lt-ltb, le-ltb, cases_lt}
use Rattle.questions.specs.Questions.{answered}
use Rattle.memory.specs.Cells.{Cell, cell_at, open_cell, spoiled_cell, write_asks, marked, read_out, wrote, written}
use Rattle.memory.specs.Joins.{joined, cut_off}
use Rattle.memory.proofs.Answers as answers
use Rattle.memory.proofs.Laws.{written-accepted, written-refused, written_either}

ltb_same : (i m j n : ℕ) → (i < m → j < n) → (j < n → i < m) → ltb i m ≡ ltb j n
ltb_same i m j n to from =
    ⊎_elim (λ h. lt-ltb i m h ∙ sym (lt-ltb j n (to h)))
    (λ h. le-ltb i m h ∙ sym (le-ltb j n (⊎_elim (λ k. absurd (omega (arith, from k))) (λ k. k) (cases_lt j n)))) (cases_lt i m)

-- the same cell at two places of two lists
record Same (xs ys : List Cell) (i j : ℕ) : Type 0 where
  reach : ltb i (length xs) ≡ ltb j (length ys)
  cell : cell_at xs i ≡ cell_at ys j

module _ (xs ys : List Cell) (i j : ℕ) (s : Same xs ys i j) where
  same-marked : marked xs i ≡ marked ys j
  unfolding marked
  same-marked = simp (s.reach, s.cell)

  same_read : read_out xs i ≡ read_out ys j
  unfolding read_out
  same_read = simp (s.reach, s.cell)

  same_asks : write_asks xs i ≡ write_asks ys j
  same_asks = simp (s.reach, s.cell)

  same-wrote : wrote xs i ≡ wrote ys j
  unfolding wrote
  same-wrote = ap (λ o. answered o tt) same_asks

  -- what is made of the one is written where the one is
  same_written : (F : List Cell → List Cell) (byte : ℕ) → F xs ≡ ys → F (set xs i (open_cell byte)) ≡ set ys j (open_cell byte) → written ys j byte ≡ F (written xs i byte)
  same_written F byte whole put =
      written_either xs i byte (λ after. written ys j byte ≡ F after)
      (λ ok. written-accepted ys j byte (sym same-wrote ∙ ok) ∙ sym put)
      (λ r refused. written-refused ys j byte r (sym same-wrote ∙ refused) ∙ sym whole)

-- what is made of a list stays, where it does when a cell is set
untouched : {X : Type 0} (F : List Cell → X) (cells : List Cell) (at byte : ℕ) → F (set cells at (open_cell byte)) ≡ F cells → F (written cells at byte) ≡ F cells
untouched F cells at byte same = written_either cells at byte (λ after. F after ≡ F cells) (λ ok. same) (λ r refused. refl)

pub length-joined : (f b : List Cell) → length (joined f b) ≡ min (length f + length b) 4194304
unfolding joined
length-joined f b = simp (length-take, length-append) (omega arith)

module _ (f b : List Cell) (at : ℕ) (low : at < 4194304) where
  module _ (here : at < length f) where
    in_front : Same f (joined f b) at at
    unfolding joined
    in_front = record {
      reach = lt-ltb at (length f) here ∙ sym (lt-ltb at (length (joined f b)) (omega (arith, length-joined f b)));
      cell = sym (get_or-take 4194304 (f ++ b) at spoiled_cell low ∙ get_or_append_left f b spoiled_cell at here);
    }

    pub front_marked : marked (joined f b) at ≡ marked f at
    front_marked = sym (same-marked f (joined f b) at at in_front)

    pub front_read : read_out (joined f b) at ≡ read_out f at
    front_read = sym (same_read f (joined f b) at at in_front)

    pub front_wrote : wrote (joined f b) at ≡ wrote f at
    front_wrote = sym (same-wrote f (joined f b) at at in_front)

    pub front_written : (byte : ℕ) → written (joined f b) at byte ≡ joined (written f at byte) b
    unfolding joined
    front_written byte =
        same_written f (joined f b) at at in_front (λ x. joined x b) byte refl
        (ap (take 4194304) (sym (set-append_left f b at (open_cell byte) here)) ∙ take-set-lt 4194304 (f ++ b) at (open_cell byte) low)

    pub front_cut : (byte : ℕ) → cut_off (written f at byte) b ≡ cut_off f b
    unfolding cut_off
    front_cut byte =
        untouched (λ x. cut_off x b) f at byte (ap (drop 4194304) (sym (set-append_left f b at (open_cell byte) here)) ∙ drop-set-lt 4194304 (f ++ b) at (open_cell byte) low)

  module _ (i : ℕ) (there : at ≡ length f + i) where
    in_back : Same b (joined f b) i at
    unfolding joined
    in_back = record {
      reach = ltb_same i (length b) at (length (joined f b)) (λ k. omega (arith, length-joined f b)) (λ k. omega (arith, length-joined f b));
      cell = sym (get_or-take 4194304 (f ++ b) at spoiled_cell low ∙ get_or-append_right f b (length f) at spoiled_cell refl (omega arith) ∙ ap (cell_at b) (omega arith));
    }

    pub back_marked : marked (joined f b) at ≡ marked b i
    back_marked = sym (same-marked b (joined f b) i at in_back)

    pub back_read : read_out (joined f b) at ≡ read_out b i
    back_read = sym (same_read b (joined f b) i at in_back)

    pub back_wrote : wrote (joined f b) at ≡ wrote b i
    back_wrote = sym (same-wrote b (joined f b) i at in_back)

    append_set : (byte : ℕ) → f ++ set b i (open_cell byte) ≡ set (f ++ b) at (open_cell byte)
    append_set byte = ap (λ k. f ++ set b k (open_cell byte)) (omega arith) ∙ sym (set-append_right f b (length f) at (open_cell byte) refl (omega arith))

    pub back_written : (byte : ℕ) → written (joined f b) at byte ≡ joined f (written b i byte)
    unfolding joined
    back_written byte =
        same_written b (joined f b) i at in_back (joined f) byte refl
        (ap (take 4194304) (append_set byte) ∙ take-set-lt 4194304 (f ++ b) at (open_cell byte) low)

    pub back_cut : (byte : ℕ) → cut_off f (written b i byte) ≡ cut_off f b
    unfolding cut_off
    back_cut byte =
        untouched (cut_off f) b i byte (ap (drop 4194304) (append_set byte) ∙ drop-set-lt 4194304 (f ++ b) at (open_cell byte) low)

-- what the calls of a join are proved with
pub ruleset joins = (length-joined, front_marked, front_read, front_wrote, front_written, front_cut, back_marked, back_read, back_wrote, back_written, back_cut, answers.past)
