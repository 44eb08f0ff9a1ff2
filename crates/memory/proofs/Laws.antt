-- The laws of memory that code above it cites: they speak of answers and of what is held, and unfold nothing.
use Rattle.std.proofs.Common.{◌≡◌, ℕ, ◌<◌, ◌≤◌, true, ◌⊎◌, List, length, get_or, set, Some, None, Ok, Err, Option, Result, sym, refl, ap, ◌∙◌, subst, inl, inr, ⊎_elim}
use lib.ListN.{length-map, get_or-map}
use lib.Seq.{map-set_same}
use Rattle.std.proofs.lemmas.List.{get_or-set_same, get_or-set_other, set-set, set_comm}
use Rattle.std.proofs.lemmas.Bool.{cases_eq, cases_lt}
use Rattle.questions.specs.Questions.{answered, held_after}
use Rattle.questions.proofs.Answered.{accepted, refused as refused_by}
use Rattle.memory.specs.declared.marks.Mark.{Mark}
use Rattle.memory.specs.declared.marks.Mark.TheVariants as marks
use Rattle.memory.specs.declared.refusals.MemoryRefusal.{MemoryRefusal}
use Rattle.memory.specs.declared.refusals.MemoryRefusal.TheVariants as refusals
use Rattle.memory.specs.Cells.{Cell, Lawful, cell_at, marks_of, open_cell, spoiled_cell, is_open, is_sound, open_asks, write_asks, marked, read_out, wrote, written}
use Rattle.memory.proofs.Answers as answers

-- Answers, by the mark itself.

not_spoiled : (m : Mark) → (m ≡ marks.Spoiled → ⊥) → is_sound m ≡ true
not_spoiled marks.Open ne = refl
not_spoiled marks.Kept ne = refl
not_spoiled marks.Spoiled ne = absurd (ne refl)

is_spoiled : (m : Mark) → (m ≡ marks.Spoiled) ⊎ (m ≡ marks.Spoiled → ⊥)
is_spoiled marks.Open = inr (λ e. cc)
is_spoiled marks.Kept = inr (λ e. cc)
is_spoiled marks.Spoiled = inl refl

module _ (cells : List Cell) (at : ℕ) (here : at < length cells) where
  pub reads : ((cell_at cells at).mark ≡ marks.Spoiled → ⊥) → read_out cells at ≡ Ok (cell_at cells at).byte
  reads ne = answers.read_sound cells at here (not_spoiled (cell_at cells at).mark ne)

  pub reads-spoiled : (cell_at cells at).mark ≡ marks.Spoiled → read_out cells at ≡ Err refusals.Spoiled
  reads-spoiled e = answers.read_spoiled cells at here (ap is_sound e)

  pub writes : (cell_at cells at).mark ≡ marks.Open → wrote cells at ≡ Ok tt
  writes e = answers.wrote_open cells at here (ap is_sound e) (ap is_open e)

  pub writes_kept : (cell_at cells at).mark ≡ marks.Kept → wrote cells at ≡ Err refusals.NotOpen
  writes_kept e = answers.wrote_kept cells at here (ap is_sound e) (ap is_open e)

  pub writes-spoiled : (cell_at cells at).mark ≡ marks.Spoiled → wrote cells at ≡ Err refusals.Spoiled
  writes-spoiled e = answers.wrote-spoiled cells at here (ap is_sound e)

  pub spoiled_written : (byte : ℕ) → (cell_at cells at).mark ≡ marks.Spoiled → written cells at byte ≡ cells
  spoiled_written byte e = answers.written-spoiled cells at here byte (ap is_sound e)

  pub kept_written : (byte : ℕ) → (cell_at cells at).mark ≡ marks.Kept → written cells at byte ≡ cells
  kept_written byte e = answers.written-kept cells at here byte (ap is_sound e) (ap is_open e)

-- The questions are asked of the marks alone.

module _ (xs ys : List Cell) (e : marks_of xs ≡ marks_of ys) where
  pub marks-length : length xs ≡ length ys
  marks-length = sym (length-map xs (λ c. c.mark)) ∙ ap length e ∙ length-map ys (λ c. c.mark)

  pub marks_at : (i : ℕ) → (cell_at xs i).mark ≡ (cell_at ys i).mark
  marks_at i =
      sym (get_or-map (λ c. c.mark) xs i spoiled_cell) ∙ ap (λ ms. get_or ms i marks.Spoiled) e ∙ get_or-map (λ c. c.mark) ys i spoiled_cell

  pub marks-marked : (i : ℕ) → marked xs i ≡ marked ys i
  unfolding marked
  marks-marked i = simp (marks-length, marks_at i)

  pub marks_asks : (i : ℕ) → write_asks xs i ≡ write_asks ys i
  marks_asks i = simp (marks-length, marks_at i)

  pub marks-wrote : (i : ℕ) → wrote xs i ≡ wrote ys i
  unfolding wrote
  marks-wrote i = ap (λ o. answered o tt) (marks_asks i)

-- What a write leaves.

abbrev done : Option MemoryRefusal → Result (Unit {0}) MemoryRefusal
done o = answered o tt

module _ (cells : List Cell) (at byte : ℕ) where
  pub written-accepted : wrote cells at ≡ Ok tt → written cells at byte ≡ set cells at (open_cell byte)
  unfolding wrote written
  written-accepted ok = ap (λ o. held_after o (set cells at (open_cell byte)) cells) (accepted (write_asks cells at) _ _ ok)

  pub written-refused : (r : MemoryRefusal) → wrote cells at ≡ Err r → written cells at byte ≡ cells
  unfolding wrote written
  written-refused r refused = ap (λ o. held_after o (set cells at (open_cell byte)) cells) (refused_by (write_asks cells at) _ r refused)

  -- what holds of the cells when the byte is put and when they stay holds after a write
  pub written_either : (P : List Cell → Type 0) → (wrote cells at ≡ Ok tt → P (set cells at (open_cell byte))) → ((r : MemoryRefusal) → wrote cells at ≡ Err r → P cells) → P (written cells at byte)
  unfolding wrote written
  written_either P put kept =
      elim (write_asks cells at) as (λ o. (done o ≡ Ok tt → P (set cells at (open_cell byte))) → ((r : MemoryRefusal) → done o ≡ Err r → P cells) → P (held_after o (set cells at (open_cell byte)) cells))
      [ None ↦ λ p k. p refl | Some r ↦ λ p k. k r refl ] put kept

  -- an accepted write is of an open byte
  pub accepted-inside : wrote cells at ≡ Ok tt → at < length cells
  accepted-inside ok =
      ⊎_elim (λ h. h) (λ (out : length cells ≤ at). absurd (let r = answers.wrote-outside cells at out in cc)) (cases_lt at (length cells))

  marked_open : (m : Mark) → (cell_at cells at).mark ≡ m → at < length cells → wrote cells at ≡ Ok tt → m ≡ marks.Open
  marked_open marks.Open e here ok = refl
  marked_open marks.Kept e here ok = absurd (let r = writes_kept cells at here e in cc)
  marked_open marks.Spoiled e here ok = absurd (let r = writes-spoiled cells at here e in cc)

  pub accepted_open : wrote cells at ≡ Ok tt → (cell_at cells at).mark ≡ marks.Open
  accepted_open ok = marked_open (cell_at cells at).mark refl (accepted-inside ok) ok

  -- marks and sizes never change
  pub written-marks : marks_of (written cells at byte) ≡ marks_of cells
  written-marks =
      written_either (λ after. marks_of after ≡ marks_of cells)
      (λ ok. map-set_same (λ c. c.mark) cells at (open_cell byte) spoiled_cell (sym (accepted_open ok)))
      (λ r refused. refl)

  pub written-length : length (written cells at byte) ≡ length cells
  written-length = marks-length (written cells at byte) cells written-marks

  pub marked-written : (i : ℕ) → marked (written cells at byte) i ≡ marked cells i
  marked-written = marks-marked (written cells at byte) cells written-marks

  pub asks_written : (i : ℕ) → write_asks (written cells at byte) i ≡ write_asks cells i
  asks_written = marks_asks (written cells at byte) cells written-marks

  pub wrote-written : (i : ℕ) → wrote (written cells at byte) i ≡ wrote cells i
  wrote-written = marks-wrote (written cells at byte) cells written-marks

  -- the byte is there, and no other cell is another
  pub written_there : wrote cells at ≡ Ok tt → cell_at (written cells at byte) at ≡ open_cell byte
  written_there ok = ap (λ cs. cell_at cs at) (written-accepted ok) ∙ get_or-set_same cells at (open_cell byte) spoiled_cell (accepted-inside ok)

  pub written_other : (i : ℕ) → (i ≡ at → ⊥) → cell_at (written cells at byte) i ≡ cell_at cells i
  written_other i apart =
      written_either (λ after. cell_at after i ≡ cell_at cells i) (λ ok. get_or-set_other cells at i (open_cell byte) spoiled_cell apart) (λ r refused. refl)

  pub read_there : wrote cells at ≡ Ok tt → read_out (written cells at byte) at ≡ Ok byte
  read_there ok =
      let here : at < length (written cells at byte) = rw written-length (accepted-inside ok) in
      answers.read_sound (written cells at byte) at here (ap (λ c. is_sound c.mark) (written_there ok)) ∙ ap (λ c. Ok c.byte) (written_there ok)

  pub read_other : (i : ℕ) → (i ≡ at → ⊥) → read_out (written cells at byte) i ≡ read_out cells i
  unfolding read_out
  read_other i apart = simp (written-length, written_other i apart)

-- Two writes.

pub written_twice : (cells : List Cell) (at a b : ℕ) → written (written cells at a) at b ≡ written cells at b
written_twice cells at a b =
    written_either cells at b (λ after. written (written cells at a) at b ≡ after)
    (λ ok.
    written-accepted (written cells at a) at b (wrote-written cells at a at ∙ ok)
    ∙ ap (λ cs. set cs at (open_cell b)) (written-accepted cells at a ok)
    ∙ set-set cells at (open_cell a) (open_cell b))
    (λ r refused. written-refused (written cells at a) at b r (wrote-written cells at a at ∙ refused) ∙ written-refused cells at a r refused)

module _ (cells : List Cell) (i j a b : ℕ) (apart : i ≡ j → ⊥) where
  both : wrote cells i ≡ Ok tt → wrote cells j ≡ Ok tt → written (written cells i a) j b ≡ written (written cells j b) i a
  both p q =
      written-accepted (written cells i a) j b (wrote-written cells i a j ∙ q)
      ∙ ap (λ cs. set cs j (open_cell b)) (written-accepted cells i a p)
      ∙ set_comm cells i j (open_cell a) (open_cell b) apart
      ∙ sym (written-accepted (written cells j b) i a (wrote-written cells j b i ∙ p) ∙ ap (λ cs. set cs i (open_cell a)) (written-accepted cells j b q))

  second_refused : (r : MemoryRefusal) → wrote cells j ≡ Err r → written (written cells i a) j b ≡ written (written cells j b) i a
  second_refused r q = written-refused (written cells i a) j b r (wrote-written cells i a j ∙ q) ∙ ap (λ cs. written cs i a) (sym (written-refused cells j b r q))

  first-refused : (r : MemoryRefusal) → wrote cells i ≡ Err r → written (written cells i a) j b ≡ written (written cells j b) i a
  first-refused r p = ap (λ cs. written cs j b) (written-refused cells i a r p) ∙ sym (written-refused (written cells j b) i a r (wrote-written cells j b i ∙ p))

  -- writes to two addresses may change places
  pub written_apart : written (written cells i a) j b ≡ written (written cells j b) i a
  written_apart =
      written_either cells i a (λ _. written (written cells i a) j b ≡ written (written cells j b) i a)
      (λ p. written_either cells j b (λ _. written (written cells i a) j b ≡ written (written cells j b) i a) (both p) second_refused)
      first-refused

-- A write keeps a memory lawful.

pub lawful_written : (cells : List Cell) (at byte : ℕ) → Lawful cells → Lawful (written cells at byte)
lawful_written cells at byte lawful = record {
  bounded = rw written-length lawful.bounded;
  zeroed = λ i spoiled.
      let before = marks_at (written cells at byte) cells (written-marks cells at byte) i in
      ⊎_elim
      (λ (e : i ≡ at).
      written_either cells at byte (λ after. (cell_at after i).byte ≡ 0)
      (λ ok. let o = accepted_open cells at byte ok in cc)
      (λ r refused. lawful.zeroed i (sym before ∙ spoiled)))
      (λ (apart : i ≡ at → ⊥). ap (λ c. c.byte) (written_other cells at byte i apart) ∙ lawful.zeroed i (sym before ∙ spoiled))
      (cases_eq i at);
}

-- What answers say of the address and its mark: what holds of each answer where it is given holds of the answer.

module _ (cells : List Cell) (at : ℕ) where
  pub marked_cases : (P : Result Mark MemoryRefusal → Type 0)
      → (length cells ≤ at → P (Err refusals.OutOfRange))
      → (at < length cells → P (Ok (cell_at cells at).mark))
      → P (marked cells at)
  marked_cases P outside inside =
      ⊎_elim
      (λ (here : at < length cells). subst P (sym (answers.marked-inside cells at here)) (inside here))
      (λ (out : length cells ≤ at). subst P (sym (answers.marked-outside cells at out)) (outside out))
      (cases_lt at (length cells))

  pub read_cases : (P : Result ℕ MemoryRefusal → Type 0)
      → (length cells ≤ at → P (Err refusals.OutOfRange))
      → (at < length cells → (cell_at cells at).mark ≡ marks.Spoiled → P (Err refusals.Spoiled))
      → (at < length cells → ((cell_at cells at).mark ≡ marks.Spoiled → ⊥) → P (Ok (cell_at cells at).byte))
      → P (read_out cells at)
  read_cases P outside spoiled sound =
      ⊎_elim
      (λ (here : at < length cells).
      ⊎_elim
      (λ (e : (cell_at cells at).mark ≡ marks.Spoiled). subst P (sym (reads-spoiled cells at here e)) (spoiled here e))
      (λ (ne : (cell_at cells at).mark ≡ marks.Spoiled → ⊥). subst P (sym (reads cells at here ne)) (sound here ne))
      (is_spoiled (cell_at cells at).mark))
      (λ (out : length cells ≤ at). subst P (sym (answers.read_outside cells at out)) (outside out))
      (cases_lt at (length cells))

  wrote-inside : (P : Result (Unit {0}) MemoryRefusal → Type 0) → at < length cells
      → ((cell_at cells at).mark ≡ marks.Spoiled → P (Err refusals.Spoiled))
      → ((cell_at cells at).mark ≡ marks.Kept → P (Err refusals.NotOpen))
      → ((cell_at cells at).mark ≡ marks.Open → P (Ok tt))
      → (m : Mark) → (cell_at cells at).mark ≡ m → P (wrote cells at)
  wrote-inside P here spoiled kept free marks.Open e = subst P (sym (writes cells at here e)) (free e)
  wrote-inside P here spoiled kept free marks.Kept e = subst P (sym (writes_kept cells at here e)) (kept e)
  wrote-inside P here spoiled kept free marks.Spoiled e = subst P (sym (writes-spoiled cells at here e)) (spoiled e)

  pub wrote_cases : (P : Result (Unit {0}) MemoryRefusal → Type 0)
      → (length cells ≤ at → P (Err refusals.OutOfRange))
      → (at < length cells → (cell_at cells at).mark ≡ marks.Spoiled → P (Err refusals.Spoiled))
      → (at < length cells → (cell_at cells at).mark ≡ marks.Kept → P (Err refusals.NotOpen))
      → (at < length cells → (cell_at cells at).mark ≡ marks.Open → P (Ok tt))
      → P (wrote cells at)
  wrote_cases P outside spoiled kept free =
      ⊎_elim
      (λ (here : at < length cells). wrote-inside P here (spoiled here) (kept here) (free here) (cell_at cells at).mark refl)
      (λ (out : length cells ≤ at). subst P (sym (answers.wrote-outside cells at out)) (outside out))
      (cases_lt at (length cells))

  -- what a mark that was given says of a write
  pub marked-given : (m : Mark) → marked cells at ≡ Ok m → wrote cells at ≡ done (open_asks m)
  marked-given m given =
      ⊎_elim
      (λ (here : at < length cells). let inside = answers.marked-inside cells at here in let e : (cell_at cells at).mark ≡ m = cc in answers.wrote-inside cells at here ∙ ap (λ k. done (open_asks k)) e)
      (λ (out : length cells ≤ at). absurd (let outside = answers.marked-outside cells at out in cc))
      (cases_lt at (length cells))

  pub marked_refused : (r : MemoryRefusal) → marked cells at ≡ Err r → wrote cells at ≡ Err r
  marked_refused r refused =
      ⊎_elim
      (λ (here : at < length cells). absurd (let inside = answers.marked-inside cells at here in cc))
      (λ (out : length cells ≤ at). let outside = answers.marked-outside cells at out in let no' = answers.wrote-outside cells at out in cc)
      (cases_lt at (length cells))

-- what each call answers, and what a refused write leaves: what a memory's calls are proved with
pub ruleset answering = (answers.past, answers.marked-inside, reads, reads-spoiled, writes, writes_kept, writes-spoiled, spoiled_written, kept_written)

-- what the sentences of any memory are proved with
pub ruleset sentences = (answering, written_there, written_other, written-refused, written-length, written-marks)

-- what a mark that was given, or refused, says of a write
pub ruleset asked = (marked-given, marked_refused)
