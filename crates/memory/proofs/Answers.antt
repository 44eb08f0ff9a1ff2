-- What a memory answers and holds, by where an address lies and how its cell is marked.
use Rattle.std.proofs.Common.{◌≡◌, ℕ, ◌<◌, ◌≤◌, true, false, List, length, set, Ok, Err}
use Rattle.std.proofs.lemmas.Bool.{lt-ltb, le-ltb}
use Rattle.questions.specs.Questions.{answered}
use Rattle.memory.specs.declared.refusals.MemoryRefusal.TheVariants as refusals
use Rattle.memory.specs.Cells.{Cell, cell_at, open_cell, is_open, is_sound, open_asks, marked, read_out, wrote, written}

module _ (cells : List Cell) (at : ℕ) (outside : length cells ≤ at) where
  pub marked-outside : marked cells at ≡ Err refusals.OutOfRange
  unfolding marked
  marked-outside = simp (le-ltb at (length cells) outside)

  pub read_outside : read_out cells at ≡ Err refusals.OutOfRange
  unfolding read_out
  read_outside = simp (le-ltb at (length cells) outside)

  pub wrote-outside : wrote cells at ≡ Err refusals.OutOfRange
  unfolding wrote
  wrote-outside = simp (le-ltb at (length cells) outside)

  pub written-outside : (byte : ℕ) → written cells at byte ≡ cells
  unfolding written
  written-outside byte = simp (le-ltb at (length cells) outside)

-- the same four as one list
pub ruleset past = (marked-outside, read_outside, wrote-outside, written-outside)

module _ (cells : List Cell) (at : ℕ) (here : at < length cells) where
  pub marked-inside : marked cells at ≡ Ok (cell_at cells at).mark
  unfolding marked
  marked-inside = simp (lt-ltb at (length cells) here)

  pub read_sound : is_sound (cell_at cells at).mark ≡ true → read_out cells at ≡ Ok (cell_at cells at).byte
  unfolding read_out
  read_sound s = simp (lt-ltb at (length cells) here, s)

  pub read_spoiled : is_sound (cell_at cells at).mark ≡ false → read_out cells at ≡ Err refusals.Spoiled
  unfolding read_out
  read_spoiled s = simp (lt-ltb at (length cells) here, s)

  pub wrote-inside : wrote cells at ≡ answered (open_asks (cell_at cells at).mark) tt
  unfolding wrote
  wrote-inside = simp (lt-ltb at (length cells) here)

  pub wrote_open : is_sound (cell_at cells at).mark ≡ true → is_open (cell_at cells at).mark ≡ true → wrote cells at ≡ Ok tt
  unfolding wrote
  wrote_open s o = simp (lt-ltb at (length cells) here, s, o)

  pub wrote_kept : is_sound (cell_at cells at).mark ≡ true → is_open (cell_at cells at).mark ≡ false → wrote cells at ≡ Err refusals.NotOpen
  unfolding wrote
  wrote_kept s o = simp (lt-ltb at (length cells) here, s, o)

  pub wrote-spoiled : is_sound (cell_at cells at).mark ≡ false → wrote cells at ≡ Err refusals.Spoiled
  unfolding wrote
  wrote-spoiled s = simp (lt-ltb at (length cells) here, s)

  pub written_open : (byte : ℕ) → is_sound (cell_at cells at).mark ≡ true → is_open (cell_at cells at).mark ≡ true → written cells at byte ≡ set cells at (open_cell byte)
  unfolding written
  written_open byte s o = simp (lt-ltb at (length cells) here, s, o)

  pub written-kept : (byte : ℕ) → is_sound (cell_at cells at).mark ≡ true → is_open (cell_at cells at).mark ≡ false → written cells at byte ≡ cells
  unfolding written
  written-kept byte s o = simp (lt-ltb at (length cells) here, s, o)

  pub written-spoiled : (byte : ℕ) → is_sound (cell_at cells at).mark ≡ false → written cells at byte ≡ cells
  unfolding written
  written-spoiled byte s = simp (lt-ltb at (length cells) here, s)
