-- What a book has at an address, by the payload of its block.
use Rattle.std.proofs.Common.{◌≡◌, ℕ, ◌+◌, ◌*◌, ◌/◌, ◌%◌, ◌<◌, true, false, List, length, get_or, drop, is_ok, is_some, Some, None, Ok, Err, Option, Result, IfSome, option_map, length-take, length-drop, refl, sym, ap, ◌∙◌, arith}
use Rattle.std.specs.Borrow.{Bor}
use Rattle.std.specs.Result.{result_ok}
use Rattle.std.proofs.lemmas.List.FromFn.{length-map-range_with_len, get_or-map-range_with_len}
use Rattle.std.proofs.lemmas.List.{get_or-take, get_or-drop}
use Rattle.questions.specs.Questions.{answered}
use Rattle.blocks.specs.Asking.{opening}
use Rattle.blocks.specs.Layout.{payload_of}
use Rattle.blocks.specs.declared.refusals.BlockRefusal.{BlockRefusal}
use Rattle.images.specs.Images.{blocks_in}
use Rattle.memory.specs.declared.marks.Mark.TheVariants as marks
use Rattle.memory.specs.Cells.{cell_at, kept_cell, spoiled_cell, read_out}
use Rattle.memory.proofs.Laws as laws
use Rattle.book.specs.Books.{block_at, book_cell, book_cells, book_size, cell_in, payload_at, sound_at, table_at, IsShelvedAt}

pub length_book : (image : List ℕ) → length (book_cells image) ≡ 496 * blocks_in image
unfolding book_cells
length_book image = length-map-range_with_len (book_cell image) 0 (book_size image)

-- a payload that a block of an image gives is 496 bytes long
given_long : (image : List ℕ) (place : ℕ) (asked : Option BlockRefusal) (payload : Option (Bor (List ℕ))) → place < blocks_in image
    → option_map (λ bytes. bytes.now) payload ≡ result_ok (answered asked (payload_of (block_at image place))) → IfSome payload (λ bytes. length bytes.now ≡ 496)
given_long image place asked None inside gives = tt
given_long image place None (Some bytes) inside gives =
    let is : bytes.now ≡ payload_of (block_at image place) = cc in
    ap length is ∙ simp (length-take, length-drop) (omega arith)
given_long image place (Some r) (Some bytes) inside gives = absurd (cc)

pub payload_long : (image : List ℕ) (place : ℕ) (payload : Option (Bor (List ℕ))) → place < blocks_in image
    → option_map (λ bytes. bytes.now) payload ≡ payload_at image place → IfSome payload (λ bytes. length bytes.now ≡ 496)
payload_long image place = given_long image place (opening 2 place (block_at image place))

-- a sound block gives its payload, and another none
gives_if : (asked : Option BlockRefusal) (payload : List ℕ) → is_ok (answered asked payload) ≡ true → result_ok (answered asked payload) ≡ Some payload
gives_if None payload e = refl
gives_if (Some r) payload e = cc

gives_else : (asked : Option BlockRefusal) (payload : List ℕ) → is_ok (answered asked payload) ≡ false → result_ok (answered asked payload) ≡ None
gives_else None payload e = cc
gives_else (Some r) payload e = refl

pub shelved_at : (image : List ℕ) (at : ℕ) (payload : Bor (List ℕ)) → at / 496 < blocks_in image → sound_at image (at / 496) ≡ true
    → payload.now ≡ payload_of (block_at image (at / 496)) → IsShelvedAt image at (Some payload)
shelved_at image at payload inside sound is =
    let place = at / 496 in
    let gives = ap Some is ∙ sym (gives_if (opening 2 place (block_at image place)) (payload_of (block_at image place)) sound) in
    record { inside = inside; gives = gives; long = payload_long image place (Some payload) inside gives }

pub none_at : (image : List ℕ) (at : ℕ) → at / 496 < blocks_in image → sound_at image (at / 496) ≡ false → IsShelvedAt image at None
none_at image at inside unsound =
    let place = at / 496 in
    record { inside = inside; gives = sym (gives_else (opening 2 place (block_at image place)) (payload_of (block_at image place)) unsound); long = tt }

cell_kept : (gives : Result (List ℕ) BlockRefusal) (payload : List ℕ) (i : ℕ) → result_ok gives ≡ Some payload → cell_in gives i ≡ kept_cell (get_or payload i 0)
cell_kept (Ok bytes) payload i e = let is : bytes ≡ payload = cc in ap (λ l. kept_cell (get_or l i 0)) is
cell_kept (Err r) payload i e = cc

mark_kept : (gives : Result (List ℕ) BlockRefusal) (i : ℕ) → is_some (result_ok gives) ≡ true → (cell_in gives i).mark ≡ marks.Kept
mark_kept (Ok bytes) i e = refl
mark_kept (Err r) i e = cc

cell_spoiled : (gives : Result (List ℕ) BlockRefusal) (i : ℕ) → result_ok gives ≡ None → cell_in gives i ≡ spoiled_cell
cell_spoiled (Ok bytes) i e = cc
cell_spoiled (Err r) i e = refl

module _ (image : List ℕ) (at : ℕ) (here : at / 496 < blocks_in image) where
  cell : cell_at (book_cells image) at ≡ book_cell image at
  unfolding book_cells
  cell = get_or-map-range_with_len (book_cell image) 0 (book_size image) at at spoiled_cell (omega arith) (omega arith)

  pub kept_mark : is_some (payload_at image (at / 496)) ≡ true → (cell_at (book_cells image) at).mark ≡ marks.Kept
  kept_mark some = ap (λ c. c.mark) cell ∙ mark_kept (table_at image (at / 496)) (at % 496) some

  pub kept_byte : (payload : List ℕ) → payload_at image (at / 496) ≡ Some payload → (cell_at (book_cells image) at).byte ≡ get_or payload (at % 496) 0
  kept_byte payload is = ap (λ c. c.byte) (cell ∙ cell_kept (table_at image (at / 496)) payload (at % 496) is)

  pub spoiled_mark : payload_at image (at / 496) ≡ None → (cell_at (book_cells image) at).mark ≡ marks.Spoiled
  spoiled_mark is = ap (λ c. c.mark) (cell ∙ cell_spoiled (table_at image (at / 496)) (at % 496) is)

-- where a byte of a payload stands in the image
payload_byte : (image : List ℕ) (place i : ℕ) → i < 496 → get_or (payload_of (block_at image place)) i 0 ≡ get_or image (512 * place + 12 + i) 0
payload_byte image place i h =
    let block = block_at image place in
    get_or-take 496 (drop 12 block) i 0 h ∙ get_or-drop 12 block i 0
    ∙ get_or-take 512 (drop (512 * place) image) (12 + i) 0 (omega arith) ∙ get_or-drop (512 * place) image (12 + i) 0
    ∙ ap (λ n. get_or image n 0) (omega arith)

-- an address of a sound block reads the byte of the image that stands there
pub kept_read : (image : List ℕ) (at : ℕ) → at / 496 < blocks_in image → sound_at image (at / 496) ≡ true
    → Ok (get_or image (512 * (at / 496) + 12 + at % 496) 0) ≡ read_out (book_cells image) at
kept_read image at here sound =
    let place = at / 496 in
    let block = block_at image place in
    let is : payload_at image place ≡ Some (payload_of block) = gives_if (opening 2 place block) (payload_of block) sound in
    let kept : (cell_at (book_cells image) at).mark ≡ marks.Kept = kept_mark image at here (ap is_some is) in
    let byte : (cell_at (book_cells image) at).byte ≡ get_or image (512 * place + 12 + at % 496) 0 =
    kept_byte image at here (payload_of block) is ∙ payload_byte image place (at % 496) (omega arith) in
    sym (laws.reads (book_cells image) at (omega (arith, here, length_book image)) (λ e. cc) ∙ ap Ok byte)

-- what the calls of a book are proved with
pub ruleset shelved = (length_book, kept_mark, kept_byte, spoiled_mark, laws.answering)
