-- The number of each refusal of an image, its question, and how it is shown.
use Rattle.std.specs.Prelude.{ℕ, List, ◌++◌, codes, decimal}
use Rattle.questions.specs.Refusals.{refusal_text}
use Rattle.blocks.specs.Refusals.{block_number, block_question, block_text}
use Rattle.images.specs.declared.refusals.ImageRefusal.{ImageRefusal}
use Rattle.images.specs.declared.refusals.ImageRefusal.TheVariants.{Length, Block}

-- 4 for the length, else what the block is refused for
abbrev pub image_number : ImageRefusal → ℕ
image_number Length = 4
image_number (Block place refusal) = block_number refusal

-- what is asked of the length
abbrev pub length_question : List ℕ
length_question = codes "Is the image 1 to 2048 whole blocks (1 to 8192 of a table)?"

-- its own question, or the block's
abbrev pub image_question : ImageRefusal → List ℕ
image_question Length = length_question
image_question (Block place refusal) = block_question refusal

-- how it is shown: a block's refusal with the block's place
abbrev pub image_text : ImageRefusal → List ℕ
image_text Length = refusal_text (image_number Length) length_question
image_text (Block place refusal) = block_text refusal ++ codes " (block " ++ decimal place ++ codes ")"
