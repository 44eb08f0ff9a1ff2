-- The number of each refusal, and the question that got a no.
use Rattle.std.specs.Prelude.{ℕ, List, codes}
use Rattle.questions.specs.Refusals.{refusal_text}
use Rattle.blocks.specs.declared.refusals.SealRefusal.{SealRefusal}
use Rattle.blocks.specs.declared.refusals.SealRefusal.TheVariants.{UnknownKind, PayloadLength, TargetLength}
use Rattle.blocks.specs.declared.refusals.BlockRefusal.{BlockRefusal}
use Rattle.blocks.specs.declared.refusals.BlockRefusal.TheVariants.{NotWhole, WrongKind, WrongEdition, WrongPlace, NotZero, WrongCheck}

-- why a payload is not sealed
abbrev pub seal_number : SealRefusal → ℕ
seal_number UnknownKind = 1
seal_number PayloadLength = 2
seal_number TargetLength = 3

-- what sealing asks
abbrev pub seal_question : SealRefusal → List ℕ
seal_question UnknownKind = codes "Is the kind 1 (code) or 2 (table)?"
seal_question PayloadLength = codes "Does the payload have 496 bytes?"
seal_question TargetLength = codes "Does the target have 512 bytes?"

-- how a refusal to seal is shown
abbrev pub seal_text : SealRefusal → List ℕ
seal_text refusal = refusal_text (seal_number refusal) (seal_question refusal)

-- why a block is not opened
abbrev pub block_number : BlockRefusal → ℕ
block_number NotWhole = 4
block_number WrongKind = 5
block_number WrongEdition = 6
block_number WrongPlace = 7
block_number NotZero = 8
block_number WrongCheck = 9

-- what opening asks
abbrev pub block_question : BlockRefusal → List ℕ
block_question NotWhole = codes "Is it a whole block of 512 bytes?"
block_question WrongKind = codes "Is the kind the one asked for?"
block_question WrongEdition = codes "Is the edition 1?"
block_question WrongPlace = codes "Is the block's number its place in the image?"
block_question NotZero = codes "Are bytes 4 to 11 zero?"
block_question WrongCheck = codes "Is the check word right?"

-- how a refusal to open is shown
abbrev pub block_text : BlockRefusal → List ℕ
block_text refusal = refusal_text (block_number refusal) (block_question refusal)
