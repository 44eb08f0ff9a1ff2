-- What sealing and opening a block ask, in turn.
use Rattle.std.specs.Prelude.{ℕ, List, [], ◌∷◌, length, take, is_some, Ok, Err, Option, Result, ◌==◌, slice_index}
use Rattle.std.specs.Borrow.{Bor}
use Rattle.std.specs.List.{between}
use Rattle.questions.specs.Questions.{first_no, answered}
use Rattle.blocks.specs.declared.refusals.SealRefusal.{SealRefusal}
use Rattle.blocks.specs.declared.refusals.SealRefusal.TheVariants.{UnknownKind, PayloadLength, TargetLength}
use Rattle.blocks.specs.declared.refusals.BlockRefusal.{BlockRefusal}
use Rattle.blocks.specs.declared.refusals.BlockRefusal.TheVariants.{NotWhole, WrongKind, WrongEdition, WrongPlace, NotZero, WrongCheck}
use Rattle.blocks.specs.Check.{check_word}
use Rattle.blocks.specs.Kinds.{kind_named}
use Rattle.blocks.specs.Layout.{two_at, four_at, all_zero, payload_of}

-- the first no to a payload that is to be sealed into a target
abbrev pub sealing : ℕ → List ℕ → List ℕ → Option SealRefusal
sealing kind payload target = first_no (
    (is_some (kind_named kind), UnknownKind)
    ∷ ((length payload == 496), PayloadLength)
    ∷ ((length target == 512), TargetLength)
    ∷ [])

-- the first no to a block of a kind at a place
unfoldable pub opening : ℕ → ℕ → List ℕ → Option BlockRefusal
opening kind place bytes = first_no (
    ((length bytes == 512), NotWhole)
    ∷ ((slice_index bytes 0 == kind), WrongKind)
    ∷ ((slice_index bytes 1 == 1), WrongEdition)
    ∷ ((two_at bytes 2 == place), WrongPlace)
    ∷ (all_zero (between 4 12 bytes), NotZero)
    ∷ ((four_at bytes 508 == check_word (take 508 bytes)), WrongCheck)
    ∷ [])

-- what opening a block gives: its payload, or the first no
abbrev pub opened : ℕ → ℕ → List ℕ → Result (List ℕ) BlockRefusal
opened kind place bytes = answered (opening kind place bytes) (payload_of bytes)

-- the bytes that an answer lends
abbrev pub lent : {E : Type 0} → Result (Bor (List ℕ)) E → Result (List ℕ) E
lent (Ok bytes) = Ok bytes.now
lent (Err e) = Err e
