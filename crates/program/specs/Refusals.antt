-- The number of each refusal of a code image, its question, and how it is shown.
use Rattle.std.specs.Prelude.{ℕ, List, ◌++◌, codes, decimal}
use Rattle.questions.specs.Refusals.{refusal_text}
use Rattle.images.specs.Refusals.{image_number, image_question, image_text}
use Rattle.images.specs.declared.refusals.ImageRefusal.{ImageRefusal}
use Rattle.questions.specs.declared.failures.Failure.{Failure}
use Rattle.questions.specs.declared.failures.Failure.TheVariants.{Refused, OutOfMemory}
use Rattle.program.specs.declared.refusals.LoadRefusal.{LoadRefusal}
use Rattle.program.specs.declared.refusals.LoadRefusal.TheVariants.{Image, Unlawful}

-- the image's own number, or 10 where a bundle is not lawful
abbrev pub load_number : LoadRefusal → ℕ
load_number (Image refusal) = image_number refusal
load_number (Unlawful bundle) = 10

-- what was asked of the image, or of its bundles
abbrev pub load_question : LoadRefusal → List ℕ
load_question (Image refusal) = image_question refusal
load_question (Unlawful bundle) = codes "Is every bundle lawful?"

-- how it is shown: the image's refusal, or which bundle is not lawful
abbrev pub load_text : LoadRefusal → List ℕ
load_text (Image refusal) = image_text refusal
load_text (Unlawful bundle) = refusal_text 10 (codes "Is every bundle lawful?") ++ codes " (bundle " ++ decimal bundle ++ codes ")"

-- what is wrong with an image is wrong with the program
abbrev pub load_error : Failure ImageRefusal → Failure LoadRefusal
load_error (Refused refusal) = Refused (Image refusal)
load_error OutOfMemory = OutOfMemory
