-- The bundles of a code image, and what is asked before they make a program.
use Rattle.std.specs.Prelude.{ℕ, zero, suc, ◌+◌, ◌/◌, List, [], ◌∷◌, length, take, drop, Some, None, Option}
use Rattle.questions.specs.Questions.{or_else}
use Rattle.blocks.specs.declared.kinds.Kind.TheVariants.{Code}
use Rattle.images.specs.Images.{blocks_in, checking, payloads_of}
use Rattle.images.specs.declared.refusals.ImageRefusal.{ImageRefusal}
use Rattle.bundles.specs.Bundles.{decoded}
use Rattle.bundles.specs.declared.bundle.Bundle.{Bundle}
use Rattle.program.specs.declared.refusals.LoadRefusal.{LoadRefusal}
use Rattle.program.specs.declared.refusals.LoadRefusal.TheVariants.{Image, Unlawful}

-- the bundle that sixteen bytes mean, if they are lawful
unfoldable pub meant : List ℕ → Option Bundle
meant bytes = decoded bytes

-- a refusal of the image
abbrev pub of_image : Option ImageRefusal → Option LoadRefusal
of_image None = None
of_image (Some refusal) = Some (Image refusal)

-- the first of some bundles that is not lawful, counted from a place on; the rest is asked only if this one is
abbrev pub lawful_then : ℕ → Option Bundle → Option LoadRefusal → Option LoadRefusal
lawful_then place None later = Some (Unlawful place)
lawful_then place (Some bundle) later = later

-- are these bundles lawful, one after the other?
abbrev pub unlawful : ℕ → ℕ → List ℕ → Option LoadRefusal
unlawful place zero bytes = None
unlawful place (suc n) bytes = lawful_then place (meant (take 16 bytes)) (unlawful (place + 1) n (drop 16 bytes))

-- a bundle in front of others, if it is lawful
abbrev pub in_front : Option Bundle → List Bundle → List Bundle
in_front None later = later
in_front (Some bundle) later = bundle ∷ later

-- the bundles that bytes mean, sixteen bytes each
abbrev pub bundles_of : ℕ → List ℕ → List Bundle
bundles_of zero bytes = []
bundles_of (suc n) bytes = in_front (meant (take 16 bytes)) (bundles_of n (drop 16 bytes))

-- the payloads of an image, which are its bundles one after the other
abbrev pub code_of : List ℕ → List ℕ
code_of image = payloads_of (blocks_in image) image

-- the first no to a code image: its own questions, then whether every bundle is lawful
abbrev pub loading : List ℕ → Option LoadRefusal
loading image = or_else (of_image (checking Code image)) (unlawful 0 (length (code_of image) / 16) (code_of image))

-- the bundles of a code image
abbrev pub program_of : List ℕ → List Bundle
program_of image = bundles_of (length (code_of image) / 16) (code_of image)
