-- The answers of loading: pinned but for whether there is memory enough.
use Rattle.std.specs.Prelude.{◌≡◌, ℕ, List, None, vec_items, Option, Result, Vec}
use Rattle.std.specs.declared.alloc.Global.{Global}
use Rattle.questions.specs.Failures.{Makes}
use Rattle.questions.specs.declared.failures.Failure.{Failure}
use Rattle.blocks.specs.declared.kinds.Kind.TheVariants.{Code}
use Rattle.images.specs.Images.{checking}
use Rattle.bundles.specs.declared.bundle.Bundle.{Bundle}
use Rattle.program.specs.declared.program.Program.{Program}
use Rattle.program.specs.declared.refusals.LoadRefusal.{LoadRefusal}
use Rattle.program.specs.Loading.{loading, program_of}

-- exactly the image's bundles where nothing got a no, else the first no; want of memory never hides a refusal of the blocks
abbrev pub Loads : Result Program (Failure LoadRefusal) → List ℕ → Type 0
Loads result image = Makes result (loading image) (checking Code image) (λ program. vec_items program.bundles ≡ program_of image)

-- exactly these bundles where all are lawful, else the first that is not
abbrev pub Decodes : Result (Vec Bundle Global) (Failure LoadRefusal) → Option LoadRefusal → List Bundle → Type 0
Decodes result asked means = Makes {S = LoadRefusal} result asked None (λ bundles. vec_items bundles ≡ means)
