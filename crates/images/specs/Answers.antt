-- The answer of a call that makes bytes: pinned but for whether there is memory enough.
use Rattle.std.specs.Prelude.{◌≡◌, ℕ, List, vec_items, Option, Result, Vec}
use Rattle.std.specs.declared.alloc.Global.{Global}
use Rattle.questions.specs.Failures.{Makes}
use Rattle.questions.specs.declared.failures.Failure.{Failure}
use Rattle.images.specs.declared.refusals.ImageRefusal.{ImageRefusal}

-- the bytes where nothing got a no, the first no where something did; want of memory only in the place of the bytes
abbrev pub Gives : Result (Vec ℕ Global) (Failure ImageRefusal) → Option ImageRefusal → List ℕ → Type 0
Gives result asked bytes = Makes result asked asked (λ made. vec_items made ≡ bytes)
