-- The code of an accepted image is at most 63,488 bundles.
use Rattle.std.proofs.Common.{is_ok, sym, true, false, ◌≡◌, ℕ, ◌≤◌, List, length, Ok, Err, None, Result, Vec, vec_items, ap, ◌∙◌, arith}
use Rattle.std.specs.Result.{MatchResult}
use Rattle.std.specs.declared.alloc.Global.{Global}
use Rattle.questions.specs.declared.failures.Failure.{Failure}
use Rattle.blocks.specs.declared.kinds.Kind.TheVariants.{Code}
use Rattle.images.specs.Answers.{Gives}
use Rattle.images.specs.Images.{blocks_in, checking}
use Rattle.images.specs.declared.refusals.ImageRefusal.{ImageRefusal}
use Rattle.images.proofs.OnlySealed.{accepted_image, accepted-size, length-payloads}
use Rattle.program.specs.Loading.{code_of}

code_length : (image : List ℕ) → checking Code image ≡ None → length (code_of image) ≤ 1015808
code_length image none =
    let whole = accepted_image Code image none in
    let most = accepted-size Code image none in
    let long = length-payloads (blocks_in image) image whole.0 in
    omega arith

-- also where its refusal would have been turned into another
pub few_bytes : {E : Type 0} (image : List ℕ) (read : Result (Vec ℕ Global) (Failure ImageRefusal)) (turned : Result (Vec ℕ Global) E) (bytes : Vec ℕ Global) (P : Failure ImageRefusal → Type 0)
    → Gives read (checking Code image) (code_of image) → MatchResult read (λ v. turned ≡ Ok v) P → is_ok turned ≡ is_ok read → turned ≡ Ok bytes → length (vec_items bytes) ≤ 1015808
few_bytes image (Ok v) turned bytes P gives same variant is =
    let e : v ≡ bytes = cc in
    let few = code_length image gives.0 in
    rw (← e) (rw gives.1 few)
few_bytes image (Err e) turned bytes P gives same variant is = let no : true ≡ false = sym (ap is_ok is) ∙ variant in cc
