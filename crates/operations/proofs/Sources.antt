-- A place of another stack comes back from its byte.
use Rattle.std.proofs.Common.{◌≡◌, ℕ, ◌+◌, ◌-◌, ◌*◌, ◌/◌, ◌%◌, ◌<◌, Some, arith}
use Rattle.operations.specs.Operands.{decoded_source}
use Rattle.operations.specs.Places.{nears, stacks}
use Rattle.operations.specs.declared.operands.Source.TheVariants.{Other}
use Rattle.operations.specs.declared.places.Near.{Near}
use Rattle.operations.specs.declared.places.StackNumber.{StackNumber}
use Rattle.std.proofs.lemmas.Bool.{le-ltb}
use Rattle.std.specs.List.{slice_get}

pub other_back : (n p : ℕ) (stack : StackNumber) (near : Near) → p < 4 → slice_get stacks n ≡ Some stack → slice_get nears p ≡ Some near → decoded_source (12 + 4 * n + p) ≡ Some (Other stack near)
other_back n p stack near small named placed =
    let quotient : (12 + 4 * n + p - 12) / 4 ≡ n = omega arith in
    let remainder : (12 + 4 * n + p - 12) % 4 ≡ p = omega arith in
    simp (le-ltb (12 + 4 * n + p) 8 (omega arith), le-ltb (12 + 4 * n + p) 12 (omega arith), quotient, remainder, named, placed)
