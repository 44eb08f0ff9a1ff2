-- A rotation by one place, as the two parts of the word and as a shift with the bit that left coming in.
use Rattle.std.proofs.Common.{◌≡◌, ℕ, ◌*◌, ◌/◌, ◌%◌, ◌^◌, ◌<◌, ◌∙◌, arith}
use lib.Bits.{bit_or}
use Rattle.std.proofs.lemmas.Nat.{or_comm, or_shifted}
use Rattle.std.proofs.lemmas.Bool.Decides.{nat_tests}
use Rattle.words.specs.Shifts.{rol, ror}

module _ (u : ℕ) (h : u < 2 ^ 32) where
  pub rotated_left : bit_or ((u * 2) % 2 ^ 32) (u / 2 ^ 31) ≡ (rol u).word
  rotated_left =
      let e : (u * 2) % 2 ^ 32 ≡ (u % 2 ^ 31) * 2 = omega arith in
      let b : u / 2 ^ 31 < 2 ^ 1 = omega arith in
      rw e (or_shifted (u % 2 ^ 31) 1 (u / 2 ^ 31) b ∙ grind (arith, nat_tests))

  pub rotated_right : bit_or (u / 2) ((u * 2 ^ 31) % 2 ^ 32) ≡ (ror u).word
  rotated_right =
      let e : (u * 2 ^ 31) % 2 ^ 32 ≡ (u % 2) * 2 ^ 31 = omega arith in
      let b : u / 2 < 2 ^ 31 = omega arith in
      rw (e, or_comm (u / 2) ((u % 2) * 2 ^ 31)) (or_shifted (u % 2) 31 (u / 2) b ∙ grind (arith, nat_tests))
