-- The zeros above the first one are the places by which it has to move to be the highest bit.
use Rattle.std.proofs.Common.{◌≡◌, ℕ, suc, ◌+◌, ◌*◌, ◌^◌, ◌<◌, ◌≤◌, sym, ap, ◌∙◌, subst, le_refl, arith}
use lib.Count.{count_leading_zeros, leading_of_zero}
use Rattle.std.proofs.lemmas.Nat.{leading_top, mul-le, pow-add, shl_below}
use Rattle.words.specs.Bits.{FirstOne, ff1}

-- j is the place of the first one, k how far it has to move
reaches : (u j k n : ℕ) → j + k ≡ n → 2 ^ j ≤ u → 2 ^ n ≤ u * 2 ^ k
reaches u j k n e l = subst (λ (x : ℕ). x ≤ u * 2 ^ k) (sym (pow-add 2 j k) ∙ ap (λ (x : ℕ). 2 ^ x) e) (mul-le (2 ^ j) (2 ^ k) u (2 ^ k) l (le_refl (2 ^ k)))

stays : (u j k n : ℕ) → j + k ≡ n → u < 2 ^ j → u * 2 ^ k < 2 ^ n
stays u j k n e l = subst (λ (x : ℕ). u * 2 ^ k < 2 ^ x) e (shl_below u j k l)

pub first_one : (u : ℕ) → u < 2 ^ 32 → FirstOne u (ff1 u)
first_one u h = (
  (λ some. let (j, all, low, high) = leading_top 32 u some h in (reaches u j (ff1 u) 31 (omega arith) low, stays u (suc j) (ff1 u) 32 (omega arith) high)),
  (λ none. ap (count_leading_zeros 32) none ∙ leading_of_zero 32),
)
