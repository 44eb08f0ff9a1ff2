use Rattle.std.proofs.Common.{◌≡◌, ℤ, ◌*ℤ◌, arith, w32, w64, SFits, to_z, of_z, rules}
use borrow.Author.Numbers.{signed_product}
use Rattle.std.proofs.lemmas.Int.{ints, to_z-of_z}
use Rattle.words.specs.Words.{signed}
use Rattle.words.proofs.products.mul.Goals as goal

-- from an i32 to an i64, through their bits
abbrev wide : ℤ → ℤ
wide z = to_z w64 (of_z w64 (to_z w32 (of_z w32 z)))

pub returns : goal.returns
returns c =
    let x = c.cast_signed.result in
    let y = c.cast_signed-2.result in
    let p : SFits w64 (wide x *ℤ wide y) = signed_product w64 w32 w32 x y (search rules) (search rules) tt in
    let e : wide x ≡ signed c.args.n1 = omega (arith, ints) in
    let f : wide y ≡ signed c.args.n2 = omega (arith, ints) in
    let t = to_z-of_z w64 (wide x *ℤ wide y) p in
    record { value = cc; exact = cc }
