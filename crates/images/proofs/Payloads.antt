-- The payloads of an image's blocks, as the code gathers them.
use Rattle.std.proofs.Common.{◌≡◌, ℕ, zero, suc, List, ◌++◌, take, drop, ap, refl}
use Rattle.std.specs.List.{flat_map}
use Rattle.std.specs.Simd.{first_chunks}
use Rattle.blocks.specs.Layout.{payload_of}
use Rattle.images.specs.Images.{payloads_of}

pub payloads_are : (n : ℕ) (image : List ℕ) → payloads_of n image ≡ flat_map payload_of (first_chunks 512 n image)
payloads_are zero image = refl
payloads_are (suc n) image = ap (λ later. payload_of (take 512 image) ++ later) (payloads_are n (drop 512 image))
