-- Lists of bytes.
use Rattle.std.proofs.Common.{ℕ, ◌<◌, List, get_or}
use Rattle.std.specs.List.{All}
use Rattle.std.proofs.lemmas.List.Elements.{All-from_get_or}

abbrev pub Byte : ℕ → Type 0
Byte x = x < 256

abbrev pub Bytes : List ℕ → Type 0
Bytes xs = All Byte xs

pub bytes_from : (xs : List ℕ) → ((i : ℕ) → get_or xs i 0 < 256) → Bytes xs
bytes_from xs each = All-from_get_or Byte xs 0 (λ i here. each i)
