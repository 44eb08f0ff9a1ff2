-- Where bundles stand.
use Rattle.std.specs.Prelude.{ℕ, ◌%◌, Bool, ◌==◌}

-- whether an address is a bundle's
abbrev pub whole : ℕ → Bool
whole address = address % 8 == 0
