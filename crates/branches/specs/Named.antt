-- Whether any stack is named.
use Rattle.std.specs.Prelude.{Bool, List}
use Rattle.std.specs.List.{list_any}

-- one at least
abbrev pub any_of : List Bool → Bool
any_of named = list_any (λ is. is) named
