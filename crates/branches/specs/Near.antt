-- How far a branch may go.
use Rattle.std.specs.Prelude.{Bool, ℤ, pos, negsuc, nat_lt}

-- at most 1,023 bundles forth, or 1,024 back
abbrev pub near : ℤ → Bool
near (pos forth) = nat_lt forth 1024
near (negsuc back) = nat_lt back 1024
