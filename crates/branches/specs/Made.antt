-- Values that need a fact.
use Rattle.std.specs.Prelude.{◌≡◌, Bool, true, false, Some, None, Option, refl}

-- such a value, if a test shows the fact
abbrev pub made_if : {A : Type 0} (is : Bool) → (is ≡ true → A) → Option A
made_if true make = Some (make refl)
made_if false make = None
