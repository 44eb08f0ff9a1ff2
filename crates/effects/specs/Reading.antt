-- What the code reads off a stack, as the lists that it stands for.
use Rattle.std.specs.Prelude.{ℕ, List, [], ◌∷◌, ◌++◌, drop, Some, None, Option}
use Rattle.effects.specs.Operands.{TopTwo}
use Rattle.effects.specs.declared.twos.Two.{Two}
use Rattle.stacks.specs.Changes.{changed}
use Rattle.stacks.specs.declared.changes.Change.{Change}
use Rattle.effects.specs.declared.twos.Under.{Under}
use Rattle.effects.specs.declared.twos.Under.TheVariants as under

-- the words that stay below an operation's two
abbrev pub under_words : Under → List ℕ
under_words under.Nothing = []
under_words (under.One a) = a ∷ []
under_words (under.Two a b) = a ∷ b ∷ []

-- an operation's two words, read off a stack
abbrev pub read_two : Option Two → List ℕ → Option TopTwo
read_two None xs = None
read_two (Some t) xs = Some (record { n1 = t.n1; n2 = t.n2; rest = under_words t.under ++ drop t.off xs })

-- the words after a change, if there is one
abbrev pub read_change : Option Change → List ℕ → Option (List ℕ)
read_change None xs = None
read_change (Some change) xs = Some (changed change xs)
