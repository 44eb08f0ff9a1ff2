-- The words that commands are made of.
use Rattle.std.specs.Prelude.{ℕ, cond, List, [], ◌∷◌, Some, None, codes, Option}
use Rattle.std.specs.Str.{bytes_eq}
use Rattle.blocks.specs.declared.kinds.Kind.{Kind}
use Rattle.blocks.specs.declared.kinds.Kind.TheVariants.{Code, Table}
use Rattle.commands.specs.declared.verbs.Verb.{Verb}
use Rattle.commands.specs.declared.verbs.Verb.TheVariants.{Seal, Check, Show, List as Lists, Read, Help}

-- what the first entry of a list of words stands for that is this word
abbrev pub named : {X : Type 0} → List (List ℕ × X) → List ℕ → Option X
named [] word = None
named (e ∷ es) word = cond (bytes_eq word e.0) (Some e.1) (named es word)

-- the verb that a word names
abbrev pub verb_named : List ℕ → Option Verb
verb_named = named (
    (codes "seal", Seal)
    ∷ (codes "check", Check)
    ∷ (codes "show", Show)
    ∷ (codes "list", Lists)
    ∷ (codes "read", Read)
    ∷ (codes "help", Help)
    ∷ [])

-- the kind that a word names
abbrev pub kind_word : List ℕ → Option Kind
kind_word = named ((codes "code", Code) ∷ (codes "table", Table) ∷ [])

-- how the command of a verb is written
abbrev pub verb_form : Verb → List ℕ
verb_form Seal = codes "seal code|table IN OUT"
verb_form Check = codes "check IMAGE"
verb_form Show = codes "show IMAGE [--payload]"
verb_form Lists = codes "list IMAGE"
verb_form Read = codes "read IMAGE ADDRESS [COUNT]"
verb_form Help = codes "help"
