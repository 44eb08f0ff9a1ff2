-- What a refusal says.
use Rattle.std.specs.Prelude.{ℕ, List, ◌++◌, codes, decimal}

-- a refusal as it is shown: its number, then the question that got the no
abbrev pub refusal_text : ℕ → List ℕ → List ℕ
refusal_text number question = decimal number ++ codes ": " ++ question
