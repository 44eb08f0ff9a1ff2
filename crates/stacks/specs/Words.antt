-- The words of a stack, the top first.
use Rattle.std.specs.Prelude.{ℕ, List, drop}
use Rattle.stacks.specs.declared.contents.Words.{Words}

-- they lie at the end of the cells
abbrev pub words_in : Words → List ℕ
words_in w = drop w.top w.cells
