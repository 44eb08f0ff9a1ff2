-- Marks as people read them.
use Rattle.std.specs.Prelude.{ℕ, List, codes}
use Rattle.memory.specs.declared.marks.Mark.{Mark}
use Rattle.memory.specs.declared.marks.Mark.TheVariants.{Open, Kept, Spoiled}

-- a mark as text
abbrev pub mark_text : Mark → List ℕ
mark_text Open = codes "open"
mark_text Kept = codes "kept"
mark_text Spoiled = codes "spoiled"
