use Rattle.std.proofs.Common.{◌≡◌, ℕ, List, ◌++◌, drop}
use Rattle.branches.specs.Text.{row_text, stacks_text}
use Rattle.std.specs.Fmt.{HasWritten, IsPlainFormatter}
use Rattle.branches.proofs.text.RowDisplay.fmt.Given as goal

abbrev pub invariant-loop-stack : goal.invariant-loop-stack
invariant-loop-stack g l =
    IsPlainFormatter l.initial.f →
    (written : List ℕ) × HasWritten g.W.Write.write_str_gives l.initial.f written l.f ×
    (written ++ row_text l.needed l.self.stacks l.follows (drop l.stack-index l.stack-items) ≡ stacks_text l.needed l.self.stacks)
