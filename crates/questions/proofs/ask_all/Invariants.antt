use Rattle.std.proofs.Common.{◌≡◌, drop}
use Rattle.questions.specs.Questions.{first_no}
use Rattle.questions.proofs.ask_all.Given as goal

-- what is left gives the whole
abbrev pub invariant-loop-holds : goal.invariant-loop-holds
invariant-loop-holds g l = first_no (drop l.holds-index l.questions) ≡ first_no l.questions
