use Rattle.std.proofs.Common.{rules}
use Rattle.std.proofs.lemmas.Option.{unwrap_or-slice_get}
use Rattle.stacks.proofs.contents.Words.word.Goals as goal

pub returns : goal.returns
returns c = search (rules, unwrap_or-slice_get)
