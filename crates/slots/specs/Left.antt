-- What an operation leaves of its stack.
use Rattle.drafts.specs.Shown.{Shown, shown}
use Rattle.drafts.specs.declared.draft.Draft.{Draft}
use Rattle.stacks.specs.Held.{Held}
use Rattle.std.specs.Prelude.{Some, None, Option}

-- what its draft shows; no draft says that words lack
abbrev pub left : Option Draft → Held → Option Shown
left None h = None
left (Some draft) h = Some (shown draft h)
