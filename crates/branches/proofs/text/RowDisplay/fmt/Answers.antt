use Rattle.std.proofs.Common.{◌≡◌, ℕ, ◌+◌, ◌<◌, Bool, List, ◌∷◌, ◌++◌, ◌||◌, get_or, drop, append_assoc, add-one, drop-cons, arith, rules}
use Rattle.branches.specs.Stacks.{names}
use Rattle.branches.specs.Text.{piece_text, row_text, stacks_text}
use Rattle.branches.specs.declared.branch.Needed.{Needed}
use Rattle.branches.specs.declared.stacks.Stacks.{Stacks}
use Rattle.operations.specs.Places.{stacks}
use Rattle.operations.specs.declared.places.StackNumber.TheVariants.{Zero}
use Rattle.std.proofs.lemmas.Grind.{common_steps}
use Rattle.std.proofs.Output.{has_written_append}
use Rattle.branches.proofs.text.RowDisplay.fmt.Goals as goal
use Rattle.branches.proofs.text.RowDisplay.fmt.Goals.{then-names+then-follows+in_ok-write, then-names+else-follows+in_ok-write-2, else-names}

-- a row is written up to a stack, with what is written of that stack, and goes on behind it
one_more :
    (needed : Needed) (s : Stacks) (follows next : Bool) (k : ℕ) (written whole : List ℕ) → k < 4 → written ++ row_text needed s follows (drop k stacks) ≡ whole
    → next ≡ (follows || names s (get_or stacks k Zero)) → (written ++ piece_text needed follows (names s (get_or stacks k Zero)) (get_or stacks k Zero)) ++ row_text needed s next (drop (k + 1) stacks) ≡ whole
one_more needed s follows next k written whole small so_far then =
    let here : drop k stacks ≡ get_or stacks k Zero ∷ drop (k + 1) stacks = rw add-one (drop-cons stacks k Zero small) in
    simp (append_assoc, then) (simp here at so_far)

pub loop-stack-preserved : goal.loop-stack-preserved
loop-stack-preserved g c = λ plain.
    let held = c.loop-stack.invariant plain in
    let k = c.loop-stack.stack-index in
    let s = c.args.self.now in
    let small : k < 4 = omega arith in
    let more = one_more s.needed s.stacks c.loop-stack.follows c.if-names.follows k held.0 (stacks_text s.needed s.stacks) small held.2 in
    elim c.if-names.branch [
      | then-names+then-follows+in_ok-write w ↦ (_, has_written_append _ _ _ _ _ _ held.1 (search rules), more (grind arith))
      | then-names+else-follows+in_ok-write-2 w ↦ (_, has_written_append _ _ _ _ _ _ held.1 (search rules), more (grind arith))
      | else-names w ↦ (held.0, search rules, grind (arith, common_steps, more))
    ]
