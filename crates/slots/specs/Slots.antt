-- What each operation makes of its stack h. Lists have the top first; beside each rule stands the stack effect with
-- the top last. None says that words lack.
use Rattle.std.specs.Prelude.{ℕ, ◌*◌, ◌/◌, true, false, cond, List, [], ◌∷◌, length, Some, None, Option, nat_le, nat_lt}
use Rattle.std.specs.Int.{w32}
use Rattle.std.proofs.Common.{of_z}
use Rattle.alu.specs.Alu.{append, combine, fetched, flag_of, scanned, shifted}
use Rattle.operations.specs.Places.{place_number}
use Rattle.operations.specs.declared.kinds.Binary.{Binary}
use Rattle.operations.specs.declared.kinds.Fetch.{Fetch}
use Rattle.operations.specs.declared.kinds.Fetch.TheVariants.{Plain, Negated, Added, Subtracted}
use Rattle.operations.specs.declared.kinds.Multiply.{Multiply}
use Rattle.operations.specs.declared.kinds.Scan.{Scan}
use Rattle.operations.specs.declared.kinds.Shift.{Shift}
use Rattle.operations.specs.declared.kinds.Special.{Special}
use Rattle.operations.specs.declared.kinds.Special.TheVariants.{FetchIp, StoreIp, FetchCount, StoreCount}
use Rattle.operations.specs.declared.operation.Operation.{Operation}
use Rattle.operations.specs.declared.operation.Operation.TheVariants as operation
use Rattle.operations.specs.declared.places.StackNumber.{StackNumber}
use Rattle.effects.specs.Operands.{TopTwo, effect, placed, top_two, top_two_of}
use Rattle.drafts.specs.Shown.{Shown, faulty, flagged, plain, with_words}
use Rattle.drafts.specs.declared.draft.SlotFault.TheVariants.{Lacking, Crowded}
use Rattle.stacks.specs.Changes.{pinned}
use Rattle.stacks.specs.Held.{Held}
use Rattle.words.specs.Latch.{number, pair_of}
use Rattle.words.specs.declared.condition.Condition.{Condition}
use Rattle.words.specs.declared.fetches.Accumulated.{Accumulated}

-- <#: n1 — n2
abbrev pub appending : ℕ → Held → List ℕ → Option Shown
appending byte h [] = None
appending byte h (n ∷ xs) = Some (plain h (append n byte ∷ xs))

-- t, 0=, .. <=: n — f
abbrev pub flagging : Condition → Held → List ℕ → Option Shown
flagging condition h [] = None
flagging condition h (n ∷ xs) = Some (plain h (flag_of condition n h.flags ∷ xs))

-- asr, .. rolc: n1 — n2, with c and o
abbrev pub shifting : Shift → Held → List ℕ → Option Shown
shifting shift h [] = None
shifting shift h (n ∷ xs) = Some (flagged h (shifted shift n h.flags.carry) xs)

-- ff1, popc: x — n
abbrev pub scanning : Scan → Held → List ℕ → Option Shown
scanning scan h [] = None
scanning scan h (n ∷ xs) = Some (plain h (scanned scan n ∷ xs))

-- or, .. subcr: n1 n2 — n3, with the flags that the operation names
abbrev pub combining : Binary → Held → Option TopTwo → Option Shown
combining binary h None = None
combining binary h (Some t) = Some (flagged h (combine binary t.n1 t.n2 h.flags) t.rest)

-- pass, mul, umul: n1 n2 —, and the latch
abbrev pub latching : Multiply → Held → Option TopTwo → Option Shown
latching multiply h None = None
latching multiply h (Some t) = Some (record {
  stack = with_words h t.rest;
  write = Some (record { multiply = multiply; n1 = t.n1; n2 = t.n2 });
  target = None;
  paired = false;
  fault = None;
})

-- pick: the operand's stack effect alone
abbrev pub picking : Held → Option (List ℕ) → Option Shown
picking h None = None
picking h (Some xs) = Some (plain h xs)

-- pin s2: x0 x1 x2 — x2 x1
abbrev pub pinning : ℕ → Held → Option Shown
pinning place h = cond (nat_lt place (length h.words)) (Some (plain h (pinned place h.words))) None

-- ip!: u —, and the target is the word, masked to a multiple of 8
abbrev pub jumping : Held → List ℕ → Option Shown
jumping h [] = None
jumping h (u ∷ xs) = Some (record { stack = with_words h xs; write = None; target = Some (u / 8 * 8); paired = false; fault = None })

-- cc!: n —, and the carry count is the word
abbrev pub counting : Held → List ℕ → Option Shown
counting h [] = None
counting h (n ∷ xs) = Some (record {
  stack = record { words = xs; flags = h.flags; skips = h.skips; count = n };
  write = None;
  target = None;
  paired = false;
  fault = None;
})

-- ip@: — u, the next address; cc@: — n, the carry count
abbrev pub special : Special → Held → ℕ → Option Shown
special FetchIp h next = Some (plain h (next ∷ h.words))
special StoreIp h next = jumping h h.words
special FetchCount h next = Some (plain h (h.count ∷ h.words))
special StoreCount h next = counting h h.words

-- a number of 64 bits goes on as a pair, its high word on top
abbrev pub paired : Held → List ℕ → Accumulated → Shown
paired h xs a = record {
  stack = record {
    words = (pair_of a.value).high ∷ (pair_of a.value).low ∷ xs;
    flags = record { carry = a.carry; overflow = h.flags.overflow };
    skips = h.skips;
    count = a.count;
  };
  write = None;
  target = None;
  paired = true;
  fault = None;
}

-- a number of 64 bits with the carry and the carry count of the stack, as a fetch takes it
abbrev pub before : Held → ℕ → Accumulated
before h d = record { value = d; carry = h.flags.carry; count = h.count }

-- mul@+, -mul@+: dl1 dh1 — dl2 dh2, with the carry and the carry count
abbrev pub accumulating : Fetch → Held → ℕ → Option TopTwo → Option Shown
accumulating fetch h latch None = None
accumulating fetch h latch (Some t) = Some (paired h t.rest (fetched fetch latch (before h (number (record { low = t.n1; high = t.n2 })))))

-- mul@, -mul@: — dl dh
abbrev pub fetching : Fetch → Held → ℕ → Option Shown
fetching Plain h latch = Some (paired h h.words (fetched Plain latch (before h 0)))
fetching Negated h latch = Some (paired h h.words (fetched Negated latch (before h 0)))
fetching Added h latch = accumulating Added h latch (top_two h.words)
fetching Subtracted h latch = accumulating Subtracted h latch (top_two h.words)

-- what an operation makes of its stack; the words of all stacks, the latch and the next address are those before the bundle
abbrev pub operated : Operation → Held → (StackNumber → List ℕ) → ℕ → ℕ → Option Shown
operated operation.Nop h all latch next = Some (plain h h.words)
operated (operation.Push n) h all latch next = Some (plain h (of_z w32 n ∷ h.words))
operated (operation.Append byte) h all latch next = appending byte h h.words
operated (operation.Combine binary operand) h all latch next = combining binary h (top_two_of (effect operand h.words all))
operated (operation.Latch multiply operand) h all latch next = latching multiply h (top_two_of (effect operand h.words all))
operated (operation.Pick source) h all latch next = picking h (placed source h.words all)
operated (operation.Pin place) h all latch next = pinning (place_number place) h
operated (operation.Flag condition) h all latch next = flagging condition h h.words
operated (operation.Shift shift) h all latch next = shifting shift h h.words
operated (operation.Scan scan) h all latch next = scanning scan h h.words
operated (operation.Special kind) h all latch next = special kind h next
operated (operation.Fetch fetch) h all latch next = fetching fetch h latch

-- are there words enough? 41; do 64 words hold the stack after it? 47
abbrev pub asked : Held → Option Shown → Shown
asked h None = faulty h Lacking
asked h (Some s) = cond (nat_le (length s.stack.words) 64) s (faulty h Crowded)

-- the work of a slot: a stack with X set runs nop
unfoldable pub worked : Operation → Held → (StackNumber → List ℕ) → ℕ → ℕ → Shown
worked op h all latch next = asked h (operated (cond h.skips operation.Nop op) h all latch next)
