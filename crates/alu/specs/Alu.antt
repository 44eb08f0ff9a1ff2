-- What each kind of operation computes. n1 is the word below the top, n2 the top; f are the flags before it, c is the carry of them.
use Rattle.std.specs.Prelude.{ℕ, ◌+◌, ◌*◌, ◌%◌, ◌^◌, Bool}
use Rattle.operations.specs.declared.kinds.Binary.{Binary}
use Rattle.operations.specs.declared.kinds.Binary.TheVariants.{Or, And, Xor, Add, Sub, Subr, Addc, Subc, Subcr}
use Rattle.operations.specs.declared.kinds.Fetch.{Fetch}
use Rattle.operations.specs.declared.kinds.Fetch.TheVariants.{Plain, Negated, Added, Subtracted}
use Rattle.operations.specs.declared.kinds.Multiply.{Multiply}
use Rattle.operations.specs.declared.kinds.Multiply.TheVariants.{Pass, Mul, Umul}
use Rattle.operations.specs.declared.kinds.Scan.{Scan}
use Rattle.operations.specs.declared.kinds.Scan.TheVariants.{First, Ones}
use Rattle.operations.specs.declared.kinds.Shift.{Shift}
use Rattle.operations.specs.declared.kinds.Shift.TheVariants.{Asr, Lsr, Ror, Rorc, Asl, Lsl, Rol, Rolc}
use Rattle.words.specs.Bits.{and, ff1, or, popc, xor}
use Rattle.words.specs.Conditions.{flag_word, holds, of_word}
use Rattle.words.specs.Latch.{fetch, fetch_added, fetch_negated, fetch_subtracted, mul, pass, umul}
use Rattle.words.specs.Shifts.{asl, asr, lsl, lsr, rol, rolc, ror, rorc}
use Rattle.words.specs.Sums.{add, addc, sub, subc, subcr, subr}
use Rattle.words.specs.declared.condition.Condition.{Condition}
use Rattle.words.specs.declared.fetches.Accumulated.{Accumulated}
use Rattle.words.specs.declared.flagged.Flagged.{Flagged}
use Rattle.words.specs.declared.flags.Flags.{Flags}

-- one word of two; or, and and xor leave the flags
abbrev pub combine : Binary → ℕ → ℕ → Flags → Flagged
combine Or n1 n2 f = record { word = or n1 n2; flags = f }
combine And n1 n2 f = record { word = and n1 n2; flags = f }
combine Xor n1 n2 f = record { word = xor n1 n2; flags = f }
combine Add n1 n2 f = add n1 n2
combine Sub n1 n2 f = sub n1 n2
combine Subr n1 n2 f = subr n1 n2
combine Addc n1 n2 f = addc n1 n2 f.carry
combine Subc n1 n2 f = subc n1 n2 f.carry
combine Subcr n1 n2 f = subcr n1 n2 f.carry

-- the word 8 places to the left, and a byte below it
abbrev pub append : ℕ → ℕ → ℕ
append u byte = (u * 2 ^ 8) % 2 ^ 32 + byte

-- a condition's flag as a word
abbrev pub flag_of : Condition → ℕ → Flags → ℕ
flag_of condition u f = flag_word (holds condition (of_word u f))

-- one place to the right or to the left
abbrev pub shifted : Shift → ℕ → Bool → Flagged
shifted Asr u c = asr u
shifted Lsr u c = lsr u
shifted Ror u c = ror u
shifted Rorc u c = rorc u c
shifted Asl u c = asl u
shifted Lsl u c = lsl u
shifted Rol u c = rol u
shifted Rolc u c = rolc u c

-- bits counted
abbrev pub scanned : Scan → ℕ → ℕ
scanned First u = ff1 u
scanned Ones u = popc u

-- the number for the latch
abbrev pub product : Multiply → ℕ → ℕ → ℕ
product Pass n1 n2 = pass n1 n2
product Mul n1 n2 = mul n1 n2
product Umul n1 n2 = umul n1 n2

-- the number fetched; plain and negated leave carry and count, the others accumulate onto the number before
abbrev pub fetched : Fetch → ℕ → Accumulated → Accumulated
fetched Plain latch b = record { value = fetch latch; carry = b.carry; count = b.count }
fetched Negated latch b = record { value = fetch_negated latch; carry = b.carry; count = b.count }
fetched Added latch b = fetch_added latch b
fetched Subtracted latch b = fetch_subtracted latch b
