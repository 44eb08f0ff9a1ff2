-- An operation's number leads back to it.
use Rattle.std.proofs.Common.{◌≡◌, ℕ, ◌+◌, ◌-◌, ◌<◌, [], take, drop, refl, Some, arith}
use Rattle.codes.proofs.Tables.{further_on}
use Rattle.operations.specs.Kinds.{binaries, fetches, multiplies, scans, shifts, specials}
use Rattle.operations.specs.Operands.{decoded_operand}
use Rattle.operations.specs.Operations.{combined, decoded_operation, firsts, last_operations, latched}
use Rattle.operations.specs.declared.kinds.Binary.{Binary}
use Rattle.operations.specs.declared.kinds.Fetch.{Fetch}
use Rattle.operations.specs.declared.kinds.Multiply.{Multiply}
use Rattle.operations.specs.declared.kinds.Scan.{Scan}
use Rattle.operations.specs.declared.kinds.Shift.{Shift}
use Rattle.operations.specs.declared.kinds.Special.{Special}
use Rattle.operations.specs.declared.operands.Operand.{Operand}
use Rattle.operations.specs.declared.operation.Operation.{Operation}
use Rattle.operations.specs.declared.operation.Operation.TheVariants as operation
use Rattle.std.proofs.lemmas.Bool.{le-ltb, lt-ltb}
use Rattle.std.specs.List.{slice_get}
use Rattle.words.specs.Numbers.{conditions}
use Rattle.words.specs.declared.condition.Condition.{Condition}

module _ (n argument : ℕ) (x : Operand) (read : decoded_operand argument ≡ Some x) where
  pub combine_back : (b : Binary) → n < 9 → slice_get binaries n ≡ Some b → decoded_operation (3 + n) argument ≡ Some (operation.Combine b x)
  combine_back b small named =
      let here : slice_get firsts (3 + n) ≡ Some (combined b) = further_on combined binaries n b named (take 3 firsts) (drop 12 firsts) (3 + n) refl in
      simp (lt-ltb (3 + n) 17 (omega arith), here, read)

  pub latch_back : (m : Multiply) → n < 3 → slice_get multiplies n ≡ Some m → decoded_operation (12 + n) argument ≡ Some (operation.Latch m x)
  latch_back m small named =
      let here : slice_get firsts (12 + n) ≡ Some (latched m) = further_on latched multiplies n m named (take 12 firsts) (drop 15 firsts) (12 + n) refl in
      simp (lt-ltb (12 + n) 17 (omega arith), here, read)

pub flag_back : (condition : Condition) (n : ℕ) → n < 16 → slice_get conditions n ≡ Some condition → decoded_operation (17 + n) 0 ≡ Some (operation.Flag condition)
flag_back condition n small named =
    let same : 17 + n - 17 ≡ n = omega arith in
    simp (le-ltb (17 + n) 17 (omega arith), lt-ltb (17 + n) 33 (omega arith), same, named)

-- those numbered from 33
late : (number k : ℕ) (o : Operation) → number ≡ 33 + k → slice_get last_operations k ≡ Some o → decoded_operation number 0 ≡ Some o
late number k o is here =
    let same : number - 33 ≡ k = omega arith in
    simp (le-ltb number 17 (omega arith), le-ltb number 33 (omega arith), same, here)

module _ (n : ℕ) where
  pub shift_back : (s : Shift) → slice_get shifts n ≡ Some s → decoded_operation (33 + n) 0 ≡ Some (operation.Shift s)
  shift_back s named = late (33 + n) n (operation.Shift s) refl (further_on operation.Shift shifts n s named [] (drop 8 last_operations) n (omega arith))

  pub scan_back : (s : Scan) → slice_get scans n ≡ Some s → decoded_operation (41 + n) 0 ≡ Some (operation.Scan s)
  scan_back s named = late (41 + n) (8 + n) (operation.Scan s) (omega arith) (further_on operation.Scan scans n s named (take 8 last_operations) (drop 10 last_operations) (8 + n) refl)

  pub special_back : (s : Special) → slice_get specials n ≡ Some s → decoded_operation (43 + n) 0 ≡ Some (operation.Special s)
  special_back s named = late (43 + n) (10 + n) (operation.Special s) (omega arith) (further_on operation.Special specials n s named (take 10 last_operations) (drop 14 last_operations) (10 + n) refl)

  pub fetch_back : (f : Fetch) → slice_get fetches n ≡ Some f → decoded_operation (47 + n) 0 ≡ Some (operation.Fetch f)
  fetch_back f named = late (47 + n) (14 + n) (operation.Fetch f) (omega arith) (further_on operation.Fetch fetches n f named (take 14 last_operations) [] (14 + n) refl)
