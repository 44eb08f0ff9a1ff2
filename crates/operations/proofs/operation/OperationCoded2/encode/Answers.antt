use Rattle.std.proofs.Common.{Some, sym, ap, ◌∙◌}
use Rattle.operations.proofs.Numbers.{combine_back, latch_back, flag_back, shift_back, scan_back, special_back, fetch_back}
use Rattle.operations.proofs.operation.OperationCoded2.encode.Goals as goal

pub returns-in-Combine-clause-back : goal.returns-in-Combine-clause-back
returns-in-Combine-clause-back c = combine_back c.number.result c.number-in-Combine.result c.in-Combine.operand c.number-in-Combine.ensures.back c.in-Combine.binary c.number.ensures.below c.number.ensures.back ∙ ap Some (sym c.in-Combine.is)

pub returns-in-Latch-clause-back : goal.returns-in-Latch-clause-back
returns-in-Latch-clause-back c = latch_back c.number-in-Latch.result c.number-in-Latch-2.result c.in-Latch.operand c.number-in-Latch-2.ensures.back c.in-Latch.multiply c.number-in-Latch.ensures.below c.number-in-Latch.ensures.back ∙ ap Some (sym c.in-Latch.is)

pub returns-in-Flag-clause-back : goal.returns-in-Flag-clause-back
returns-in-Flag-clause-back c = flag_back c.in-Flag.condition c.number-in-Flag.result c.number-in-Flag.ensures.below c.number-in-Flag.ensures.back ∙ ap Some (sym c.in-Flag.is)

pub returns-in-Shift-clause-back : goal.returns-in-Shift-clause-back
returns-in-Shift-clause-back c = shift_back c.number-in-Shift.result c.in-Shift.shift c.number-in-Shift.ensures.back ∙ ap Some (sym c.in-Shift.is)

pub returns-in-Scan-clause-back : goal.returns-in-Scan-clause-back
returns-in-Scan-clause-back c = scan_back c.number-in-Scan.result c.in-Scan.scan c.number-in-Scan.ensures.back ∙ ap Some (sym c.in-Scan.is)

pub returns-in-Special-clause-back : goal.returns-in-Special-clause-back
returns-in-Special-clause-back c = special_back c.number-in-Special.result c.in-Special.special c.number-in-Special.ensures.back ∙ ap Some (sym c.in-Special.is)

pub returns-in-Fetch-clause-back : goal.returns-in-Fetch-clause-back
returns-in-Fetch-clause-back c = fetch_back c.number-in-Fetch.result c.in-Fetch.fetch c.number-in-Fetch.ensures.back ∙ ap Some (sym c.in-Fetch.is)
