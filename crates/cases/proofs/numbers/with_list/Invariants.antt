-- The next number's place is within the row.
use Rattle.std.proofs.Common.{◌≤◌}
use Rattle.cases.proofs.numbers.with_list.Given as goal

abbrev pub invariant-loop-slot : goal.invariant-loop-slot
invariant-loop-slot l = l.place ≤ 511
