-- `cases::numbers::lists_from` meets its contract: what each list leaves. Assumes nothing.
use Prim.Native.Nat.{◌≤◌}
use Rattle.cases.proofs.numbers.lists_from.Given as goal

abbrev pub invariant-loop-k : goal.invariant-loop-k
invariant-loop-k s = (s.l.used ≤ 511) × (1 ≤ s.l.count) × (s.l.count ≤ 32)
