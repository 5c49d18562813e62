-- `end_of` meets its contract: before each turn the siblings that are left, from where it is, end where all of them do from the
-- start. Assumes nothing.
use mathlib.Core.Path.{◌≡◌}
use Prim.Native.Nat.{◌-◌}
use Rattle.reader.specs.Rows.{siblings}
use Rattle.reader.proofs.end_of.Given as goal

abbrev pub invariant-loop : goal.invariant-loop
invariant-loop l = siblings l.behind (l.members - l.counter) l.at ≡ siblings l.behind l.members l.first
