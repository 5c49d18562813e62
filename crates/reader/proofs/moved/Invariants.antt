-- `moved` meets its contract: at each place, the place and the moves left from there give the place at the end. The measure is
-- what is left of the list. Assumes nothing.
use mathlib.Core.Path.{◌≡◌}
use Prim.Native.Nat.{◌+◌, ◌-◌}
use lib.ListN.{length, drop}
use Rattle.model.specs.Steps.{passed}
use Rattle.reader.proofs.moved.Given as goal

abbrev pub invariant-loop-at : goal.invariant-loop-at
invariant-loop-at l = l.at + passed (drop l.at l.list) l.to ≡ l.place + passed (drop l.place l.list) l.to

abbrev pub decreases-loop-at : goal.decreases-loop-at
decreases-loop-at l = length l.list - l.at
