-- `ascends` meets its contract. Before each turn the list ascends just where all that has passed does and what is left does, from the
-- number before it on. Assumes nothing.
use mathlib.Core.Path.{◌≡◌}
use mathlib.Core.Bool.{◌&&◌}
use Prim.Native.Nat.{◌-◌}
use lib.ListN.{get_or, drop}
use Rattle.model.specs.Lists.{rises, ascending}
use Rattle.lists.proofs.ascends.Given as goal

abbrev pub invariant-loop-i : goal.invariant-loop-i
invariant-loop-i l = (l.all && rises (get_or l.list (l.i - 1) 0) (drop l.i l.list)) ≡ ascending l.list
