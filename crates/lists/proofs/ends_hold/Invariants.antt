-- `ends_hold` meets its contract. Before each turn 10 over all ends is 10 over those that are left, from the start of
-- their first list; the turn takes one end off. Assumes nothing.
use mathlib.Core.Path.{◌≡◌}
use lib.ListN.{drop}
use Rattle.model.specs.Lists.{ends_hold}
use Rattle.lists.proofs.ends_hold.Given as goal

abbrev pub invariant-loop-end : goal.invariant-loop-end
invariant-loop-end l = ends_hold l.size 0 l.ends ≡ ends_hold l.size l.start (drop l.end-index l.ends)
