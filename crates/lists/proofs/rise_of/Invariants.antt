-- `rise_of` meets its contract. Before each turn the list's rise is that of what is left, from the last number and the
-- largest gap minus 1 so far; the turn takes one number off. Assumes nothing.
use mathlib.Core.Path.{◌≡◌}
use lib.ListN.{drop}
use Rattle.lists.specs.Rise.{rise}
use Rattle.lists.proofs.Rises.{rise_from}
use Rattle.lists.proofs.rise_of.Given as goal

abbrev pub invariant-loop-x : goal.invariant-loop-x
invariant-loop-x l = rise l.list ≡ rise_from l.largest l.last (drop l.x-index l.rest)
