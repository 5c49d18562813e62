-- `all_ascending` meets its contract. Before each turn 11 over all lists is 11 over those that are left, whose ends hold
-- from the start of their first; the turn takes one list off. Assumes nothing.
use mathlib.Core.Path.{◌≡◌}
use mathlib.Core.Bool.{true}
use lib.ListN.{length, drop}
use Rattle.model.specs.Lists.{all_ascending, lists_from, ends_hold}
use Rattle.lists.proofs.all_ascending.Given as goal

abbrev pub invariant-loop-end : goal.invariant-loop-end
invariant-loop-end l =
    (ends_hold (length l.numbers) l.start (drop l.end-index l.ends) ≡ true)
    × (all_ascending (lists_from l.numbers 0 l.ends) ≡ all_ascending (lists_from l.numbers l.start (drop l.end-index l.ends)))
