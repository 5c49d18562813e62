-- `word_holds` meets its contract. Before each turn 10 for the word over all ends is that over those that are left, from the
-- start of their first list; the turn takes one end off. Assumes nothing.
use mathlib.Core.Path.{◌≡◌}
use lib.ListN.{drop}
use Rattle.model.specs.Lists.{word_holds}
use Rattle.lists.proofs.word_holds.Given as goal

abbrev pub invariant-loop-k : goal.invariant-loop-k
invariant-loop-k l = word_holds l.word 0 0 l.ends ≡ word_holds l.word l.k l.start (drop l.k l.ends)
