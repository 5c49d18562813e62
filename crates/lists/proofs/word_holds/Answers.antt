-- `word_holds` meets its contract. Before each turn 10 for the word over all ends is that over those that are left, from the
-- start of their first list; the turn takes one end off. Assumes nothing.
use mathlib.Core.Path.{sym, ◌∙◌}
use native.Mathlib.Omega.{arith}
use Rattle.lists.proofs.Ends.{word_falls, word_more, word_end}
use Rattle.lists.proofs.word_holds.Goals as goal

pub returns-then-not-agrees : goal.returns-then-not-agrees
returns-then-not-agrees c =
    let args = c.args in
    let l = c.loop-k in
    sym (l.invariant ∙ word_falls args.word l.start args.ends.now l.k (omega arith) (sym c.agrees.ensures ∙ c.if-not-agrees.true))

pub loop-k-preserved : goal.loop-k-preserved
loop-k-preserved c =
    let args = c.args in
    let l = c.loop-k in
    l.invariant ∙ word_more args.word l.start args.ends.now l.k (omega arith) (sym c.agrees.ensures ∙ c.if-not-agrees.false)

pub returns : goal.returns
returns c =
    let args = c.args in
    let l = c.loop-k in
    sym (l.invariant ∙ word_end args.word l.start args.ends.now l.k (omega arith))
