-- `all_ascending` meets its contract. Before each turn 11 over all lists is 11 over those that are left, whose ends hold
-- from the start of their first; the turn takes one list off. Assumes nothing.
use mathlib.Core.Path.{◌≡◌, sym, ◌∙◌}
use native.Mathlib.Omega.{arith}
use borrow.Author.Rules.{rules}
use lib.ListN.{length, get_or}
use Rattle.model.specs.Lists.{ascending, part}
use Rattle.lists.proofs.Ends.{Next, hold_next, lists_fall, lists-more, lists-end}
use Rattle.lists.proofs.all_ascending.Goals as goal
use Rattle.lists.proofs.all_ascending.Goals.{After-ascends, In-loop-end}

-- the list of this turn lies inside the numbers, and the ends behind it hold
next : (c : In-loop-end) → let args = c.args in
    Next (length args.numbers.now) c.loop-end.start args.ends.now c.loop-end.end-index
next c =
    let args = c.args in
    let l = c.loop-end in
    hold_next (length args.numbers.now) l.start args.ends.now l.end-index (omega arith) l.invariant.0

pub offset_bounds-numbers-start : goal.offset_bounds-numbers-start
offset_bounds-numbers-start c = let n = next (goal.at.offset_bounds-numbers-start c).In-loop-end in search rules

pub slice_bounds-ascends-count : goal.slice_bounds-ascends-count
slice_bounds-ascends-count c = (next (goal.at.slice_bounds-ascends-count c).In-loop-end).order

pub slice_bounds-ascends-start : goal.slice_bounds-ascends-start
slice_bounds-ascends-start c = let n = next (goal.at.slice_bounds-ascends-start c).In-loop-end in omega arith

pub slice_bounds-ascends-end : goal.slice_bounds-ascends-end
slice_bounds-ascends-end c = let n = next (goal.at.slice_bounds-ascends-end c).In-loop-end in omega arith

-- what the pass over this turn's list answered
heard : (c : After-ascends) → let args = c.args in
    c.ascends.result ≡ ascending (part args.numbers.now c.loop-end.start (get_or args.ends.now c.loop-end.end-index 0))
unfolding part
heard c = c.ascends.ensures

pub returns-then-not-ascends : goal.returns-then-not-ascends
returns-then-not-ascends c =
    let args = c.args in
    let l = c.loop-end in
    sym (l.invariant.1 ∙ lists_fall args.numbers.now l.start args.ends.now l.end-index (omega arith) (sym (heard (goal.at.returns-then-not-ascends c).After-ascends) ∙ c.if-not-ascends.true))

pub loop-end-preserved : goal.loop-end-preserved
loop-end-preserved c =
    let args = c.args in
    let l = c.loop-end in
    ((next (goal.at.loop-end-preserved c).In-loop-end).rest, l.invariant.1 ∙ lists-more args.numbers.now l.start args.ends.now l.end-index (omega arith) (sym (heard (goal.at.loop-end-preserved c).After-ascends) ∙ c.if-not-ascends.false))

pub returns : goal.returns
returns c =
    let args = c.args in
    let l = c.loop-end in
    sym (l.invariant.1 ∙ lists-end args.numbers.now l.start args.ends.now l.end-index (omega arith))
