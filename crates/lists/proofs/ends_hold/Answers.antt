-- `ends_hold` meets its contract. Before each turn 10 over all ends is 10 over those that are left, from the start of
-- their first list; the turn takes one end off. Assumes nothing.
use mathlib.Core.Path.{sym, ◌∙◌}
use native.Mathlib.Omega.{arith}
use Rattle.lists.proofs.Ends.{hold_falls, hold_passes, hold-over, hold-more, hold-end}
use Rattle.lists.proofs.ends_hold.Goals as goal
use Rattle.lists.proofs.ends_hold.Goals.{then-stop-start-via-then-stop-start, then-stop-start-via-else-stop-start+then-size-stop, then-stop-start-via-else-stop-start+else-size-stop+then-stop-start-gt65535}

pub returns-then-stop-start : goal.returns-then-stop-start
returns-then-stop-start c =
    let args = c.args in
    let l = c.loop-end in
    elim c.then-stop-start.branch [
      | then-stop-start-via-then-stop-start w ↦ sym (l.invariant ∙ hold_falls args.size l.start args.ends.now l.end-index (omega arith) (omega arith))
      | then-stop-start-via-else-stop-start+then-size-stop w ↦ sym (l.invariant ∙ hold_passes args.size l.start args.ends.now l.end-index (omega arith) (omega arith) (omega arith))
      | then-stop-start-via-else-stop-start+else-size-stop+then-stop-start-gt65535 w ↦
          sym (l.invariant ∙ hold-over args.size l.start args.ends.now l.end-index (omega arith) (omega arith) (omega arith) (omega arith))
    ]

pub loop-end-preserved : goal.loop-end-preserved
loop-end-preserved c =
    let l = c.loop-end in
    l.invariant ∙ hold-more c.args.size l.start c.args.ends.now l.end-index (omega arith) (omega arith) (omega arith) (omega arith)

pub returns : goal.returns
returns c =
    let l = c.loop-end in
    sym (l.invariant ∙ hold-end c.args.size l.start c.args.ends.now l.end-index (omega arith))
