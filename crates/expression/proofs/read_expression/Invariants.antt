-- `expression::read_expression` meets its contract. The loop holds what `Held` says: the whole reading is the bytes so far in
-- front of what the open levels still have to come. Each turn and each way out is a law of `Turns`. The measure counts three
-- for each node that may still come and one for each open level. Assumes nothing.
use Prim.Native.Nat.{◌+◌, ◌-◌, ◌*◌}
use Rattle.model.specs.Forms.{there}
use Rattle.expression.proofs.Turns.{Held}
use Rattle.expression.proofs.read_expression.Given as goal

abbrev pub invariant-loop-depth : goal.invariant-loop-depth
invariant-loop-depth l = Held l.form (there l.lists l.word) l.s l.nodes l.left l.depth l.done l.at

abbrev pub decreases-loop-depth : goal.decreases-loop-depth
decreases-loop-depth l = 3 * (48 - l.done) + l.depth
