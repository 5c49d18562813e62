-- `expression::read_expression` meets its contract. The loop holds what `Held` says: the whole reading is the bytes so far in
-- front of what the open levels still have to come. Each turn and each way out is a law of `Turns`. The measure counts three
-- for each node that may still come and one for each open level. Assumes nothing.
use mathlib.Core.Path.{◌≡◌, sym, ◌∙◌}
use native.Mathlib.Omega.{arith}
use Rattle.model.specs.Outcome.{accepted}
use Rattle.model.specs.Forms.{there}
use Rattle.refusals.proofs.Up.{up}
use Rattle.expression.specs.Reading.{take_in}
use Rattle.expression.proofs.Positions.{few-members, node_taken}
use Rattle.expression.proofs.Turns.{begin, close, at_1, at_2, at_3, at_leaf, at_5, step, whole}
use Rattle.expression.proofs.read_expression.Goals as goal
use Rattle.expression.proofs.read_expression.Goals.{In-Node}

pub loop-depth-init : goal.loop-depth-init
loop-depth-init c = begin c.args.form (there c.args.lists c.args.word) c.args.s.now

pub loop-depth-preserved-then-left-level-eq0 : goal.loop-depth-preserved-then-left-level-eq0
loop-depth-preserved-then-left-level-eq0 c =
    let l = c.loop-depth in
    close l.invariant c.loop-depth-test.true c.if-left-level-eq0.true

pub returns-then-done-eq48 : goal.returns-then-done-eq48
returns-then-done-eq48 c =
    sym (at_2 c.loop-depth.invariant c.loop-depth-test.true c.if-left-level-eq0.false (omega arith))

pub returns-then-depth-eq13 : goal.returns-then-depth-eq13
returns-then-depth-eq13 c =
    sym (at_3 c.loop-depth.invariant c.loop-depth-test.true c.if-left-level-eq0.false (omega arith) c.if-depth-eq13.true)

pub returns-in_default : goal.returns-in_default
returns-in_default c =
    let l = c.loop-depth in
    sym (at_1 l.invariant c.loop-depth-test.true c.if-left-level-eq0.false (omega arith) (omega arith) (sym c.read_node-got.ensures ∙ c.refusal_of.ensures))

-- the node that was read
node_got : (c : In-Node) → take_in c.args.form c.args.s.now c.loop-depth.at ≡ accepted (c.in-Node.node, c.in-Node.next)
node_got c = sym c.in-Node.ensures

pub returns-in_err-test_leaf : goal.returns-in_err-test_leaf
returns-in_err-test_leaf c =
    let l = c.loop-depth in
    up _ _ c.from_residual.ensures.1 ∙ sym (at_leaf l.invariant c.loop-depth-test.true c.if-left-level-eq0.false (omega arith) (omega arith) (node_got (goal.at.returns-in_err-test_leaf c).In-Node) (sym c.in_err-test_leaf.ensures))

pub byte_of-requires : goal.byte_of-requires
byte_of-requires c =
    few-members c.in-Node.node (node_taken c.args.s.now c.args.form c.loop-depth.at _ (node_got (goal.at.byte_of-requires c).In-Node)).few

pub loop-depth-preserved : goal.loop-depth-preserved
loop-depth-preserved c =
    rw (c.byte_of.ensures, c.members_of.ensures) (step c.loop-depth.invariant c.loop-depth-test.true c.if-left-level-eq0.false (omega arith) (omega arith) (node_got (goal.at.loop-depth-preserved c).In-Node) (sym c.in_ok-test_leaf.ensures))

pub returns-then-not-ended : goal.returns-then-not-ended
returns-then-not-ended c =
    sym (at_5 c.loop-depth.invariant (omega arith) (sym c.ended.ensures ∙ c.if-not-ended.true))

pub returns : goal.returns
returns c =
    sym (whole c.loop-depth.invariant (omega arith) (sym c.ended.ensures ∙ c.if-not-ended.false))
