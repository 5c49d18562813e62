-- `moved` meets its contract: at each place, the place and the moves left from there give the place at the end. The measure is
-- what is left of the list. Assumes nothing.
use mathlib.Core.Path.{◌≡◌, sym, ◌∙◌}
use mathlib.Core.Bool.{true}
use native.Mathlib.Omega.{arith}
use Rattle.reader.specs.Sought.{below}
use Rattle.reader.proofs.Moves.{passing, none_more, one_more}
use Rattle.reader.proofs.moved.Goals as goal
use Rattle.reader.proofs.moved.Goals.{In-loop-at}

-- the number at the place is below the one sought
here : (c : In-loop-at) → below c.args.list.now c.loop-at.at c.args.to ≡ true
here c = sym c.passes.ensures ∙ c.loop-at-test.true

pub overflow_add-at : goal.overflow_add-at
overflow_add-at c = omega (arith, (passing _ _ _ (here c)).0)

pub loop-at-smaller : goal.loop-at-smaller
loop-at-smaller c = omega (arith, (passing _ _ _ (here c)).0)

pub loop-at-preserved : goal.loop-at-preserved
loop-at-preserved c = omega (arith, one_more _ _ _ (here c), c.loop-at.invariant)

pub returns : goal.returns
returns c = omega (arith, none_more _ _ _ (sym c.passes.ensures ∙ c.loop-at-test.false), c.loop-at.invariant)
