-- `drawn_floor` meets its contract, in the two cases of an answer. Assumes nothing.
use native.Mathlib.Omega.{arith}
use Rattle.engine.proofs.Replies.{floor-last, floor-next}
use Rattle.engine.proofs.drawn_floor.Goals as goal

pub returns-then-x-eq-FINISHED : goal.returns-then-x-eq-FINISHED
returns-then-x-eq-FINISHED c rs = floor-last _ rs c.if-x-eq-FINISHED.true

pub returns : goal.returns
returns c rs = floor-next _ rs (omega (arith, c.requires, c.if-x-eq-FINISHED.false))
