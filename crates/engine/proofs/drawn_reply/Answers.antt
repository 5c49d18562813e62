-- `drawn_reply` meets its contract, in the two cases of an answer. Assumes nothing.
use mathlib.Core.Path.{refl}
use native.Mathlib.Omega.{arith}
use Rattle.engine.proofs.Replies.{none_drawn, one-drawn}
use Rattle.engine.proofs.drawn_reply.Goals as goal

pub returns-then-x-eq-FINISHED : goal.returns-then-x-eq-FINISHED
returns-then-x-eq-FINISHED c rs = none_drawn _ rs c.if-x-eq-FINISHED.true

pub overflow_cast-result : goal.overflow_cast-result
overflow_cast-result c = omega (arith, c.requires, c.if-x-eq-FINISHED.false)

pub returns : goal.returns
returns c rs = one-drawn _ rs _ refl (omega (arith, c.requires, c.if-x-eq-FINISHED.false))
