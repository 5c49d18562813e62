-- `idle_reply` meets its contract: its two ways are the two values of its test. Assumes nothing.
use native.Mathlib.Omega.{arith}
use borrow.Author.Tests.{eq-eqb, ne_eqb}
use Rattle.engine.proofs.idle_reply.Goals as goal

pub returns-in-3 : goal.returns-in-3
returns-in-3 c = rw (eq-eqb c.args.code 3 (omega arith))

pub returns-in_default : goal.returns-in_default
returns-in_default c = rw (ne_eqb c.args.code 3 (λ e. omega arith))
