-- `asks` meets its contract: its two ways are the two values of the first test. Assumes nothing.
use native.Mathlib.Omega.{arith}
use borrow.Author.Tests.{eq-eqb, ne_eqb}
use Rattle.engine.proofs.asks.Goals as goal

pub returns-then-code-eq3 : goal.returns-then-code-eq3
returns-then-code-eq3 c = rw (eq-eqb c.args.code 3 (omega arith), c.from.ensures)

pub returns-else-code-eq3 : goal.returns-else-code-eq3
returns-else-code-eq3 c = rw (ne_eqb c.args.code 3 (λ e. omega arith))
