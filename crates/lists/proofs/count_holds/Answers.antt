-- `lists::count_holds` meets its contract, a test of `count_holds` for each of its own. Assumes nothing.
use borrow.Author.Tests.{le-leb, lt-leb}
use native.Mathlib.Omega.{arith}
use Rattle.model.specs.Lists.{count_holds}
use Rattle.lists.proofs.count_holds.Goals as goal

pub returns-then-lists-ge1 : goal.returns-then-lists-ge1
unfolding count_holds
returns-then-lists-ge1 c = rw (le-leb 1 c.args.lists (omega arith))

pub returns-else-lists-ge1 : goal.returns-else-lists-ge1
unfolding count_holds
returns-else-lists-ge1 c = rw (lt-leb 1 c.args.lists (omega arith))
