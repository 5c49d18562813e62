-- `passes` meets its contract: the second test is made where the place is inside. Assumes nothing.
use borrow.Author.Tests.{lt-ltb, le-ltb}
use Rattle.reader.specs.Sought.{below}
use Rattle.reader.proofs.passes.Goals as goal

pub returns-then-at-list : goal.returns-then-at-list
unfolding below
returns-then-at-list c = rw (lt-ltb _ _ c.if-at-list.true, c.from.ensures)

pub returns-else-at-list : goal.returns-else-at-list
unfolding below
returns-else-at-list c = rw (le-ltb _ _ c.if-at-list.false)
