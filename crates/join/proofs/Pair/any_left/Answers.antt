-- `join::Pair::any_left` meets its contract: the second is asked where the first has none. Assumes nothing.
use borrow.Author.Tests.{lt-ltb, le-ltb}
use Rattle.join.specs.Streams.{some_left}
use Rattle.join.proofs.Pair.any_left.Goals as goal

pub returns-then-self-lt4294967296 : goal.returns-then-self-lt4294967296
unfolding some_left
returns-then-self-lt4294967296 c = rw (lt-ltb _ _ c.if-self-lt4294967296.true)

pub returns-else-self-lt4294967296 : goal.returns-else-self-lt4294967296
unfolding some_left
returns-else-self-lt4294967296 c = rw (le-ltb _ _ c.if-self-lt4294967296.false)
