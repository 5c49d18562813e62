-- `length_of` meets its contract. Assumes nothing.
use native.Mathlib.Numerals.{add-one}
use native.Mathlib.Omega.{arith}
use Rattle.lists.proofs.length_of.Goals as goal

pub overflow_sub-result : goal.overflow_sub-result
overflow_sub-result c = omega (arith, c.start_of-2.ensures, rw add-one at c.start_of.ensures, c.requires)

pub returns : goal.returns
returns c = let stop = rw add-one at c.start_of.ensures in rw (stop, c.start_of-2.ensures)
