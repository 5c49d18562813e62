-- `bound_of` meets its contract, arm by arm. Assumes nothing.
use native.Mathlib.Omega.{arith}
use Rattle.bounds.proofs.Turns.{fed-leaf}
use Rattle.bounds.proofs.bound_of.Goals as goal

pub list_length-requires : goal.list_length-requires
list_length-requires c = (c.requires.ends_value.0, fed-leaf _ _ _ c.requires.parts_len.1 _ c.in-Leaf.is)

pub bounds-parts-0 : goal.bounds-parts-0
bounds-parts-0 c = omega (arith, rw c.in-Difference.is at c.requires.parts_len.0)

pub returns-in-Leaf : goal.returns-in-Leaf
returns-in-Leaf c = rw c.in-Leaf.is c.list_length.ensures

pub returns-in-Difference : goal.returns-in-Difference
returns-in-Difference c = rw c.in-Difference.is
