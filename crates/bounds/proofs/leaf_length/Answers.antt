-- `leaf_length` meets its contract, arm by arm. Assumes nothing.
use Rattle.bounds.proofs.leaf_length.Goals as goal

pub list_length-requires : goal.list_length-requires
list_length-requires c = (c.requires.ends_value, c.requires.by_index _ c.in-Leaf.is)

pub returns-in-Leaf : goal.returns-in-Leaf
returns-in-Leaf c = rw c.in-Leaf.is c.list_length.ensures
