-- A node as it is read: it names one of 32 lists, or has one to eight members.
use Rattle.std.specs.Prelude.{◌<◌, ◌≤◌}
use Rattle.evaluator.specs.declared.tokens.Node.{Node}
use Rattle.evaluator.specs.declared.tokens.Node.TheVariants.{List, Difference, Union, Intersection}

abbrev pub IsNode : Node → Type 0
IsNode (List k) = k < 32
IsNode Difference = Unit {0}
IsNode (Union n) = (1 ≤ n) × (n ≤ 8)
IsNode (Intersection n) = (1 ≤ n) × (n ≤ 8)

-- a node whose bound is the sum of its members', whatever joined them
abbrev pub union_of : Node → Node
union_of (List k) = List k
union_of Difference = Union 2
union_of (Union n) = Union n
union_of (Intersection n) = Union n
