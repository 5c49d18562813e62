-- A row of nodes gone through from the last to the first: the bounds of the trees that stand in it, one behind the other.
use Rattle.std.specs.Prelude.{List, [], ◌∷◌, ℕ, ◌+◌, ◌≤◌, ◌<◌, min, length, get_or, take, drop}
use Rattle.model.specs.declared.Node.{Node}
use Rattle.model.specs.declared.Node.TheVariants.{Leaf, Difference, Union, Intersection}
use Rattle.model.specs.Outcome.{Outcome, refused, accepted}
use Rattle.model.specs.Forms.{node_of}
use Rattle.model.specs.Demands.{sum}
use Rattle.expression.specs.Reading.{members}

-- the least of a row; of none 0
unfoldable pub least : List ℕ → ℕ
least [] = 0
least (n ∷ []) = n
least (n ∷ m ∷ ms) = min n (least (m ∷ ms))

-- a node's bound on its members, over lists of these lengths, from those of its member nodes in order
abbrev pub bound : List ℕ → Node → List ℕ → ℕ
bound ns (Leaf k) parts = get_or ns k 0
bound ns Difference parts = get_or parts 0 0
bound ns (Union n) parts = sum parts
bound ns (Intersection n) parts = least parts

-- one node more in front: it takes its member nodes off those that stand there
abbrev pub grown : List ℕ → Outcome Node → List ℕ → List ℕ
grown ns (refused n) behind = behind
grown ns (accepted node) behind = bound ns node (take (members node) behind) ∷ drop (members node) behind

unfoldable pub trees : List ℕ → List ℕ → List ℕ
trees ns [] = []
trees ns (b ∷ bs) = grown ns (node_of b) (trees ns bs)

-- a node with so many trees behind it: it has its member nodes, an intersection one at least, and a list is there, of so many
abbrev pub Fed : ℕ → ℕ → Node → Type 0
Fed lists behind (Leaf k) = k < lists
Fed lists behind Difference = 2 ≤ behind
Fed lists behind (Union n) = n ≤ behind
Fed lists behind (Intersection n) = (1 ≤ n) × (n ≤ behind)

abbrev pub Feeds : ℕ → ℕ → Outcome Node → Type 0
Feeds lists behind (refused n) = ⊥
Feeds lists behind (accepted node) = Fed lists behind node

-- every byte is such a node
unfoldable pub Whole : List ℕ → List ℕ → Type 0
Whole ns [] = Unit {0}
Whole ns (b ∷ bs) = Feeds (length ns) (length (trees ns bs)) (node_of b) × Whole ns bs

-- the length of a leaf's list, 0 at an operator; summed
abbrev pub leaf_length : List ℕ → Node → ℕ
leaf_length ns (Leaf k) = get_or ns k 0
leaf_length ns Difference = 0
leaf_length ns (Union n) = 0
leaf_length ns (Intersection n) = 0

abbrev pub length_at : List ℕ → Outcome Node → ℕ
length_at ns (refused n) = 0
length_at ns (accepted node) = leaf_length ns node

unfoldable pub leaf_lengths : List ℕ → List ℕ → ℕ
leaf_lengths ns [] = 0
leaf_lengths ns (b ∷ bs) = length_at ns (node_of b) + leaf_lengths ns bs
