-- Which tree stands at a node of an expression's row of bytes, and what a generator is lent.
use Rattle.std.specs.Prelude.{◌≡◌, true, false, List, [], ◌∷◌, ℕ, zero, suc, ◌+◌, ◌<◌, ltb, length, get_or}
use Rattle.model.specs.declared.Node.{Node}
use Rattle.model.specs.declared.Node.TheVariants.{Leaf, Difference, Union, Intersection}
use Rattle.model.specs.Outcome.{accepted}
use Rattle.model.specs.Expression.{Tree, leaf, difference, union, intersection, Members, one, more, size, count}
use Rattle.model.specs.Forms.{node_of}
use Rattle.lists.specs.Readable.{Readable}

-- the node i of a row of 48 is this one
abbrev pub Is : List ℕ → ℕ → Node → Type 0
Is nodes i n = (i < 48) × (node_of (get_or nodes i 0) ≡ accepted n)

-- the tree stands in the row from the node i on, each node before its members, and names lists that are there; so do
-- member nodes, one after the other
unfoldable mutual
  pub Stands : ℕ → List ℕ → Tree → ℕ → Type 0
  Stands lists nodes (leaf k) i = Is nodes i (Leaf k) × (k < lists)
  Stands lists nodes (difference s t) i = Is nodes i Difference × (Stands lists nodes s (1 + i) × Stands lists nodes t (1 + i + size s))
  Stands lists nodes (union ts) i = Is nodes i (Union (count ts)) × StandAll lists nodes ts (1 + i)
  Stands lists nodes (intersection ts) i = Is nodes i (Intersection (count ts)) × StandAll lists nodes ts (1 + i)

  pub StandAll : ℕ → List ℕ → Members → ℕ → Type 0
  StandAll lists nodes (one t) i = Stands lists nodes t i
  StandAll lists nodes (more t ts) i = Stands lists nodes t i × StandAll lists nodes ts (i + size t)

-- some tree stands there
pub record Standing (lists : ℕ) (nodes : List ℕ) (i : ℕ) : Type 0 where
  pub tree : Tree
  pub stands : Stands lists nodes tree i

-- trees stand one after the other from the node i on; of no trees this says nothing
unfoldable pub StandEach : ℕ → List ℕ → List Tree → ℕ → Type 0
StandEach lists nodes [] i = Unit
StandEach lists nodes (t ∷ ts) i = Stands lists nodes t i × StandEach lists nodes ts (i + size t)

-- some trees do, so many
pub record StandingEach (lists : ℕ) (nodes : List ℕ) (i n : ℕ) : Type 0 where
  pub trees : List Tree
  pub stand : StandEach lists nodes trees i
  pub many : length trees ≡ n

-- the table says of every node where the tree that stands there ends: at the node behind it
abbrev pub Behind : List ℕ → List ℕ → Type 0
Behind nodes behind = (lists : ℕ) (t : Tree) (i : ℕ) → Stands lists nodes t i → get_or behind i 0 ≡ i + size t

-- what a generator is lent: lists that can be read, and the table that belongs to the row
pub record Ready (numbers ends nodes behind : List ℕ) : Type 0 where
  pub lists : Readable numbers ends
  pub table : Behind nodes behind

-- so many siblings on from a node, by a table of ends; a node that is not there ends them
unfoldable pub siblings : List ℕ → ℕ → ℕ → ℕ
siblings behind zero at = at
siblings behind (suc n) at = siblings behind n (elim (ltb at 48) [ true ↦ get_or behind at 0 | false ↦ at ])
