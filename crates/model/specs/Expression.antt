-- "Lists and expressions", second paragraph: an expression is a tree.
use Rattle.std.specs.Prelude.{ℕ, suc, ◌+◌, max}

-- a list by its number; a difference (in the first, not in the second); a union or an intersection of one node or more
mutual
  pub data Tree : Type 0 where
    leaf : ℕ → Tree
    difference : Tree → Tree → Tree
    union intersection : Members → Tree

  pub data Members : Type 0 where
    one : Tree → Members
    more : Tree → Members → Members

-- how many nodes: at most 48
unfoldable mutual
  pub size : Tree → ℕ
  size (leaf k) = 1
  size (difference s t) = 1 + size s + size t
  size (union ts) = 1 + sizes ts
  size (intersection ts) = 1 + sizes ts

  pub sizes : Members → ℕ
  sizes (one t) = size t
  sizes (more t ts) = size t + sizes ts

-- how deep: at most 12; "the root has depth 1"
unfoldable mutual
  pub depth : Tree → ℕ
  depth (leaf k) = 1
  depth (difference s t) = 1 + max (depth s) (depth t)
  depth (union ts) = 1 + depths ts
  depth (intersection ts) = 1 + depths ts

  pub depths : Members → ℕ
  depths (one t) = depth t
  depths (more t ts) = max (depth t) (depths ts)

-- how many member nodes: "1 to 8"
unfoldable pub count : Members → ℕ
count (one t) = 1
count (more t ts) = suc (count ts)
