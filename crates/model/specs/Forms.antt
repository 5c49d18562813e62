-- "Stored forms", the expression: packed, and as a row of one byte a node.
use Rattle.std.specs.Prelude.{Bool, ◌&&◌, cond, List, [], ◌∷◌, ◌++◌, map, ℕ, zero, suc, ◌+◌, ◌-◌, ltb, leb, eqb, length}
use Rattle.model.specs.declared.Node.{Node}
use Rattle.model.specs.declared.Node.TheVariants.{Leaf, Difference, Union, Intersection}
use Rattle.model.specs.Outcome.{Outcome, refused, accepted, ◌>>=◌, ◌>>◌, require}
use Rattle.model.specs.Lists.{delivered}
use Rattle.model.specs.Expression.{Tree, leaf, difference, union, intersection, Members, one, more, count}
use Rattle.model.specs.Fields.{field, bits, bytes, take_field, only_fill}

-- "each node before its members"
unfoldable mutual
  pub nodes : Tree → List Node
  nodes (leaf k) = Leaf k ∷ []
  nodes (difference s t) = Difference ∷ (nodes s ++ nodes t)
  nodes (union ts) = Union (count ts) ∷ nodes_all ts
  nodes (intersection ts) = Intersection (count ts) ∷ nodes_all ts

  pub nodes_all : Members → List Node
  nodes_all (one t) = nodes t
  nodes_all (more t ts) = nodes t ++ nodes_all ts

-- the row form, written: "0 to 31 a list, 64 a difference, 129 to 136 a union of 1 to 8, 193 to 200 an intersection"
unfoldable pub row_byte : Node → ℕ
row_byte (Leaf k) = k
row_byte Difference = 64
row_byte (Union n) = 128 + n
row_byte (Intersection n) = 192 + n

unfoldable pub row : Tree → List ℕ
row t = map row_byte (nodes t)

-- the packed form, written: "2 bits of kind. 0 list, then 5 bits of list number. 1 difference. 2 union and 3
-- intersection, then 3 bits of member count minus 1"
unfoldable pub packed_node : Node → List Bool
packed_node (Leaf k) = field 2 0 ++ field 5 k
packed_node Difference = field 2 1
packed_node (Union n) = field 2 2 ++ field 3 (n - 1)
packed_node (Intersection n) = field 2 3 ++ field 3 (n - 1)

unfoldable pub packed_nodes : List Node → List Bool
packed_nodes [] = []
packed_nodes (n ∷ ns) = packed_node n ++ packed_nodes ns

unfoldable pub packed : Tree → List ℕ
packed t = bytes (packed_nodes (nodes t))

-- one node off a row: 1 at its end, "all others are unknown", 14
unfoldable pub node_of : ℕ → Outcome Node
node_of b =
    cond (leb b 31) (accepted (Leaf b))
    (cond (eqb b 64) (accepted Difference)
    (cond (leb 129 b && leb b 136) (accepted (Union (b - 128)))
    (cond (leb 193 b && leb b 200) (accepted (Intersection (b - 192)))
    (refused 14))))

unfoldable pub take_byte : List ℕ → Outcome (Node × List ℕ)
take_byte [] = refused 1
take_byte (b ∷ bs) = do
  n ← node_of b
  accepted (n, bs)

-- one node off packed bits, from a source off which `take-bits w` takes a field of w bits: a field that says the rest of
-- it, by its kind; 1 where the bits end
module _ {S : Type 0} (take_bits : ℕ → S → Outcome (ℕ × S)) where
  unfoldable pub take_rest : ℕ → (ℕ → Node) → S → Outcome (Node × S)
  take_rest w of source = do
    (n, rest) ← take_bits w source
    accepted (of n, rest)

  unfoldable pub take_kind : ℕ → S → Outcome (Node × S)
  take_kind zero source = take_rest 5 Leaf source
  take_kind (suc zero) source = accepted (Difference, source)
  take_kind (suc (suc zero)) source = take_rest 3 (λ n. Union (n + 1)) source
  take_kind (suc (suc (suc kind))) source = take_rest 3 (λ n. Intersection (n + 1)) source

  unfoldable pub take_node : S → Outcome (Node × S)
  take_node source = do
    (kind, rest) ← take_bits 2 source
    take_kind kind rest

-- which list numbers a leaf may name, and what refuses the others: "4 list number not there"; Two: "18 an expression naming
-- an undelivered list, straight after 4"; of so many lists, with this word
abbrev pub LeafTest : Type 0
LeafTest = ℕ → Outcome (Unit {0})

unfoldable pub there : ℕ → ℕ → LeafTest
there lists word k = do
  require 4 (ltb k lists)
  require 18 (delivered word k)

-- Reading either form, from a source off which `take-one` takes one node
module _ {S : Type 0} (named : LeafTest) (take_one : S → Outcome (Node × S)) where
  -- a tree, or member nodes, with how many nodes are read and the source behind them
  abbrev pub Reading : Type 0 → Type 0
  Reading A = Outcome (A × ℕ × S)

  -- n + 1 member nodes
  unfoldable pub read_members : (ℕ → S → Reading Tree) → ℕ → ℕ → S → Reading Members
  read_members tree zero done source = do
    (t, done₁, rest) ← tree done source
    accepted (one t, done₁, rest)
  read_members tree (suc n) done source = do
    (t, done₁, source₁) ← tree done source
    (ts, done₂, rest) ← read_members tree n done₁ source₁
    accepted (more t ts, done₂, rest)

  unfoldable pub operator : (Members → Tree) → Reading Members → Reading Tree
  operator of members = do
    (ts, done, rest) ← members
    accepted (of ts, done, rest)

  -- what stands below a node; at a leaf its test
  unfoldable pub read_below : (ℕ → S → Reading Tree) → Node → ℕ → S → Reading Tree
  read_below tree (Leaf k) done source = named k >> accepted (leaf k, done, source)
  read_below tree Difference done source = do
    (s, done₁, source₁) ← tree done source
    (t, done₂, rest) ← tree done₁ source₁
    accepted (difference s t, done₂, rest)
  read_below tree (Union n) done source = operator union (read_members tree (n - 1) done source)
  read_below tree (Intersection n) done source = operator intersection (read_members tree (n - 1) done source)

  -- "At each node: 2, 3, 1, then 4 (in a row also 14)", and 18, with so much depth left and so many nodes done
  unfoldable pub read_tree : ℕ → ℕ → S → Reading Tree
  read_tree zero done source = do
    require 2 (ltb done 48)
    refused 3
  read_tree (suc depth) done source = do
    require 2 (ltb done 48)
    (node, rest) ← take_one source
    read_below (read_tree depth) node (suc done) rest

-- "After the last: 5": of a row a node left over, of packed bits a whole byte or a fill bit of 1
unfoldable pub read_row : LeafTest → List ℕ → Outcome Tree
read_row named bs = do
  (t, done, rest) ← read_tree named take_byte 12 0 bs
  require 5 (eqb (length rest) 0)
  accepted t

unfoldable pub read_packed : LeafTest → List ℕ → Outcome Tree
read_packed named bs = do
  (t, done, rest) ← read_tree named (take_node take_field) 12 0 (bits bs)
  require 5 (only_fill rest)
  accepted t
