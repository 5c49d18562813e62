-- The row of an expression gone through from its last node: it comes to the expression's own bounds, and every operator has its member
-- nodes behind it. Assumes nothing.
use mathlib.Core.Path.{◌≡◌, refl, ap, ◌∙◌}
use mathlib.Core.List.{List, [], ◌∷◌, ◌++◌, map, append_assoc, append-nil, map-append}
use Prim.Native.Nat.{ℕ, suc, ◌+◌, ◌≤◌, ◌<◌}
use native.Mathlib.Omega.{arith}
use lib.ListN.{length, take, drop, length-append}
use lib.Seq.{take-append_seam, drop-append_seam}
use Rattle.model.specs.declared.Node.{Node}
use Rattle.model.specs.declared.Node.TheVariants.{Leaf, Difference, Union, Intersection}
use Rattle.model.specs.Outcome.{accepted}
use Rattle.model.specs.Expression.{Tree, leaf, difference, union, intersection, Members, one, more, count}
use Rattle.model.specs.Forms.{nodes, nodes_all, row_byte, row, LeafTest}
use Rattle.model.specs.Demands.{lengths, lengths_all, sum, Named, NamedAll}
use Rattle.model.specs.Bounds.{most_members, sum_of_most, least_of_most}
use Rattle.model.proofs.Trees.{Writable, count_pos, byte_node}
use Rattle.expression.specs.Reading.{members}
use Rattle.capacity.proofs.Members.{sum-append}
use Rattle.bounds.specs.Backwards.{least, bound, trees, Fed, Whole, leaf_length, leaf_lengths}

-- a row that comes to these bounds, each node with its member nodes behind it
abbrev Comes : List ℕ → List ℕ → List ℕ → Type 0
Comes ns bs ts = Whole ns bs × (trees ns bs ≡ ts)

-- one node in front of a row
comes_node : (ns : List ℕ) (node : Node) → Writable node → (bs ts : List ℕ) → Comes ns bs ts → Fed (length ns) (length ts) node
    → Comes ns (row_byte node ∷ bs) (bound ns node (take (members node) ts) ∷ drop (members node) ts)
unfolding trees Whole
comes_node ns node w bs ts c f = rw (byte_node node w, c.1) ((f, c.0), refl)

-- the bounds of member nodes, in order
unfoldable mosts : List ℕ → Members → List ℕ
mosts ns (one t) = most_members ns t ∷ []
mosts ns (more t ts) = most_members ns t ∷ mosts ns ts

mosts-many : (ns : List ℕ) (ts : Members) → length (mosts ns ts) ≡ count ts
unfolding mosts count
mosts-many ns (one t) = refl
mosts-many ns (more t ts) = ap suc (mosts-many ns ts)

mosts-sum : (ns : List ℕ) (ts : Members) → sum (mosts ns ts) ≡ sum_of_most ns ts
unfolding mosts sum sum_of_most
mosts-sum ns (one t) = omega arith
mosts-sum ns (more t ts) = omega (arith, mosts-sum ns ts)

mosts-least : (ns : List ℕ) (ts : Members) → least (mosts ns ts) ≡ least_of_most ns ts
unfolding mosts least least_of_most
mosts-least ns (one t) = refl
mosts-least ns (more t (one s)) = refl
mosts-least ns (more t (more s ts)) = omega (arith, mosts-least ns (more s ts))

-- an operator takes as many off the front as it has member nodes
taken : (ns : List ℕ) (ts : Members) (rest : List ℕ) → (take (count ts) (mosts ns ts ++ rest) ≡ mosts ns ts) × (drop (count ts) (mosts ns ts ++ rest) ≡ rest)
taken ns ts rest = rw (← mosts-many ns ts) (take-append_seam (mosts ns ts) rest, drop-append_seam (mosts ns ts) rest)

enough : (ns : List ℕ) (ts : Members) (rest : List ℕ) → count ts ≤ length (mosts ns ts ++ rest)
enough ns ts rest = omega (arith, length-append (mosts ns ts) rest, mosts-many ns ts)

module _ (ns : List ℕ) (test : LeafTest) (within : (k : ℕ) → test k ≡ accepted tt → k < length ns) (few : length ns ≤ 32) where
  mutual
    unfolding nodes mosts most_members

    comes : (t : Tree) → Named test t → (rest ts : List ℕ) → Comes ns rest ts → Comes ns (map row_byte (nodes t) ++ rest) (most_members ns t ∷ ts)
    comes (leaf k) n rest ts c = comes_node ns (Leaf k) (omega (arith, within k n)) rest ts c (within k n)
    comes (difference s t) n rest ts c =
        let b = comes t n.1 rest ts c in
        let a = comes s n.0 (map row_byte (nodes t) ++ rest) (most_members ns t ∷ ts) b in
        rw (map-append row_byte (nodes s) (nodes t), append_assoc (map row_byte (nodes s)) (map row_byte (nodes t)) rest)
        (comes_node ns Difference tt _ (most_members ns s ∷ most_members ns t ∷ ts) a (omega arith))
    comes (union ts) n rest us c =
        let a = comes_all ts n.0 rest us c in
        let e = comes_node ns (Union (count ts)) (count_pos ts, n.1) _ (mosts ns ts ++ us) a (enough ns ts us) in
        rw ((taken ns ts us).0, (taken ns ts us).1, mosts-sum ns ts) at e
    comes (intersection ts) n rest us c =
        let a = comes_all ts n.0 rest us c in
        let e = comes_node ns (Intersection (count ts)) (count_pos ts, n.1) _ (mosts ns ts ++ us) a (count_pos ts, enough ns ts us) in
        rw ((taken ns ts us).0, (taken ns ts us).1, mosts-least ns ts) at e

    comes_all : (ts : Members) → NamedAll test ts → (rest us : List ℕ) → Comes ns rest us → Comes ns (map row_byte (nodes_all ts) ++ rest) (mosts ns ts ++ us)
    comes_all (one t) n rest us c = comes t n rest us c
    comes_all (more t ts) n rest us c =
        let b = comes_all ts n.1 rest us c in
        rw (map-append row_byte (nodes t) (nodes_all ts), append_assoc (map row_byte (nodes t)) (map row_byte (nodes_all ts)) rest)
        (comes t n.0 (map row_byte (nodes_all ts) ++ rest) (mosts ns ts ++ us) b)

  -- of a whole expression's row
  pub row_comes : (t : Tree) → Named test t → Comes ns (row t) (most_members ns t ∷ [])
  unfolding row trees Whole
  row_comes t n = rw (append-nil (map row_byte (nodes t))) at (comes t n [] [] (tt, refl))

  -- ---- the leaves
  leaves-append : (l r : List ℕ) → leaf_lengths ns (l ++ r) ≡ leaf_lengths ns l + leaf_lengths ns r
  unfolding leaf_lengths
  leaves-append [] r = omega arith
  leaves-append (b ∷ l) r = omega (arith, leaves-append l r)

  leaves-node : (node : Node) → Writable node → (bs : List ℕ) → leaf_lengths ns (row_byte node ∷ bs) ≡ leaf_length ns node + leaf_lengths ns bs
  unfolding leaf_lengths
  leaves-node node w bs = rw (byte_node node w)

  mutual
    unfolding nodes lengths sum leaf_lengths

    leaves-sum : (t : Tree) → Named test t → leaf_lengths ns (map row_byte (nodes t)) ≡ sum (lengths ns t)
    leaves-sum (leaf k) n = leaves-node (Leaf k) (omega (arith, within k n)) []
    leaves-sum (difference s t) n =
        leaves-node Difference tt (map row_byte (nodes s ++ nodes t))
        ∙ rw (map-append row_byte (nodes s) (nodes t)) (omega (arith, leaves-append (map row_byte (nodes s)) (map row_byte (nodes t)), leaves-sum s n.0, leaves-sum t n.1, sum-append (lengths ns s) (lengths ns t)))
    leaves-sum (union ts) n = omega (arith, leaves-node (Union (count ts)) (count_pos ts, n.1) (map row_byte (nodes_all ts)), leaves-sum-all ts n.0)
    leaves-sum (intersection ts) n = omega (arith, leaves-node (Intersection (count ts)) (count_pos ts, n.1) (map row_byte (nodes_all ts)), leaves-sum-all ts n.0)

    leaves-sum-all : (ts : Members) → NamedAll test ts → leaf_lengths ns (map row_byte (nodes_all ts)) ≡ sum (lengths_all ns ts)
    leaves-sum-all (one t) n = leaves-sum t n
    leaves-sum-all (more t ts) n =
        rw (map-append row_byte (nodes t) (nodes_all ts)) (omega (arith, leaves-append (map row_byte (nodes t)) (map row_byte (nodes_all ts)), leaves-sum t n.0, leaves-sum-all ts n.1, sum-append (lengths ns t) (lengths_all ns ts)))

  pub row-leaves : (t : Tree) → Named test t → leaf_lengths ns (row t) ≡ sum (lengths ns t)
  unfolding row
  row-leaves t n = leaves-sum t n
