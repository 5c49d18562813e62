-- A tree stands where its row is laid: the row of an expression, with anything behind it, holds it from the node 0 on. So an
-- expression that was read over lent lists does, once for all who read one. Assumes nothing.
use mathlib.Core.Path.{◌≡◌, refl, sym, ap, ◌∙◌}
use mathlib.Core.List.{List, [], ◌∷◌, ◌++◌, map}
use Prim.Native.Nat.{ℕ, suc, ◌+◌, ◌-◌, ◌≤◌, ◌<◌}
use native.Mathlib.Nat.{add-zero}
use native.Mathlib.Omega.{arith}
use lib.ListN.{length, get_or, replicate, length-map}
use Rattle.model.specs.declared.Node.{Node}
use Rattle.model.specs.declared.Node.TheVariants.{Leaf, Difference, Union, Intersection}
use Rattle.model.specs.Outcome.{Outcome, refused, accepted}
use Rattle.model.specs.Lists.{Lent}
use Rattle.model.specs.Expression.{Tree, leaf, difference, union, intersection, Members, one, more, size, sizes, count}
use Rattle.model.specs.Forms.{nodes, nodes_all, row_byte, row, LeafTest, read_packed}
use Rattle.model.specs.Run.{named_in}
use Rattle.model.specs.Demands.{Named, NamedAll, Expression}
use Rattle.model.proofs.Accepted.{there-is, packed_reads, never_accepted, accepted-same}
use Rattle.model.proofs.Shape.{row-long}
use Rattle.model.proofs.Trees.{Writable, count_pos, byte_node}
use Rattle.expression.specs.declared.Expression as declared
use Rattle.expression.specs.Reading.{expression_of}
use Rattle.reader.specs.Rows.{Is, Stands, StandAll}

-- the bytes of these nodes lie in the row from the node i on
abbrev pub Lies : List ℕ → ℕ → List Node → Type 0
Lies bytes i [] = Unit {0}
Lies bytes i (n ∷ ns) = (get_or bytes i 0 ≡ row_byte n) × Lies bytes (1 + i) ns

lies_append : (bytes : List ℕ) (i : ℕ) (ms ns : List Node) → Lies bytes i (ms ++ ns) → Lies bytes i ms × Lies bytes (i + length ms) ns
lies_append bytes i [] ns h = (tt, rw (add-zero i) h)
lies_append bytes i (m ∷ ms) ns h =
    let a = lies_append bytes (1 + i) ms ns h.1 in
    let e : i + suc (length ms) ≡ 1 + i + length ms = omega arith in
    ((h.0, a.0), rw e a.1)

nodes-long : (t : Tree) → length (nodes t) ≡ size t
unfolding row
nodes-long t = sym (length-map (nodes t) row_byte) ∙ row-long t

-- a tree and what comes behind it
lies_tree : (bytes : List ℕ) (i : ℕ) (t : Tree) (ns : List Node) → Lies bytes i (nodes t ++ ns) → Lies bytes i (nodes t) × Lies bytes (i + size t) ns
lies_tree bytes i t ns h = rw (← nodes-long t) (lies_append bytes i (nodes t) ns h)

is_node : (bytes : List ℕ) (i : ℕ) (n : Node) → Writable n → suc i ≤ 48 → get_or bytes i 0 ≡ row_byte n → Is bytes i n
is_node bytes i n w h e = (h, rw e (byte_node n w))

module _ (test : LeafTest) (lists : ℕ) (within : (k : ℕ) → test k ≡ accepted tt → k < lists) (few : lists ≤ 32) (bytes : List ℕ) where
  -- wherever in a row of 48 the row of a tree lies, the tree stands
  mutual
    unfolding nodes size Stands

    pub stands : (t : Tree) (i : ℕ) → i + size t ≤ 48 → Named test t → Lies bytes i (nodes t) → Stands lists bytes t i
    stands (leaf k) i h n l = (is_node bytes i (Leaf k) (omega (arith, within k n)) (omega arith) l.0, within k n)
    stands (difference s t) i h n l =
        let a = lies_tree bytes (1 + i) s (nodes t) l.1 in
        (is_node bytes i Difference tt (omega arith) l.0, (stands s (1 + i) (omega arith) n.0 a.0, stands t (1 + i + size s) (omega arith) n.1 a.1))
    stands (union ts) i h n l = (is_node bytes i (Union (count ts)) (count_pos ts, n.1) (omega arith) l.0, stand_all ts (1 + i) (omega arith) n.0 l.1)
    stands (intersection ts) i h n l = (is_node bytes i (Intersection (count ts)) (count_pos ts, n.1) (omega arith) l.0, stand_all ts (1 + i) (omega arith) n.0 l.1)

    pub stand_all : (ts : Members) (i : ℕ) → i + sizes ts ≤ 48 → NamedAll test ts → Lies bytes i (nodes_all ts) → StandAll lists bytes ts i
    stand_all (one t) i h n l = stands t i h n l
    stand_all (more t ts) i h n l =
        let a = lies_tree bytes i t (nodes_all ts) l in
        (stands t i (omega arith) n.0 a.0, stand_all ts (i + size t) (omega arith) n.1 a.1)

-- nodes lie at the start of the row that they are written as
lies_further : (b : ℕ) (bytes : List ℕ) (i : ℕ) (ns : List Node) → Lies bytes i ns → Lies (b ∷ bytes) (suc i) ns
lies_further b bytes i [] h = tt
lies_further b bytes i (n ∷ ns) h =
    let e : 1 + suc i ≡ suc (1 + i) = omega arith in
    (h.0, rw e (lies_further b bytes (1 + i) ns h.1))

pub lies_first : (ns : List Node) (rest : List ℕ) → Lies (map row_byte ns ++ rest) 0 ns
lies_first [] rest = tt
lies_first (n ∷ ns) rest = (refl, lies_further (row_byte n) (map row_byte ns ++ rest) 0 ns (lies_first ns rest))

-- an expression whose list numbers are there stands at the start of its row
pub row_stands : (test : LeafTest) (lists : ℕ) (t : Tree) → ((k : ℕ) → test k ≡ accepted tt → k < lists) → lists ≤ 32 → Expression test t → Stands lists (row t ++ replicate (48 - size t) 0) t 0
unfolding row
row_stands test lists t within few x = stands test lists within few (row t ++ replicate (48 - size t) 0) t 0 (omega (arith, x.nodes)) x.named (lies_first (nodes t) (replicate (48 - size t) 0))

-- ---- what reading a packed expression over lent lists has handed back

read_stands : (l : Lent) (packed : List ℕ) (t : Tree) → length l.ends ≤ 32 → read_packed (named_in l) packed ≡ accepted t → Stands (length l.ends) (row t ++ replicate (48 - size t) 0) t 0
read_stands l packed t few e =
    let lists : ℕ = length l.ends in
    row_stands (named_in l) lists t (there-is lists l.word) few (packed_reads (named_in l) packed t e)

-- a tree, which stands at the first node
pub record ReadOver (l : Lent) (packed : List ℕ) (r : declared.Expression) : Type 0 where
  pub tree : Tree
  pub is : read_packed (named_in l) packed ≡ accepted tree
  pub stands : Stands (length l.ends) r.nodes tree 0

pub read_over : (l : Lent) (packed : List ℕ) {r : declared.Expression} → length l.ends ≤ 32 → accepted r ≡ expression_of (read_packed (named_in l) packed) → ReadOver l packed r
unfolding expression_of
read_over l packed {r} few e = go (read_packed (named_in l) packed) refl e
  where
    go : (o : Outcome Tree) → read_packed (named_in l) packed ≡ o → accepted r ≡ expression_of o → ReadOver l packed r
    go (refused n) is e = never_accepted (sym e)
    go (accepted t) is e =
        record { tree = t; is = is; stands = rw (ap (λ (x : declared.Expression). x.nodes) (accepted-same e)) (read_stands l packed t few is) }
