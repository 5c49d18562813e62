-- The packed bits of a row, byte by byte: each known byte writes the node that it says, so the bits of the row of a tree are
-- its packed bits. Assumes nothing.
use mathlib.Core.Path.{◌≡◌, refl, ap, ap₂, subst}
use mathlib.Core.Bool.{Bool, true, false, cond, ◌&&◌}
use mathlib.Core.List.{List, [], ◌∷◌, ◌++◌, map}
use Prim.Native.Nat.{ℕ, ◌+◌, ◌-◌, ◌*◌, ◌^◌, ◌≤◌, ◌<◌}
use native.Mathlib.Numerals.{add-one}
use native.Mathlib.Omega.{arith}
use borrow.Author.Tests.{leb-true}
use lib.Dec.{leb, eqb}
use lib.ListN.{length, get_or, drop, length-append, drop_of_length-le}
use lib.Seq.{drop-cons}
use Rattle.model.specs.declared.Node.{Node}
use Rattle.model.specs.declared.Node.TheVariants.{Leaf, Difference, Union, Intersection}
use Rattle.model.specs.Outcome.{Outcome, refused, accepted}
use Rattle.model.specs.Expression.{Tree, leaf, difference, union, intersection, Members, one, more}
use Rattle.model.specs.Fields.{field}
use Rattle.model.specs.Forms.{nodes, nodes_all, row_byte, row, packed_node, packed_nodes, node_of, LeafTest}
use Rattle.model.specs.Demands.{Named, NamedAll}
use Rattle.model.proofs.Bits.{field-length, field-value}
use Rattle.model.proofs.Order.{and_true}
use Rattle.model.proofs.Accepted.{never_accepted, accepted-same, Narrow, value-lt}
use Rattle.model.proofs.Trees.{Writable, count_pos, byte_node}
use Rattle.forms.specs.declared.Bits.{Bits}
use Rattle.forms.specs.Packing.{said_bits, byte_bits, bits_of, row_bits}

-- ---- one byte

-- at most 7 bits
said-few : (o : Outcome Node) → length (said_bits o) ≤ 7
unfolding said_bits packed_node
said-few (refused n) = omega arith
said-few (accepted (Leaf k)) = omega (arith, length-append (field 2 0) (field 5 k), field-length 2 0, field-length 5 k)
said-few (accepted Difference) = omega (arith, field-length 2 1)
said-few (accepted (Union n)) = omega (arith, length-append (field 2 2) (field 3 (n - 1)), field-length 2 2, field-length 3 (n - 1))
said-few (accepted (Intersection n)) = omega (arith, length-append (field 2 3) (field 3 (n - 1)), field-length 2 3, field-length 3 (n - 1))

-- a node that a byte says can be written: its list number fits 5 bits, its members are 1 to 8
pub said_writable : (b : ℕ) (n : Node) → node_of b ≡ accepted n → Writable n
unfolding node_of
said_writable b n e = go (leb b 31) refl (eqb b 64) (leb 129 b && leb b 136) refl (leb 193 b && leb b 200) refl e
  where
    go : (p : Bool) → leb b 31 ≡ p → (q r : Bool) → leb 129 b && leb b 136 ≡ r → (s : Bool) → leb 193 b && leb b 200 ≡ s
        → cond p (accepted (Leaf b)) (cond q (accepted Difference) (cond r (accepted (Union (b - 128))) (cond s (accepted (Intersection (b - 192))) (refused 14)))) ≡ accepted n → Writable n
    go true hp q r hr s hs e = subst Writable (accepted-same e) (omega (arith, leb-true b 31 hp))
    go false hp true r hr s hs e = subst Writable (accepted-same e) tt
    go false hp false true hr s hs e = let w = and_true (leb 129 b) (leb b 136) hr in subst Writable (accepted-same e) (omega (arith, leb-true 129 b w.0), omega (arith, leb-true b 136 w.1))
    go false hp false false hr true hs e = let w = and_true (leb 193 b) (leb b 200) hs in subst Writable (accepted-same e) (omega (arith, leb-true 193 b w.0), omega (arith, leb-true b 200 w.1))
    go false hp false false hr false hs e = never_accepted e

-- what is known of how a byte is packed
pub record PackedAs (b : ℕ) (r : Bits) : Type 0 where
  pub few : r.width ≤ 7
  pub small : r.value < 2 ^ r.width
  pub long : r.width ≡ length (byte_bits b)
  pub are : field r.width r.value ≡ byte_bits b

pub packed_as : {b : ℕ} {r : Bits} → r ≡ bits_of b → PackedAs b r
unfolding bits_of byte_bits
packed_as {b} e =
    let bits : List Bool = said_bits (node_of b) in
    rw e (record { few = said-few (node_of b); small = value-lt bits; long = refl; are = field-value bits })

-- ---- a row

-- the next byte of a row
pub row_next : (row : List ℕ) (i : ℕ) → i < length row → row_bits (drop i row) ≡ byte_bits (get_or row i 0) ++ row_bits (drop (i + 1) row)
unfolding row_bits
row_next row i h = rw (add-one, drop-cons row i 0)

-- behind its end
pub row-end : (row : List ℕ) (i : ℕ) → length row ≤ i → row_bits (drop i row) ≡ []
unfolding row_bits
row-end row i h = ap row_bits (drop_of_length-le row h)

-- at most 7 bits a byte
pub row-few : (row : List ℕ) → length (row_bits row) ≤ 7 * length row
unfolding row_bits byte_bits
row-few [] = omega arith
row-few (b ∷ bs) = omega (arith, length-append (said_bits (node_of b)) (row_bits bs), said-few (node_of b), row-few bs)

-- ---- the row of a tree

-- nodes that can be written, each of them
abbrev All : List Node → Type 0
All [] = Unit {0}
All (n ∷ ns) = Writable n × All ns

all_append : (ms ns : List Node) → All ms → All ns → All (ms ++ ns)
all_append [] ns h k = k
all_append (m ∷ ms) ns h k = (h.0, all_append ms ns h.1 k)

module _ (test : LeafTest) (narrow : Narrow test) where
  mutual
    unfolding nodes

    writable : (t : Tree) → Named test t → All (nodes t)
    writable (leaf k) h = (narrow k h, tt)
    writable (difference s t) h = (tt, all_append (nodes s) (nodes t) (writable s h.0) (writable t h.1))
    writable (union ts) h = ((count_pos ts, h.1), writable_all ts h.0)
    writable (intersection ts) h = ((count_pos ts, h.1), writable_all ts h.0)

    writable_all : (ts : Members) → NamedAll test ts → All (nodes_all ts)
    writable_all (one t) h = writable t h
    writable_all (more t ts) h = all_append (nodes t) (nodes_all ts) (writable t h.0) (writable_all ts h.1)

nodes-packed : (ns : List Node) → All ns → row_bits (map row_byte ns) ≡ packed_nodes ns
unfolding row_bits byte_bits said_bits packed_nodes
nodes-packed [] h = refl
nodes-packed (n ∷ ns) h = ap₂ (λ (b bs : List Bool). b ++ bs) (ap said_bits (byte_node n h.0)) (nodes-packed ns h.1)

pub tree-packed : (test : LeafTest) (t : Tree) → Narrow test → Named test t → row_bits (row t) ≡ packed_nodes (nodes t)
unfolding row
tree-packed test t narrow h = nodes-packed (nodes t) (writable test narrow t h)
