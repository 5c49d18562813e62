-- Expressions, stored and read: what is written from a tree reads back as that tree, and what reads was written so, in
-- either form.
--
-- Both forms write one node after another, so both are one argument over a function that writes a node and one that takes
-- it off again; only these two are done for each form. Assumes nothing.
use mathlib.Core.Path.{◌≡◌, refl, sym, ap, ◌∙◌}
use mathlib.Core.Bool.{Bool, true, false, ◌&&◌, cond}
use mathlib.Core.List.{List, [], ◌∷◌, ◌++◌, map, append_assoc, append-nil}
use Prim.Native.Nat.{ℕ, zero, suc, ◌+◌, ◌-◌, ◌≤◌, ◌<◌}
use native.Mathlib.Omega.{arith}
use lib.Dec.{ltb, leb, eqb}
use borrow.Author.Tests.{lt-ltb, leb-true, le-leb, lt-leb, eqb-true, ne_eqb}
use lib.ListN.{length, replicate}
use Rattle.model.specs.declared.Node.{Node}
use Rattle.model.specs.declared.Node.TheVariants.{Leaf, Difference, Union, Intersection}
use Rattle.model.specs.Outcome.{Outcome, refused, accepted}
use Rattle.model.specs.Expression.{Tree, leaf, difference, union, intersection, Members, one, more, size, sizes, depth, depths, count}
use Rattle.model.specs.Fields.{Bytes, field, bits, bytes, take_field, only_fill}
use Rattle.model.specs.Forms.{nodes, nodes_all, row_byte, row, packed_node, packed_nodes, packed, node_of, take_byte, take_rest, take_kind, take_node, LeafTest, read_members, operator, read_below, read_tree, read_row, read_packed}
use Rattle.model.specs.Demands.{Named, NamedAll, Expression}
use Rattle.model.proofs.Order.{and_true}
use Rattle.model.proofs.Accepted.{never_accepted, accepted-same, bound, required, both, Narrow, field_lt, Few, few_byte, few_packed}
use Rattle.model.proofs.Bits.{taken, was_field, filled, fill-only, bytes_are}

-- a node that can be written: a list number below 32, 1 to 8 member nodes
abbrev pub Writable : Node → Type 0
Writable (Leaf k) = k < 32
Writable Difference = Unit {0}
Writable (Union n) = (1 ≤ n) × (n ≤ 8)
Writable (Intersection n) = (1 ≤ n) × (n ≤ 8)

pub count_pos : (ts : Members) → 1 ≤ count ts
unfolding count
count_pos (one t) = omega arith
count_pos (more t ts) = omega arith

module _ {A : Type 0} (put : Node → List A) where
  -- one node after another
  unfoldable puts : List Node → List A
  puts [] = []
  puts (n ∷ ns) = put n ++ puts ns

  puts-append : (ms ns : List Node) (rest : List A) → puts (ms ++ ns) ++ rest ≡ puts ms ++ (puts ns ++ rest)
  unfolding puts
  puts-append [] ns rest = refl
  puts-append (m ∷ ms) ns rest = append_assoc (put m) (puts (ms ++ ns)) rest ∙ ap (λ (l : List A). put m ++ l) (puts-append ms ns rest) ∙ sym (append_assoc (put m) (puts ms) (puts ns ++ rest))

  module _ (test : LeafTest) (take_one : List A → Outcome (Node × List A)) where
    -- what is written reads back
    module _ (narrow : Narrow test) (back : (n : Node) (rest : List A) → Writable n → take_one (put n ++ rest) ≡ accepted (n, rest)) where
      -- a node off the front, and the tree below it
      first-node : (n : Node) → Writable n → (ns : List Node) (rest : List A) (d done : ℕ) → done < 48
          → read_tree test take_one (suc d) done (puts (n ∷ ns) ++ rest) ≡ read_below test take_one (read_tree test take_one d) n (suc done) (puts ns ++ rest)
      unfolding read_tree puts
      first-node n w ns rest d done h = rw (lt-ltb done 48 h, append_assoc (put n) (puts ns) rest, back n (puts ns ++ rest) w)

      mutual
        unfolding nodes size depth count read_below read_members operator puts

        reads_back : (t : Tree) (d done : ℕ) (rest : List A) → depth t ≤ d → done + size t ≤ 48 → Named test t
            → read_tree test take_one d done (puts (nodes t) ++ rest) ≡ accepted (t, done + size t, rest)
        reads_back (leaf k) zero done rest hd hs hn = absurd (omega arith)
        reads_back (leaf k) (suc d) done rest hd hs hn = first-node (Leaf k) (narrow k hn) [] rest d done (omega arith) ∙ rw hn (ap (λ (n : ℕ). accepted (leaf k, n, rest)) (omega arith))
        reads_back (difference s t) zero done rest hd hs hn = absurd (omega arith)
        reads_back (difference s t) (suc d) done rest hd hs hn = first-node Difference tt (nodes s ++ nodes t) rest d done (omega arith)
            ∙ rw (
              puts-append (nodes s) (nodes t) rest,
              reads_back s d (suc done) (puts (nodes t) ++ rest) (omega arith) (omega arith) hn.0,
              reads_back t d (suc done + size s) rest (omega arith) (omega arith) hn.1,
            ) (ap (λ (n : ℕ). accepted (difference s t, n, rest)) (omega arith))
        reads_back (union ts) zero done rest hd hs hn = absurd (omega arith)
        reads_back (union ts) (suc d) done rest hd hs hn = first-node (Union (count ts)) (count_pos ts, hn.1) (nodes_all ts) rest d done (omega arith) ∙ rw (all_back ts d (suc done) rest (omega arith) (omega arith) hn.0) (ap (λ (n : ℕ). accepted (union ts, n, rest)) (omega arith))
        reads_back (intersection ts) zero done rest hd hs hn = absurd (omega arith)
        reads_back (intersection ts) (suc d) done rest hd hs hn = first-node (Intersection (count ts)) (count_pos ts, hn.1) (nodes_all ts) rest d done (omega arith) ∙ rw (all_back ts d (suc done) rest (omega arith) (omega arith) hn.0) (ap (λ (n : ℕ). accepted (intersection ts, n, rest)) (omega arith))

        all_back : (ts : Members) (d done : ℕ) (rest : List A) → depths ts ≤ d → done + sizes ts ≤ 48 → NamedAll test ts
            → read_members test take_one (read_tree test take_one d) (count ts - 1) done (puts (nodes_all ts) ++ rest) ≡ accepted (ts, done + sizes ts, rest)
        all_back (one t) d done rest hd hs hn = rw (reads_back t d done rest hd hs hn)
        all_back (more t ts) d done rest hd hs hn =
            let c : suc (count ts) - 1 ≡ suc (count ts - 1) = omega (arith, count_pos ts) in
            rw (
              c,
              puts-append (nodes t) (nodes_all ts) rest,
              reads_back t d done (puts (nodes_all ts) ++ rest) (omega arith) (omega arith) hn.0,
              all_back ts d (done + size t) rest (omega arith) (omega arith) hn.1,
            ) (ap (λ (n : ℕ). accepted (more t ts, n, rest)) (omega arith))

    -- what reads was written
    module _ (was : (s : List A) (r : Node × List A) → take_one s ≡ accepted r → s ≡ put r.0 ++ r.1) (few_nodes : (s : List A) (r : Node × List A) → take_one s ≡ accepted r → Few r.0) where
      abbrev Wrote : (ℕ → List A → Outcome (Tree × ℕ × List A)) → Type 0
      Wrote tree = (done : ℕ) (s : List A) (r : Tree × ℕ × List A) → tree done s ≡ accepted r → s ≡ puts (nodes r.0) ++ r.2

      members-wrote : (tree : ℕ → List A → Outcome (Tree × ℕ × List A)) → Wrote tree → (n done : ℕ) (s : List A) (r : Members × ℕ × List A)
          → read_members test take_one tree n done s ≡ accepted r → (s ≡ puts (nodes_all r.0) ++ r.2) × (count r.0 ≡ suc n)
      unfolding read_members nodes count
      members-wrote tree h zero done s r e =
          let a = bound (tree done s) _ r e in
          let q : (one a.got.0, a.got.1, a.got.2) ≡ r = accepted-same a.rest in
          rw (← q) (h done s a.got a.first, refl)
      members-wrote tree h (suc n) done s r e =
          let a = bound (tree done s) _ r e in
          let b = bound (read_members test take_one tree n a.got.1 a.got.2) _ r a.rest in
          let x = members-wrote tree h n a.got.1 a.got.2 b.got b.first in
          let q : (more a.got.0 b.got.0, b.got.1, b.got.2) ≡ r = accepted-same b.rest in
          rw (← q) (
            h done s a.got a.first ∙ ap (λ (l : List A). puts (nodes a.got.0) ++ l) x.0 ∙ sym (puts-append (nodes a.got.0) (nodes_all b.got.0) b.got.2),
            ap suc x.1,
          )

      -- a node and what was written below it
      behind : (n : Node) (s rest : List A) (ns : List Node) (end : List A) → s ≡ put n ++ rest → rest ≡ puts ns ++ end → s ≡ puts (n ∷ ns) ++ end
      unfolding puts
      behind n s rest ns end e f = e ∙ ap (λ (l : List A). put n ++ l) f ∙ sym (append_assoc (put n) (puts ns) end)

      operator-wrote : (tree : ℕ → List A → Outcome (Tree × ℕ × List A)) → Wrote tree → (of : Members → Tree) (node : ℕ → Node) → ((ts : Members) → nodes (of ts) ≡ node (count ts) ∷ nodes_all ts)
          → (n done : ℕ) (s rest : List A) (r : Tree × ℕ × List A) → 1 ≤ n → s ≡ put (node n) ++ rest
          → operator test take_one of (read_members test take_one tree (n - 1) done rest) ≡ accepted r → s ≡ puts (nodes r.0) ++ r.2
      unfolding operator
      operator-wrote tree h of node ns n done s rest r h₁ f e =
          let a = bound (read_members test take_one tree (n - 1) done rest) _ r e in
          let x = members-wrote tree h (n - 1) done rest a.got a.first in
          let q : (of a.got.0, a.got.1, a.got.2) ≡ r = accepted-same a.rest in
          let c : n ≡ count a.got.0 = omega (arith, x.1) in
          rw (← q, ns a.got.0) (behind (node (count a.got.0)) s rest (nodes_all a.got.0) a.got.2 (f ∙ ap (λ (k : ℕ). put (node k) ++ rest) c) x.0)

      below-wrote : (tree : ℕ → List A → Outcome (Tree × ℕ × List A)) → Wrote tree → (n : Node) → Few n → (done : ℕ) (s rest : List A) (r : Tree × ℕ × List A) → s ≡ put n ++ rest
          → read_below test take_one tree n done rest ≡ accepted r → s ≡ puts (nodes r.0) ++ r.2
      unfolding read_below nodes
      below-wrote tree h (Leaf k) w done s rest r f e =
          let a = both (test k) _ r e in
          let q : (leaf k, done, rest) ≡ r = accepted-same a.1 in
          rw (← q) (behind (Leaf k) s rest [] rest f (unfold puts in refl))
      below-wrote tree h Difference w done s rest r f e =
          let a = bound (tree done rest) _ r e in
          let b = bound (tree a.got.1 a.got.2) _ r a.rest in
          let q : (difference a.got.0 b.got.0, b.got.1, b.got.2) ≡ r = accepted-same b.rest in
          rw (← q) (behind Difference s rest (nodes a.got.0 ++ nodes b.got.0) b.got.2 f
          (h done rest a.got a.first ∙ ap (λ (l : List A). puts (nodes a.got.0) ++ l) (h a.got.1 a.got.2 b.got b.first) ∙ sym (puts-append (nodes a.got.0) (nodes b.got.0) b.got.2)))
      below-wrote tree h (Union n) w done s rest r f e = operator-wrote tree h union Union (λ ts. refl) n done s rest r w.0 f e
      below-wrote tree h (Intersection n) w done s rest r f e = operator-wrote tree h intersection Intersection (λ ts. refl) n done s rest r w.0 f e

      was_written : (d : ℕ) → Wrote (read_tree test take_one d)
      unfolding read_tree
      was_written zero done s r e = never_accepted (required 2 (ltb done 48) _ r e).1
      was_written (suc d) done s r e =
          let a = required 2 (ltb done 48) _ r e in
          let b = bound (take_one s) _ r a.1 in
          below-wrote (read_tree test take_one d) (was_written d) b.got.0 (few_nodes s b.got b.first) (suc done) s b.got.1 r (was s b.got b.first) b.rest

-- ---- the row form

abbrev put_byte : Node → List ℕ
put_byte n = row_byte n ∷ []

row-puts : (ns : List Node) → map row_byte ns ≡ puts put_byte ns
unfolding puts
row-puts [] = refl
row-puts (n ∷ ns) = ap (λ (l : List ℕ). row_byte n ∷ l) (row-puts ns)

pub byte_node : (n : Node) → Writable n → node_of (row_byte n) ≡ accepted n
unfolding node_of row_byte
byte_node (Leaf k) h = rw (le-leb k 31 (omega arith))
byte_node Difference h = refl
byte_node (Union n) h =
    rw (lt-leb (128 + n) 31 (omega arith), ne_eqb (128 + n) 64 (λ q. omega arith), le-leb 129 (128 + n) (omega arith), le-leb (128 + n) 136 (omega arith))
    (ap (λ (k : ℕ). accepted (Union k)) (omega arith))
byte_node (Intersection n) h =
    rw (
      lt-leb (192 + n) 31 (omega arith),
      ne_eqb (192 + n) 64 (λ q. omega arith),
      le-leb 129 (192 + n) (omega arith),
      lt-leb (192 + n) 136 (omega arith),
      le-leb 193 (192 + n) (omega arith),
      le-leb (192 + n) 200 (omega arith),
    ) (ap (λ (k : ℕ). accepted (Intersection k)) (omega arith))

byte_back : (n : Node) (rest : List ℕ) → Writable n → take_byte (put_byte n ++ rest) ≡ accepted (n, rest)
unfolding take_byte
byte_back n rest h = rw (byte_node n h)

node_byte : (b : ℕ) (n : Node) → node_of b ≡ accepted n → b ≡ row_byte n
unfolding node_of row_byte
node_byte b n e = go (leb b 31) (eqb b 64) refl (leb 129 b && leb b 136) refl (leb 193 b && leb b 200) refl e
  where
    is : {m : Node} → b ≡ row_byte m → accepted m ≡ accepted n → b ≡ row_byte n
    is {m} h e = h ∙ ap row_byte (accepted-same e)

    go : (p q : Bool) → eqb b 64 ≡ q → (r : Bool) → leb 129 b && leb b 136 ≡ r → (s : Bool) → leb 193 b && leb b 200 ≡ s
        → cond p (accepted (Leaf b)) (cond q (accepted Difference) (cond r (accepted (Union (b - 128))) (cond s (accepted (Intersection (b - 192))) (refused 14)))) ≡ accepted n → b ≡ row_byte n
    go true q hq r hr s hs e = is refl e
    go false true hq r hr s hs e = is (eqb-true b 64 hq) e
    go false false hq true hr s hs e = is (omega (arith, leb-true 129 b (and_true (leb 129 b) (leb b 136) hr).0)) e
    go false false hq false hr true hs e = is (omega (arith, leb-true 193 b (and_true (leb 193 b) (leb b 200) hs).0)) e
    go false false hq false hr false hs e = never_accepted e

byte_was : (s : List ℕ) (r : Node × List ℕ) → take_byte s ≡ accepted r → s ≡ put_byte r.0 ++ r.1
unfolding take_byte
byte_was [] r e = never_accepted e
byte_was (b ∷ bs) r e =
    let a = bound (node_of b) _ r e in
    let q : (a.got, bs) ≡ r = accepted-same a.rest in
    rw (← q) (ap (λ (x : ℕ). x ∷ bs) (node_byte b a.got a.first))

-- what is written as a row from an expression reads back as it
pub row_written : (test : LeafTest) (t : Tree) → Narrow test → Expression test t → read_row test (row t) ≡ accepted t
unfolding read_row row
row_written test t h x =
    let e : map row_byte (nodes t) ≡ puts put_byte (nodes t) ++ [] = row-puts (nodes t) ∙ sym (append-nil (puts put_byte (nodes t))) in
    rw (e, reads_back put_byte test take_byte h byte_back t 12 0 [] x.levels (omega (arith, x.nodes)) x.named)

-- and a row that reads is the row of what it reads as
pub row_same : (test : LeafTest) (bs : List ℕ) (t : Tree) → read_row test bs ≡ accepted t → row t ≡ bs
unfolding read_row row
row_same test bs t e =
    let a = bound (read_tree test take_byte 12 0 bs) _ t e in
    let b = required 5 (eqb (length a.got.2) 0) _ t a.rest in
    let w : bs ≡ puts put_byte (nodes a.got.0) ++ a.got.2 = was_written put_byte test take_byte byte_was few_byte 12 0 bs a.got a.first in
    let n : a.got.2 ≡ [] = empty a.got.2 (eqb-true (length a.got.2) 0 b.0) in
    row-puts (nodes t) ∙ ap (λ (u : Tree). puts put_byte (nodes u)) (sym (accepted-same b.1)) ∙ sym (w ∙ ap (λ (l : List ℕ). puts put_byte (nodes a.got.0) ++ l) n ∙ append-nil (puts put_byte (nodes a.got.0)))
  where
    empty : (l : List ℕ) → length l ≡ 0 → l ≡ []
    empty [] h = refl
    empty (x ∷ l) h = absurd (omega arith)

-- ---- the packed form

packed-puts : (ns : List Node) → packed_nodes ns ≡ puts packed_node ns
unfolding puts packed_nodes
packed-puts [] = refl
packed-puts (n ∷ ns) = ap (λ (l : List Bool). packed_node n ++ l) (packed-puts ns)

node-back : (n : Node) (rest : List Bool) → Writable n → take_node take_field (packed_node n ++ rest) ≡ accepted (n, rest)
unfolding take_node take_kind take_rest packed_node
node-back (Leaf k) rest h = rw (append_assoc (field 2 0) (field 5 k) rest, taken 2 0 (field 5 k ++ rest) (omega arith), taken 5 k rest h)
node-back Difference rest h = rw (taken 2 1 rest (omega arith))
node-back (Union n) rest h =
    rw (append_assoc (field 2 2) (field 3 (n - 1)) rest, taken 2 2 (field 3 (n - 1) ++ rest) (omega arith), taken 3 (n - 1) rest (omega arith)) (ap (λ (k : ℕ). accepted (Union k, rest)) (omega arith))
node-back (Intersection n) rest h =
    rw (append_assoc (field 2 3) (field 3 (n - 1)) rest, taken 2 3 (field 3 (n - 1) ++ rest) (omega arith), taken 3 (n - 1) rest (omega arith)) (ap (λ (k : ℕ). accepted (Intersection k, rest)) (omega arith))

-- the rest of a node, behind its kind
rest-was : (kind w : ℕ) (of : ℕ → Node) → ((n : ℕ) → packed_node (of n) ≡ field 2 kind ++ field w n) → (s bs : List Bool) (r : Node × List Bool) → s ≡ field 2 kind ++ bs
    → take_rest take_field w of bs ≡ accepted r → s ≡ packed_node r.0 ++ r.1
unfolding take_rest
rest-was kind w of p s bs r f e =
    let a = bound (take_field w bs) _ r e in
    let q : (of a.got.0, a.got.1) ≡ r = accepted-same a.rest in
    rw (← q, p a.got.0) (f ∙ ap (λ (l : List Bool). field 2 kind ++ l) (was_field w bs a.got a.first) ∙ sym (append_assoc (field 2 kind) (field w a.got.0) a.got.1))

kind-was : (kind : ℕ) → kind < 4 → (s bs : List Bool) (r : Node × List Bool) → s ≡ field 2 kind ++ bs → take_kind take_field kind bs ≡ accepted r → s ≡ packed_node r.0 ++ r.1
unfolding take_kind packed_node
kind-was zero h s bs r f e = rest-was 0 5 Leaf (λ n. refl) s bs r f e
kind-was (suc zero) h s bs r f e = let q : (Difference, bs) ≡ r = accepted-same e in rw (← q) f
kind-was (suc (suc zero)) h s bs r f e = rest-was 2 3 (λ n. Union (n + 1)) (λ n. ap (λ (k : ℕ). field 2 2 ++ field 3 k) (omega arith)) s bs r f e
kind-was (suc (suc (suc zero))) h s bs r f e = rest-was 3 3 (λ n. Intersection (n + 1)) (λ n. ap (λ (k : ℕ). field 2 3 ++ field 3 k) (omega arith)) s bs r f e
kind-was (suc (suc (suc (suc kind)))) h s bs r f e = absurd (omega arith)

node-was : (s : List Bool) (r : Node × List Bool) → take_node take_field s ≡ accepted r → s ≡ packed_node r.0 ++ r.1
unfolding take_node
node-was s r e =
    let a = bound (take_field 2 s) _ r e in
    kind-was a.got.0 (field_lt 2 s a.got a.first) s a.got.1 r (was_field 2 s a.got a.first) a.rest

-- what is written packed from an expression reads back as it
pub packed-written : (test : LeafTest) (t : Tree) → Narrow test → Expression test t → read_packed test (packed t) ≡ accepted t
unfolding read_packed packed
packed-written test t h x =
    let f = filled (packed_nodes (nodes t)) in
    let e : bits (bytes (packed_nodes (nodes t))) ≡ puts packed_node (nodes t) ++ replicate f.zeros_behind false = f.are ∙ ap (λ (l : List Bool). l ++ replicate f.zeros_behind false) (packed-puts (nodes t)) in
    rw (e, reads_back packed_node test (take_node take_field) h node-back t 12 0 (replicate f.zeros_behind false) x.levels (omega (arith, x.nodes)) x.named, fill-only f.zeros_behind f.few)

-- and bytes that read are the bytes of what they read as
pub packed-same : (test : LeafTest) (bs : List ℕ) (t : Tree) → Bytes bs → read_packed test bs ≡ accepted t → packed t ≡ bs
unfolding read_packed packed
packed-same test bs t hb e =
    let a = bound (read_tree test (take_node take_field) 12 0 (bits bs)) _ t e in
    let b = required 5 (only_fill a.got.2) _ t a.rest in
    let w : bits bs ≡ puts packed_node (nodes a.got.0) ++ a.got.2 = was_written packed_node test (take_node take_field) node-was few_packed 12 0 (bits bs) a.got a.first in
    ap (λ (u : Tree). bytes (packed_nodes (nodes u))) (sym (accepted-same b.1)) ∙ ap bytes (packed-puts (nodes a.got.0)) ∙ bytes_are bs hb (puts packed_node (nodes a.got.0)) a.got.2 w b.0
