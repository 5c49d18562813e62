-- Reading by position is reading off the bits, or the bytes, from that position on. So a node taken at a position has 1 to 8
-- member nodes, or none or two, as the model says; and it ends at most 7 bits further, inside the bytes. Assumes nothing.
use mathlib.Core.Path.{◌≡◌, refl, sym, ap, ◌∙◌}
use mathlib.Core.Bool.{Bool, true, false}
use mathlib.Core.List.{List, [], ◌∷◌, map}
use Prim.Native.Nat.{ℕ, zero, suc, ◌+◌, ◌*◌, ◌≤◌, ◌<◌}
use native.Mathlib.Numerals.{add-one}
use native.Mathlib.Omega.{arith}
use lib.Dec.{ltb, eqb}
use borrow.Author.Tests.{lt-ltb, le-ltb, ltb-true}
use lib.ListN.{length, get_or, drop, drop_of_length-le}
use lib.Seq.{drop-cons}
use Rattle.model.specs.declared.Node.{Node}
use Rattle.model.specs.declared.Node.TheVariants.{Leaf, Difference, Union, Intersection}
use Rattle.model.specs.Outcome.{Outcome, refused, accepted, ◌>>=◌, ◌>>◌, require}
use Rattle.model.specs.Expression.{Tree}
use Rattle.model.specs.Fields.{bits, take_field, only_fill}
use Rattle.model.specs.Forms.{nodes, row_byte, row, node_of, take_byte, take_rest, take_kind, take_node, LeafTest, read_row, read_packed}
use Rattle.model.proofs.Order.{split}
use Rattle.model.proofs.Accepted.{accepted-same, bound, required, Few, few_byte, few_packed}
use Rattle.model.proofs.Sources.{seen, read_seen, node_seen, tree-seen}
use Rattle.fields.specs.Positions.{take_at}
use Rattle.fields.proofs.Fields.{took, taken-there}
use Rattle.expression.specs.declared.Form.{Form}
use Rattle.expression.specs.declared.Form.TheVariants.{Packed, Row}
use Rattle.expression.specs.Reading.{byte_at, take_in, members, at_end, read_form}
use Rattle.expression.proofs.Levels.{levels, whole}

pub few-members : (node : Node) → Few node → members node ≤ 8
few-members (Leaf k) f = omega arith
few-members Difference f = omega arith
few-members (Union n) f = f.1
few-members (Intersection n) f = f.1

module _ (s : List ℕ) where
  -- the bits, and the bytes, from a position on
  abbrev bits_from : ℕ → List Bool
  bits_from p = drop p (bits s)

  abbrev bytes_from : ℕ → List ℕ
  bytes_from p = drop p s

  byte_seen : (p : ℕ) → take_byte (bytes_from p) ≡ seen bytes_from (byte_at s p)
  unfolding take_byte byte_at seen
  byte_seen p = split (take_byte (bytes_from p) ≡ seen bytes_from (byte_at s p)) p (length s)
      (λ lt. rw (drop-cons s p 0 lt, lt-ltb p (length s) lt) (go (node_of (get_or s p 0))))
      (λ ge. rw (drop_of_length-le s ge, le-ltb p (length s) ge))
    where
      go : (o : Outcome Node) → (o >>= λ n. accepted (n, drop (suc p) s)) ≡ seen bytes_from (o >>= λ n. accepted (n, p + 1))
      go (refused n) = refl
      go (accepted n) = rw add-one

  -- a node that is taken
  pub record Taken (p : ℕ) (r : Node × ℕ) : Type 0 where
    pub near : r.1 ≤ p + 7
    pub within : r.1 ≤ 8 * length s
    pub few : Few r.0

  rest-near : (w : ℕ) (of : ℕ → Node) (p : ℕ) (r : Node × ℕ) → 1 ≤ w → take_rest (take_at s) w of p ≡ accepted r → (r.1 ≡ p + w) × (r.1 ≤ 8 * length s)
  unfolding take_rest
  rest-near w of p r h e =
      let a = bound (take_at s w p) _ r e in
      let f = took s w p a.got a.first in
      let q : a.got.1 ≡ r.1 = ap (λ (x : Node × ℕ). x.1) (accepted-same a.rest) in
      (omega (arith, f.next), omega (arith, f.next, f.inside))

  kind-near : (kind p : ℕ) (r : Node × ℕ) → p ≤ 8 * length s → take_kind (take_at s) kind p ≡ accepted r → (r.1 ≤ p + 5) × (r.1 ≤ 8 * length s)
  unfolding take_kind
  kind-near zero p r h e = let a = rest-near 5 Leaf p r (omega arith) e in (omega (arith, a.0), a.1)
  kind-near (suc zero) p r h e = let q : p ≡ r.1 = ap (λ (x : Node × ℕ). x.1) (accepted-same e) in (omega arith, omega arith)
  kind-near (suc (suc zero)) p r h e = let a = rest-near 3 (λ n. Union (n + 1)) p r (omega arith) e in (omega (arith, a.0), a.1)
  kind-near (suc (suc (suc kind))) p r h e = let a = rest-near 3 (λ n. Intersection (n + 1)) p r (omega arith) e in (omega (arith, a.0), a.1)

  packed_taken : (p : ℕ) (r : Node × ℕ) → take_node (take_at s) p ≡ accepted r → Taken p r
  unfolding take_node seen
  packed_taken p r e =
      let a = bound (take_at s 2 p) _ r e in
      let f = took s 2 p a.got a.first in
      let k = kind-near a.got.0 a.got.1 r (omega (arith, f.next, f.inside)) a.rest in
      record {
        near = omega (arith, f.next, k.0);
        within = k.1;
        few = few_packed (bits_from p) (r.0, bits_from r.1) (node_seen bits_from (take_at s) take_field (taken-there s) p ∙ ap (seen bits_from) e);
      }

  row_taken : (p : ℕ) (r : Node × ℕ) → byte_at s p ≡ accepted r → Taken p r
  unfolding byte_at seen
  row_taken p r e =
      let a = required 1 (ltb p (length s)) _ r e in
      let b = bound (node_of (get_or s p 0)) _ r a.1 in
      let q : p + 1 ≡ r.1 = ap (λ (x : Node × ℕ). x.1) (accepted-same b.rest) in
      let lt : p < length s = ltb-true p (length s) a.0 in
      record {
        near = omega arith;
        within = omega arith;
        few = few_byte (bytes_from p) (r.0, bytes_from r.1) (byte_seen p ∙ ap (seen bytes_from) e);
      }

  pub node_taken : (form : Form) (p : ℕ) (r : Node × ℕ) → take_in form s p ≡ accepted r → Taken p r
  node_taken Packed p r e = packed_taken p r e
  node_taken Row p r e = row_taken p r e

  -- 5, and the row form of the tree, behind a reading in one source and in the other
  finish : {T : Type 0} (see : ℕ → T) (end : T → Bool) (o : Outcome (Tree × ℕ × ℕ)) (p : Outcome (Tree × ℕ × T)) → p ≡ read_seen see o
      → ((p >>= λ r. require 5 (end r.2) >> accepted r.0) >>= λ t. accepted (row t)) ≡ (o >>= λ r. require 5 (end (see r.2)) >> accepted (map row_byte (nodes r.0)))
  unfolding read_seen row
  finish see end (refused n) p e = rw e
  finish see end (accepted r) p e = rw e (go (end (see r.2)))
    where
      go : (t : Bool) → ((require 5 t >> accepted r.0) >>= λ t. accepted (row t)) ≡ (require 5 t >> accepted (map row_byte (nodes r.0)))
      go true = refl
      go false = refl

  -- the whole reading by position: one node is due, with all the depth left
  pub read_by_position : (form : Form) (test : LeafTest)
      → (read_form form test s >>= λ t. accepted (row t)) ≡ levels test (take_in form s) 12 (1 ∷ []) 0 0 (λ ns m p. require 5 (at_end form s p) >> accepted (map row_byte ns))
  unfolding read_packed read_row
  read_by_position Packed test =
      finish bits_from only_fill _ _ (tree-seen bits_from test (take_node (take_at s)) (take_node take_field) (node_seen bits_from (take_at s) take_field (taken-there s)) 12 0 0)
      ∙ sym (whole test (take_in Packed s) 12 0 0 _)
  read_by_position Row test =
      finish bytes_from (λ rest. eqb (length rest) 0) _ _ (tree-seen bytes_from test (byte_at s) take_byte byte_seen 12 0 0)
      ∙ sym (whole test (take_in Row s) 12 0 0 _)
