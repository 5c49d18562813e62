-- What reads reads the same with more behind it: so a leaf's refusal comes whatever stands behind the expression. Assumes nothing.
use mathlib.Core.Path.{◌≡◌, refl, ap, ◌∙◌}
use mathlib.Core.Bool.{Bool}
use mathlib.Core.List.{List, [], ◌∷◌, ◌++◌, append_assoc}
use Prim.Native.Nat.{ℕ, zero, suc, ◌+◌, ◌-◌}
use lib.Dec.{ltb}
use Rattle.model.specs.declared.Node.{Node}
use Rattle.model.specs.declared.Node.TheVariants.{Leaf, Difference, Union, Intersection}
use Rattle.model.specs.Outcome.{Outcome, accepted, ◌>>=◌}
use Rattle.model.specs.Expression.{Tree, leaf, difference, union, intersection, Members, one, more}
use Rattle.model.specs.Fields.{field, take_field}
use Rattle.model.specs.Forms.{LeafTest, node_of, take_byte, take_rest, take_kind, take_node, read_members, operator, read_below, read_tree}
use Rattle.model.proofs.Accepted.{accepted-same, never_accepted, bound, both, required, field_lt}
use Rattle.model.proofs.Bits.{taken, was_field}

-- one node, and the source behind it, with more behind that
abbrev Goes_on : {A S : Type 0} → (S → S) → (S → Outcome (A × S)) → Type 0
Goes_on {A} {S} on take = (s : S) (r : A × S) → take s ≡ accepted r → take (on s) ≡ accepted (r.0, on r.1)

module _ {S : Type 0} (test : LeafTest) (take_one : S → Outcome (Node × S)) (on : S → S) (one_on : Goes_on on take_one) where
  abbrev ReadsOn : (ℕ → S → Outcome (Tree × ℕ × S)) → Type 0
  ReadsOn tree = (done : ℕ) (s : S) (r : Tree × ℕ × S) → tree done s ≡ accepted r → tree done (on s) ≡ accepted (r.0, r.1, on r.2)

  members-on : (tree : ℕ → S → Outcome (Tree × ℕ × S)) → ReadsOn tree → (n done : ℕ) (s : S) (r : Members × ℕ × S)
      → read_members test take_one tree n done s ≡ accepted r → read_members test take_one tree n done (on s) ≡ accepted (r.0, r.1, on r.2)
  unfolding read_members
  members-on tree h zero done s r e =
      let a = bound (tree done s) _ r e in
      let q : (one a.got.0, a.got.1, a.got.2) ≡ r = accepted-same a.rest in
      rw (← q, h done s a.got a.first) refl
  members-on tree h (suc n) done s r e =
      let a = bound (tree done s) _ r e in
      let b = bound (read_members test take_one tree n a.got.1 a.got.2) _ r a.rest in
      let q : (more a.got.0 b.got.0, b.got.1, b.got.2) ≡ r = accepted-same b.rest in
      rw (← q, h done s a.got a.first, members-on tree h n a.got.1 a.got.2 b.got b.first) refl

  operator-on : (tree : ℕ → S → Outcome (Tree × ℕ × S)) → ReadsOn tree → (of : Members → Tree) (n done : ℕ) (s : S) (r : Tree × ℕ × S)
      → operator test take_one of (read_members test take_one tree n done s) ≡ accepted r → operator test take_one of (read_members test take_one tree n done (on s)) ≡ accepted (r.0, r.1, on r.2)
  unfolding operator
  operator-on tree h of n done s r e =
      let a = bound (read_members test take_one tree n done s) _ r e in
      let q : (of a.got.0, a.got.1, a.got.2) ≡ r = accepted-same a.rest in
      rw (← q, members-on tree h n done s a.got a.first) refl

  below_on : (tree : ℕ → S → Outcome (Tree × ℕ × S)) → ReadsOn tree → (n : Node) (done : ℕ) (s : S) (r : Tree × ℕ × S)
      → read_below test take_one tree n done s ≡ accepted r → read_below test take_one tree n done (on s) ≡ accepted (r.0, r.1, on r.2)
  unfolding read_below
  below_on tree h (Leaf k) done s r e =
      let a = both (test k) _ r e in
      let q : (leaf k, done, s) ≡ r = accepted-same a.1 in
      rw (← q, a.0) refl
  below_on tree h Difference done s r e =
      let a = bound (tree done s) _ r e in
      let b = bound (tree a.got.1 a.got.2) _ r a.rest in
      let q : (difference a.got.0 b.got.0, b.got.1, b.got.2) ≡ r = accepted-same b.rest in
      rw (← q, h done s a.got a.first, h a.got.1 a.got.2 b.got b.first) refl
  below_on tree h (Union n) done s r e = operator-on tree h union (n - 1) done s r e
  below_on tree h (Intersection n) done s r e = operator-on tree h intersection (n - 1) done s r e

  pub tree_on : (d : ℕ) → ReadsOn (read_tree test take_one d)
  unfolding read_tree
  tree_on zero done s r e = never_accepted (required 2 (ltb done 48) _ r e).1
  tree_on (suc d) done s r e =
      let a = required 2 (ltb done 48) _ r e in
      let b = bound (take_one s) _ r a.1 in
      rw (a.0, one_on s b.got b.first) (below_on (read_tree test take_one d) (tree_on d) b.got.0 (suc done) b.got.1 r b.rest)

-- the nodes of either form
pub byte_on : (behind : List ℕ) → Goes_on (λ s. s ++ behind) take_byte
unfolding take_byte
byte_on behind [] r e = never_accepted e
byte_on behind (b ∷ bs) r e =
    let a = bound (node_of b) _ r e in
    let q : (a.got, bs) ≡ r = accepted-same a.rest in
    ap (λ (o : Outcome Node). o >>= λ n. accepted (n, bs ++ behind)) a.first ∙ ap (λ (p : Node × List ℕ). accepted (p.0, p.1 ++ behind)) q

field_on : (w : ℕ) (behind : List Bool) → Goes_on (λ s. s ++ behind) (take_field w)
field_on w behind s r e =
    ap (λ (l : List Bool). take_field w (l ++ behind)) (was_field w s r e) ∙ ap (take_field w) (append_assoc (field w r.0) r.1 behind) ∙ taken w r.0 (r.1 ++ behind) (field_lt w s r e)

rest_on : (w : ℕ) (of : ℕ → Node) (behind : List Bool) → Goes_on (λ s. s ++ behind) (take_rest take_field w of)
unfolding take_rest
rest_on w of behind s r e =
    let a = bound (take_field w s) _ r e in
    let q : (of a.got.0, a.got.1) ≡ r = accepted-same a.rest in
    rw (← q, field_on w behind s a.got a.first) refl

kind_on : (kind : ℕ) (behind : List Bool) → Goes_on (λ s. s ++ behind) (take_kind take_field kind)
unfolding take_kind
kind_on zero behind s r e = rest_on 5 Leaf behind s r e
kind_on (suc zero) behind s r e = let q : (Difference, s) ≡ r = accepted-same e in rw (← q) refl
kind_on (suc (suc zero)) behind s r e = rest_on 3 (λ n. Union (n + 1)) behind s r e
kind_on (suc (suc (suc kind))) behind s r e = rest_on 3 (λ n. Intersection (n + 1)) behind s r e

pub packed_on : (behind : List Bool) → Goes_on (λ s. s ++ behind) (take_node take_field)
unfolding take_node
packed_on behind s r e =
    let a = bound (take_field 2 s) _ r e in
    rw (field_on 2 behind s a.got a.first) (kind_on a.got.0 behind a.got.1 r a.rest)
