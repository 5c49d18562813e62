-- An expression read with another leaf's test: what reads with one reads with another as its leaves, in order, are judged by that.
-- Assumes nothing.
use mathlib.Core.Path.{◌≡◌, refl, ap, ap₂, ◌∙◌}
use mathlib.Core.Bool.{Bool, true, false, ◌&&◌}
use mathlib.Core.List.{List}
use Prim.Native.Nat.{ℕ, zero, suc, ◌-◌}
use lib.Dec.{ltb, eqb}
use borrow.Author.Tests.{lt-ltb}
use lib.ListN.{length}
use Rattle.model.specs.declared.Node.{Node}
use Rattle.model.specs.declared.Node.TheVariants.{Leaf, Difference, Union, Intersection}
use Rattle.model.specs.Outcome.{Outcome, refused, accepted, ◌>>=◌, ◌>>◌, require}
use Rattle.model.specs.Lists.{delivered}
use Rattle.model.specs.Expression.{Tree, leaf, difference, union, intersection, Members, one, more}
use Rattle.model.specs.Fields.{bits, take_field, only_fill}
use Rattle.model.specs.Forms.{LeafTest, there, take_byte, take_node, read_members, operator, read_below, read_tree, read_row, read_packed}
use Rattle.model.specs.Demands.{Named, NamedAll}
use Rattle.model.specs.RequestTwo.{all_came, all_came_each}
use Rattle.model.proofs.Accepted.{accepted-same, never_accepted, bound, both, required, there-is, there-came}

-- ---- the leaves judged one after another
abbrev mutual
  pub judge : LeafTest → Tree → Outcome (Unit {0})
  judge test (leaf k) = test k
  judge test (difference s t) = judge test s >> judge test t
  judge test (union ts) = judge_all test ts
  judge test (intersection ts) = judge_all test ts

  pub judge_all : LeafTest → Members → Outcome (Unit {0})
  judge_all test (one t) = judge test t
  judge_all test (more t ts) = judge test t >> judge_all test ts

then-on : {A B : Type 0} (o : Outcome (Unit {0})) (a : A) (f : A → Outcome B) → (o >> accepted a) >>= f ≡ o >> f a
then-on (refused n) a f = refl
then-on (accepted u) a f = refl

regroup : {A : Type 0} (o p : Outcome (Unit {0})) (q : Outcome A) → o >> (p >> q) ≡ (o >> p) >> q
regroup (refused n) p q = refl
regroup (accepted u) p q = refl

module _ {S : Type 0} (test other : LeafTest) (take_one : S → Outcome (Node × S)) where
  -- what a reading comes to with the other test
  abbrev Judges : (ℕ → S → Outcome (Tree × ℕ × S)) → (ℕ → S → Outcome (Tree × ℕ × S)) → Type 0
  Judges tree tree' = (done : ℕ) (s : S) (r : Tree × ℕ × S) → tree done s ≡ accepted r → tree' done s ≡ judge other r.0 >> accepted r

  members_judged : (tree tree' : ℕ → S → Outcome (Tree × ℕ × S)) → Judges tree tree' → (n done : ℕ) (s : S) (r : Members × ℕ × S)
      → read_members test take_one tree n done s ≡ accepted r → read_members other take_one tree' n done s ≡ judge_all other r.0 >> accepted r
  unfolding read_members
  members_judged tree tree' h zero done s r e =
      let a = bound (tree done s) _ r e in
      let q : (one a.got.0, a.got.1, a.got.2) ≡ r = accepted-same a.rest in
      rw (← q, h done s a.got a.first) (then-on (judge other a.got.0) a.got _)
  members_judged tree tree' h (suc n) done s r e =
      let a = bound (tree done s) _ r e in
      let b = bound (read_members test take_one tree n a.got.1 a.got.2) _ r a.rest in
      let q : (more a.got.0 b.got.0, b.got.1, b.got.2) ≡ r = accepted-same b.rest in
      rw (← q, h done s a.got a.first) (
      then-on (judge other a.got.0) a.got _
      ∙ ap (λ (o : Outcome (Members × ℕ × S)). judge other a.got.0 >> (o >>= λ (ts, done₂, rest). accepted (more a.got.0 ts, done₂, rest))) (members_judged tree tree' h n a.got.1 a.got.2 b.got b.first)
      ∙ ap (λ (o : Outcome (Members × ℕ × S)). judge other a.got.0 >> o) (then-on (judge_all other b.got.0) b.got _)
      ∙ regroup (judge other a.got.0) (judge_all other b.got.0) _)

  operator_judged : (tree tree' : ℕ → S → Outcome (Tree × ℕ × S)) → Judges tree tree' → (of : Members → Tree) → ((ts : Members) → judge other (of ts) ≡ judge_all other ts) → (n done : ℕ) (s : S) (r : Tree × ℕ × S)
      → operator test take_one of (read_members test take_one tree n done s) ≡ accepted r → operator other take_one of (read_members other take_one tree' n done s) ≡ judge other r.0 >> accepted r
  unfolding operator
  operator_judged tree tree' h of same n done s r e =
      let a = bound (read_members test take_one tree n done s) _ r e in
      let q : (of a.got.0, a.got.1, a.got.2) ≡ r = accepted-same a.rest in
      rw (← q, members_judged tree tree' h n done s a.got a.first, same a.got.0) (then-on (judge_all other a.got.0) a.got _)

  below_judged : (tree tree' : ℕ → S → Outcome (Tree × ℕ × S)) → Judges tree tree' → (n : Node) (done : ℕ) (s : S) (r : Tree × ℕ × S)
      → read_below test take_one tree n done s ≡ accepted r → read_below other take_one tree' n done s ≡ judge other r.0 >> accepted r
  unfolding read_below
  below_judged tree tree' h (Leaf k) done s r e =
      let a = both (test k) _ r e in
      let q : (leaf k, done, s) ≡ r = accepted-same a.1 in
      rw (← q) refl
  below_judged tree tree' h Difference done s r e =
      let a = bound (tree done s) _ r e in
      let b = bound (tree a.got.1 a.got.2) _ r a.rest in
      let q : (difference a.got.0 b.got.0, b.got.1, b.got.2) ≡ r = accepted-same b.rest in
      rw (← q, h done s a.got a.first) (
      then-on (judge other a.got.0) a.got _
      ∙ ap (λ (o : Outcome (Tree × ℕ × S)). judge other a.got.0 >> (o >>= λ (t, done₂, rest). accepted (difference a.got.0 t, done₂, rest))) (h a.got.1 a.got.2 b.got b.first)
      ∙ ap (λ (o : Outcome (Tree × ℕ × S)). judge other a.got.0 >> o) (then-on (judge other b.got.0) b.got _)
      ∙ regroup (judge other a.got.0) (judge other b.got.0) _)
  below_judged tree tree' h (Union n) done s r e = operator_judged tree tree' h union (λ ts. refl) (n - 1) done s r e
  below_judged tree tree' h (Intersection n) done s r e = operator_judged tree tree' h intersection (λ ts. refl) (n - 1) done s r e

  pub tree_judged : (d : ℕ) → Judges (read_tree test take_one d) (read_tree other take_one d)
  unfolding read_tree
  tree_judged zero done s r e = never_accepted (required 2 (ltb done 48) _ r e).1
  tree_judged (suc d) done s r e =
      let a = required 2 (ltb done 48) _ r e in
      let b = bound (take_one s) _ r a.1 in
      rw (a.0, b.first) (below_judged (read_tree test take_one d) (read_tree other take_one d) (tree_judged d) b.got.0 (suc done) b.got.1 r b.rest)

-- ---- both stored forms
pub packed_judged : (test other : LeafTest) (bs : List ℕ) (t : Tree) → read_packed test bs ≡ accepted t → read_packed other bs ≡ judge other t >> accepted t
unfolding read_packed
packed_judged test other bs t e =
    let a = bound (read_tree test (take_node take_field) 12 0 (bits bs)) _ t e in
    let b = required 5 (only_fill a.got.2) _ t a.rest in
    let q : a.got.0 ≡ t = accepted-same b.1 in
    rw (← q, tree_judged test other (take_node take_field) 12 0 (bits bs) a.got a.first) (then-on (judge other a.got.0) a.got _ ∙ rw b.0 refl)

pub row_judged : (test other : LeafTest) (bs : List ℕ) (t : Tree) → read_row test bs ≡ accepted t → read_row other bs ≡ judge other t >> accepted t
unfolding read_row
row_judged test other bs t e =
    let a = bound (read_tree test take_byte 12 0 bs) _ t e in
    let b = required 5 (eqb (length a.got.2) 0) _ t a.rest in
    let q : a.got.0 ≡ t = accepted-same b.1 in
    rw (← q, tree_judged test other take_byte 12 0 bs a.got a.first) (then-on (judge other a.got.0) a.got _ ∙ rw b.0 refl)

-- ---- leaves that are there are judged by whether they were delivered
abbrev pub or_18 : Bool → Outcome (Unit {0})
or_18 b = require 18 b

both_18 : (a b : Bool) → or_18 a >> or_18 b ≡ or_18 (a && b)
both_18 true b = refl
both_18 false b = refl

module _ (lists with_word word : ℕ) where
  leaf_18 : (k : ℕ) → there lists with_word k ≡ accepted tt → there lists word k ≡ or_18 (delivered word k)
  unfolding there
  leaf_18 k h = rw (lt-ltb k lists (there-is lists with_word k h)) refl

  mutual
    unfolding all_came

    pub judged_18 : (t : Tree) → Named (there lists with_word) t → judge (there lists word) t ≡ or_18 (all_came word t)
    judged_18 (leaf k) n = leaf_18 k n
    judged_18 (difference s t) n = ap₂ (λ (o p : Outcome (Unit {0})). o >> p) (judged_18 s n.0) (judged_18 t n.1) ∙ both_18 (all_came word s) (all_came word t)
    judged_18 (union ts) n = judged_all_18 ts n.0
    judged_18 (intersection ts) n = judged_all_18 ts n.0

    judged_all_18 : (ts : Members) → NamedAll (there lists with_word) ts → judge_all (there lists word) ts ≡ or_18 (all_came_each word ts)
    judged_all_18 (one t) n = judged_18 t n
    judged_all_18 (more t ts) n = ap₂ (λ (o p : Outcome (Unit {0})). o >> p) (judged_18 t n.0) (judged_all_18 ts n.1) ∙ both_18 (all_came word t) (all_came_each word ts)

-- and a tree whose leaves may all be named came
module _ (lists word : ℕ) where
  mutual
    unfolding all_came

    pub named-came : (t : Tree) → Named (there lists word) t → all_came word t ≡ true
    named-came (leaf k) n = there-came lists word k n
    named-came (difference s t) n = rw (named-came s n.0, named-came t n.1) refl
    named-came (union ts) n = named-all_came ts n.0
    named-came (intersection ts) n = named-all_came ts n.0

    named-all_came : (ts : Members) → NamedAll (there lists word) ts → all_came_each word ts ≡ true
    named-all_came (one t) n = named-came t n
    named-all_came (more t ts) n = rw (named-came t n.0, named-all_came ts n.1) refl
