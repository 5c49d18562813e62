-- 18 comes from a leaf's test and from nowhere else: where a reading says 18, a list that is there was not delivered. Assumes nothing.
use mathlib.Core.Path.{◌≡◌, refl}
use mathlib.Core.Bool.{Bool, true, false, ◌&&◌, cond}
use mathlib.Core.List.{List, [], ◌∷◌}
use Prim.Native.Nat.{ℕ, zero, suc, ◌+◌, ◌-◌}
use native.Mathlib.Omega.{arith}
use lib.Dec.{ltb, leb, eqb}
use borrow.Author.Tests.{ltb-true}
use lib.ListN.{length}
use Rattle.model.specs.declared.Node.{Node}
use Rattle.model.specs.declared.Node.TheVariants.{Leaf, Difference, Union, Intersection}
use Rattle.model.specs.Outcome.{Outcome, refused, accepted, ◌>>=◌, ◌>>◌, require, number_of}
use Rattle.model.specs.Lists.{all_ascending, lists_from, count_holds, ends_hold, delivered, word_holds, Lent, lists_of}
use Rattle.model.specs.Expression.{Tree, Members, union, intersection}
use Rattle.model.specs.Run.{named_in, source_of}
use Rattle.model.specs.Fields.{bits, take_field, only_fill}
use Rattle.model.specs.Forms.{LeafTest, there, node_of, take_byte, take_rest, take_kind, take_node, read_members, operator, read_below, read_tree, read_row, read_packed}
use Rattle.model.specs.RequestTwo.{Undelivered}

-- what is known where an outcome is 18
pub record From {A : Type 0} (P : Type 0) (o : Outcome A) : Type 0 where
  pub says : number_of o ≡ 18 → P

module _ {P : Type 0} where
  pub from_right : {A : Type 0} {a : A} → From P (accepted a)
  unfolding number_of
  from_right = record { says = λ e. absurd (omega arith) }

  pub from_other : {A : Type 0} (n : ℕ) → (n ≡ 18 → ⊥) → From {A = A} P (refused n)
  unfolding number_of
  from_other n h = record { says = λ e. absurd (h e) }

  pub from_then : {A B : Type 0} (o : Outcome A) (f : A → Outcome B) → From P o → ((a : A) → From P (f a)) → From P (o >>= f)
  unfolding number_of
  from_then (refused n) f h g = record { says = λ e. h.says e }
  from_then (accepted a) f h g = g a

  pub from_and : {B : Type 0} (o : Outcome (Unit {0})) (p : Outcome B) → From P o → From P p → From P (o >> p)
  unfolding number_of
  from_and (refused n) p h g = record { says = λ e. h.says e }
  from_and (accepted u) p h g = g

  pub from_test : {B : Type 0} (n : ℕ) (b : Bool) (o : Outcome B) → (n ≡ 18 → ⊥) → From P o → From P (require n b >> o)
  from_test n true o h g = g
  from_test n false o h g = from_other n h

  field_from : (w : ℕ) (bs : List Bool) → From P (take_field w bs)
  unfolding take_field
  field_from w bs = from_test 1 (leb w (length bs)) _ (λ e. omega arith) from_right

  module _ {S : Type 0} (test : LeafTest) (leaf_from : (k : ℕ) → From P (test k)) (take_one : S → Outcome (Node × S)) (one_from : (s : S) → From P (take_one s)) where
    members_from : (tree : ℕ → S → Outcome (Tree × ℕ × S)) → ((done : ℕ) (s : S) → From P (tree done s)) → (n done : ℕ) (s : S) → From P (read_members test take_one tree n done s)
    unfolding read_members
    members_from tree h zero done s = from_then (tree done s) _ (h done s) (λ r. from_right)
    members_from tree h (suc n) done s = from_then (tree done s) _ (h done s) (λ r. from_then (read_members test take_one tree n r.1 r.2) _ (members_from tree h n r.1 r.2) (λ q. from_right))

    operator_from : (of : Members → Tree) (o : Outcome (Members × ℕ × S)) → From P o → From P (operator test take_one of o)
    unfolding operator
    operator_from of o h = from_then o _ h (λ r. from_right)

    below_from : (tree : ℕ → S → Outcome (Tree × ℕ × S)) → ((done : ℕ) (s : S) → From P (tree done s)) → (n : Node) (done : ℕ) (s : S) → From P (read_below test take_one tree n done s)
    unfolding read_below
    below_from tree h (Leaf k) done s = from_and (test k) _ (leaf_from k) from_right
    below_from tree h Difference done s = from_then (tree done s) _ (h done s) (λ r. from_then (tree r.1 r.2) _ (h r.1 r.2) (λ q. from_right))
    below_from tree h (Union n) done s = operator_from union _ (members_from tree h (n - 1) done s)
    below_from tree h (Intersection n) done s = operator_from intersection _ (members_from tree h (n - 1) done s)

    tree_from : (d done : ℕ) (s : S) → From P (read_tree test take_one d done s)
    unfolding read_tree
    tree_from zero done s = from_test 2 (ltb done 48) _ (λ e. omega arith) (from_other 3 (λ e. omega arith))
    tree_from (suc d) done s = from_test 2 (ltb done 48) _ (λ e. omega arith) (from_then (take_one s) _ (one_from s) (λ r. below_from (read_tree test take_one d) (tree_from d) r.0 (suc done) r.1))

  -- the nodes of either form
  node_from : (b : ℕ) → From P (node_of b)
  unfolding node_of
  node_from b = go (leb b 31) (eqb b 64) (leb 129 b && leb b 136) (leb 193 b && leb b 200)
    where
      go : (p q r s : Bool) → From P (cond p (accepted (Leaf b)) (cond q (accepted Difference) (cond r (accepted (Union (b - 128))) (cond s (accepted (Intersection (b - 192))) (refused 14)))))
      go true q r s = from_right
      go false true r s = from_right
      go false false true s = from_right
      go false false false true = from_right
      go false false false false = from_other 14 (λ e. omega arith)

  byte_from : (bs : List ℕ) → From P (take_byte bs)
  unfolding take_byte
  byte_from [] = from_other 1 (λ e. omega arith)
  byte_from (b ∷ bs) = from_then (node_of b) _ (node_from b) (λ n. from_right)

  rest_from : (w : ℕ) (of : ℕ → Node) (bs : List Bool) → From P (take_rest take_field w of bs)
  unfolding take_rest
  rest_from w of bs = from_then (take_field w bs) _ (field_from w bs) (λ r. from_right)

  kind_from : (kind : ℕ) (bs : List Bool) → From P (take_kind take_field kind bs)
  unfolding take_kind
  kind_from zero bs = rest_from 5 Leaf bs
  kind_from (suc zero) bs = from_right
  kind_from (suc (suc zero)) bs = rest_from 3 (λ n. Union (n + 1)) bs
  kind_from (suc (suc (suc kind))) bs = rest_from 3 (λ n. Intersection (n + 1)) bs

  packed_node_from : (bs : List Bool) → From P (take_node take_field bs)
  unfolding take_node
  packed_node_from bs = from_then (take_field 2 bs) _ (field_from 2 bs) (λ r. kind_from r.0 r.1)

  pub packed_from : (test : LeafTest) → ((k : ℕ) → From P (test k)) → (bs : List ℕ) → From P (read_packed test bs)
  unfolding read_packed
  packed_from test h bs = from_then (read_tree test (take_node take_field) 12 0 (bits bs)) _ (tree_from test h (take_node take_field) packed_node_from 12 0 (bits bs)) (λ r. from_test 5 (only_fill r.2) _ (λ e. omega arith) from_right)

  pub row_from : (test : LeafTest) → ((k : ℕ) → From P (test k)) → (bs : List ℕ) → From P (read_row test bs)
  unfolding read_row
  row_from test h bs = from_then (read_tree test take_byte 12 0 bs) _ (tree_from test h take_byte byte_from 12 0 bs) (λ r. from_test 5 (eqb (length r.2) 0) _ (λ e. omega arith) from_right)

  pub lists_from_18 : (l : Lent) → From P (lists_of l)
  unfolding lists_of
  lists_from_18 l =
      from_test 7 (count_holds (length l.ends)) _ (λ e. omega arith) (from_test 10 (ends_hold (length l.numbers) 0 l.ends && word_holds l.word 0 0 l.ends) _ (λ e. omega arith)
      (from_test 11 (all_ascending (lists_from l.numbers 0 l.ends)) _ (λ e. omega arith) from_right))

-- a leaf's test: its list is there, and was not delivered
pub there_from : (lists word k : ℕ) → From (Undelivered lists word) (there lists word k)
unfolding there number_of
there_from lists word k = record { says = go (ltb k lists) refl (delivered word k) refl }
  where
    go : (a : Bool) → ltb k lists ≡ a → (b : Bool) → delivered word k ≡ b → number_of (require 4 a >> require 18 b) ≡ 18 → Undelivered lists word
    go false h b d e = absurd (omega arith)
    go true h true d e = absurd (omega arith)
    go true h false d e = record { list = k; is_there = ltb-true k lists h; not_delivered = d }

pub source_from : (l : Lent) (expression : List ℕ) → From (Undelivered (length l.ends) l.word) (source_of l expression)
unfolding source_of
source_from l expression =
    from_then (lists_of l) _ (lists_from_18 l) (λ ls. from_then (read_packed (named_in l) expression) _ (packed_from (named_in l) (there_from (length l.ends) l.word) expression) (λ t. from_right))
