-- A refusal's number is never 0, so a call that hands back 0 has accepted: by the lines of each `do` block. Assumes nothing.
use mathlib.Core.Path.{◌≡◌, refl, sym, ◌∙◌}
use mathlib.Core.Bool.{Bool, true, false, ◌&&◌, cond}
use mathlib.Core.List.{List, [], ◌∷◌}
use mathlib.Core.Option.{Option, none, some, map}
use Prim.Native.Nat.{ℕ, zero, suc, ◌+◌, ◌-◌, ◌≤◌}
use native.Mathlib.Omega.{arith}
use lib.Dec.{ltb, leb, eqb}
use lib.ListN.{length}
use Rattle.model.specs.declared.Node.{Node}
use Rattle.model.specs.declared.Node.TheVariants.{Leaf, Difference, Union, Intersection}
use Rattle.model.specs.Outcome.{Outcome, refused, accepted, ◌>>=◌, ◌>>◌, require, number_of, Success, sent}
use Rattle.model.specs.Lists.{top, all_ascending, lists_from, count_holds, ends_hold, delivered, word_holds, Lent, lists_of}
use Rattle.model.specs.Expression.{Tree}
use Rattle.model.specs.Fields.{bits, take_field, only_fill}
use Rattle.model.specs.Forms.{node_of, take_byte, take_rest, take_kind, take_node, LeafTest, there, read_members, operator, read_below, read_tree, read_row, read_packed}
use Rattle.model.proofs.Accepted.{never_accepted}
use Rattle.model.specs.Delivery.{largest_gap, width, read_gaps, read_body, Form, by_count, read_list, read_lists, read_in, take_count, by_bit, read_stored, read_delivery}

pub record Told {A : Type 0} (o : Outcome A) : Type 0 where
  pub never : (n : ℕ) → o ≡ refused n → 1 ≤ n

pub told_right : {A : Type 0} {a : A} → Told (accepted a)
told_right = record { never = λ n e. never_accepted (sym e) }

pub told_by : {A : Type 0} {n : ℕ} → 1 ≤ n → Told {A = A} (refused n)
told_by {A} {n} h = record { never = λ m e. let same : n ≡ m = cc in omega arith }

pub told_then : {A B : Type 0} (o : Outcome A) (f : A → Outcome B) → Told o → ((a : A) → Told (f a)) → Told (o >>= f)
told_then (refused n) f h g = told_by (h.never n refl)
told_then (accepted a) f h g = g a

pub told_and : {B : Type 0} (t : Outcome (Unit {0})) (o : Outcome B) → Told t → Told o → Told (t >> o)
told_and (refused n) o h g = told_by (h.never n refl)
told_and (accepted u) o h g = g

told_require : (n : ℕ) (b : Bool) → 1 ≤ n → Told (require n b)
told_require n true h = told_right
told_require n false h = told_by h

pub told_test : {B : Type 0} (n : ℕ) (b : Bool) (o : Outcome B) → 1 ≤ n → Told o → Told (require n b >> o)
told_test n b o h g = told_and (require n b) o (told_require n b h) g

-- what a call that hands back 0 has accepted
pub record SuccessOf {A : Type 0} (o : Outcome A) : Type 0 where
  pub got : A
  pub is : o ≡ accepted got

pub zero_accepts : {A : Type 0} (o : Outcome A) → Told o → number_of o ≡ 0 → SuccessOf o
unfolding number_of
zero_accepts (refused n) t e = absurd (omega (arith, t.never n refl))
zero_accepts (accepted a) t e = record { got = a; is = refl }

-- and what one that hands back another number has refused
pub refused_by : {A : Type 0} (o : Outcome A) → (number_of o ≡ 0 → ⊥) → o ≡ refused (number_of o)
unfolding number_of
refused_by (refused n) h = refl
refused_by (accepted a) h = absurd (h refl)

pub sent-number : (parts : ℕ) (rows : List (List ℕ)) (o : Outcome Success) → number_of o ≡ (sent parts rows o).number
unfolding number_of sent
sent-number parts rows (refused n) = refl
sent-number parts rows (accepted s) = refl

pub succeeded : (parts : ℕ) (rows : List (List ℕ)) (o : Outcome Success) → Told o → (sent parts rows o).number ≡ 0 → SuccessOf o
succeeded parts rows o t e = zero_accepts o t (sent-number parts rows o ∙ e)

pub lists_told : (l : Lent) → Told (lists_of l)
unfolding lists_of
lists_told l = told_test 7 (count_holds (length l.ends)) _ (omega arith) (told_test 10 (ends_hold (length l.numbers) 0 l.ends && word_holds l.word 0 0 l.ends) _ (omega arith) (told_test 11 (all_ascending (lists_from l.numbers 0 l.ends)) _ (omega arith) told_right))

-- ---- expressions

pub there_told : (lists word k : ℕ) → Told (there lists word k)
unfolding there
there_told lists word k = told_test 4 (ltb k lists) _ (omega arith) (told_require 18 (delivered word k) (omega arith))

module _ {S : Type 0} (test : LeafTest) (leaf_told : (k : ℕ) → Told (test k)) (take_one : S → Outcome (Node × S)) (one_told : (s : S) → Told (take_one s)) where
  members_told : (tree : ℕ → S → Outcome (Tree × ℕ × S)) → ((done : ℕ) (s : S) → Told (tree done s)) → (n done : ℕ) (s : S) → Told (read_members test take_one tree n done s)
  unfolding read_members
  members_told tree h zero done s = told_then (tree done s) _ (h done s) (λ r. told_right)
  members_told tree h (suc n) done s = told_then (tree done s) _ (h done s) (λ r. told_then (read_members test take_one tree n r.1 r.2) _ (members_told tree h n r.1 r.2) (λ q. told_right))

  below_told : (tree : ℕ → S → Outcome (Tree × ℕ × S)) → ((done : ℕ) (s : S) → Told (tree done s)) → (node : Node) (done : ℕ) (s : S) → Told (read_below test take_one tree node done s)
  unfolding read_below operator
  below_told tree h (Leaf k) done s = told_and (test k) _ (leaf_told k) told_right
  below_told tree h Difference done s = told_then (tree done s) _ (h done s) (λ r. told_then (tree r.1 r.2) _ (h r.1 r.2) (λ q. told_right))
  below_told tree h (Union n) done s = told_then (read_members test take_one tree (n - 1) done s) _ (members_told tree h (n - 1) done s) (λ r. told_right)
  below_told tree h (Intersection n) done s = told_then (read_members test take_one tree (n - 1) done s) _ (members_told tree h (n - 1) done s) (λ r. told_right)

  tree_told : (d done : ℕ) (s : S) → Told (read_tree test take_one d done s)
  unfolding read_tree
  tree_told zero done s = told_test 2 (ltb done 48) _ (omega arith) (told_by {n = 3} (omega arith))
  tree_told (suc d) done s = told_test 2 (ltb done 48) _ (omega arith) (told_then (take_one s) _ (one_told s) (λ r. below_told (read_tree test take_one d) (tree_told d) r.0 (suc done) r.1))

node_told : (b : ℕ) → Told (node_of b)
unfolding node_of
node_told b =
    told_if (leb b 31) (Leaf b) _ (told_if (eqb b 64) Difference _ (told_if (leb 129 b && leb b 136) (Union (b - 128)) _ (told_if (leb 193 b && leb b 200) (Intersection (b - 192)) _ (told_by {n = 14} (omega arith)))))
  where
    told_if : (t : Bool) (node : Node) (o : Outcome Node) → Told o → Told (cond t (accepted node) o)
    told_if true node o h = told_right
    told_if false node o h = h

byte_told : (bs : List ℕ) → Told (take_byte bs)
unfolding take_byte
byte_told [] = told_by {n = 1} (omega arith)
byte_told (b ∷ bs) = told_then (node_of b) _ (node_told b) (λ n. told_right)

pub row_told : (test : LeafTest) → ((k : ℕ) → Told (test k)) → (bs : List ℕ) → Told (read_row test bs)
unfolding read_row
row_told test leaf_told bs = told_then (read_tree test take_byte 12 0 bs) _ (tree_told test leaf_told take_byte byte_told 12 0 bs) (λ r. told_test 5 (eqb (length r.2) 0) _ (omega arith) told_right)

field_told : (w : ℕ) (bs : List Bool) → Told (take_field w bs)
unfolding take_field
field_told w bs = told_test 1 (leb w (length bs)) _ (omega arith) told_right

rest_told : (w : ℕ) (of : ℕ → Node) (bs : List Bool) → Told (take_rest take_field w of bs)
unfolding take_rest
rest_told w of bs = told_then (take_field w bs) _ (field_told w bs) (λ r. told_right)

kind_told : (kind : ℕ) (bs : List Bool) → Told (take_kind take_field kind bs)
unfolding take_kind
kind_told zero bs = rest_told 5 Leaf bs
kind_told (suc zero) bs = told_right
kind_told (suc (suc zero)) bs = rest_told 3 _ bs
kind_told (suc (suc (suc kind))) bs = rest_told 3 _ bs

packed_node_told : (bs : List Bool) → Told (take_node take_field bs)
unfolding take_node
packed_node_told bs = told_then (take_field 2 bs) _ (field_told 2 bs) (λ r. kind_told r.0 r.1)

pub packed_told : (test : LeafTest) → ((k : ℕ) → Told (test k)) → (bs : List ℕ) → Told (read_packed test bs)
unfolding read_packed
packed_told test leaf_told bs = told_then (read_tree test (take_node take_field) 12 0 (bits bs)) _ (tree_told test leaf_told (take_node take_field) packed_node_told 12 0 (bits bs)) (λ r. told_test 5 (only_fill r.2) _ (omega arith) told_right)

-- ---- deliveries

gaps_told : (w n last : ℕ) (bs : List Bool) → Told (read_gaps take_field w n last bs)
unfolding read_gaps
gaps_told w zero last bs = told_right
gaps_told w (suc n) last bs = told_then (take_field w bs) _ (field_told w bs) (λ r. told_test 8 (ltb (last + r.0 + 1) top) _ (omega arith) (told_then (read_gaps take_field w n (last + r.0 + 1) r.1) _ (gaps_told w n (last + r.0 + 1) r.1) (λ q. told_right)))

body_told : (n : ℕ) (bs : List Bool) → Told (read_body take_field n bs)
unfolding read_body
body_told zero bs = told_right
body_told (suc zero) bs = told_then (take_field 32 bs) _ (field_told 32 bs) (λ r. told_right)
body_told (suc (suc n)) bs = told_then (take_field 32 bs) _ (field_told 32 bs) (λ a. told_then (take_field 5 a.1) _ (field_told 5 a.1) (λ r.
    told_then (read_gaps take_field (r.0 + 1) (suc n) a.0 r.1) _ (gaps_told (r.0 + 1) (suc n) a.0 r.1) (λ q. told_test 9 (eqb (r.0 + 1) (width (largest_gap a.0 q.0))) _ (omega arith) told_right)))

-- of a form whose heads are told
module _ {A : Type 0} (form : Form A) (head_told : (bs : List Bool) → Told (form.take_head take_field bs)) where
  list_told : (room : Option ℕ) (bs : List Bool) → Told (read_list take_field form room bs)
  unfolding read_list
  list_told room bs = told_then (form.take_head take_field bs) _ (head_told bs) (λ r. told_test 6 (elim room [ none ↦ true | some k ↦ leb r.0.0 k ]) _ (omega arith) (told_then (read_body take_field r.0.0 r.1) _ (body_told r.0.0 r.1) (λ q. told_right)))

  lists_read_told : (n : ℕ) (room : Option ℕ) (bs : List Bool) → Told (read_lists take_field form n room bs)
  unfolding read_lists
  lists_read_told zero room bs = told_right
  lists_read_told (suc n) room bs = told_then (read_list take_field form room bs) _ (list_told room bs) (λ r.
      let left : Option ℕ = map (λ k. k - length (form.numbers_of r.0)) room in
      told_then (read_lists take_field form n left r.1) _ (lists_read_told n left r.1) (λ q. told_right))

  pub form_told : (numbers_room ends_room : Option ℕ) (bs : List ℕ) → Told (read_in form numbers_room ends_room bs)
  unfolding read_in
  form_told numbers_room ends_room bs =
      told_then (take_field 6 (bits bs)) _ (field_told 6 (bits bs)) (λ r. told_test 7 (count_holds r.0) _ (omega arith) (told_test 6 (elim ends_room [ none ↦ true | some k ↦ leb r.0 k ]) _ (omega arith)
      (told_then (read_lists take_field form r.0 numbers_room r.1) _ (lists_read_told r.0 numbers_room r.1) (λ q. told_test 5 (only_fill q.1) _ (omega arith) told_right))))

by_count_told : (bs : List Bool) → Told (by_count.take_head take_field bs)
by_count_told bs = told_then (take_field 16 bs) _ (field_told 16 bs) (λ r. told_right)

by_bit_told : (bs : List Bool) → Told (by_bit.take_head take_field bs)
unfolding take_count
by_bit_told bs = told_then (take_field 1 bs) _ (field_told 1 bs) (λ r. count_told r.0 r.1)
  where
    count_told : (bit : ℕ) (bs : List Bool) → Told (take_count take_field bit bs)
    count_told zero bs = told_right
    count_told (suc bit) bs = told_then (take_field 16 bs) _ (field_told 16 bs) (λ r. told_right)

pub delivery_told : (numbers_room ends_room : ℕ) (bs : List ℕ) → Told (read_delivery numbers_room ends_room bs)
unfolding read_delivery
delivery_told numbers_room ends_room bs = form_told by_bit by_bit_told (some numbers_room) (some ends_room) bs

-- where no row is lent, in either form
pub old_told : (bs : List ℕ) → Told (read_stored by_count bs)
unfolding read_stored
old_told bs = form_told by_count by_count_told none none bs

pub stored_told : (bs : List ℕ) → Told (read_stored by_bit bs)
unfolding read_stored
stored_told bs = form_told by_bit by_bit_told none none bs
