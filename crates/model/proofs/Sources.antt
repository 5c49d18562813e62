-- The source that is read does not matter: where two sources take fields alike, or nodes alike, everything read from them
-- is alike. `see` says which place of the second source a place of the first is: a bit position, say, and the bits from
-- there on. Each reading is a `do` block, so each proof follows its lines: `then` for a step, `tested` for a test.
-- Assumes nothing.
use mathlib.Core.Path.{◌≡◌, refl}
use mathlib.Core.Bool.{Bool, true, false}
use mathlib.Core.Option.{Option, none, some, map}
use Prim.Native.Nat.{ℕ, zero, suc, ◌+◌, ◌-◌}
use lib.Dec.{ltb, leb, eqb}
use lib.ListN.{length}
use Rattle.model.specs.declared.Node.{Node}
use Rattle.model.specs.declared.Node.TheVariants.{Leaf, Difference, Union, Intersection}
use Rattle.model.specs.Outcome.{Outcome, refused, accepted, ◌>>=◌, ◌>>◌, require}
use Rattle.model.specs.Lists.{top}
use Rattle.model.specs.Expression.{Tree, union, intersection, Members}
use Rattle.model.specs.Forms.{take_rest, take_kind, take_node, LeafTest, read_members, operator, read_below, read_tree}
use Rattle.model.specs.Delivery.{largest_gap, width, read_gaps, read_body, Form, by_count, take_count, by_bit, read_list, read_lists}

module _ {S T : Type 0} (see : S → T) where
  -- what was taken off the first source, with its place seen in the second
  unfoldable pub seen : {A : Type 0} → Outcome (A × S) → Outcome (A × T)
  seen (refused n) = refused n
  seen (accepted r) = accepted (r.0, see r.1)

  -- one step, and what follows it
  pub then : {A B : Type 0} (o : Outcome (A × S)) {p : Outcome (A × T)} (f : A × S → Outcome (B × S)) (g : A × T → Outcome (B × T))
      → p ≡ seen o → ((a : A) (s : S) → g (a, see s) ≡ seen (f (a, s))) → (p >>= g) ≡ seen (o >>= f)
  unfolding seen
  then (refused n) f g e h = rw e
  then (accepted r) f g e h = rw e (h r.0 r.1)

  pub tested : {B : Type 0} (n : ℕ) (b : Bool) (o : Outcome (B × S)) {p : Outcome (B × T)} → p ≡ seen o → (require n b >> p) ≡ seen (require n b >> o)
  unfolding seen
  tested n true o e = e
  tested n false o e = refl

  -- the same of a tree or member nodes, which come with how many nodes are read
  unfoldable pub read_seen : {A : Type 0} → Outcome (A × ℕ × S) → Outcome (A × ℕ × T)
  read_seen (refused n) = refused n
  read_seen (accepted r) = accepted (r.0, r.1, see r.2)

  -- a node, and what is read behind it
  node-then : {A B : Type 0} (o : Outcome (A × S)) {p : Outcome (A × T)} (f : A × S → Outcome (B × ℕ × S)) (g : A × T → Outcome (B × ℕ × T))
      → p ≡ seen o → ((a : A) (s : S) → g (a, see s) ≡ read_seen (f (a, s))) → (p >>= g) ≡ read_seen (o >>= f)
  unfolding seen read_seen
  node-then (refused n) f g e h = rw e
  node-then (accepted r) f g e h = rw e (h r.0 r.1)

  -- a tree, and what is read behind it
  tree-then : {A B : Type 0} (o : Outcome (A × ℕ × S)) {p : Outcome (A × ℕ × T)} (f : A × ℕ × S → Outcome (B × ℕ × S)) (g : A × ℕ × T → Outcome (B × ℕ × T))
      → p ≡ read_seen o → ((a : A) (n : ℕ) (s : S) → g (a, n, see s) ≡ read_seen (f (a, n, s))) → (p >>= g) ≡ read_seen (o >>= f)
  unfolding read_seen
  tree-then (refused n) f g e h = rw e
  tree-then (accepted r) f g e h = rw e (h r.0 r.1 r.2)

  read_and : {B : Type 0} (t : Outcome (Unit {0})) (o : Outcome (B × ℕ × S)) {p : Outcome (B × ℕ × T)} → p ≡ read_seen o → (t >> p) ≡ read_seen (t >> o)
  unfolding read_seen
  read_and (refused n) o e = refl
  read_and (accepted u) o e = e

-- sources off which fields are taken alike
module _ {S T : Type 0} (see : S → T) (take_bits₁ : ℕ → S → Outcome (ℕ × S)) (take_bits₂ : ℕ → T → Outcome (ℕ × T))
    (alike : (w : ℕ) (s : S) → take_bits₂ w (see s) ≡ seen see (take_bits₁ w s)) where
  rest-seen : (w : ℕ) (of : ℕ → Node) (s : S) → take_rest take_bits₂ w of (see s) ≡ seen see (take_rest take_bits₁ w of s)
  unfolding take_rest seen
  rest-seen w of s = then see (take_bits₁ w s) _ _ (alike w s) (λ n r. refl)

  kind-seen : (kind : ℕ) (s : S) → take_kind take_bits₂ kind (see s) ≡ seen see (take_kind take_bits₁ kind s)
  unfolding take_kind seen
  kind-seen zero s = rest-seen 5 Leaf s
  kind-seen (suc zero) s = refl
  kind-seen (suc (suc zero)) s = rest-seen 3 (λ n. Union (n + 1)) s
  kind-seen (suc (suc (suc kind))) s = rest-seen 3 (λ n. Intersection (n + 1)) s

  pub node_seen : (s : S) → take_node take_bits₂ (see s) ≡ seen see (take_node take_bits₁ s)
  unfolding take_node
  node_seen s = then see (take_bits₁ 2 s) _ _ (alike 2 s) kind-seen

  pub gaps_seen : (w n last : ℕ) (s : S) → read_gaps take_bits₂ w n last (see s) ≡ seen see (read_gaps take_bits₁ w n last s)
  unfolding read_gaps seen
  gaps_seen w zero last s = refl
  gaps_seen w (suc n) last s = then see (take_bits₁ w s) _ _ (alike w s) (λ gap r. tested see 8 (ltb (last + gap + 1) top) _
      (then see (read_gaps take_bits₁ w n (last + gap + 1) r) _ _ (gaps_seen w n (last + gap + 1) r) (λ xs q. refl)))

  pub body-seen : (n : ℕ) (s : S) → read_body take_bits₂ n (see s) ≡ seen see (read_body take_bits₁ n s)
  unfolding read_body seen
  body-seen zero s = refl
  body-seen (suc zero) s = then see (take_bits₁ 32 s) _ _ (alike 32 s) (λ first r. refl)
  body-seen (suc (suc n)) s = then see (take_bits₁ 32 s) _ _ (alike 32 s) (λ first r. then see (take_bits₁ 5 r) _ _ (alike 5 r) (λ less q.
      then see (read_gaps take_bits₁ (less + 1) (suc n) first q) _ _ (gaps_seen (less + 1) (suc n) first q) (λ xs t.
      tested see 9 (eqb (less + 1) (width (largest_gap first xs))) _ refl)))

  -- of a form whose heads are taken alike too
  module _ {A : Type 0} (form : Form A) (head-seen : (s : S) → form.take_head take_bits₂ (see s) ≡ seen see (form.take_head take_bits₁ s)) where
    pub list-seen : (room : Option ℕ) (s : S) → read_list take_bits₂ form room (see s) ≡ seen see (read_list take_bits₁ form room s)
    unfolding read_list seen
    list-seen room s = then see (form.take_head take_bits₁ s) _ _ (head-seen s) (λ h r.
        tested see 6 (elim room [ none ↦ true | some k ↦ leb h.0 k ]) _ (then see (read_body take_bits₁ h.0 r) _ _ (body-seen h.0 r) (λ xs q. refl)))

    pub lists-seen : (n : ℕ) (room : Option ℕ) (s : S) → read_lists take_bits₂ form n room (see s) ≡ seen see (read_lists take_bits₁ form n room s)
    unfolding read_lists seen
    lists-seen zero room s = refl
    lists-seen (suc n) room s = then see (read_list take_bits₁ form room s) _ _ (list-seen room s) (λ l r.
        let left : Option ℕ = map (λ k. k - length (form.numbers_of l)) room in
        then see (read_lists take_bits₁ form n left r) _ _ (lists-seen n left r) (λ ls q. refl))

  pub by_count-seen : (s : S) → by_count.take_head take_bits₂ (see s) ≡ seen see (by_count.take_head take_bits₁ s)
  unfolding seen
  by_count-seen s = then see (take_bits₁ 16 s) _ _ (alike 16 s) (λ count r. refl)

  pub by_bit-seen : (s : S) → by_bit.take_head take_bits₂ (see s) ≡ seen see (by_bit.take_head take_bits₁ s)
  unfolding take_count seen
  by_bit-seen s = then see (take_bits₁ 1 s) _ _ (alike 1 s) count-seen
    where
      count-seen : (bit : ℕ) (s : S) → take_count take_bits₂ bit (see s) ≡ seen see (take_count take_bits₁ bit s)
      count-seen zero s = refl
      count-seen (suc bit) s = then see (take_bits₁ 16 s) _ _ (alike 16 s) (λ count r. refl)

-- sources off which nodes are taken alike
module _ {S T : Type 0} (see : S → T) (test : LeafTest) (take_one₁ : S → Outcome (Node × S)) (take_one₂ : T → Outcome (Node × T))
    (alike : (s : S) → take_one₂ (see s) ≡ seen see (take_one₁ s)) where
  abbrev Alike : (ℕ → S → Outcome (Tree × ℕ × S)) → (ℕ → T → Outcome (Tree × ℕ × T)) → Type 0
  Alike tree₁ tree₂ = (done : ℕ) (s : S) → tree₂ done (see s) ≡ read_seen see (tree₁ done s)

  module _ (tree₁ : ℕ → S → Outcome (Tree × ℕ × S)) (tree₂ : ℕ → T → Outcome (Tree × ℕ × T)) (h : Alike tree₁ tree₂) where
    members-seen : (n done : ℕ) (s : S) → read_members test take_one₂ tree₂ n done (see s) ≡ read_seen see (read_members test take_one₁ tree₁ n done s)
    unfolding read_members read_seen
    members-seen zero done s = tree-then see (tree₁ done s) _ _ (h done s) (λ t m r. refl)
    members-seen (suc n) done s = tree-then see (tree₁ done s) _ _ (h done s) (λ t m r.
        tree-then see (read_members test take_one₁ tree₁ n m r) _ _ (members-seen n m r) (λ ts k q. refl))

    operator-seen : (of : Members → Tree) (n done : ℕ) (s : S)
        → operator test take_one₂ of (read_members test take_one₂ tree₂ n done (see s)) ≡ read_seen see (operator test take_one₁ of (read_members test take_one₁ tree₁ n done s))
    unfolding operator read_seen
    operator-seen of n done s = tree-then see (read_members test take_one₁ tree₁ n done s) _ _ (members-seen n done s) (λ ts k q. refl)

    below-seen : (node : Node) (done : ℕ) (s : S) → read_below test take_one₂ tree₂ node done (see s) ≡ read_seen see (read_below test take_one₁ tree₁ node done s)
    unfolding read_below read_seen
    below-seen (Leaf k) done s = read_and see (test k) _ refl
    below-seen Difference done s = tree-then see (tree₁ done s) _ _ (h done s) (λ t m r. tree-then see (tree₁ m r) _ _ (h m r) (λ u k q. refl))
    below-seen (Union n) done s = operator-seen union (n - 1) done s
    below-seen (Intersection n) done s = operator-seen intersection (n - 1) done s

  pub tree-seen : (d done : ℕ) (s : S) → read_tree test take_one₂ d done (see s) ≡ read_seen see (read_tree test take_one₁ d done s)
  unfolding read_tree read_seen
  tree-seen zero done s = read_and see (require 2 (ltb done 48)) _ refl
  tree-seen (suc d) done s = read_and see (require 2 (ltb done 48)) _ (node-then see (take_one₁ s) _ _ (alike s) (λ node r.
      below-seen (read_tree test take_one₁ d) (read_tree test take_one₂ d) (tree-seen d) node (suc done) r))
