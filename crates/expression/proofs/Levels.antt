-- A tree read with a row of counts in place of recursion. At each open level stands how many member nodes are still to come
-- there, the innermost level first; `levels` reads them all, one level after the other, and hands every node to `k`. A
-- level with nothing to come is done (`closed`); where a node is due, it is put in front and its member nodes are a
-- new level (`due`), or one of the refusals 2, 3, 1 or 14, and a leaf's comes, in this order. Assumes nothing.
use mathlib.Core.Path.{◌≡◌, refl, sym, ◌∙◌}
use mathlib.Core.List.{List, [], ◌∷◌, ◌++◌, append_assoc, append-nil}
use Prim.Native.Nat.{ℕ, zero, suc, ◌-◌, ◌≤◌, ◌<◌}
use native.Mathlib.Omega.{arith}
use borrow.Author.Tests.{lt-ltb, le-ltb}
use Rattle.model.specs.declared.Node.{Node}
use Rattle.model.specs.declared.Node.TheVariants.{Leaf, Difference, Union, Intersection}
use Rattle.model.specs.Outcome.{Outcome, refused, accepted, ◌>>=◌}
use Rattle.model.specs.Expression.{Tree, union, intersection, Members, count}
use Rattle.model.specs.Forms.{nodes, nodes_all, LeafTest, read_members, operator, read_below, read_tree}
use Rattle.model.proofs.Accepted.{never_accepted, assoc, Few}
use Rattle.expression.specs.Reading.{named, members}

-- the steps that follow may be equal ones
same : {A B : Type 0} (o : Outcome A) (f g : A → Outcome B) → ((a : A) → f a ≡ g a) → (o >>= f) ≡ (o >>= g)
same (refused n) f g e = refl
same (accepted a) f g e = e a

-- what follows takes the nodes, how many are read, and the source behind them
abbrev pub Then : Type 0 → Type 0 → Type 0
Then S B = List Node → ℕ → S → Outcome B

-- whatever the depth, 2 comes first
tree_2 : {S : Type 0} (test : LeafTest) (take_one : S → Outcome (Node × S)) (d done : ℕ) (s : S) → 48 ≤ done → read_tree test take_one d done s ≡ refused 2
unfolding read_tree
tree_2 test take_one zero done s h = rw (le-ltb done 48 h)
tree_2 test take_one (suc d) done s h = rw (le-ltb done 48 h)

-- a leaf's test is made before anything below the node is read
below-leaf : {S : Type 0} (test : LeafTest) (take_one : S → Outcome (Node × S)) (tree : ℕ → S → Outcome (Tree × ℕ × S)) (node : Node) (done : ℕ) (s : S) {number : ℕ}
    → named test node ≡ refused number → read_below test take_one tree node done s ≡ refused number
unfolding read_below
below-leaf test take_one tree (Leaf k) done s h = rw h
below-leaf test take_one tree Difference done s h = never_accepted (sym h)
below-leaf test take_one tree (Union n) done s h = never_accepted (sym h)
below-leaf test take_one tree (Intersection n) done s h = never_accepted (sym h)

module _ {S B : Type 0} (test : LeafTest) (take_one : S → Outcome (Node × S)) where
  -- n trees with so much depth left
  unfoldable pub forest : ℕ → ℕ → ℕ → S → Then S B → Outcome B
  forest d zero done s k = k [] done s
  forest d (suc n) done s k = do
    (t, m, r) ← read_tree test take_one d done s
    forest d n m r (λ ns. k (nodes t ++ ns))

  -- so many at each open level, each level with one more depth left
  unfoldable pub levels : ℕ → List ℕ → ℕ → S → Then S B → Outcome B
  levels d [] done s k = k [] done s
  levels d (n ∷ ns) done s k = forest d n done s (λ xs m r. levels (suc d) ns m r (λ ys. k (xs ++ ys)))

  -- member nodes are a forest
  members-forest : (d n done : ℕ) (s : S) (k : ℕ → Then S B)
      → (read_members test take_one (read_tree test take_one d) n done s >>= λ r. k (count r.0) (nodes_all r.0) r.1 r.2) ≡ forest d (suc n) done s (k (suc n))
  unfolding read_members forest nodes_all count
  members-forest d zero done s k = assoc (read_tree test take_one d done s) _ _ _ (λ r. simp append-nil)
  members-forest d (suc n) done s k = assoc (read_tree test take_one d done s) _ _ _ (λ r.
      assoc (read_members test take_one (read_tree test take_one d) n r.1 r.2) _ _ _ (λ q. refl) ∙ members-forest d n r.1 r.2 (λ c ns. k (suc c) (nodes r.0 ++ ns)))

  operator-forest : (d n done : ℕ) (s : S) (of : Members → Tree) (by : ℕ → Node) → ((ts : Members) → nodes (of ts) ≡ by (count ts) ∷ nodes_all ts) → 1 ≤ n → (k : Then S B)
      → (operator test take_one of (read_members test take_one (read_tree test take_one d) (n - 1) done s) >>= λ r. k (nodes r.0) r.1 r.2) ≡ forest d n done s (λ ns. k (by n ∷ ns))
  unfolding operator
  operator-forest d zero done s of by e h k = absurd (omega arith)
  operator-forest d (suc n) done s of by e h k =
      let less : suc n - 1 ≡ n = omega arith in
      rw less (assoc (read_members test take_one (read_tree test take_one d) n done s) _ _ (λ r. k (by (count r.0) ∷ nodes_all r.0) r.1 r.2) (λ r. rw (e r.0)) ∙ members-forest d n done s (λ c ns. k (by c ∷ ns)))

  -- what stands below a node is its member nodes
  below-forest : (d : ℕ) (node : Node) (done : ℕ) (s : S) → Few node → named test node ≡ accepted tt → (k : Then S B)
      → (read_below test take_one (read_tree test take_one d) node done s >>= λ r. k (nodes r.0) r.1 r.2) ≡ forest d (members node) done s (λ ns. k (node ∷ ns))
  unfolding read_below nodes forest
  below-forest d (Leaf n) done s f h k = rw h
  below-forest d Difference done s f h k = assoc (read_tree test take_one d done s) _ _ _ (λ r. assoc (read_tree test take_one d r.1 r.2) _ _ _ (λ q. simp append-nil))
  below-forest d (Union n) done s f h k = operator-forest d n done s union Union (λ ts. refl) f.0 k
  below-forest d (Intersection n) done s f h k = operator-forest d n done s intersection Intersection (λ ts. refl) f.0 k

  -- a level with nothing to come is done
  pub closed : (d : ℕ) (ns : List ℕ) (done : ℕ) (s : S) (k : Then S B) → levels d (0 ∷ ns) done s k ≡ levels (suc d) ns done s k
  unfolding levels forest
  closed d ns done s k = refl

  -- a node is due at the innermost level
  module _ (d n : ℕ) (ns : List ℕ) (done : ℕ) (s : S) (k : Then S B) where
    pub refused_2 : 48 ≤ done → levels d (suc n ∷ ns) done s k ≡ refused 2
    unfolding levels forest
    refused_2 h = rw (tree_2 test take_one d done s h)

    pub refused_3 : done < 48 → levels zero (suc n ∷ ns) done s k ≡ refused 3
    unfolding levels forest read_tree
    refused_3 h = rw (lt-ltb done 48 h)

    pub refused_1 : {number : ℕ} → done < 48 → take_one s ≡ refused number → levels (suc d) (suc n ∷ ns) done s k ≡ refused number
    unfolding levels forest read_tree
    refused_1 h e = rw (lt-ltb done 48 h, e)

    pub refused-leaf : {node : Node} {rest : S} {number : ℕ} → done < 48 → take_one s ≡ accepted (node, rest) → named test node ≡ refused number → levels (suc d) (suc n ∷ ns) done s k ≡ refused number
    unfolding levels forest read_tree
    refused-leaf {node} {rest} h e g = rw (lt-ltb done 48 h, e, below-leaf test take_one (read_tree test take_one d) node (suc done) rest g)

    pub due : {node : Node} {rest : S} → done < 48 → take_one s ≡ accepted (node, rest) → Few node → named test node ≡ accepted tt
        → levels (suc d) (suc n ∷ ns) done s k ≡ levels d (members node ∷ n ∷ ns) (suc done) rest (λ zs. k (node ∷ zs))
    unfolding levels forest read_tree
    due {node} {rest} h e f g = rw (lt-ltb done 48 h, e)
        (below-forest d node (suc done) rest f g (λ xs m r. forest (suc d) n m r (λ ys m r. levels (suc (suc d)) ns m r (λ zs. k ((xs ++ ys) ++ zs)))) ∙ simp append_assoc)

  -- the whole tree is one node due with all the depth left
  pub whole : (d done : ℕ) (s : S) (k : Then S B) → levels d (1 ∷ []) done s k ≡ (read_tree test take_one d done s >>= λ r. k (nodes r.0) r.1 r.2)
  unfolding levels forest
  whole d done s k = same (read_tree test take_one d done s) _ _ (λ r. simp append-nil)
