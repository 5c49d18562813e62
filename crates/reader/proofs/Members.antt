-- Where the code finds a node's member trees, and a loop over them: what seeking and checking share. Assumes nothing.
use mathlib.Core.Path.{◌≡◌, sym, subst, ap, ◌∙◌}
use mathlib.Core.List.{List, [], ◌∷◌}
use Prim.Native.Nat.{ℕ, ◌+◌, ◌-◌, ◌≤◌, ◌<◌}
use native.Mathlib.Omega.{arith}
use lib.ListN.{length, get_or}
use Rattle.model.specs.declared.Node.{Node}
use Rattle.model.specs.declared.Node.TheVariants.{Leaf, Difference}
use Rattle.model.specs.Outcome.{refused, accepted}
use Rattle.model.specs.Expression.{Tree, difference, size}
use Rattle.model.specs.Forms.{node_of}
use Rattle.model.proofs.Accepted.{never_accepted}
use Rattle.expression.specs.Reading.{members}
use Rattle.reader.specs.Rows.{Stands, StandEach, Standing, StandingEach, Behind, Ready}
use Rattle.reader.proofs.Standing.{below, many_below, size_pos, difference_is, there, root, root_is, listed, below_stand}

module _ {numbers ends nodes behind : List ℕ} (ready : Ready numbers ends nodes behind) where
  module _ (i : ℕ) where
    -- ---- below the node i: the code's first member node i + 1 is the definitions' 1 + i

    pub first-is : 1 + i ≡ i + 1
    first-is = omega arith

    pub below_at : (t : Tree) → Stands (length ends) nodes t i → StandEach (length ends) nodes (below t) (i + 1)
    below_at t s = subst (StandEach (length ends) nodes (below t)) first-is (below_stand (length ends) nodes t i s)

    -- a node at which a tree stands is known, a list at it is there, and it has as many trees below it as it says
    pub not_unknown : (n : ℕ) → node_of (get_or nodes i 0) ≡ refused n → Standing (length ends) nodes i → ⊥
    not_unknown n e s = never_accepted (sym e ∙ root (length ends) nodes s.tree i s.stands)

    pub list-there : (k : ℕ) → node_of (get_or nodes i 0) ≡ accepted (Leaf k) → Standing (length ends) nodes i → k < length ends
    list-there k e s = listed (length ends) nodes s.tree i k s.stands e

    pub members_stand : (n : Node) → node_of (get_or nodes i 0) ≡ accepted n → Standing (length ends) nodes i → StandingEach (length ends) nodes (i + 1) (members n)
    members_stand n e s = record {
      trees = below s.tree;
      stand = below_at s.tree s.stands;
      many = many_below s.tree ∙ ap members (root_is (length ends) nodes s.tree i n s.stands e);
    }

    -- the first member tree, and the others from the node that the table has behind it
    pub record Split (first : Tree) (others : List Tree) : Type 0 where
      pub first_at : Stands (length ends) nodes first (i + 1)
      pub after : get_or behind (i + 1) 0 ≡ 1 + i + size first
      pub others_at : StandEach (length ends) nodes others (get_or behind (i + 1) 0)

    pub split : (t first : Tree) (others : List Tree) → Stands (length ends) nodes t i → below t ≡ first ∷ others → Split first others
    unfolding StandEach
    split t first others s e =
        let w : StandEach (length ends) nodes (first ∷ others) (i + 1) = subst (λ (ts : List Tree). StandEach (length ends) nodes ts (i + 1)) e (below_at t s) in
        let table = ready.table (length ends) first (i + 1) w.0 in
        record { first_at = w.0; after = omega (arith, table); others_at = subst (StandEach (length ends) nodes others) (sym table) w.1 }

    -- the two trees of a difference
    pub record Pair (t : Tree) : Type 0 where
      pub first : Tree
      pub second : Tree
      pub is : t ≡ difference first second
      pub first_at : Stands (length ends) nodes first (i + 1)
      pub second_at : Stands (length ends) nodes second (get_or behind (i + 1) 0)
      pub after : get_or behind (i + 1) 0 ≡ 1 + i + size first

    pub pair : node_of (get_or nodes i 0) ≡ accepted Difference → (t : Tree) → Stands (length ends) nodes t i → Pair t
    unfolding StandEach
    pair e t s =
        let d = difference_is t (root_is (length ends) nodes t i Difference s e) in
        let p = split t d.first (d.second ∷ []) s (ap below d.is) in
        record { first = d.first; second = d.second; is = d.is; first_at = p.first_at; second_at = p.others_at.0; after = p.after }

    module _ (e : node_of (get_or nodes i 0) ≡ accepted Difference) (s : Standing (length ends) nodes i) where
      pub first_stands : Standing (length ends) nodes (i + 1)
      first_stands = let p = pair e s.tree s.stands in record { tree = p.first; stands = p.first_at }

      pub second_stands : Standing (length ends) nodes (get_or behind (i + 1) 0)
      second_stands = let p = pair e s.tree s.stands in record { tree = p.second; stands = p.second_at }

    -- ---- a tree at the node i is one of the 48 nodes, and ends behind it
    module _ (s : Standing (length ends) nodes i) where
      pub inside : i < 48
      inside = there (length ends) nodes s.tree i s.stands

      pub goes_on : i < get_or behind i 0
      goes_on = omega (arith, ready.table (length ends) s.tree i s.stands, size_pos s.tree)

  -- ---- n trees from the node i on: the first, and the others
  module _ (i n : ℕ) (h : 0 < n) (s : StandingEach (length ends) nodes i n) where
    pub member_stands : Standing (length ends) nodes i
    unfolding StandEach
    member_stands = go s.trees s.stand s.many
      where
        go : (ts : List Tree) → StandEach (length ends) nodes ts i → length ts ≡ n → Standing (length ends) nodes i
        go [] w m = absurd (omega arith)
        go (t ∷ ts) w m = record { tree = t; stands = w.0 }

    pub others_stand : StandingEach (length ends) nodes (get_or behind i 0) (n - 1)
    unfolding StandEach
    others_stand = go s.trees s.stand s.many
      where
        go : (ts : List Tree) → StandEach (length ends) nodes ts i → length ts ≡ n → StandingEach (length ends) nodes (get_or behind i 0) (n - 1)
        go [] w m = absurd (omega arith)
        go (t ∷ ts) w m = record { trees = ts; stand = rw (ready.table (length ends) t i w.0) w.1; many = omega arith }

-- ---- a loop over trees, from a state: F goes through those from a node on, and r is what it comes to
module _ {S R : Type 0} (lists : ℕ) (nodes : List ℕ) (F : List Tree → ℕ → S → R) where
  abbrev pub Comes : ℕ → ℕ → S → R → Type 0
  Comes i n s r = (ts : List Tree) → length ts ≡ n → StandEach lists nodes ts i → r ≡ F ts i s

  module _ (i n : ℕ) (s : S) (r : R) where
    -- no tree is left
    pub comes_last : r ≡ F [] i s → n ≤ 0 → Comes i n s r
    comes_last e h [] m w = e
    comes_last e h (t ∷ ts) m w = absurd (omega arith)

    -- the first decides
    pub comes_now : ((t : Tree) (ts : List Tree) → 1 + length ts ≡ n → Stands lists nodes t i → r ≡ F (t ∷ ts) i s) → 0 < n → Comes i n s r
    unfolding StandEach
    comes_now e h [] m w = absurd (omega arith)
    comes_now e h (t ∷ ts) m w = e t ts (omega arith) w.0

    -- it does not, and the others do, from the node that the table has behind it
    pub comes_on : (behind : List ℕ) → Behind nodes behind → (s₁ : S) → ((t : Tree) (ts : List Tree) → 1 + length ts ≡ n → Stands lists nodes t i → F ts (i + size t) s₁ ≡ F (t ∷ ts) i s) → 0 < n
        → Comes (get_or behind i 0) (n - 1) s₁ r → Comes i n s r
    unfolding StandEach
    comes_on behind table s₁ e h c [] m w = absurd (omega arith)
    comes_on behind table s₁ e h c (t ∷ ts) m w =
        let z = table lists t i w.0 in
        (rw z at (c ts (omega arith) (rw z w.1))) ∙ e t ts (omega arith) w.0
