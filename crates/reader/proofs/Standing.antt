-- A tree that stands at a node: the node is its root's, its member trees stand one after the other behind it, and it ends
-- within the 48 nodes. Assumes nothing.
use mathlib.Core.Path.{◌≡◌, refl, sym, subst, ap, ◌∙◌}
use mathlib.Core.List.{List, [], ◌∷◌}
use Prim.Native.Nat.{ℕ, suc, ◌+◌, ◌≤◌, ◌<◌}
use native.Mathlib.Omega.{arith}
use lib.ListN.{length, get_or}
use Rattle.model.specs.declared.Node.{Node}
use Rattle.model.specs.declared.Node.TheVariants.{Leaf, Difference, Union, Intersection}
use Rattle.model.specs.Outcome.{accepted}
use Rattle.model.specs.Expression.{Tree, leaf, difference, union, intersection, Members, one, more, size, sizes, count}
use Rattle.model.specs.Forms.{node_of}
use Rattle.model.proofs.Accepted.{accepted-same}
use Rattle.expression.specs.Reading.{members}
use Rattle.reader.specs.Rows.{Stands, StandAll, StandEach}

-- the node of a tree's root
abbrev pub kind : Tree → Node
kind (leaf k) = Leaf k
kind (difference s t) = Difference
kind (union ts) = Union (count ts)
kind (intersection ts) = Intersection (count ts)

-- member nodes as a list, and those of a tree
unfoldable pub each : Members → List Tree
each (one t) = t ∷ []
each (more t ts) = t ∷ each ts

abbrev pub below : Tree → List Tree
below (leaf k) = []
below (difference s t) = s ∷ t ∷ []
below (union ts) = each ts
below (intersection ts) = each ts

-- how many nodes several trees have
unfoldable pub span : List Tree → ℕ
span [] = 0
span (t ∷ ts) = size t + span ts

each-length : (ts : Members) → length (each ts) ≡ count ts
unfolding each count
each-length (one t) = refl
each-length (more t ts) = ap suc (each-length ts)

each-span : (ts : Members) → span (each ts) ≡ sizes ts
unfolding each span sizes
each-span (one t) = omega arith
each-span (more t ts) = omega (arith, each-span ts)

-- a tree has as many member trees as its node says
pub many_below : (t : Tree) → length (below t) ≡ members (kind t)
many_below (leaf k) = refl
many_below (difference s t) = refl
many_below (union ts) = each-length ts
many_below (intersection ts) = each-length ts

pub size_below : (t : Tree) → size t ≡ 1 + span (below t)
unfolding size span
size_below (leaf k) = refl
size_below (difference s t) = omega arith
size_below (union ts) = omega (arith, each-span ts)
size_below (intersection ts) = omega (arith, each-span ts)

pub size_pos : (t : Tree) → 1 ≤ size t
size_pos t = omega (arith, size_below t)

-- ---- which tree it is, by its root's node

pub leaf-is : (t : Tree) (k : ℕ) → kind t ≡ Leaf k → t ≡ leaf k
leaf-is (leaf j) k e = cc e
leaf-is (difference s u) k e = cc e
leaf-is (union ts) k e = cc e
leaf-is (intersection ts) k e = cc e

pub record Differs (t : Tree) : Type 0 where
  pub first : Tree
  pub second : Tree
  pub is : t ≡ difference first second

pub difference_is : (t : Tree) → kind t ≡ Difference → Differs t
difference_is (leaf j) e = let z : ◌≡◌ {A = ℕ} 0 1 = cc e in absurd (omega arith)
difference_is (difference s u) e = record { first = s; second = u; is = refl }
difference_is (union ts) e = let z : ◌≡◌ {A = ℕ} 0 1 = cc e in absurd (omega arith)
difference_is (intersection ts) e = let z : ◌≡◌ {A = ℕ} 0 1 = cc e in absurd (omega arith)

pub record Unites (t : Tree) : Type 0 where
  pub trees : Members
  pub is : t ≡ union trees

pub union_is : (t : Tree) (n : ℕ) → kind t ≡ Union n → Unites t
union_is (leaf j) n e = let z : ◌≡◌ {A = ℕ} 0 1 = cc e in absurd (omega arith)
union_is (difference s u) n e = let z : ◌≡◌ {A = ℕ} 0 1 = cc e in absurd (omega arith)
union_is (union ts) n e = record { trees = ts; is = refl }
union_is (intersection ts) n e = let z : ◌≡◌ {A = ℕ} 0 1 = cc e in absurd (omega arith)

pub record Intersects (t : Tree) : Type 0 where
  pub trees : Members
  pub is : t ≡ intersection trees

pub intersection_is : (t : Tree) (n : ℕ) → kind t ≡ Intersection n → Intersects t
intersection_is (leaf j) n e = let z : ◌≡◌ {A = ℕ} 0 1 = cc e in absurd (omega arith)
intersection_is (difference s u) n e = let z : ◌≡◌ {A = ℕ} 0 1 = cc e in absurd (omega arith)
intersection_is (union ts) n e = let z : ◌≡◌ {A = ℕ} 0 1 = cc e in absurd (omega arith)
intersection_is (intersection ts) n e = record { trees = ts; is = refl }

-- ---- over one row
module _ (lists : ℕ) (nodes : List ℕ) where
  unfoldable pub there : (t : Tree) (i : ℕ) → Stands lists nodes t i → i < 48
  unfolding Stands
  there (leaf k) i s = s.0.0
  there (difference u v) i s = s.0.0
  there (union ts) i s = s.0.0
  there (intersection ts) i s = s.0.0

  pub root : (t : Tree) (i : ℕ) → Stands lists nodes t i → node_of (get_or nodes i 0) ≡ accepted (kind t)
  unfolding Stands
  root (leaf k) i s = s.0.1
  root (difference u v) i s = s.0.1
  root (union ts) i s = s.0.1
  root (intersection ts) i s = s.0.1

  -- what the code reads at a node is the root of the tree that stands there
  pub root_is : (t : Tree) (i : ℕ) (n : Node) → Stands lists nodes t i → node_of (get_or nodes i 0) ≡ accepted n → kind t ≡ n
  root_is t i n s e = accepted-same (sym (root t i s) ∙ e)

  named : (k i : ℕ) → Stands lists nodes (leaf k) i → k < lists
  unfolding Stands
  named k i s = s.1

  pub listed : (t : Tree) (i k : ℕ) → Stands lists nodes t i → node_of (get_or nodes i 0) ≡ accepted (Leaf k) → k < lists
  listed t i k s e = named k i (subst (λ (u : Tree). Stands lists nodes u i) (leaf-is t k (root_is t i (Leaf k) s e)) s)

  each_stand : (ts : Members) (i : ℕ) → StandAll lists nodes ts i → StandEach lists nodes (each ts) i
  unfolding Stands StandEach each
  each_stand (one t) i s = (s, tt)
  each_stand (more t ts) i s = (s.0, each_stand ts (i + size t) s.1)

  pub below_stand : (t : Tree) (i : ℕ) → Stands lists nodes t i → StandEach lists nodes (below t) (1 + i)
  unfolding Stands StandEach
  below_stand (leaf k) i s = tt
  below_stand (difference u v) i s = (s.1.0, (s.1.1, tt))
  below_stand (union ts) i s = each_stand ts (1 + i) s.1
  below_stand (intersection ts) i s = each_stand ts (1 + i) s.1

  mutual
    unfolding Stands size

    -- it ends within the 48 nodes
    pub inside : (t : Tree) (i : ℕ) → Stands lists nodes t i → i + size t ≤ 48
    inside (leaf k) i s = omega (arith, s.0.0)
    inside (difference u v) i s = omega (arith, inside v (1 + i + size u) s.1.1)
    inside (union ts) i s = omega (arith, inside-all ts (1 + i) s.1)
    inside (intersection ts) i s = omega (arith, inside-all ts (1 + i) s.1)

    inside-all : (ts : Members) (i : ℕ) → StandAll lists nodes ts i → i + sizes ts ≤ 48
    inside-all (one t) i s = inside t i s
    inside-all (more t ts) i s = omega (arith, inside-all ts (i + size t) s.1)
