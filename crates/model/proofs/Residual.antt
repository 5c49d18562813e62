-- What a seek has to answer, said of residual sets: the set of a node over what its readers have left.
--
-- A seek to e answers the least member at or above e of the residual set, or finished where there is none. Afterwards
-- the residual set agrees with the old one at and above e and has nothing below e, and places of other nodes are kept.
-- "Nothing below e" is what carries the steps that repeat. Assumes nothing.
use mathlib.Core.Path.{◌≡◌, sym, ◌∙◌}
use mathlib.Core.Bool.{Bool, true, false, not, ◌&&◌, ◌||◌}
use mathlib.Core.List.{List, []}
use Prim.Native.Nat.{ℕ, ◌+◌, ◌≤◌, ◌<◌}
use native.Mathlib.Omega.{arith}
use lib.ListN.{get_or, drop, length}
use Rattle.model.specs.Lists.{top}
use Rattle.model.specs.Expression.{Tree, leaf, difference, union, intersection, Members, one, more, size, sizes}
use Rattle.model.specs.Sets.{among}
use Rattle.model.specs.Steps.{Readers, Found, end, at, Seek}
use Rattle.model.proofs.Order.{split}

-- a set that depends on the places
abbrev pub Set : Type 0
Set = List ℕ → ℕ → Bool

-- what a reader of the list l at the node i has left
abbrev pub left_of : List ℕ → ℕ → Set
left_of l i ps x = among x (drop (get_or ps i 0) l)

-- the residual set of the node i, and of member nodes from i on
unfoldable mutual
  pub residual : List (List ℕ) → Tree → ℕ → Set
  residual ls (leaf k) i = left_of (get_or ls k []) i
  residual ls (difference s t) i = λ ps x. residual ls s (1 + i) ps x && not (residual ls t (1 + i + size s) ps x)
  residual ls (union ts) i = residual_some ls ts (1 + i)
  residual ls (intersection ts) i = residual_all ls ts (1 + i)

  pub residual_some : List (List ℕ) → Members → ℕ → Set
  residual_some ls (one t) i = residual ls t i
  residual_some ls (more t ts) i = λ ps x. residual ls t i ps x || residual_some ls ts (i + size t) ps x

  pub residual_all : List (List ℕ) → Members → ℕ → Set
  residual_all ls (one t) i = residual ls t i
  residual_all ls (more t ts) i = λ ps x. residual ls t i ps x && residual_all ls ts (i + size t) ps x

-- a set that depends on the places from i up to j alone
abbrev pub Local : ℕ → ℕ → Set → Type 0
Local i j R = (ps qs : List ℕ) → ((k : ℕ) → i ≤ k → k < j → get_or qs k 0 ≡ get_or ps k 0) → (x : ℕ) → R qs x ≡ R ps x

-- what a seek to e, or a check of e, of a node with the places from i up to j keeps
pub record Kept (i j : ℕ) (R : Set) (e : ℕ) (ps qs : List ℕ) : Type 0 where
  pub long : length qs ≡ length ps
  pub left : (k : ℕ) → k < i → get_or qs k 0 ≡ get_or ps k 0
  pub right : (k : ℕ) → j ≤ k → get_or qs k 0 ≡ get_or ps k 0
  pub above : (x : ℕ) → e ≤ x → R qs x ≡ R ps x

-- what a seek to e leaves
pub record After (i j : ℕ) (R : Set) (e : ℕ) (ps qs : List ℕ) : Type 0 where
  pub kept : Kept i j R e ps qs
  pub below : (x : ℕ) → x < e → R qs x ≡ false

abbrev pub None : Set → ℕ → List ℕ → Type 0
None R e ps = (x : ℕ) → e ≤ x → R ps x ≡ false

pub record Least (R : Set) (e : ℕ) (ps : List ℕ) (a : ℕ) : Type 0 where
  pub from : e ≤ a
  pub small : a < top
  pub is : R ps a ≡ true
  pub gap : (x : ℕ) → e ≤ x → x < a → R ps x ≡ false

abbrev pub Sought : ℕ → ℕ → Set → ℕ → List ℕ → Found → Type 0
Sought i j R e ps (end rs) = After i j R e ps rs.places × None R e ps
Sought i j R e ps (at a rs) = After i j R e ps rs.places × Least R e ps a

abbrev pub Seeks : ℕ → ℕ → Set → Seek → Type 0
Seeks i j R f = (e : ℕ) (rs : Readers) → e ≤ top → j ≤ length rs.places → Sought i j R e rs.places (f e rs)

-- of the members after the first of an intersection: an answer at or above the candidate e, and nothing up to it
pub record Higher (R : Set) (e : ℕ) (ps : List ℕ) (a : ℕ) : Type 0 where
  pub from : e ≤ a
  pub small : a < top
  pub same : a ≡ e → R ps e ≡ true
  pub gap : (x : ℕ) → e ≤ x → x < a → R ps x ≡ false

abbrev pub Passed : ℕ → ℕ → Set → ℕ → List ℕ → Found → Type 0
Passed i j R e ps (end rs) = After i j R e ps rs.places × None R e ps
Passed i j R e ps (at a rs) = After i j R e ps rs.places × Higher R e ps a

abbrev pub Passes : ℕ → ℕ → Set → Seek → Type 0
Passes i j R f = (e : ℕ) (rs : Readers) → e ≤ top → j ≤ length rs.places → Passed i j R e rs.places (f e rs)

-- the least answer is a higher one
pub sought_passed : (i j : ℕ) (R : Set) (e : ℕ) (ps : List ℕ) (r : Found) → Sought i j R e ps r → Passed i j R e ps r
sought_passed i j R e ps (end rs) s = s
sought_passed i j R e ps (at a rs) s = (s.0, record { from = s.1.from; small = s.1.small; same = λ q. cc (s.1.is, q); gap = s.1.gap })

-- the same of more places than a node has
pub kept_wide : (i j i' j' : ℕ) (R : Set) (e : ℕ) (ps qs : List ℕ) → i' ≤ i → j ≤ j' → Kept i j R e ps qs → Kept i' j' R e ps qs
kept_wide i j i' j' R e ps qs hi hj a = record { long = a.long; left = λ k h. a.left k (omega arith); right = λ k h. a.right k (omega arith); above = a.above }

pub after_wide : (i j i' j' : ℕ) (R : Set) (e : ℕ) (ps qs : List ℕ) → i' ≤ i → j ≤ j' → After i j R e ps qs → After i' j' R e ps qs
after_wide i j i' j' R e ps qs hi hj a = record { kept = kept_wide i j i' j' R e ps qs hi hj a.kept; below = a.below }

pub sought_wide : (i j i' j' : ℕ) (R : Set) (e : ℕ) (ps : List ℕ) → i' ≤ i → j ≤ j' → (r : Found) → Sought i j R e ps r → Sought i' j' R e ps r
sought_wide i j i' j' R e ps hi hj (end rs) s = (after_wide i j i' j' R e ps rs.places hi hj s.0, s.1)
sought_wide i j i' j' R e ps hi hj (at a rs) s = (after_wide i j i' j' R e ps rs.places hi hj s.0, s.1)

pub passed_wide : (i j i' j' : ℕ) (R : Set) (e : ℕ) (ps : List ℕ) → i' ≤ i → j ≤ j' → (r : Found) → Passed i j R e ps r → Passed i' j' R e ps r
passed_wide i j i' j' R e ps hi hj (end rs) s = (after_wide i j i' j' R e ps rs.places hi hj s.0, s.1)
passed_wide i j i' j' R e ps hi hj (at a rs) s = (after_wide i j i' j' R e ps rs.places hi hj s.0, s.1)

-- sought to e and then to y, with no member from e up to y, is sought to e
pub again : (i j : ℕ) (R : Set) (e y : ℕ) (ps qs : List ℕ) → e ≤ y → After i j R e ps qs → ((z : ℕ) → e ≤ z → z < y → R ps z ≡ false)
    → (r : Found) → Sought i j R y qs r → Sought i j R e ps r
again i j R e y ps qs ey a n r s = go r s
  where
    after : (ts : List ℕ) → After i j R y qs ts → After i j R e ps ts
    after ts b = record {
      kept = record {
        long = b.kept.long ∙ a.kept.long;
        left = λ k h. b.kept.left k h ∙ a.kept.left k h;
        right = λ k h. b.kept.right k h ∙ a.kept.right k h;
        above = λ z h. split (R ts z ≡ R ps z) z y (λ lt. b.below z lt ∙ sym (n z h lt)) (λ ge. b.kept.above z ge ∙ a.kept.above z h);
      };
      below = λ z h. b.below z (omega arith);
    }

    go : (r : Found) → Sought i j R y qs r → Sought i j R e ps r
    go (end rs) s = (after rs.places s.0, λ z h. split (R ps z ≡ false) z y (n z h) (λ ge. sym (a.kept.above z h) ∙ s.1 z ge))
    go (at x rs) s = (
      after rs.places s.0,
      record {
        from = omega (arith, s.1.from);
        small = s.1.small;
        is = sym (a.kept.above x (omega (arith, s.1.from))) ∙ s.1.is;
        gap = λ z h h'. split (R ps z ≡ false) z y (n z h) (λ ge. sym (a.kept.above z h) ∙ s.1.gap z ge h');
      },
    )

-- a residual set depends on its own node's places
module _ (ls : List (List ℕ)) where
  mutual
    unfolding residual size

    pub residual_local : (t : Tree) (i : ℕ) → Local i (i + size t) (residual ls t i)
    residual_local (leaf k) i ps qs h x = rw (h i (omega arith) (omega arith))
    residual_local (difference s t) i ps qs h x = cc (residual_local s (1 + i) ps qs (λ k a b. h k (omega arith) (omega arith)) x, residual_local t (1 + i + size s) ps qs (λ k a b. h k (omega arith) (omega arith)) x)
    residual_local (union ts) i ps qs h x = some_local ts (1 + i) ps qs (λ k a b. h k (omega arith) (omega arith)) x
    residual_local (intersection ts) i ps qs h x = all_local ts (1 + i) ps qs (λ k a b. h k (omega arith) (omega arith)) x

    pub some_local : (ts : Members) (i : ℕ) → Local i (i + sizes ts) (residual_some ls ts i)
    some_local (one t) i ps qs h x = residual_local t i ps qs h x
    some_local (more t ts) i ps qs h x = cc (residual_local t i ps qs (λ k a b. h k (omega arith) (omega arith)) x, some_local ts (i + size t) ps qs (λ k a b. h k (omega arith) (omega arith)) x)

    pub all_local : (ts : Members) (i : ℕ) → Local i (i + sizes ts) (residual_all ls ts i)
    all_local (one t) i ps qs h x = residual_local t i ps qs h x
    all_local (more t ts) i ps qs h x = cc (residual_local t i ps qs (λ k a b. h k (omega arith) (omega arith)) x, all_local ts (i + size t) ps qs (λ k a b. h k (omega arith) (omega arith)) x)
