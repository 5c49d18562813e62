-- The join, part two: a check says whether the number is in the residual set. It may leave members below the number
-- (a union stops at its first yes), so only what is at and above it is kept. Assumes nothing.
use mathlib.Core.Path.{◌≡◌, refl, sym, ◌∙◌}
use mathlib.Core.Bool.{Bool, true, false, not, ◌&&◌, ◌||◌}
use mathlib.Core.List.{List, []}
use Prim.Native.Nat.{ℕ, suc, ◌+◌, ◌≤◌}
use native.Mathlib.Omega.{arith}
use lib.Dec.{eqb}
use borrow.Author.Tests.{eqb-true, eqb-false}
use lib.ListN.{get_or, length}
use Rattle.model.specs.Lists.{top}
use Rattle.model.specs.Expression.{Tree, leaf, difference, union, intersection, Members, one, more, size, sizes}
use Rattle.model.specs.Steps.{Readers, Found, end, at, Checked, says, Check, read, is_at, turned, on_yes, on_no, check_node, check_union, check_intersection, check_by}
use Rattle.model.proofs.Order.{Up}
use Rattle.model.proofs.Residual.{Set, Local, Kept, Sought, kept_wide, left_of, residual, residual_some, residual_all, residual_local, some_local, all_local}
use Rattle.model.proofs.Seek.{read_seek}

-- the reply is H of whether d is a member
abbrev pub Told : (Bool → Bool) → ℕ → ℕ → Set → ℕ → List ℕ → Checked → Type 0
Told H i j R d ps (says b rs) = Kept i j R d ps rs.places × (b ≡ H (R ps d))

abbrev self : Bool → Bool
self b = b

abbrev pub Tells : (Bool → Bool) → ℕ → ℕ → Set → Check → Type 0
Tells H i j R f = (d : ℕ) (rs : Readers) → d ≤ top → j ≤ length rs.places → Told H i j R d rs.places (f d rs)

-- two nodes after one another, both or only the first checked
module _ (i m j : ℕ) (F G : Set) (im : i ≤ m) (mj : m ≤ j) (Fl : Local i m F) (Gl : Local m j G) where
  -- any set made of the two at each number
  only_first : (Op : Bool → Bool → Bool) (d : ℕ) (ps qs : List ℕ) → Kept i m F d ps qs → Kept i j (λ us x. Op (F us x) (G us x)) d ps qs
  only_first Op d ps qs a = record {
    long = a.long;
    left = a.left;
    right = λ k h. a.right k (omega arith);
    above = λ x h. cc (a.above x h, Gl ps qs (λ k h₁ h₂. a.right k h₁) x);
  }

  both : (Op : Bool → Bool → Bool) (d : ℕ) (ps qs ts : List ℕ) → Kept i m F d ps qs → Kept m j G d qs ts → Kept i j (λ us x. Op (F us x) (G us x)) d ps ts
  both Op d ps qs ts a b = record {
    long = b.long ∙ a.long;
    left = λ k h. b.left k (omega arith) ∙ a.left k h;
    right = λ k h. b.right k h ∙ a.right k (omega arith);
    above = λ x h. cc (a.above x h, b.above x h, Gl ps qs (λ k h₁ h₂. a.right k h₁) x, Fl qs ts (λ k h₁ h₂. b.left k h₂) x);
  }

  -- on yes the second too: a difference with `not`, an intersection with `self`
  yes_tells : (H : Bool → Bool) (f g : Check) → Tells self i m F f → Tells H m j G g → Tells self i j (λ us x. F us x && H (G us x)) (λ d rs. on_yes (f d rs) (g d))
  unfolding on_yes
  yes_tells H f g Ff Gg d rs dt jl = go (f d rs) (Ff d rs dt (omega arith))
    where
      to : (qs : List ℕ) → Kept i m F d rs.places qs → true ≡ F rs.places d → (r : Checked) → Told H m j G d qs r → Told self i j (λ us x. F us x && H (G us x)) d rs.places r
      to qs a t (says c rs₂) s = (both (λ x y. x && H y) d rs.places qs rs₂.places a s.0, cc (t, s.1, Gl rs.places qs (λ k h₁ h₂. a.right k h₁) d))

      go : (r : Checked) → Told self i m F d rs.places r → Told self i j (λ us x. F us x && H (G us x)) d rs.places (on_yes r (g d))
      go (says true rs₁) s = to rs₁.places s.0 s.1 (g d rs₁) (Gg d rs₁ dt (omega (arith, s.0.long)))
      go (says false rs₁) s = (only_first (λ x y. x && H y) d rs.places rs₁.places s.0, cc s.1)

  -- on no the second too: a union
  no_tells : (f g : Check) → Tells self i m F f → Tells self m j G g → Tells self i j (λ us x. F us x || G us x) (λ d rs. on_no (f d rs) (g d))
  unfolding on_no
  no_tells f g Ff Gg d rs dt jl = go (f d rs) (Ff d rs dt (omega arith))
    where
      to : (qs : List ℕ) → Kept i m F d rs.places qs → false ≡ F rs.places d → (r : Checked) → Told self m j G d qs r → Told self i j (λ us x. F us x || G us x) d rs.places r
      to qs a t (says c rs₂) s = (both (λ x y. x || y) d rs.places qs rs₂.places a s.0, cc (t, s.1, Gl rs.places qs (λ k h₁ h₂. a.right k h₁) d))

      go : (r : Checked) → Told self i m F d rs.places r → Told self i j (λ us x. F us x || G us x) d rs.places (on_no r (g d))
      go (says true rs₁) s = (only_first (λ x y. x || y) d rs.places rs₁.places s.0, cc s.1)
      go (says false rs₁) s = to rs₁.places s.0 s.1 (g d rs₁) (Gg d rs₁ dt (omega (arith, s.0.long)))

reader_told : (i j : ℕ) (R : Set) (d : ℕ) (ps : List ℕ) (r : Found) → Sought i j R d ps r → Told self i j R d ps (is_at d r)
unfolding is_at
reader_told i j R d ps (end rs) s = (s.0.kept, sym (s.1 d (omega arith)))
reader_told i j R d ps (at x rs) s = (s.0.kept, go (eqb x d) refl)
  where
    go : (b : Bool) → eqb x d ≡ b → eqb x d ≡ R ps d
    go true h = cc (h, s.1.is, eqb-true x d h)
    go false h = cc (h, s.1.gap d (omega arith) (omega (arith, s.1.from, eqb-false x d h)))

turned_told : (i j : ℕ) (R : Set) (d : ℕ) (ps : List ℕ) (r : Checked) → Told self i j R d ps r → Told not i j R d ps (turned r)
unfolding turned
turned_told i j R d ps (says b rs) s = (s.0, cc s.1)

told_wide : (i j i' j' : ℕ) (R : Set) (d : ℕ) (ps : List ℕ) → i' ≤ i → j ≤ j' → (r : Checked) → Told self i j R d ps r → Told self i' j' R d ps r
told_wide i j i' j' R d ps hi hj (says b rs) s = (kept_wide i j i' j' R d ps rs.places hi hj s.0, s.1)

-- a check of any node, over any ascending lists and from any places
module _ (ls : List (List ℕ)) (up : (k : ℕ) → Up 0 (get_or ls k [])) where
  mutual
    unfolding check_by residual size

    pub check_is : (t : Tree) (i : ℕ) → Tells self i (i + size t) (residual ls t i) (check_node ls t i)
    check_is (leaf k) i = λ d rs dt jl.
        told_wide i (suc i) i (i + 1) (left_of (get_or ls k []) i) d rs.places (omega arith) (omega arith) (is_at d (read (get_or ls k []) i d rs))
        (reader_told i (suc i) (left_of (get_or ls k []) i) d rs.places (read (get_or ls k []) i d rs) (read_seek (get_or ls k []) i (up k) d rs dt (omega arith)))
    check_is (difference s t) i = λ d rs dt jl.
        told_wide (1 + i) (1 + i + size s + size t) i (i + (1 + size s + size t)) (residual ls (difference s t) i) d rs.places (omega arith) (omega arith) (check_node ls (difference s t) i d rs)
        (yes_tells (1 + i) (1 + i + size s) (1 + i + size s + size t) (residual ls s (1 + i)) (residual ls t (1 + i + size s)) (omega arith) (omega arith) (residual_local ls s (1 + i)) (residual_local ls t (1 + i + size s))
        not (check_node ls s (1 + i)) (λ d' rs₁. turned (check_node ls t (1 + i + size s) d' rs₁)) (check_is s (1 + i))
        (λ d' rs₁ dt' jl'. turned_told (1 + i + size s) (1 + i + size s + size t) (residual ls t (1 + i + size s)) d' rs₁.places (check_node ls t (1 + i + size s) d' rs₁) (check_is t (1 + i + size s) d' rs₁ dt' jl')) d rs dt (omega arith))
    check_is (union ts) i = λ d rs dt jl.
        told_wide (1 + i) (1 + i + sizes ts) i (i + (1 + sizes ts)) (residual_some ls ts (1 + i)) d rs.places (omega arith) (omega arith) (check_union ls ts (1 + i) d rs) (some_is ts (1 + i) d rs dt (omega arith))
    check_is (intersection ts) i = λ d rs dt jl.
        told_wide (1 + i) (1 + i + sizes ts) i (i + (1 + sizes ts)) (residual_all ls ts (1 + i)) d rs.places (omega arith) (omega arith) (check_intersection ls ts (1 + i) d rs) (all_is ts (1 + i) d rs dt (omega arith))

    some_is : (ts : Members) (i : ℕ) → Tells self i (i + sizes ts) (residual_some ls ts i) (check_union ls ts i)
    some_is (one t) i = λ d rs dt jl. check_is t i d rs dt jl
    some_is (more t ts) i = λ d rs dt jl.
        told_wide i (i + size t + sizes ts) i (i + (size t + sizes ts)) (residual_some ls (more t ts) i) d rs.places (omega arith) (omega arith) (check_union ls (more t ts) i d rs)
        (no_tells i (i + size t) (i + size t + sizes ts) (residual ls t i) (residual_some ls ts (i + size t)) (omega arith) (omega arith) (residual_local ls t i) (some_local ls ts (i + size t))
        (check_node ls t i) (check_union ls ts (i + size t)) (check_is t i) (some_is ts (i + size t)) d rs dt (omega arith))

    all_is : (ts : Members) (i : ℕ) → Tells self i (i + sizes ts) (residual_all ls ts i) (check_intersection ls ts i)
    all_is (one t) i = λ d rs dt jl. check_is t i d rs dt jl
    all_is (more t ts) i = λ d rs dt jl.
        told_wide i (i + size t + sizes ts) i (i + (size t + sizes ts)) (residual_all ls (more t ts) i) d rs.places (omega arith) (omega arith) (check_intersection ls (more t ts) i d rs)
        (yes_tells i (i + size t) (i + size t + sizes ts) (residual ls t i) (residual_all ls ts (i + size t)) (omega arith) (omega arith) (residual_local ls t i) (all_local ls ts (i + size t))
        self (check_node ls t i) (check_intersection ls ts (i + size t)) (check_is t i) (all_is ts (i + size t)) d rs dt (omega arith))
