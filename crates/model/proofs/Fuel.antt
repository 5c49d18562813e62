-- The steps that repeat do not depend on their fuel: each is the step of 01 with itself for the repeat. A repeat seeks
-- to a higher number, and a seek answers below 4,294,967,296, so the fuel never runs out. Assumes nothing.
use mathlib.Core.Path.{◌≡◌, refl, ◌∙◌}
use mathlib.Core.Bool.{Bool, true, false}
use mathlib.Core.List.{List, []}
use Prim.Native.Nat.{ℕ, zero, suc, ◌+◌, ◌≤◌, ◌<◌}
use native.Mathlib.Omega.{arith}
use lib.Dec.{ltb, eqb}
use lib.ListN.{get_or, length}
use borrow.Author.Tests.{ltb-true}
use Rattle.model.specs.Lists.{top}
use Rattle.model.specs.Expression.{Tree, difference, Members, more, size, sizes}
use Rattle.model.specs.Steps.{Readers, Found, end, at, Seek, on, fuel, differ, intersect, seek, seek_intersection, seek_rest, seek_by}
use Rattle.model.proofs.Order.{Up}
use Rattle.model.proofs.Residual.{Set, Sought, Passed, Seeks, Passes, residual, residual_all}
use Rattle.model.proofs.Seek.{fuel-is, seek_is, rest_is}

-- gone on with alike in either case, an answer comes to the same
on_same : (Q : Found → Type 0) (f : Readers → Found) (g g' : ℕ → Readers → Found) (r : Found) → Q r
    → ((x : ℕ) (rs : Readers) → Q (at x rs) → g x rs ≡ g' x rs) → on r f g ≡ on r f g'
on_same Q f g g' (end rs) q h = refl
on_same Q f g g' (at x rs) q h = h x rs q

test-same : (b : Bool) (r r' s : Found) → (b ≡ true → r ≡ r') → ◌≡◌ {A = Found} (elim b [ true ↦ r | false ↦ s ]) (elim b [ true ↦ r' | false ↦ s ])
test-same true r r' s h = h refl
test-same false r r' s h = refl

-- one step of difference, and of intersection, with what a repeat goes on with
abbrev pub differ_with : Seek → Seek → Seek → Seek
differ_with repeat first second e rs =
    on (first e rs) end λ x rs₁.
    on (second x rs₁) (at x) λ y rs₂.
    elim (eqb x y) [ true ↦ repeat (suc x) rs₂ | false ↦ at x rs₂ ]

abbrev pub intersect_with : Seek → Seek → Seek → Seek
intersect_with repeat first rest e rs =
    on (first e rs) end λ x rs₁.
    on (rest x rs₁) end λ y rs₂.
    elim (ltb x y) [ true ↦ repeat y rs₂ | false ↦ at x rs₂ ]

module _ (i m j : ℕ) (F G : Set) (f g : Seek) (im : i ≤ m) (mj : m ≤ j) (Ff : Seeks i m F f) where
  module _ (Gg : Seeks m j G g) where
    differ-fuel : (n n' e : ℕ) (rs : Readers) → top < n + e → top < n' + e → e ≤ top → j ≤ length rs.places → differ n f g e rs ≡ differ n' f g e rs
    unfolding differ
    differ-fuel zero n' e rs h h' et jl = absurd (omega arith)
    differ-fuel (suc n) zero e rs h h' et jl = absurd (omega arith)
    differ-fuel (suc n) (suc n') e rs h h' et jl =
        on_same (Sought i m F e rs.places) _ _ _ (f e rs) (Ff e rs et (omega arith)) (λ x rs₁ s.
        on_same (Sought m j G x rs₁.places) _ _ _ (g x rs₁) (Gg x rs₁ (omega (arith, s.1.small)) (omega (arith, s.0.kept.long))) (λ y rs₂ q.
        test-same (eqb x y) _ _ _ (λ t. differ-fuel n n' (suc x) rs₂ (omega (arith, s.1.from)) (omega (arith, s.1.from)) (omega (arith, s.1.small)) (omega (arith, s.0.kept.long, q.0.kept.long)))))

    -- the difference's step, with no fuel in sight
    pub differ-step : (e : ℕ) (rs : Readers) → e ≤ top → j ≤ length rs.places → differ fuel f g e rs ≡ differ_with (differ fuel f g) f g e rs
    differ-step e rs et jl = differ-fuel fuel (suc fuel) e rs (omega (arith, fuel-is)) (omega (arith, fuel-is)) et jl ∙ open_once fuel
      where
        open_once : (n : ℕ) → differ (suc n) f g e rs ≡ differ_with (differ n f g) f g e rs
        open_once n = unfold differ in refl

  module _ (Gg : Passes m j G g) where
    intersect-fuel : (n n' e : ℕ) (rs : Readers) → top < n + e → top < n' + e → e ≤ top → j ≤ length rs.places → intersect n f g e rs ≡ intersect n' f g e rs
    unfolding intersect
    intersect-fuel zero n' e rs h h' et jl = absurd (omega arith)
    intersect-fuel (suc n) zero e rs h h' et jl = absurd (omega arith)
    intersect-fuel (suc n) (suc n') e rs h h' et jl =
        on_same (Sought i m F e rs.places) _ _ _ (f e rs) (Ff e rs et (omega arith)) (λ x rs₁ s.
        on_same (Passed m j G x rs₁.places) _ _ _ (g x rs₁) (Gg x rs₁ (omega (arith, s.1.small)) (omega (arith, s.0.kept.long))) (λ y rs₂ q.
        test-same (ltb x y) _ _ _ (λ t. intersect-fuel n n' y rs₂ (omega (arith, s.1.from, ltb-true x y t)) (omega (arith, s.1.from, ltb-true x y t)) (omega (arith, q.1.small)) (omega (arith, s.0.kept.long, q.0.kept.long)))))

    -- the intersection's step, with no fuel in sight
    pub intersect-step : (e : ℕ) (rs : Readers) → e ≤ top → j ≤ length rs.places → intersect fuel f g e rs ≡ intersect_with (intersect fuel f g) f g e rs
    intersect-step e rs et jl = intersect-fuel fuel (suc fuel) e rs (omega (arith, fuel-is)) (omega (arith, fuel-is)) et jl ∙ open_once fuel
      where
        open_once : (n : ℕ) → intersect (suc n) f g e rs ≡ intersect_with (intersect n f g) f g e rs
        open_once n = unfold intersect in refl

-- the same of a tree over ascending lists, from places enough
module _ (ls : List (List ℕ)) (up : (k : ℕ) → Up 0 (get_or ls k [])) where
  pub seek-difference : (s t : Tree) (i e : ℕ) (rs : Readers) → e ≤ top → 1 + i + size s + size t ≤ length rs.places
      → seek ls (difference s t) i e rs ≡ differ_with (seek ls (difference s t) i) (seek ls s (1 + i)) (seek ls t (1 + i + size s)) e rs
  unfolding seek_by
  seek-difference s t i e rs et h =
      differ-step (1 + i) (1 + i + size s) (1 + i + size s + size t) (residual ls s (1 + i)) (residual ls t (1 + i + size s)) (seek ls s (1 + i)) (seek ls t (1 + i + size s)) (omega arith) (omega arith)
      (seek_is ls up s (1 + i)) (seek_is ls up t (1 + i + size s)) e rs et h

  pub seek-members : (t : Tree) (ts : Members) (i e : ℕ) (rs : Readers) → e ≤ top → i + size t + sizes ts ≤ length rs.places
      → seek_intersection ls (more t ts) i e rs ≡ intersect_with (seek_intersection ls (more t ts) i) (seek ls t i) (seek_rest ls ts (i + size t)) e rs
  unfolding seek_by
  seek-members t ts i e rs et h =
      intersect-step i (i + size t) (i + size t + sizes ts) (residual ls t i) (residual_all ls ts (i + size t)) (seek ls t i) (seek_rest ls ts (i + size t)) (omega arith) (omega arith)
      (seek_is ls up t i) (rest_is ls up ts (i + size t)) e rs et h
