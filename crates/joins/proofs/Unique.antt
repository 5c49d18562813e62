-- A union of two lists is one list only: what ascends and holds the numbers of either. Assumes nothing.
use mathlib.Core.Path.{◌≡◌, refl, sym, ◌∙◌}
use mathlib.Core.Bool.{Bool, true, false, ◌||◌}
use mathlib.Core.List.{List, [], ◌∷◌}
use Prim.Native.Nat.{ℕ, zero, suc, ◌<◌}
use native.Mathlib.Omega.{arith}
use lib.Dec.{eqb}
use borrow.Author.Tests.{eqb-true, eq-eqb}
use Rattle.model.specs.Lists.{top, Numbers}
use Rattle.model.specs.Sets.{among}
use Rattle.model.specs.Joined.{list_union}
use Rattle.model.specs.RequestSix.{Union}
use Rattle.model.proofs.Order.{or_right, or_true, not_both, Up, up_low}
use Rattle.model.proofs.Denoted.{insert_up}
use Rattle.model.proofs.Accepted.{ascending_up}
use Rattle.model.proofs.Unions.{union_among}
use Rattle.changes.proofs.Changes.{up_same}

pub union_up : (lo : ℕ) (xs ys : List ℕ) → Up lo xs → Up lo ys → Up lo (list_union xs ys)
unfolding list_union
union_up lo [] ys u v = v
union_up lo (x ∷ xs) ys u v = insert_up lo x (list_union xs ys) u.0 u.1 (union_up lo xs ys (up_low lo (suc x) xs (omega (arith, u.0)) u.2) v)

up_small : (lo x : ℕ) (l : List ℕ) → Up lo l → among x l ≡ true → x < top
unfolding among
up_small lo x [] u h = absurd (not_both h refl)
up_small lo x (y ∷ ys) u h = or_true (eqb x y) (among x ys) (λ e. omega (arith, eqb-true x y e, u.1)) (λ m. up_small (suc y) x ys u.2 m) h

small_numbers : (l : List ℕ) → ((x : ℕ) → among x l ≡ true → x < top) → Numbers l
unfolding among
small_numbers [] h i = omega arith
small_numbers (x ∷ xs) h zero = h x (cc (eq-eqb x x refl))
small_numbers (x ∷ xs) h (suc i) = small_numbers xs (λ y m. h y (or_right (eqb y x) (among y xs) m)) i

-- of two list sets
module _ (a b : List ℕ) (u : Up 0 a) (v : Up 0 b) where
  pub union_only : (l m : List ℕ) → Union a b l → Up 0 m → ((x : ℕ) → among x m ≡ among x a || among x b) → l ≡ m
  union_only l m h w e =
      let small : (x : ℕ) → among x l ≡ true → x < top = λ x i. or_true (among x a) (among x b) (λ i. up_small 0 x a u i) (λ i. up_small 0 x b v i) (sym (h.either x) ∙ i) in
      up_same 0 l m (ascending_up l (small_numbers l small) h.ascends) w (λ x. h.either x ∙ sym (e x))

  pub union_swap : list_union a b ≡ list_union b a
  union_swap = up_same 0 (list_union a b) (list_union b a) (union_up 0 a b u v) (union_up 0 b a v u) (λ x. union_among x a b ∙ swap (among x a) (among x b) ∙ sym (union_among x b a))
    where
      swap : (p q : Bool) → p || q ≡ q || p
      swap true true = refl
      swap true false = refl
      swap false true = refl
      swap false false = refl
