-- Cases of tests, and ascending lists. Assumes nothing.
use mathlib.Core.Path.{◌≡◌, refl, subst}
use mathlib.Core.Bool.{Bool, true, false, ◌&&◌, ◌||◌}
use mathlib.Core.List.{List, [], ◌∷◌}
use Prim.Native.Nat.{ℕ, zero, suc, ◌≤◌, ◌<◌, min}
use native.Mathlib.Omega.{arith}
use lib.Dec.{ltb, T}
use lib.ListN.{drop, get_or, replicate, get_or-replicate, get_or-eq_default}
use borrow.Author.Tests.{ltb-true, ltb-false, ne_eqb}
use Rattle.model.specs.Lists.{top}
use Rattle.model.specs.Sets.{among}

pub or_right : (a b : Bool) → b ≡ true → a || b ≡ true
or_right true b h = refl
or_right false b h = h

pub and_right : (a b : Bool) → b ≡ false → a && b ≡ false
and_right true b h = h
and_right false b h = refl

pub and_true : (a b : Bool) → a && b ≡ true → (a ≡ true) × (b ≡ true)
and_true true b h = (refl, h)
and_true false b h = (h, let z : true ≡ false = cc in cc)

pub or_true : {P : Type 0} (a b : Bool) → (a ≡ true → P) → (b ≡ true → P) → a || b ≡ true → P
or_true true b f g h = f refl
or_true false b f g h = g h

pub not_both : {b : Bool} → b ≡ true → b ≡ false → ⊥
not_both {b} h h' = let z : true ≡ false = cc in subst T z tt

-- by cases, below or not
pub split : (P : Type 0) (x y : ℕ) → (x < y → P) → (y ≤ x → P) → P
split P x y p q = go (ltb x y) refl
  where
    go : (b : Bool) → ltb x y ≡ b → P
    go true h = p (ltb-true x y h)
    go false h = q (ltb-false x y h)

pub min_case : (P : ℕ → Type 0) (x y : ℕ) → P x → P y → P (min x y)
min_case P x y p q = split (P (min x y)) x y (λ lt. subst P (omega arith) p) (λ ge. subst P (omega arith) q)

-- ascending from lo on, and below top
abbrev pub Up : ℕ → List ℕ → Type 0
Up lo [] = Unit {0}
Up lo (x ∷ xs) = (lo ≤ x) × (x < top) × Up (suc x) xs

pub up_low : (lo lo' : ℕ) (l : List ℕ) → lo ≤ lo' → Up lo' l → Up lo l
up_low lo lo' [] h u = tt
up_low lo lo' (x ∷ xs) h u = (omega arith, u.1, u.2)

pub up_drop : (lo n : ℕ) (l : List ℕ) → Up lo l → Up lo (drop n l)
up_drop lo zero l u = u
up_drop lo (suc n) [] u = tt
up_drop lo (suc n) (x ∷ xs) u = up_drop lo n xs (up_low lo (suc x) xs (omega (arith, u.0)) u.2)

-- nothing of an ascending list stands below its lower bound
pub up_none : (lo x : ℕ) (l : List ℕ) → Up lo l → x < lo → among x l ≡ false
unfolding among
up_none lo x [] u h = refl
up_none lo x (y ∷ ys) u h = cc (ne_eqb x y (λ q. omega (arith, u.0)), up_none (suc y) x ys u.2 (omega (arith, u.0)))

-- the places that a run begins with
abbrev pub untouched : List ℕ
untouched = replicate 48 0

pub none_moved : (k : ℕ) → get_or untouched k 0 ≡ 0
none_moved k = split (get_or untouched k 0 ≡ 0) k 48 (λ lt. get_or-replicate 48 k 0 0 lt) (λ ge. get_or-eq_default untouched 0 ge)
