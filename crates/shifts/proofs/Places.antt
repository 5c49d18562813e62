-- Where a number stands or belongs in an ascending row: behind every number below it. Assumes nothing.
use mathlib.Core.Path.{◌≡◌, refl, sym, ap, ◌∙◌}
use mathlib.Core.Bool.{Bool, true, false, ◌||◌}
use mathlib.Core.List.{List, [], ◌∷◌}
use Prim.Native.Nat.{ℕ, zero, suc, ◌≤◌, ◌<◌}
use native.Mathlib.Omega.{arith}
use lib.Dec.{ltb, eqb}
use borrow.Author.Tests.{lt-ltb, le-ltb, ltb-true, ne_eqb, eq-eqb, eqb-true}
use lib.ListN.{length, get_or}
use Rattle.std.specs.Prelude.{Result, Ok, Err, is_ok}
use Rattle.std.specs.Ordering.{nat_cmp}
use Rattle.std.specs.List.Sorted.{IsBinarySearchResult}
use Rattle.std.proofs.lemmas.List.Sorted.{searched}
use Rattle.model.specs.Lists.{rises, ascending}
use Rattle.model.specs.Sets.{among}
use Rattle.model.specs.Steps.{passed}
use Rattle.shifts.specs.Shift.{place_of}
use Rattle.model.proofs.Order.{split, and_true, not_both}

-- each number stands above the one before it, the first at lo or above
abbrev Above : ℕ → List ℕ → Type 0
Above lo [] = Unit {0}
Above lo (x ∷ xs) = (lo ≤ x) × Above (suc x) xs

above : (l : List ℕ) → ascending l ≡ true → Above 0 l
unfolding ascending rises
above [] h = tt
above (x ∷ xs) h = (omega arith, go x xs h)
  where
    go : (x : ℕ) (xs : List ℕ) → rises x xs ≡ true → Above (suc x) xs
    go x [] h = tt
    go x (y ∷ ys) h = let q = and_true (ltb x y) (rises y ys) h in (ltb-true x y q.0, go y ys q.1)

above_at : (lo : ℕ) (l : List ℕ) (i : ℕ) → Above lo l → i < length l → lo ≤ get_or l i 0
above_at lo [] i u h = absurd (omega arith)
above_at lo (y ∷ ys) zero u h = u.0
above_at lo (y ∷ ys) (suc i) u h = omega (arith, u.0, above_at (suc y) ys i u.1 (omega arith))

above-none : (lo x : ℕ) (l : List ℕ) → Above lo l → x < lo → among x l ≡ false
unfolding among
above-none lo x [] u h = refl
above-none lo x (y ∷ ys) u h = cc (ne_eqb x y (λ q. omega (arith, u.0)), above-none (suc y) x ys u.1 (omega (arith, u.0)))

pub passed-inside : (l : List ℕ) (x : ℕ) → passed l x ≤ length l
unfolding passed
passed-inside [] x = omega arith
passed-inside (y ∷ ys) x =
    split _ y x (λ lt. rw (lt-ltb y x lt, passed) (omega (arith, passed-inside ys x))) (λ ge. rw (le-ltb y x ge, passed) (omega arith))

-- a number that is not below x stands at its place or behind it
pub passed-above : (l : List ℕ) (x i : ℕ) → i < length l → x ≤ get_or l i 0 → passed l x ≤ i
unfolding passed
passed-above [] x i h le = absurd (omega arith)
passed-above (y ∷ ys) x zero h le = rw (le-ltb y x le, passed) (omega arith)
passed-above (y ∷ ys) x (suc i) h le =
    split _ y x (λ lt. rw (lt-ltb y x lt, passed) (omega (arith, passed-above ys x i (omega arith) le)))
    (λ ge. rw (le-ltb y x ge, passed) (omega arith))

-- and one that is below it stands before its place
before : (lo : ℕ) (l : List ℕ) (x i : ℕ) → Above lo l → i < length l → get_or l i 0 < x → i < passed l x
unfolding passed
before lo [] x i u h lt = absurd (omega arith)
before lo (y ∷ ys) x zero u h lt = rw (lt-ltb y x lt, passed) (omega arith)
before lo (y ∷ ys) x (suc i) u h lt =
    rw (lt-ltb y x (omega (arith, above_at (suc y) ys i u.1 (omega arith))), passed) (omega (arith, before (suc y) ys x i u.1 (omega arith) lt))

pub passed-below : (l : List ℕ) (x i : ℕ) → ascending l ≡ true → i < length l → get_or l i 0 < x → i < passed l x
passed-below l x i up h lt = before 0 l x i (above l up) h lt

-- the number at its place says whether it stands there
none : (lo : ℕ) (l : List ℕ) (x : ℕ) → Above lo l → length l ≤ passed l x → among x l ≡ false
unfolding among passed
none lo [] x u h = refl
none lo (y ∷ ys) x u h =
    split _ y x
    (λ lt. rw (ne_eqb x y (λ e. omega arith)) (none (suc y) ys x u.1 (omega (arith, rw (lt-ltb y x lt, passed) at h))))
    (λ ge. absurd (omega (arith, rw (le-ltb y x ge, passed) at h)))

pub stands_not : (l : List ℕ) (x : ℕ) → ascending l ≡ true → length l ≤ passed l x → among x l ≡ false
stands_not l x up h = none 0 l x (above l up) h

there : (lo : ℕ) (l : List ℕ) (x : ℕ) → Above lo l → passed l x < length l → eqb (get_or l (passed l x) 0) x ≡ among x l
unfolding among passed
there lo [] x u h = absurd (omega (arith, h))
there lo (y ∷ ys) x u h =
    split _ y x
    (λ lt. rw (lt-ltb y x lt, passed, ne_eqb x y (λ e. omega arith)) (there (suc y) ys x u.1 (omega (arith, rw (lt-ltb y x lt, passed) at h))))
    (λ ge. rw (le-ltb y x ge, passed) (go (eqb y x) refl ge))
  where
    go : (b : Bool) → eqb y x ≡ b → x ≤ y → b ≡ eqb x y || among x ys
    go true e ge = rw (eq-eqb x y (sym (eqb-true y x e)))
    go false e ge = rw (ne_eqb x y (λ q. not_both (eq-eqb y x (sym q)) e), above-none (suc y) x ys u.1 (omega arith))

pub stands-there : (l : List ℕ) (x : ℕ) → ascending l ≡ true → passed l x < length l → eqb (get_or l (passed l x) 0) x ≡ among x l
stands-there l x up h = there 0 l x (above l up) h

-- ---- what the library's search hands back

rises_to : (lo : ℕ) (l : List ℕ) (i j : ℕ) → Above lo l → i < j → j < length l → get_or l i 0 < get_or l j 0
rises_to lo [] i j u h k = absurd (omega arith)
rises_to lo (y ∷ ys) i zero u h k = absurd (omega arith)
rises_to lo (y ∷ ys) zero (suc j) u h k = above_at (suc y) ys j u.1 (omega arith)
rises_to lo (y ∷ ys) (suc i) (suc j) u h k = rises_to (suc y) ys i j u.1 (omega arith) (omega arith)

module _ (l : List ℕ) (x : ℕ) (up : ascending l ≡ true) where
  never_falls : (i j : ℕ) → i ≤ j → j < length l → get_or l i 0 ≤ get_or l j 0
  never_falls i j h k =
      split _ i j (λ lt. omega (arith, rises_to 0 l i j (above l up) lt k))
      (λ ge. let same : i ≡ j = omega arith in omega (arith, ap (λ (n : ℕ). get_or l n 0) same))

  -- the place that every number below x stands before, and no other
  place : (i : ℕ) → i ≤ length l → ((k : ℕ) → k < i → get_or l k 0 < x) → (i < length l → x ≤ get_or l i 0) → i ≡ passed l x
  place i inside below here =
      let above : passed l x ≤ i = split _ i (length l) (λ lt. passed-above l x i lt (here lt)) (λ ge. omega (arith, passed-inside l x)) in
      omega (arith, reaches i inside below)
    where
      reaches : (i : ℕ) → i ≤ length l → ((k : ℕ) → k < i → get_or l k 0 < x) → i ≤ passed l x
      reaches zero inside below = omega arith
      reaches (suc k) inside below = passed-below l x k up (omega arith) (below k (omega arith))

  pub search_places : (r : Result ℕ ℕ) → IsBinarySearchResult (λ y. nat_cmp y x) l r → (place_of r ≡ passed l x) × (is_ok r ≡ among x l)
  search_places (Ok i) h =
      let at = searched l x (Ok i) h never_falls in
      let is : i ≡ passed l x = place i (omega (arith, at.0)) (λ k lt. omega (arith, at.1, rises_to 0 l k i (above l up) lt at.0)) (λ lt. omega (arith, at.1)) in
      (is, sym (eq-eqb _ x at.1) ∙ ap (λ (n : ℕ). eqb (get_or l n 0) x) is ∙ stands-there l x up (omega (arith, is, at.0)))
  search_places (Err i) h =
      let at = searched l x (Err i) h never_falls in
      let is : i ≡ passed l x = place i at.0 at.1 (λ lt. omega (arith, at.2 i (omega arith) lt)) in
      (is, sym (split _ i (length l) (λ lt. sym (stands-there l x up (omega arith)) ∙ ap (λ (n : ℕ). eqb (get_or l n 0) x) (sym is) ∙ ne_eqb _ x (λ e. omega (arith, at.2 i (omega arith) lt))) (λ ge. stands_not l x up (omega arith))))
