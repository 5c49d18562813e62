-- A pass over one list, from the number before what is left and the largest gap minus 1 so far. Assumes nothing.
use mathlib.Core.Path.{◌≡◌, refl, ap}
use mathlib.Core.Bool.{Bool, true, false, ◌&&◌}
use mathlib.Core.List.{List, [], ◌∷◌}
use Prim.Native.Nat.{ℕ, ◌+◌, ◌-◌, ◌≤◌, ◌<◌, max}
use native.Mathlib.Omega.{arith}
use borrow.Author.Tests.{lt-ltb, le-ltb}
use lib.ListN.{length, get_or, take, drop, drop_of_length-le}
use lib.Seq.{take_all}
use Rattle.model.specs.Outcome.{Outcome, refused, accepted, ◌>>◌, require}
use Rattle.model.specs.Lists.{rises, ascending}
use Rattle.model.specs.Delivery.{largest_gap}
use Rattle.lists.specs.Rise.{largest, rise}
use Rattle.lists.proofs.Left.{left-cons}

-- what is left ascends from `last` on: the largest gap minus 1 of it and of what has passed
unfoldable pub rise_from : ℕ → ℕ → List ℕ → Outcome ℕ
rise_from most last l = do
  require 11 (rises last l)
  accepted (max most (largest_gap last l))

pub rise-none : (l : List ℕ) → length l < 1 → rise l ≡ accepted 0
unfolding rise ascending largest
rise-none [] h = refl
rise-none (x ∷ xs) h = absurd (omega arith)

pub rise-first : (l : List ℕ) → 1 ≤ length l → rise l ≡ rise_from 0 (get_or l 0 0) (take (length l - 1) (drop 1 l))
unfolding rise rise_from ascending largest
rise-first [] h = absurd (omega arith)
rise-first (x ∷ xs) h =
    let all : take (length (x ∷ xs) - 1) xs ≡ xs = take_all _ xs (omega arith) in
    rw all (ap (λ (n : ℕ). require 11 (rises x xs) >> accepted n) (omega arith))

module _ (most last : ℕ) (l : List ℕ) (i : ℕ) where
  pub rise_falls : i < length l → get_or l i 0 ≤ last → rise_from most last (drop i l) ≡ refused 11
  unfolding rise_from rises largest_gap
  rise_falls h le = rw (left-cons l i h, le-ltb last (get_or l i 0) le)

  pub rise-more : i < length l → last < get_or l i 0
      → rise_from most last (drop i l) ≡ rise_from (max most (get_or l i 0 - last - 1)) (get_or l i 0) (drop (i + 1) l)
  unfolding rise_from rises largest_gap
  rise-more h lt =
      rw (left-cons l i h, lt-ltb last (get_or l i 0) lt)
      (ap (λ (n : ℕ). require 11 (rises (get_or l i 0) (drop (i + 1) l)) >> accepted n) (omega arith))

  pub rise-end : length l ≤ i → rise_from most last (drop i l) ≡ accepted most
  unfolding rise_from rises largest_gap
  rise-end h = rw (drop_of_length-le l h) (ap accepted (omega arith))

-- ---- whether it ascends alone: what has passed does, and what is left does from the number before it on
pub all_first : (l : List ℕ) → (true && rises (get_or l 0 0) (drop 1 l)) ≡ ascending l
unfolding rises ascending
all_first [] = refl
all_first (x ∷ xs) = refl

module _ (l : List ℕ) (i : ℕ) (all : Bool) where
  pub all_falls : i < length l → get_or l i 0 ≤ get_or l (i - 1) 0 → (all && rises (get_or l (i - 1) 0) (drop i l)) ≡ (false && rises (get_or l i 0) (drop (i + 1) l))
  unfolding rises
  all_falls h le = rw (left-cons l i h, le-ltb (get_or l (i - 1) 0) (get_or l i 0) le) (none all)
    where
      none : (b : Bool) → (b && false) ≡ false
      none true = refl
      none false = refl

  pub all_more : i < length l → get_or l (i - 1) 0 < get_or l i 0 → (all && rises (get_or l (i - 1) 0) (drop i l)) ≡ (all && rises (get_or l i 0) (drop (i + 1) l))
  unfolding rises
  all_more h lt = rw (left-cons l i h, lt-ltb (get_or l (i - 1) 0) (get_or l i 0) lt)

  pub all_end : length l ≤ i → (all && rises (get_or l (i - 1) 0) (drop i l)) ≡ all
  unfolding rises
  all_end h = rw (drop_of_length-le l h) (same all)
    where
      same : (b : Bool) → (b && true) ≡ b
      same true = refl
      same false = refl
