-- The bits of a list by its length, and the width of its gaps, here where a bit and 16 bits of count stand ahead. Assumes nothing.
use mathlib.Core.Path.{◌≡◌, refl, sym, ap, ap₂, ◌∙◌}
use mathlib.Core.Bool.{Bool, true, false, cond}
use mathlib.Core.List.{List, [], ◌∷◌, ◌++◌, append-nil}
use Prim.Native.Nat.{ℕ, suc, ◌+◌, ◌-◌, ◌*◌, ◌^◌, ◌≤◌, ◌<◌}
use native.Mathlib.Nat.{mul-suc, mul-le-mul_left, mul-le-mul_right}
use native.Mathlib.Numerals.{add-one}
use native.Mathlib.Omega.{arith}
use lib.Dec.{ltb}
use lib.ListN.{length, get_or, drop}
use borrow.Author.Tests.{ltb-true}
use Rattle.model.specs.Outcome.{accepted}
use Rattle.model.specs.Lists.{top, Numbers, rises, ascending}
use Rattle.model.specs.Fields.{field}
use Rattle.model.specs.Delivery
use Rattle.model.specs.Delivery.{largest_gap, width, gap_bits, body_bits, came, supplied_numbers, bit_and_count, by_bit, list_size}
use Rattle.model.proofs.Order.{and_true}
use Rattle.model.proofs.Accepted.{required, accepted-same}
use Rattle.model.proofs.Bits.{field-length}
use Rattle.model.proofs.Deliveries.{width_is}
use Rattle.model.proofs.Sizes.{gaps_width, list_size-is as size_is, came-head, undelivered-bits}
use Rattle.lists.specs.Rise.{largest, rise}
use Rattle.fields.proofs.Fields.{field-join}
use Rattle.encode.specs.Measures.{as_supplied, list_bits, gap_width}

-- ---- the gaps

-- one more field of w bits, of n
pub more-bits : (w i n : ℕ) → i < n → w ≤ 32 → (w * (i + 1) ≡ w * i + w) × (w * (i + 1) ≤ w * n) × (w * n ≤ 32 * n)
more-bits w i n h l = (ap (λ (k : ℕ). w * k) (add-one i) ∙ mul-suc w i, mul-le-mul_left w (omega arith), mul-le-mul_right n l)

-- the gaps of numbers are below 4,294,967,296
gaps_small : (last : ℕ) (xs : List ℕ) → Numbers xs → largest_gap last xs < top
unfolding largest_gap
gaps_small last [] h = omega arith
gaps_small last (x ∷ xs) h = omega (arith, h 0, gaps_small x xs (λ i. h (suc i)))

largest-small : (l : List ℕ) → Numbers l → largest l < top
unfolding largest
largest-small [] h = omega arith
largest-small (x ∷ xs) h = gaps_small x xs (λ i. h (suc i))

-- ---- the width

pub record Wide (m w : ℕ) : Type 0 where
  pub one : 1 ≤ w
  pub most : w ≤ 32
  pub holds : m < 2 ^ w

pub width_wide : (m : ℕ) → m < top → Wide m (width m)
width_wide m h = let v = width_is m h in record { one = v.one; most = v.least 32 (omega arith) h; holds = v.holds }

pub gap_width_wide : (l : List ℕ) → Numbers l → Wide (largest l) (gap_width l)
unfolding gap_width
gap_width_wide l h = width_wide (largest l) (largest-small l h)

-- what is known of a list that ascends
pub risen : (l : List ℕ) (g : ℕ) → accepted g ≡ rise l → (ascending l ≡ true) × (largest l ≡ g)
unfolding rise
risen l g e = let a = required 11 (ascending l) (accepted (largest l)) g (sym e) in (a.0, accepted-same a.1)

-- ---- the bits of a list

-- the bit of a list that came and its count are one field
bits-came : (l : List ℕ) → length l ≤ 65535 → list_bits (came l) ≡ field 17 (65536 + length l) ++ body_bits l
unfolding Delivery.list_bits bit_and_count supplied_numbers
bits-came l h = ap (λ (head : List Bool). head ++ body_bits l) (sym (field-join 1 16 1 (length l) (omega arith)))

pub bits_none : (l : List ℕ) → length l ≡ 0 → list_bits (came l) ≡ field 17 (65536 + length l)
unfolding body_bits
bits_none [] h = bits-came [] (omega arith) ∙ append-nil (field 17 65536)
bits_none (x ∷ l) h = absurd (omega arith)

pub bits-one : (l : List ℕ) → length l ≡ 1 → list_bits (came l) ≡ field 17 (65536 + length l) ++ field 32 (get_or l 0 0)
unfolding body_bits
bits-one [] h = absurd (omega arith)
bits-one (x ∷ []) h = bits-came (x ∷ []) (omega arith)
bits-one (x ∷ y ∷ l) h = absurd (omega arith)

pub bits-more : (l : List ℕ) → 2 ≤ length l → length l ≤ 65535 → list_bits (came l) ≡ field 17 (65536 + length l) ++ (field 32 (get_or l 0 0) ++ (field 5 (gap_width l - 1) ++ gap_bits (gap_width l) (get_or l 0 0) (drop 1 l)))
unfolding body_bits gap_width largest
bits-more [] h f = absurd (omega arith)
bits-more (x ∷ []) h f = absurd (omega arith)
bits-more (x ∷ y ∷ l) h f = bits-came (x ∷ y ∷ l) f

width_same : (l : List ℕ) → gaps_width l ≡ gap_width l
unfolding gaps_width gap_width largest
width_same [] = refl
width_same (x ∷ l) = refl

pub list_size-is : (l : List ℕ) → length (list_bits (came l)) ≡ list_size 17 (length l) (gap_width l)
unfolding supplied_numbers
list_size-is l = size_is by_bit (came l) ∙ ap₂ (λ (n w : ℕ). list_size n (length l) w) (came-head l) (width_same l)

-- of one that came or did not
pub supplied-size : (b : Bool) (l : List ℕ) → length (list_bits (as_supplied b l)) ≡ cond b (list_size 17 (length l) (gap_width l)) 1
supplied-size true l = list_size-is l
supplied-size false l = ap length undelivered-bits ∙ field-length 1 0

pub supplied-small : (b : Bool) (l : List ℕ) → length l ≤ 65535 → gap_width l ≤ 32 → length (list_bits (as_supplied b l)) ≤ 4194304
unfolding list_size
supplied-small true l h w = omega (arith, supplied-size true l, mul-le-mul_right (length l - 1) w)
supplied-small false l h w = omega (arith, supplied-size false l)

pub size-some : (n w : ℕ) → 1 ≤ n → 49 ≤ list_size 17 n w
unfolding list_size
size-some n w h = omega arith

pub size_any : (n w : ℕ) → 17 ≤ list_size 17 n w
unfolding list_size
size_any n w = omega arith

-- ---- numbers that rise, one by one

pub record UpNext (w last x : ℕ) (xs : List ℕ) : Type 0 where
  pub above : last < x
  pub rest : rises x xs ≡ true
  pub fits : x - last - 1 < 2 ^ w
  pub rest-fits : largest_gap x xs < 2 ^ w

pub up_next : (w last x : ℕ) (xs : List ℕ) → rises last (x ∷ xs) ≡ true → largest_gap last (x ∷ xs) < 2 ^ w → UpNext w last x xs
unfolding rises largest_gap
up_next w last x xs h l =
    let a = and_true (ltb last x) (rises x xs) h in
    record { above = ltb-true last x a.0; rest = a.1; fits = omega arith; rest-fits = omega arith }

-- a list that ascends, from its first number on
pub from_first : (l : List ℕ) → 1 ≤ length l → ascending l ≡ true → rises (get_or l 0 0) (drop 1 l) ≡ true
unfolding ascending
from_first [] h e = absurd (omega arith)
from_first (x ∷ l) h e = e

pub largest-first : (l : List ℕ) → 1 ≤ length l → largest l ≡ largest_gap (get_or l 0 0) (drop 1 l)
unfolding largest
largest-first [] h = absurd (omega arith)
largest-first (x ∷ l) h = refl
