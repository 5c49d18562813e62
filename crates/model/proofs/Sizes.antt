-- The bits of a list in a delivery by lengths alone: those of its head, how many numbers it has, and the width of its gaps,
-- which is at most 32. Assumes nothing.
use mathlib.Core.Path.{◌≡◌, sym, ap, ◌∙◌}
use mathlib.Core.Bool.{Bool}
use mathlib.Core.List.{List, [], ◌∷◌, ◌++◌, append-nil, flat_map}
use Prim.Native.Nat.{ℕ, suc, ◌+◌, ◌-◌, ◌*◌, ◌/◌, ◌≤◌}
use native.Mathlib.Nat.{mul-suc, mul-zero, mul-le-mul_right}
use native.Mathlib.Omega.{arith}
use lib.ListN.{length, length-append}
use Rattle.model.specs.Fields.{field}
use Rattle.model.specs.Delivery.{largest_gap, width, gap_bits, body_bits, Form, Supplied, undelivered, came, supplied_numbers, bit_and_count, by_bit, list_bits, list_size, delivery_in, delivery}
use Rattle.model.proofs.Order.{Up}
use Rattle.model.proofs.Bits.{field-length, bytes-length}
use Rattle.model.proofs.Deliveries.{width_is, width_small}

pub gap_bits-length : (w last : ℕ) (xs : List ℕ) → length (gap_bits w last xs) ≡ w * length xs
unfolding gap_bits
gap_bits-length w last [] = sym (mul-zero w)
gap_bits-length w last (x ∷ xs) = omega (arith, length-append (field w (x - last - 1)) (gap_bits w x xs), field-length w (x - last - 1), gap_bits-length w x xs, mul-suc w (length xs))

-- ---- the three lengths

pub size_none : (head w : ℕ) → list_size head 0 w ≡ head
unfolding list_size
size_none head w = omega (arith, mul-zero w)

pub size-one : (head w : ℕ) → list_size head 1 w ≡ head + 32
unfolding list_size
size-one head w = omega (arith, mul-zero w)

pub size-more : (head n w : ℕ) → 2 ≤ n → list_size head n w ≡ head + 37 + w * (n - 1)
unfolding list_size
size-more head n w h = omega arith

-- ---- the bits of a list

-- the width of a list's gaps; a list of fewer than two numbers has none, and its width is not written
unfoldable pub gaps_width : List ℕ → ℕ
gaps_width [] = width 0
gaps_width (x ∷ xs) = width (largest_gap x xs)

body-size : (head : ℕ) (l : List ℕ) → head + length (body_bits l) ≡ list_size head (length l) (gaps_width l)
unfolding body_bits gaps_width
body-size head [] = omega (arith, size_none head (width 0))
body-size head (x ∷ []) = omega (arith, field-length 32 x, size-one head (width (largest_gap x [])))
body-size head (x ∷ y ∷ l) =
    let w : ℕ = width (largest_gap x (y ∷ l)) in
    let g : List Bool = gap_bits w x (y ∷ l) in
    let pred : suc (suc (length l)) - 1 ≡ suc (length l) = omega arith in
    omega (
      arith,
      length-append (field 32 x) (field 5 (w - 1) ++ g),
      length-append (field 5 (w - 1)) g,
      field-length 32 x,
      field-length 5 (w - 1),
      gap_bits-length w x (y ∷ l),
      size-more head (suc (suc (length l))) w (omega arith) ∙ ap (λ (k : ℕ). head + 37 + w * k) pred,
    )

module _ {A : Type 0} (form : Form A) (a : A) where
  pub list_size-is : length (list_bits form a) ≡ list_size (length (form.head_bits a)) (length (form.numbers_of a)) (gaps_width (form.numbers_of a))
  unfolding list_bits
  list_size-is = length-append (form.head_bits a) (body_bits (form.numbers_of a)) ∙ body-size (length (form.head_bits a)) (form.numbers_of a)

  -- so it is never more than with a width of 32
  pub list_size-most : Up 0 (form.numbers_of a) → length (list_bits form a) ≤ list_size (length (form.head_bits a)) (length (form.numbers_of a)) 32
  unfolding list_size gaps_width
  list_size-most u = omega (arith, list_size-is, wider (length (form.head_bits a)) (length (form.numbers_of a)) (gaps_width (form.numbers_of a)) (width-most (form.numbers_of a) u))
    where
      wider : (head n w : ℕ) → w ≤ 32 → list_size head n w ≤ list_size head n 32
      wider head n w h = omega (arith, mul-le-mul_right (n - 1) h)

      width-most : (l : List ℕ) → Up 0 l → gaps_width l ≤ 32
      width-most [] u = (width_is 0 (omega arith)).least 32 (omega arith) (omega arith)
      width-most (x ∷ xs) u = (width_small x xs u.2).2

-- ---- in Two's form

-- a bit and 16 bits of count stand ahead of the numbers of a list that came
pub came-head : (l : List ℕ) → length (bit_and_count (came l)) ≡ 17
unfolding bit_and_count
came-head l = omega (arith, length-append (field 1 1) (field 16 (length l)), field-length 1 1, field-length 16 (length l))

-- one that did not come has its bit alone
pub undelivered-bits : list_bits by_bit undelivered ≡ field 1 0
unfolding list_bits body_bits bit_and_count supplied_numbers
undelivered-bits = append-nil (field 1 0)

-- 6 bits of their number ahead of the lists, and up to a whole byte
pub delivery-length : (ss : List Supplied) → length (delivery ss) ≡ (length (flat_map (list_bits by_bit) ss) + 13) / 8
unfolding delivery delivery_in
delivery-length ss =
    let lists : List Bool = flat_map (list_bits by_bit) ss in
    bytes-length (field 6 (length ss) ++ lists) ∙ omega (arith, length-append (field 6 (length ss)) lists, field-length 6 (length ss))
