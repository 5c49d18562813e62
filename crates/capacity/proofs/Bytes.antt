-- The most bits of lists by their lengths, one by one, and what they can come to. Assumes nothing.
use mathlib.Core.Path.{◌≡◌, refl, sym, ap, ◌∙◌}
use mathlib.Core.Bool.{Bool, true, false, cond}
use mathlib.Core.List.{List, [], ◌∷◌, map, flat_map}
use Prim.Native.Nat.{ℕ, suc, ◌+◌, ◌*◌, ◌≤◌, ◌<◌}
use native.Mathlib.Nat.{mul-suc}
use native.Mathlib.Numerals.{add-one}
use native.Mathlib.Omega.{arith}
use lib.ListN.{length, get_or, drop, drop_of_length-le, length-append}
use lib.Seq.{drop-cons}
use Rattle.model.specs.Lists.{delivered}
use Rattle.model.specs.Delivery.{largest_gap, width, undelivered, came, supplied_numbers, by_bit, list_bits, list_size, delivery, supplied_from, supplied}
use Rattle.model.specs.Bounds.{most_bits, most_bytes}
use Rattle.model.specs.RequestFour.{Widest}
use Rattle.model.proofs.Order.{Up}
use Rattle.model.proofs.Bits.{field-length}
use Rattle.model.proofs.Sizes.{gaps_width, size_none, size-one, list_size-is, list_size-most, came-head, undelivered-bits, delivery-length}

pub bits_left : (ns : List ℕ) (k : ℕ) → k < length ns → most_bits (drop k ns) ≡ list_size 17 (get_or ns k 0) 32 + most_bits (drop (k + 1) ns)
unfolding most_bits
bits_left ns k h = rw (drop-cons ns k 0 h, add-one k)

pub bits-end : (ns : List ℕ) (k : ℕ) → length ns ≤ k → most_bits (drop k ns) ≡ 0
unfolding most_bits
bits-end ns k h = rw (drop_of_length-le ns h)

-- a list of 65,535 takes 2,097,142
list-within : (n : ℕ) → n ≤ 65535 → list_size 17 n 32 ≤ 2097142
unfolding list_size
list-within n h = omega arith

pub bits-within : (ns : List ℕ) → ((k : ℕ) → get_or ns k 0 ≤ 65535) → most_bits ns ≤ 2097142 * length ns
unfolding most_bits
bits-within [] h = omega arith
bits-within (n ∷ ns) h = omega (arith, list-within n (h 0), bits-within ns (λ k. h (suc k)), mul-suc 2097142 (length ns))

-- ---- a delivery of lists of these lengths

-- a list takes no more than with a width of 32, and one that did not come a bit alone
list-most : (b : Bool) (l : List ℕ) → Up 0 l → length (list_bits by_bit (cond b (came l) undelivered)) ≤ list_size 17 (length l) 32
unfolding supplied_numbers list_size
list-most true l u = rw (came-head l) at (list_size-most by_bit (came l) u)
list-most false l u = omega (arith, ap length undelivered-bits, field-length 1 0)

lists-most : (word k : ℕ) (ls : List (List ℕ)) → ((k : ℕ) → Up 0 (get_or ls k [])) → length (flat_map (list_bits by_bit) (supplied_from word k ls)) ≤ most_bits (map length ls)
unfolding supplied_from flat_map most_bits
lists-most word k [] up = omega arith
lists-most word k (l ∷ ls) up =
    let a = cond (delivered word k) (came l) undelivered in
    omega (arith, length-append (list_bits by_bit a) (flat_map (list_bits by_bit) (supplied_from word (suc k) ls)), list-most (delivered word k) l (up 0), lists-most word (suc k) ls (λ i. up (suc i)))

-- and just so much where it came and its gaps have 32 bits
list_exact : (l : List ℕ) → Widest l → length (list_bits by_bit (came l)) ≡ list_size 17 (length l) 32
unfolding supplied_numbers gaps_width
list_exact l w = list_size-is by_bit (came l) ∙ ap (λ (n : ℕ). list_size n (length l) (gaps_width l)) (came-head l) ∙ go l w
  where
    go : (l : List ℕ) → Widest l → list_size 17 (length l) (gaps_width l) ≡ list_size 17 (length l) 32
    go [] w = size_none 17 (width 0) ∙ sym (size_none 17 32)
    go (x ∷ []) w = size-one 17 (width (largest_gap x [])) ∙ sym (size-one 17 32)
    go (x ∷ y ∷ ys) w = ap (list_size 17 (length (x ∷ y ∷ ys))) w

lists_exact : (word k : ℕ) (ls : List (List ℕ)) → ((i : ℕ) → i < length ls → (delivered word (k + i) ≡ true) × Widest (get_or ls i [])) → length (flat_map (list_bits by_bit) (supplied_from word k ls)) ≡ most_bits (map length ls)
unfolding supplied_from flat_map most_bits
lists_exact word k [] h = refl
lists_exact word k (l ∷ ls) h =
    let here = h 0 (omega arith) in
    let came_here : delivered word k ≡ true = ap (delivered word) (omega arith) ∙ here.0 in
    rw came_here (omega (arith, length-append (list_bits by_bit (came l)) (flat_map (list_bits by_bit) (supplied_from word (suc k) ls)), list_exact l here.1, lists_exact word (suc k) ls (λ i q. let a = h (suc i) (omega arith) in (ap (delivered word) (omega arith) ∙ a.0, a.1))))

pub delivery-most : (word : ℕ) (ls : List (List ℕ)) → ((k : ℕ) → Up 0 (get_or ls k [])) → length (delivery (supplied word ls)) ≤ most_bytes (map length ls)
unfolding most_bytes
delivery-most word ls up = omega (arith, delivery-length (supplied word ls), lists-most word 0 ls up)

pub delivery_exact : (word : ℕ) (ls : List (List ℕ)) → ((k : ℕ) → k < length ls → (delivered word k ≡ true) × Widest (get_or ls k [])) → length (delivery (supplied word ls)) ≡ most_bytes (map length ls)
unfolding most_bytes
delivery_exact word ls h = omega (arith, delivery-length (supplied word ls), lists_exact word 0 ls (λ i q. let a = h i q in (ap (delivered word) (omega arith) ∙ a.0, a.1)))
