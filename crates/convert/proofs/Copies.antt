-- Bits copied from one row into another: a field, a byte off the two bytes that hold its bits, and what comes behind bits that
-- were copied. Assumes nothing.
use mathlib.Core.Path.{◌≡◌, refl, sym, ap, ◌∙◌, subst}
use mathlib.Core.Bool.{Bool}
use mathlib.Core.List.{List, [], ◌∷◌, ◌++◌}
use Prim.Native.Nat.{ℕ, ◌+◌, ◌-◌, ◌*◌, ◌/◌, ◌%◌, ◌^◌, ◌≤◌, ◌<◌}
use native.Mathlib.Nat.{mod-eq_of_lt}
use native.Mathlib.Numerals.{add-one}
use native.Mathlib.Omega.{arith}
use lib.ListN.{length, get_or, take, drop, set, length-take, length-drop}
use lib.Seq.{take-add, drop-drop, drop-cons}
use Rattle.model.specs.Fields.{Bytes, field, bits, value}
use Rattle.model.proofs.Accepted.{value-lt}
use Rattle.model.proofs.Bits.{field-value, bits-length}
use Rattle.fields.specs.Positions.{put_bits}
use Rattle.fields.proofs.Fields.{value-more, field_in}
use Rattle.fields.proofs.Puts.{put-append, put_byte}
use Rattle.convert.specs.Copies.{copied}

-- w bits that are there are a field of their number
pub record Taken (b : List Bool) (q w : ℕ) : Type 0 where
  pub long : length (take w (drop q b)) ≡ w
  pub small : value (take w (drop q b)) < 2 ^ w
  pub are : field w (value (take w (drop q b))) ≡ take w (drop q b)

pub taken : (b : List Bool) (q w : ℕ) → q + w ≤ length b → Taken b q w
taken b q w h =
    let bs : List Bool = take w (drop q b) in
    let l : length bs ≡ w = omega (arith, length-take w (drop q b), length-drop q b) in
    record { long = l; small = subst (λ (k : ℕ). value bs < 2 ^ k) l (value-lt bs); are = ap (λ (k : ℕ). field k (value bs)) (sym l) ∙ field-value bs }

module _ (from to : List ℕ) (at put : ℕ) where
  pub copied_is : (n : ℕ) → copied from at to put n ≡ put_bits to put (take n (drop at (bits from)))
  unfolding copied
  copied_is n = refl

  -- bits copied by other numbers that equal these
  pub as_copied : (n : ℕ) {x : List ℕ} {at₁ put₁ n₁ : ℕ} → x ≡ copied from at₁ to put₁ n₁ → at₁ ≡ at → put₁ ≡ put → n₁ ≡ n → x ≡ copied from at to put n
  as_copied n e ea ep en = cc

  -- n bits behind m that were copied
  pub copied_more : (m n : ℕ) → put + m ≤ 8 * length to → at + m ≤ 8 * length from → copied from (at + m) (copied from at to put m) (put + m) n ≡ copied from at to put (m + n)
  unfolding copied
  copied_more m n h l =
      let b : List Bool = bits from in
      let bs : List Bool = take m (drop at b) in
      let rest : List Bool = take n (drop (at + m) b) in
      let m_long = (taken b at m (omega (arith, bits-length from))).long in
      ap (λ (k : ℕ). put_bits (put_bits to put bs) (put + k) rest) (sym m_long)
      ∙ put-append to put bs rest (omega arith)
      ∙ ap (put_bits to put) (sym (take-add m n (drop at b) ∙ ap (λ (r : List Bool). bs ++ take n r) (drop-drop m at b)))

-- eight bits off the two bytes that hold them
pub eight : (s : List ℕ) (at : ℕ) → Bytes s → at / 8 + 2 ≤ length s → (get_or s (at / 8) 0 * 256 + get_or s (at / 8 + 1) 0) / 2 ^ (8 - at % 8) % 256 ≡ value (take 8 (drop at (bits s)))
unfolding bits value
eight s at h l =
    let i : ℕ = at / 8 in
    let a : ℕ = get_or s i 0 in
    let b : ℕ = get_or s (i + 1) 0 in
    let two : take 2 (drop i s) ≡ a ∷ b ∷ [] =
    ap (take 2) (drop-cons s i 0 (omega arith) ∙ ap (λ (k : ℕ). a ∷ drop k s) (sym (add-one i)) ∙ ap (λ (r : List ℕ). a ∷ r) (drop-cons s (i + 1) 0 (omega arith))) in
    let whole : value (bits (take 2 (drop i s))) ≡ a * 256 + b =
    ap (λ (r : List ℕ). value (bits r)) two ∙ value-more (a ∷ []) b (h (i + 1)) ∙ ap (λ (x : ℕ). x * 256 + b) (value-more [] a (h i)) ∙ omega arith in
    ap (λ (x : ℕ). x / 2 ^ (8 - at % 8) % 256) (sym whole) ∙ field_in s at 8 (8 - at % 8) 2 (omega arith) l

-- stored as a byte, they are copied
pub copied_byte : (from to : List ℕ) (at j v : ℕ) → Bytes to → j < length to → at + 8 ≤ 8 * length from → v ≡ value (take 8 (drop at (bits from))) → set to j v ≡ copied from at to (8 * j) 8
unfolding copied
copied_byte from to at j v h l there e =
    let t = taken (bits from) at 8 (omega (arith, bits-length from)) in
    let low : v % 256 ≡ v = mod-eq_of_lt (rw e t.small) in
    ap (set to j) (sym low) ∙ sym (put_byte to j v h l) ∙ ap (λ (x : ℕ). put_bits to (8 * j) (field 8 x)) e ∙ ap (put_bits to (8 * j)) t.are
