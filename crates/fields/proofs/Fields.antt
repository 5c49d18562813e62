-- Laws of fields at bit positions, over the width. The bits of a row are one list, so a field is a part of it, and the
-- number that bits write splits where the list splits. Assumes nothing.
use mathlib.Core.Path.{◌≡◌, refl, sym, ap, ap₂, ◌∙◌, subst}
use mathlib.Core.Bool.{Bool, true, false, cond}
use mathlib.Core.List.{List, [], ◌∷◌, ◌++◌, append_assoc, append-nil}
use Prim.Native.Nat.{ℕ, zero, suc, ◌+◌, ◌-◌, ◌*◌, ◌/◌, ◌%◌, ◌^◌, ◌≤◌, ◌<◌}
use native.Mathlib.Nat.{add_assoc, add_comm, zero-add, zero-mul, mul_assoc}
use native.Mathlib.Omega.{arith}
use lib.Dec.{leb, eqb}
use lib.Pow.{pow_pos, pow-add, shr-shr, high, low}
use lib.ListN.{length, take, drop, length-append, length-take, length-drop}
use lib.Seq.{take-add, drop-drop, drop-nil, take-nil, take-append-add, drop-append-add}
use Rattle.model.specs.Outcome.{accepted, require, ◌>>◌}
use Rattle.model.specs.Fields.{field, bits, value, take_field, zeros}
use Rattle.model.proofs.Accepted.{value-lt, required, accepted-same}
use Rattle.model.proofs.Bits.{field-length, field_high, value-field, bits-length, bits-append}
use Rattle.model.proofs.Sources.{seen, tested}
use borrow.Author.Tests.{leb-true, ne_eqb}
use Rattle.fields.specs.Positions.{take_at}

-- ---- numbers that bits write

pub value-append : (xs ys : List Bool) → value (xs ++ ys) ≡ value xs * 2 ^ length ys + value ys
unfolding value
value-append [] ys = rw (zero-mul, zero-add)
value-append (x ∷ xs) ys =
    let b : ℕ = cond x 1 0 in
    let p : 2 ^ length (xs ++ ys) ≡ 2 ^ length xs * 2 ^ length ys = ap (λ (n : ℕ). 2 ^ n) (length-append xs ys) ∙ pow-add 2 (length xs) (length ys) in
    ap₂ (λ (m n : ℕ). b * m + n) p (value-append xs ys)
    ∙ ap (λ (m : ℕ). m + (value xs * 2 ^ length ys + value ys)) (sym (mul_assoc b (2 ^ length xs) (2 ^ length ys)))
    ∙ regroup (b * 2 ^ length xs) (value xs) (2 ^ length ys) (value ys)
  where
    regroup : (a c m d : ℕ) → a * m + (c * m + d) ≡ (a + c) * m + d
    regroup a c m d = omega arith

-- the number in the middle of the one that three pieces write
pub value_middle : (xs ys zs : List Bool) → value (xs ++ (ys ++ zs)) / 2 ^ length zs % 2 ^ length ys ≡ value ys
value_middle xs ys zs =
    ap (λ (l : List Bool). value l / 2 ^ length zs % 2 ^ length ys) (sym (append_assoc xs ys zs))
    ∙ ap (λ (n : ℕ). n / 2 ^ length zs % 2 ^ length ys) (value-append (xs ++ ys) zs)
    ∙ ap (λ (n : ℕ). n % 2 ^ length ys) (high (value (xs ++ ys)) (length zs) (value-lt zs) ∙ value-append xs ys)
    ∙ low (value xs) (length ys) (value-lt ys)

-- the bits of a number are those above its b low bits, then these
pub field-split : (a b n : ℕ) → field (a + b) n ≡ field a (n / 2 ^ b) ++ field b n
unfolding field
field-split zero b n = rw zero-add
field-split (suc a) b n =
    let more : suc a + b ≡ suc (a + b) = omega arith in
    ap (λ (k : ℕ). field k n) more
    ∙ ap₂ (λ (x : ℕ) (l : List Bool). eqb (x % 2) 1 ∷ l) (ap (λ (k : ℕ). n / 2 ^ k) (add_comm a b) ∙ sym (shr-shr n b a)) (field-split a b n)

-- two fields side by side are one
pub field-join : (a b m n : ℕ) → n < 2 ^ b → field (a + b) (m * 2 ^ b + n) ≡ field a m ++ field b n
field-join a b m n h = field-split a b (m * 2 ^ b + n) ∙ ap₂ (λ (k : ℕ) (l : List Bool). field a k ++ l) (high m b h) (field_high b m n)

-- ---- bits of bytes

pub bits-drop : (n : ℕ) (s : List ℕ) → drop (8 * n) (bits s) ≡ bits (drop n s)
unfolding bits
bits-drop zero s = refl
bits-drop (suc n) [] = drop-nil (8 * suc n)
bits-drop (suc n) (b ∷ s) =
    let m : 8 * suc n ≡ length (field 8 b) + 8 * n = omega (arith, field-length 8 b) in
    ap (λ (m : ℕ). drop m (field 8 b ++ bits s)) m ∙ drop-append-add (field 8 b) (bits s) (8 * n) ∙ bits-drop n s

pub bits-take : (n : ℕ) (s : List ℕ) → take (8 * n) (bits s) ≡ bits (take n s)
unfolding bits
bits-take zero s = refl
bits-take (suc n) [] = take-nil (8 * suc n)
bits-take (suc n) (b ∷ s) =
    let m : 8 * suc n ≡ length (field 8 b) + 8 * n = omega (arith, field-length 8 b) in
    ap (λ (m : ℕ). take m (field 8 b ++ bits s)) m ∙ take-append-add (field 8 b) (bits s) (8 * n)
    ∙ ap (λ (l : List Bool). field 8 b ++ l) (bits-take n s)

-- one more byte
pub value-more : (s : List ℕ) (b : ℕ) → b < 256 → value (bits (s ++ (b ∷ []))) ≡ value (bits s) * 256 + b
unfolding bits
value-more s b h =
    ap value (bits-append s (b ∷ []) ∙ ap (λ (l : List Bool). bits s ++ l) (append-nil (field 8 b)))
    ∙ value-append (bits s) (field 8 b) ∙ ap₂ (λ (k v : ℕ). value (bits s) * 2 ^ k + v) (field-length 8 b) (value-field 8 b h)

-- ---- the bytes that hold a field

-- the n bytes from the one in which the position `at` lies on: the bits before the field, the field, and those behind it
abbrev pub before : List ℕ → ℕ → List Bool
before s at = take (at % 8) (drop (8 * (at / 8)) (bits s))

abbrev pub behind : List ℕ → ℕ → ℕ → ℕ → List Bool
behind s at w e = take e (drop (at + w) (bits s))

module _ (s : List ℕ) (at w e n : ℕ) (all : at % 8 + w + e ≡ 8 * n) (there : at / 8 + n ≤ length s) where
  pub held : bits (take n (drop (at / 8) s)) ≡ before s at ++ (take w (drop at (bits s)) ++ behind s at w e)
  held =
      let l : List Bool = drop (8 * (at / 8)) (bits s) in
      let here : 8 * (at / 8) + at % 8 ≡ at = omega arith in
      sym (bits-take n (drop (at / 8) s)) ∙ ap (take (8 * n)) (sym (bits-drop (at / 8) s))
      ∙ ap (λ (m : ℕ). take m l) (sym all ∙ add_assoc (at % 8) w e)
      ∙ take-add (at % 8) (w + e) l
      ∙ ap (λ (r : List Bool). before s at ++ take (w + e) r) (drop-drop (at % 8) (8 * (at / 8)) (bits s) ∙ ap (λ (m : ℕ). drop m (bits s)) here)
      ∙ ap (λ (r : List Bool). before s at ++ r) (take-add w e (drop at (bits s)) ∙ ap (λ (r : List Bool). take w (drop at (bits s)) ++ take e r) (drop-drop w at (bits s)))

  pub behind-length : length (behind s at w e) ≡ e
  behind-length = omega (arith, length-take e (drop (at + w) (bits s)), length-drop (at + w) (bits s), bits-length s)

  pub field-there : length (take w (drop at (bits s))) ≡ w
  field-there = omega (arith, length-take w (drop at (bits s)), length-drop at (bits s), bits-length s)

  -- a field is a shift and a mask of the number that those bytes write
  pub field_in : value (bits (take n (drop (at / 8) s))) / 2 ^ e % 2 ^ w ≡ value (take w (drop at (bits s)))
  field_in =
      ap (λ (b : List Bool). value b / 2 ^ e % 2 ^ w) held
      ∙ ap₂ (λ (a b : ℕ). value (before s at ++ (take w (drop at (bits s)) ++ behind s at w e)) / 2 ^ a % 2 ^ b) (sym behind-length) (sym field-there)
      ∙ value_middle (before s at) (take w (drop at (bits s))) (behind s at w e)

  -- so are the bits before it and behind it
  pub before_in : value (bits (take n (drop (at / 8) s))) / 2 ^ (w + e) ≡ value (before s at)
  before_in =
      let r : List Bool = take w (drop at (bits s)) ++ behind s at w e in
      let l : length r ≡ w + e = omega (arith, length-append (take w (drop at (bits s))) (behind s at w e), behind-length, field-there) in
      ap (λ (b : List Bool). value b / 2 ^ (w + e)) held ∙ ap₂ (λ (m k : ℕ). m / 2 ^ k) (value-append (before s at) r) (sym l)
      ∙ high (value (before s at)) (length r) (value-lt r)

  pub behind_in : value (bits (take n (drop (at / 8) s))) % 2 ^ e ≡ value (behind s at w e)
  behind_in =
      let r : List Bool = before s at ++ take w (drop at (bits s)) in
      ap (λ (b : List Bool). value b % 2 ^ e) (held ∙ sym (append_assoc (before s at) (take w (drop at (bits s))) (behind s at w e)))
      ∙ ap₂ (λ (m k : ℕ). m % 2 ^ k) (value-append r (behind s at w e)) (sym behind-length)
      ∙ low (value r) (length (behind s at w e)) (value-lt (behind s at w e))

  pub before-lt : value (before s at) < 2 ^ (at % 8)
  before-lt =
      let l : length (before s at) ≡ at % 8 = omega (arith, length-take (at % 8) (drop (8 * (at / 8)) (bits s)), length-drop (8 * (at / 8)) (bits s), bits-length s) in
      subst (λ (k : ℕ). value (before s at) < 2 ^ k) l (value-lt (before s at))

-- ---- zero bits

pub zeros-value : (bs : List Bool) → zeros bs ≡ eqb (value bs) 0
unfolding zeros value
zeros-value [] = refl
zeros-value (true ∷ bs) = sym (ne_eqb (1 * 2 ^ length bs + value bs) 0 (λ e. omega (arith, pow_pos (length bs))))
zeros-value (false ∷ bs) = rw (zero-mul, zero-add) (zeros-value bs)

-- ---- what was taken

-- the position behind a field, and its bound
pub record Took (s : List ℕ) (w p : ℕ) (r : ℕ × ℕ) : Type 0 where
  pub next : r.1 ≡ p + w
  pub small : r.0 < 2 ^ w
  pub inside : w ≤ 8 * length s - p

pub took : (s : List ℕ) (w p : ℕ) (r : ℕ × ℕ) → take_at s w p ≡ accepted r → Took s w p r
unfolding take_at
took s w p r e =
    let a = required 1 (leb w (8 * length s - p)) _ r e in
    let q : (value (take w (drop p (bits s))), p + w) ≡ r = accepted-same a.1 in
    let fits : w ≤ 8 * length s - p = leb-true w (8 * length s - p) a.0 in
    let l : length (take w (drop p (bits s))) ≡ w = omega (arith, length-take w (drop p (bits s)), length-drop p (bits s), bits-length s) in
    let small : value (take w (drop p (bits s))) < 2 ^ w = subst (λ (k : ℕ). value (take w (drop p (bits s))) < 2 ^ k) l (value-lt (take w (drop p (bits s)))) in
    rw (← q) (record { next = refl; small = small; inside = fits })

-- a field off a position is a field off the bits from there on
pub taken-there : (s : List ℕ) (w p : ℕ) → take_field w (drop p (bits s)) ≡ seen (λ (q : ℕ). drop q (bits s)) (take_at s w p)
unfolding take_at take_field seen
taken-there s w p =
    let l : length (drop p (bits s)) ≡ 8 * length s - p = length-drop p (bits s) ∙ ap (λ (n : ℕ). n - p) (bits-length s) in
    ap (λ (n : ℕ). require 1 (leb w n) >> accepted (value (take w (drop p (bits s))), drop w (drop p (bits s)))) l
    ∙ ap (λ (r : List Bool). require 1 (leb w (8 * length s - p)) >> accepted (value (take w (drop p (bits s))), r)) (drop-drop w p (bits s))
    ∙ tested (λ (q : ℕ). drop q (bits s)) 1 (leb w (8 * length s - p)) (accepted (value (take w (drop p (bits s))), p + w)) refl
