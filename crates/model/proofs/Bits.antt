-- Laws of fields, over the width: what was written as a field is taken off again, and what was taken off was written so;
-- bits as bytes, and bytes as bits. Assumes nothing.
use mathlib.Core.Path.{◌≡◌, refl, sym, ap, ap₂, ◌∙◌}
use mathlib.Core.Bool.{Bool, true, false, cond}
use mathlib.Core.List.{List, [], ◌∷◌, ◌++◌, append_assoc, append-nil}
use Prim.Native.Nat.{ℕ, zero, suc, ◌+◌, ◌-◌, ◌*◌, ◌/◌, ◌%◌, ◌^◌, ◌≤◌, ◌<◌}
use native.Mathlib.Omega.{arith}
use native.Mathlib.Nat.{mod-lt, mod-one, mod-eq_of_lt, mul-add-div_right, mul-add-mod_self_right, pow-suc, zero-lt-suc}
use lib.Dec.{ltb, leb, eqb}
use lib.Pow.{pow_pos, mod-pow-add, high}
use lib.ListN.{length, take, drop, replicate, length-append, length-take, length-drop, take-append-drop, length-replicate}
use lib.Seq.{take_at, drop_at, take-append-le, drop-append-le, take-append-add}
use borrow.Author.Tests.{ltb-true, lt-ltb, leb-true, le-leb}
use Rattle.model.specs.Outcome.{accepted}
use Rattle.model.specs.Fields.{Bytes, field, bits, value, take_field, zeros, only_fill, fill, bytes}
use Rattle.model.proofs.Order.{and_true, not_both, split}
use Rattle.model.proofs.Accepted.{required, accepted-same, value-lt}

pub field-length : (w n : ℕ) → length (field w n) ≡ w
unfolding field
field-length zero n = refl
field-length (suc w) n = ap suc (field-length w n)

-- a bit as a number
abbrev bit : Bool → ℕ
bit b = cond b 1 0

bit-of : (m : ℕ) → m < 2 → bit (eqb m 1) ≡ m
bit-of zero h = refl
bit-of (suc zero) h = refl
bit-of (suc (suc m)) h = absurd (omega arith)

of-bit : (b : Bool) → eqb (bit b % 2) 1 ≡ b
of-bit true = refl
of-bit false = refl

-- the bits of a number write it, as far as they reach
value-mod : (w n : ℕ) → value (field w n) ≡ n % 2 ^ w
unfolding field value
value-mod zero n = sym (mod-one n)
value-mod (suc w) n =
    ap₂ (λ (x y : ℕ). x * 2 ^ length (field w n) + y) (bit-of (n / 2 ^ w % 2) (mod-lt (n / 2 ^ w) (zero-lt-suc 1))) (value-mod w n)
    ∙ ap (λ (k : ℕ). n / 2 ^ w % 2 * 2 ^ k + n % 2 ^ w) (field-length w n)
    ∙ sym (mod-pow-add n 1 w) ∙ ap (λ (k : ℕ). n % 2 ^ k) (omega arith)

pub value-field : (w n : ℕ) → n < 2 ^ w → value (field w n) ≡ n
value-field w n h = value-mod w n ∙ mod-eq_of_lt h

-- higher bits do not show in a field
pub field_high : (w m n : ℕ) → field w (m * 2 ^ w + n) ≡ field w n
unfolding field
field_high zero m n = refl
field_high (suc w) m n =
    let twice : m * 2 ^ suc w ≡ m * 2 * 2 ^ w = rw (pow-suc 2 w) (omega arith) in
    let at : (m * 2 * 2 ^ w + n) / 2 ^ w % 2 ≡ n / 2 ^ w % 2 = rw (mul-add-div_right (pow_pos w) (m * 2) n) (mul-add-mod_self_right m 2 (n / 2 ^ w)) in
    rw twice (ap₂ (λ (x : ℕ) (r : List Bool). eqb x 1 ∷ r) at (field_high w (m * 2) n))

-- bits are the field of the number that they write
pub field-value : (bs : List Bool) → field (length bs) (value bs) ≡ bs
unfolding field value
field-value [] = refl
field-value (b ∷ bs) =
    ap₂ (λ (x : Bool) (r : List Bool). x ∷ r)
    (ap (λ (x : ℕ). eqb (x % 2) 1) (high (bit b) (length bs) (value-lt bs)) ∙ of-bit b)
    (field_high (length bs) (bit b) (value bs) ∙ field-value bs)

-- a field that was written is taken off
pub taken : (w n : ℕ) (rest : List Bool) → n < 2 ^ w → take_field w (field w n ++ rest) ≡ accepted (n, rest)
unfolding take_field
taken w n rest h =
    rw (le-leb w (length (field w n ++ rest)) (omega (arith, length-append (field w n) rest, field-length w n)), take_at (field w n) rest w (field-length w n), drop_at (field w n) rest w (field-length w n), value-field w n h)

-- and what was taken off was written
pub was_field : (w : ℕ) (bs : List Bool) (r : ℕ × List Bool) → take_field w bs ≡ accepted r → bs ≡ field w r.0 ++ r.1
unfolding take_field
was_field w bs r e =
    let a = required 1 (leb w (length bs)) _ r e in
    let q : (value (take w bs), drop w bs) ≡ r = accepted-same a.1 in
    let l : length (take w bs) ≡ w = omega (arith, length-take w bs, leb-true w (length bs) a.0) in
    let f : field w (value (take w bs)) ≡ take w bs = ap (λ (k : ℕ). field k (value (take w bs))) (sym l) ∙ field-value (take w bs) in
    rw (← q) (sym (ap (λ (l : List Bool). l ++ drop w bs) f ∙ take-append-drop w bs))

-- ---- bytes

take-replicate : (m n : ℕ) (b : Bool) → m ≤ n → take m (replicate n b) ≡ replicate m b
take-replicate zero n b h = refl
take-replicate (suc m) zero b h = absurd (omega arith)
take-replicate (suc m) (suc n) b h = ap (λ (r : List Bool). b ∷ r) (take-replicate m n b (omega arith))

-- the next eight bits, filled: of eight or more those, of fewer all with zeros behind them
eight-long : (bs : List Bool) → 8 ≤ length bs → take 8 (bs ++ replicate 7 false) ≡ take 8 bs
eight-long bs h = take-append-le 8 bs (replicate 7 false) h

eight-short : (bs : List Bool) (k : ℕ) → length bs + k ≡ 8 → k ≤ 7 → take 8 (bs ++ replicate 7 false) ≡ bs ++ replicate k false
eight-short bs k e h =
    ap (λ (n : ℕ). take n (bs ++ replicate 7 false)) (sym e) ∙ take-append-add bs (replicate 7 false) k ∙ ap (λ (r : List Bool). bs ++ r) (take-replicate k 7 false h)

-- bytes hold the bits and fewer than eight zeros
fill-bits : (n : ℕ) (bs : List Bool) (k : ℕ) → length bs + k ≡ 8 * n → k < 8 → bits (fill n bs) ≡ bs ++ replicate k false
unfolding bits fill
fill-bits zero [] zero e h = refl
fill-bits zero [] (suc k) e h = absurd (omega arith)
fill-bits zero (b ∷ bs) k e h = absurd (omega arith)
fill-bits (suc n) bs k e h = split (field 8 (value (take 8 (bs ++ replicate 7 false))) ++ bits (fill n (drop 8 bs)) ≡ bs ++ replicate k false) (length bs) 8 short (λ ge. long ge (fill-bits n (drop 8 bs) k (omega (arith, length-drop 8 bs)) h))
  where
    whole : (xs : List Bool) → length xs ≡ 8 → field 8 (value xs) ≡ xs
    whole xs l = ap (λ (w : ℕ). field w (value xs)) (sym l) ∙ field-value xs

    long : 8 ≤ length bs → bits (fill n (drop 8 bs)) ≡ drop 8 bs ++ replicate k false → field 8 (value (take 8 (bs ++ replicate 7 false))) ++ bits (fill n (drop 8 bs)) ≡ bs ++ replicate k false
    long ge ih =
        ap₂ (λ (x y : List Bool). x ++ y) (ap (λ (x : List Bool). field 8 (value x)) (eight-long bs ge) ∙ whole (take 8 bs) (omega (arith, length-take 8 bs))) ih
        ∙ sym (append_assoc (take 8 bs) (drop 8 bs) (replicate k false)) ∙ ap (λ (x : List Bool). x ++ replicate k false) (take-append-drop 8 bs)

    short : length bs < 8 → field 8 (value (take 8 (bs ++ replicate 7 false))) ++ bits (fill n (drop 8 bs)) ≡ bs ++ replicate k false
    short lt =
        let n0 : n ≡ 0 = omega arith in
        let k8 : length bs + k ≡ 8 = omega arith in
        ap₂ (λ (x y : List Bool). x ++ y)
        (ap (λ (x : List Bool). field 8 (value x)) (eight-short bs k k8 (omega arith)) ∙ whole (bs ++ replicate k false) (omega (arith, length-append bs (replicate k false), length-replicate k false)))
        (ap (λ (m : ℕ). bits (fill m (drop 8 bs))) n0)
        ∙ append-nil (bs ++ replicate k false)

pub record Filled (bs : List Bool) : Type 0 where
  pub zeros_behind : ℕ
  pub few : zeros_behind < 8
  pub are : bits (bytes bs) ≡ bs ++ replicate zeros_behind false

pub filled : (bs : List Bool) → Filled bs
unfolding bytes
filled bs = record { zeros_behind = 8 * ((length bs + 7) / 8) - length bs; few = omega arith; are = fill-bits ((length bs + 7) / 8) bs (8 * ((length bs + 7) / 8) - length bs) (omega arith) (omega arith) }

zeros-replicate : (k : ℕ) → zeros (replicate k false) ≡ true
unfolding zeros
zeros-replicate zero = refl
zeros-replicate (suc k) = zeros-replicate k

replicate-zeros : (bs : List Bool) → zeros bs ≡ true → bs ≡ replicate (length bs) false
unfolding zeros
replicate-zeros [] h = refl
replicate-zeros (true ∷ bs) h = absurd (not_both h refl)
replicate-zeros (false ∷ bs) h = ap (λ (r : List Bool). false ∷ r) (replicate-zeros bs h)

-- what fills a byte up is only fill
pub fill-only : (k : ℕ) → k < 8 → only_fill (replicate k false) ≡ true
unfolding only_fill
fill-only k h = cc (lt-ltb (length (replicate k false)) 8 (omega (arith, length-replicate k false)), zeros-replicate k)

pub bits-length : (bs : List ℕ) → length (bits bs) ≡ 8 * length bs
unfolding bits
bits-length [] = refl
bits-length (b ∷ bs) = omega (arith, length-append (field 8 b) (bits bs), field-length 8 b, bits-length bs)

-- how many bytes bits fill
pub bytes-length : (bs : List Bool) → length (bytes bs) ≡ (length bs + 7) / 8
bytes-length bs =
    let f = filled bs in
    omega (arith, f.few, ap length f.are, bits-length (bytes bs), length-append bs (replicate f.zeros_behind false), length-replicate f.zeros_behind false)

pub bits-append : (s t : List ℕ) → bits (s ++ t) ≡ bits s ++ bits t
unfolding bits
bits-append [] t = refl
bits-append (b ∷ s) t = ap (λ (l : List Bool). field 8 b ++ l) (bits-append s t) ∙ sym (append_assoc (field 8 b) (bits s) (bits t))

-- bytes are those of their bits less the fill
fill-bytes : (bs : List ℕ) → Bytes bs → (xs : List Bool) (k : ℕ) → k < 8 → bits bs ≡ xs ++ replicate k false → fill (length bs) xs ≡ bs
unfolding bits fill
fill-bytes [] h xs k lt e = refl
fill-bytes (b ∷ bs) h xs k lt e = split (value (take 8 (xs ++ replicate 7 false)) ∷ fill (length bs) (drop 8 xs) ≡ b ∷ bs) (length xs) 8 short (λ ge. long ge (fill-bytes bs (λ i. h (suc i)) (drop 8 xs) k lt))
  where
    sizes : 8 + 8 * length bs ≡ length xs + k
    sizes = omega (arith, ap length e, length-append (field 8 b) (bits bs), field-length 8 b, bits-length bs, length-append xs (replicate k false), length-replicate k false)

    long : 8 ≤ length xs → (bits bs ≡ drop 8 xs ++ replicate k false → fill (length bs) (drop 8 xs) ≡ bs) → value (take 8 (xs ++ replicate 7 false)) ∷ fill (length bs) (drop 8 xs) ≡ b ∷ bs
    long ge ih =
        let front : take 8 xs ≡ field 8 b = sym (take-append-le 8 xs (replicate k false) ge) ∙ ap (take 8) (sym e) ∙ take_at (field 8 b) (bits bs) 8 (field-length 8 b) in
        let rest : bits bs ≡ drop 8 xs ++ replicate k false = sym (drop_at (field 8 b) (bits bs) 8 (field-length 8 b)) ∙ ap (drop 8) e ∙ drop-append-le 8 xs (replicate k false) ge in
        ap₂ (λ (x : ℕ) (r : List ℕ). x ∷ r) (ap value (eight-long xs ge ∙ front) ∙ value-field 8 b (h 0)) (ih rest)

    short : length xs < 8 → value (take 8 (xs ++ replicate 7 false)) ∷ fill (length bs) (drop 8 xs) ≡ b ∷ bs
    short lt' =
        let last : length bs ≡ 0 = omega (arith, sizes) in
        let whole : xs ++ replicate k false ≡ field 8 b = sym e ∙ ap (λ (r : List ℕ). field 8 b ++ bits r) (empty bs last) ∙ append-nil (field 8 b) in
        ap₂ (λ (x : ℕ) (r : List ℕ). x ∷ r) (ap value (eight-short xs k (omega (arith, sizes)) (omega arith) ∙ whole) ∙ value-field 8 b (h 0)) (rw (empty bs last))
      where
        empty : (l : List ℕ) → length l ≡ 0 → l ≡ []
        empty [] h = refl
        empty (x ∷ l) h = absurd (omega arith)

-- bytes that hold such bits and only fill behind them are the bytes of those bits
pub bytes_are : (bs : List ℕ) → Bytes bs → (xs rest : List Bool) → bits bs ≡ xs ++ rest → only_fill rest ≡ true → bytes xs ≡ bs
unfolding bytes only_fill
bytes_are bs h xs rest e f =
    let p = and_true (ltb (length rest) 8) (zeros rest) f in
    let k : length rest < 8 = ltb-true (length rest) 8 p.0 in
    let n : (length xs + 7) / 8 ≡ length bs = omega (arith, ap length e, bits-length bs, length-append xs rest) in
    ap (λ (m : ℕ). fill m xs) n ∙ fill-bytes bs h xs (length rest) k (e ∙ ap (λ (r : List Bool). xs ++ r) (replicate-zeros rest p.1))
