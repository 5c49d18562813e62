-- Laws of `put_bits`: bits are put into a row piece by piece as at once, a byte is a store, and a field is put by storing
-- the bytes that hold it. Assumes nothing.
use mathlib.Core.Path.{◌≡◌, refl, sym, ap, ap₂, ◌∙◌, subst}
use mathlib.Core.Bool.{Bool, false}
use mathlib.Core.List.{List, [], ◌∷◌, ◌++◌, append_assoc, append-nil}
use Prim.Native.Nat.{ℕ, zero, suc, ◌+◌, ◌*◌, ◌/◌, ◌%◌, ◌^◌, ◌≤◌, ◌<◌}
use native.Mathlib.Nat.{zero-div, mod-lt, zero-lt-suc, lt_of_lt_of_le}
use native.Mathlib.Omega.{arith}
use lib.Pow.{split, pow_mono}
use lib.ListN.{length, take, drop, set, replicate, length-append, length-replicate, length-take, length-drop}
use lib.Dec.{eqb}
use lib.Seq.{set_split, get_or-drop}
use Rattle.model.specs.Fields.{Bytes, field, bits, value, fill, bytes}
use Rattle.model.proofs.Bits.{field-length, field_high, field-value, filled, fill-only, bytes_are, bits-length, bytes-length, bits-append}
use Rattle.model.proofs.Accepted.{value-lt}
use Rattle.fields.specs.Rows.{lay}
use Rattle.fields.specs.Positions.{put_bits}
use Rattle.fields.proofs.Rows.{lay-nil, lay-length, lay-append, lay_around}
use Rattle.fields.proofs.Fields.{field-split, field-join, bits-drop, bits-take, before, behind, behind-length}

-- whole bytes of bits
bits-bytes : (bs : List Bool) (n : ℕ) → length bs ≡ 8 * n → bits (bytes bs) ≡ bs
bits-bytes bs n h =
    let f = filled bs in
    let none : f.zeros_behind ≡ 0 = omega (arith, f.few, ap length f.are, bits-length (bytes bs), length-append bs (replicate f.zeros_behind false), length-replicate f.zeros_behind false) in
    f.are ∙ ap (λ (k : ℕ). bs ++ replicate k false) none ∙ append-nil bs

pub bytes_bits : (s : List ℕ) → Bytes s → bytes (bits s) ≡ s
bytes_bits s h = bytes_are s h (bits s) [] (sym (append-nil (bits s))) (fill-only 0 (zero-lt-suc 7))

-- bytes are below 256
fill_small : (n : ℕ) (bs : List Bool) → Bytes (fill n bs)
unfolding fill
fill_small zero bs i = zero-lt-suc 255
fill_small (suc n) bs zero =
    let eight : List Bool = take 8 (bs ++ replicate 7 false) in
    let few : length eight ≤ 8 = omega (arith, length-take 8 (bs ++ replicate 7 false)) in
    lt_of_lt_of_le (value-lt eight) (pow_mono few)
fill_small (suc n) bs (suc i) = fill_small n (drop 8 bs) i

bytes_small : (bs : List Bool) → Bytes (bytes bs)
unfolding bytes
bytes_small bs = fill_small _ bs

pub put_small : (s : List ℕ) (p : ℕ) (bs : List Bool) → Bytes (put_bits s p bs)
unfolding put_bits
put_small s p bs = bytes_small (lay (bits s) p bs)

-- ---- bits are put piece by piece as at once

put_is : (s : List ℕ) (p : ℕ) (bs : List Bool) → put_bits s p bs ≡ bytes (lay (bits s) p bs)
unfolding put_bits
put_is s p bs = refl

pub put-nil : (s : List ℕ) (p : ℕ) → Bytes s → put_bits s p [] ≡ s
unfolding put_bits
put-nil s p h = ap bytes (lay-nil (bits s) p) ∙ bytes_bits s h

pub bits_put : (s : List ℕ) (p : ℕ) (bs : List Bool) → p + length bs ≤ 8 * length s → bits (put_bits s p bs) ≡ lay (bits s) p bs
unfolding put_bits
bits_put s p bs h = bits-bytes (lay (bits s) p bs) (length s) (lay-length (bits s) p bs (rw bits-length h) ∙ bits-length s)

pub put-append : (s : List ℕ) (p : ℕ) (xs ys : List Bool) → p + length xs ≤ 8 * length s → put_bits (put_bits s p xs) (p + length xs) ys ≡ put_bits s p (xs ++ ys)
put-append s p xs ys h =
    put_is (put_bits s p xs) (p + length xs) ys
    ∙ ap (λ (b : List Bool). bytes (lay b (p + length xs) ys)) (bits_put s p xs h)
    ∙ ap bytes (lay-append (bits s) p xs ys (rw bits-length (omega arith)))
    ∙ sym (put_is s p (xs ++ ys))

-- two pieces that are put one behind the other
pub put_two : (s : List ℕ) (at a : ℕ) (xs ys : List Bool) {r t : List ℕ} → length xs ≡ a → at + a ≤ 8 * length s → r ≡ put_bits s at xs → t ≡ put_bits r (at + a) ys → t ≡ put_bits s at (xs ++ ys)
put_two s at a xs ys l h er et =
    et ∙ ap₂ (λ (row : List ℕ) (p : ℕ). put_bits row p ys) er (ap (λ (k : ℕ). at + k) (sym l)) ∙ put-append s at xs ys (rw l h)

-- ---- a byte is a store

pub set_small : (s : List ℕ) (j b : ℕ) → Bytes s → b < 256 → Bytes (set s j b)
set_small [] j b h l i = h i
set_small (x ∷ s) zero b h l zero = l
set_small (x ∷ s) zero b h l (suc i) = h (suc i)
set_small (x ∷ s) (suc j) b h l zero = h zero
set_small (x ∷ s) (suc j) b h l (suc i) = set_small s j b (λ k. h (suc k)) l i

pub put_byte : (s : List ℕ) (j v : ℕ) → Bytes s → j < length s → put_bits s (8 * j) (field 8 v) ≡ set s j (v % 256)
unfolding put_bits lay bits
put_byte s j v h l =
    let low : field 8 v ≡ field 8 (v % 256) = ap (field 8) (sym (split v 8)) ∙ field_high 8 (v / 256) (v % 256) in
    let next : 8 * j + length (field 8 v) ≡ 8 * suc j = omega (arith, field-length 8 v) in
    let there : lay (bits s) (8 * j) (field 8 v) ≡ bits (set s j (v % 256)) =
    ap₂ (λ (f b : List Bool). f ++ (field 8 v ++ b)) (bits-take j s) (ap (λ (n : ℕ). drop n (bits s)) next ∙ bits-drop (suc j) s)
    ∙ ap (λ (f : List Bool). bits (take j s) ++ (f ++ bits (drop (suc j) s))) low
    ∙ sym (bits-append (take j s) (v % 256 ∷ drop (suc j) s))
    ∙ ap bits (sym (set_split s j (v % 256) l)) in
    ap bytes there ∙ bytes_bits (set s j (v % 256)) (set_small s j (v % 256) h (mod-lt v (zero-lt-suc 255)))

-- one turn of putting bytes, the most significant first: m more come behind this one
pub put-turn : (s : List ℕ) (j m x : ℕ) → Bytes s → j < length s
    → put_bits s (8 * j) (field (8 * suc m) x) ≡ put_bits (set s j (x / 2 ^ (8 * m) % 256)) (8 * suc j) (field (8 * m) x)
put-turn s j m x h l =
    let one : 8 * suc m ≡ 8 + 8 * m = omega arith in
    let top : ℕ = x / 2 ^ (8 * m) in
    let next : 8 * j + length (field 8 top) ≡ 8 * suc j = omega (arith, field-length 8 top) in
    ap (λ (k : ℕ). put_bits s (8 * j) (field k x)) one ∙ ap (put_bits s (8 * j)) (field-split 8 (8 * m) x)
    ∙ sym (put-append s (8 * j) (field 8 top) (field (8 * m) x) (omega arith))
    ∙ ap₂ (λ (t : List ℕ) (p : ℕ). put_bits t p (field (8 * m) x)) (put_byte s j top h l) next

-- ---- a field is put with the bytes that hold it

pub put-held : (s : List ℕ) (at w e n v : ℕ) → at % 8 + w + e ≡ 8 * n → at / 8 + n ≤ length s → v < 2 ^ w
    → put_bits s (8 * (at / 8)) (field (8 * n) ((value (before s at) * 2 ^ w + v) * 2 ^ e + value (behind s at w e))) ≡ put_bits s at (field w v)
put-held s at w e n v all there small =
    let b : List Bool = before s at in
    let z : List Bool = behind s at w e in
    let first : ℕ = 8 * (at / 8) in
    let off : length b ≡ at % 8 = omega (arith, length-take (at % 8) (drop first (bits s)), length-drop first (bits s), bits-length s) in
    let here : first + at % 8 ≡ at = omega arith in
    let whole : field (8 * n) ((value b * 2 ^ w + v) * 2 ^ e + value z) ≡ b ++ (field w v ++ z) =
    ap (λ (k : ℕ). field k ((value b * 2 ^ w + v) * 2 ^ e + value z)) (sym all)
    ∙ field-join (at % 8 + w) e (value b * 2 ^ w + v) (value z) (subst (λ (k : ℕ). value z < 2 ^ k) (behind-length s at w e n all there) (value-lt z))
    ∙ ap₂ (λ (f g : List Bool). f ++ g) (field-join (at % 8) w (value b) v small) (ap (λ (k : ℕ). field k (value z)) (sym (behind-length s at w e n all there)) ∙ field-value z)
    ∙ ap (λ (f : List Bool). (f ++ field w v) ++ z) (ap (λ (k : ℕ). field k (value b)) (sym off) ∙ field-value b)
    ∙ append_assoc b (field w v) z in
    let lift : at + w ≡ first + at % 8 + length (field w v) = omega (arith, field-length w v) in
    put_is s first _ ∙ ap (λ (l : List Bool). bytes (lay (bits s) first l)) (whole ∙ ap (λ (k : ℕ). b ++ (field w v ++ take e (drop k (bits s)))) lift)
    ∙ ap bytes (lay_around (bits s) first (at % 8) e (field w v) (omega (arith, field-length w v, bits-length s)))
    ∙ ap (λ (k : ℕ). bytes (lay (bits s) k (field w v))) here ∙ sym (put_is s at (field w v))

-- ---- bits put from the start of a row, and zero bits behind them up to a whole byte

pub zero_field : (k : ℕ) → field k 0 ≡ replicate k false
unfolding field
zero_field zero = refl
zero_field (suc k) = ap₂ (λ (n : ℕ) (l : List Bool). eqb (n % 2) 1 ∷ l) (zero-div (2 ^ k)) (zero_field k)

both_small : (s t : List ℕ) → Bytes s → Bytes t → Bytes (s ++ t)
both_small [] t hs ht i = ht i
both_small (b ∷ s) t hs ht zero = hs zero
both_small (b ∷ s) t hs ht (suc i) = both_small s t (λ j. hs (suc j)) ht i

drop_small : (n : ℕ) (s : List ℕ) → Bytes s → Bytes (drop n s)
drop_small n s h i = rw (get_or-drop n s i 0) (h (n + i))

pub put_whole : (s : List ℕ) (bs : List Bool) (k : ℕ) → Bytes s → length bs + k ≡ 8 * length (bytes bs) → length (bytes bs) ≤ length s
    → put_bits s 0 (bs ++ field k 0) ≡ bytes bs ++ drop (length (bytes bs)) s
unfolding lay
put_whole s bs k h e l =
    let n : ℕ = length (bytes bs) in
    let f = filled bs in
    let same : k ≡ f.zeros_behind = omega (arith, ap length f.are, bits-length (bytes bs), length-append bs (replicate f.zeros_behind false), length-replicate f.zeros_behind false) in
    let full : bs ++ field k 0 ≡ bits (bytes bs) = ap (λ (z : List Bool). bs ++ z) (zero_field k ∙ ap (λ (j : ℕ). replicate j false) same) ∙ sym f.are in
    let next : 0 + length (bits (bytes bs)) ≡ 8 * n = omega (arith, bits-length (bytes bs)) in
    put_is s 0 (bs ++ field k 0) ∙ ap (λ (b : List Bool). bytes (lay (bits s) 0 b)) full
    ∙ ap bytes (ap (λ (j : ℕ). bits (bytes bs) ++ drop j (bits s)) next ∙ ap (λ (b : List Bool). bits (bytes bs) ++ b) (bits-drop n s) ∙ sym (bits-append (bytes bs) (drop n s)))
    ∙ bytes_bits (bytes bs ++ drop n s) (both_small (bytes bs) (drop n s) (bytes_small bs) (drop_small n s h))

-- a field at the start of a row, bits behind it, and zero bits up to a whole byte, put one behind the other
pub put-filled : (s : List ℕ) (w v : ℕ) (bs : List Bool) (k : ℕ) {a b c : List ℕ} {next : ℕ} → Bytes s → length (bytes (field w v ++ bs)) ≤ length s
    → a ≡ put_bits s 0 (field w v) → b ≡ put_bits a w bs → next ≡ w + length bs → c ≡ put_bits b next (field k 0) → next + k ≡ 8 * length (bytes (field w v ++ bs))
    → c ≡ bytes (field w v ++ bs) ++ drop (length (bytes (field w v ++ bs))) s
put-filled s w v bs k {a} {b} {c} {next} h room ea eb en ec e =
    let n : List Bool = field w v in
    let all : List Bool = n ++ bs in
    let wide : w ≡ 0 + length n = omega (arith, field-length w v) in
    let long : next ≡ 0 + length all = omega (arith, length-append n bs, field-length w v) in
    let fits = bytes-length all in
    ec
    ∙ ap₂ (λ (row : List ℕ) (p : ℕ). put_bits row p (field k 0)) (eb ∙ ap₂ (λ (row : List ℕ) (p : ℕ). put_bits row p bs) ea wide ∙ put-append s 0 n bs (omega (arith, length-append n bs))) long
    ∙ put-append s 0 all (field k 0) (omega arith) ∙ put_whole s all k h (omega arith) room
