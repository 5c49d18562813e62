-- The text, digit by digit and line by line, and how long it can be. Assumes nothing.
use mathlib.Core.Path.{◌≡◌, sym, ap, ap₂, ◌∙◌}
use mathlib.Core.Bool.{Bool, true, false, cond}
use mathlib.Core.List.{List, [], ◌∷◌, ◌++◌, append_assoc}
use Prim.Native.Nat.{ℕ, zero, suc, ◌+◌, ◌*◌, ◌/◌, ◌%◌, ◌^◌, ◌≤◌, ◌<◌}
use native.Mathlib.Nat.{zero-add, pow-suc}
use native.Mathlib.Numerals.{add-one}
use native.Mathlib.Omega.{arith}
use borrow.Author.Tests.{lt-ltb, le-ltb}
use lib.Dec.{ltb}
use lib.ListN.{length, get_or, take, drop, length-append, drop_of_length-le}
use lib.Seq.{drop-cons, drop-drop}
use borrow.Rule.Slice.PartMut.{put_mid}
use Rattle.std.specs.Fmt.{decimal as printed}
use Rattle.std.proofs.lemmas.Fmt.{decimal_by_steps}
use Rattle.fields.specs.Rows.{lay}
use Rattle.fields.proofs.Rows.{lay-length, lay-append, lay-take}
use Rattle.report.specs.Text.{digits, decimal, line, lines}

-- ---- pieces laid

-- a part that is written over whole
pub laid_mid : (row part xs : List ℕ) (at many : ℕ) → part ≡ xs → many ≡ length xs → put_mid at many row part ≡ lay row at xs
unfolding lay
laid_mid row part xs at many e p =
    ap (λ (l : List ℕ). take at row ++ l) (ap₂ (λ (l r : List ℕ). l ++ r) e (drop-drop many at row ∙ ap (λ (n : ℕ). drop (at + n) row) p))

-- one piece behind another
pub lay-then : (row first last : List ℕ) (at end : ℕ) (xs ys zs : List ℕ) → at ≤ length row → first ≡ lay row at xs → end ≡ at + length xs → last ≡ lay first end ys → zs ≡ xs ++ ys → last ≡ lay row at zs
lay-then row first last at end xs ys zs h f e l z =
    l ∙ ap₂ (λ (r : List ℕ) (n : ℕ). lay r n ys) f e ∙ lay-append row at xs ys h ∙ ap (lay row at) (sym z)

-- and the row is as long as it was
pub laid_long : (row after xs : List ℕ) (at : ℕ) → after ≡ lay row at xs → at + length xs ≤ length row → length after ≡ length row
laid_long row after xs at e h = ap (λ (l : List ℕ). length l) e ∙ lay-length row at xs h

-- what is laid from the start is the front of the row
pub laid_front : (row laid : List ℕ) (end : ℕ) (xs : List ℕ) → end ≡ length xs → laid ≡ lay row 0 xs → take end laid ≡ xs
laid_front row laid end xs e l = ap₂ (λ (n : ℕ) (r : List ℕ). take n r) (e ∙ sym (zero-add (length xs))) l ∙ lay-take row 0 xs (omega arith)

-- ---- a number

-- more digits than a number has add none
digits-enough : (f n : ℕ) → n < 10 * 10 ^ f → digits (suc f) n ≡ digits f n
unfolding digits
digits-enough zero n h = rw (lt-ltb n 10 (omega arith))
digits-enough (suc f) n h = ap (λ (l : List ℕ). cond (ltb n 10) ((48 + n) ∷ []) (l ++ ((48 + n % 10) ∷ []))) (digits-enough f (n / 10) (omega (arith, pow-suc 10 f)))

decimal-one : (n : ℕ) → n < 10 → decimal n ≡ (48 + n) ∷ []
unfolding decimal digits
decimal-one n h = rw (lt-ltb n 10 h)

digits_more : (f n : ℕ) → 10 ≤ n → digits (suc f) n ≡ digits f (n / 10) ++ ((48 + n % 10) ∷ [])
unfolding digits
digits_more f n h = rw (le-ltb n 10 h)

decimal-more : (n : ℕ) → 10 ≤ n → n < 2 ^ 32 → decimal n ≡ decimal (n / 10) ++ ((48 + n % 10) ∷ [])
unfolding decimal
decimal-more n h l = digits_more 8 n h ∙ ap (λ (l : List ℕ). l ++ ((48 + n % 10) ∷ [])) (sym (digits-enough 8 (n / 10) (omega arith)))

-- what the library prints of a number
pub decimal_is : (n : ℕ) → n < 2 ^ 32 → printed n ≡ decimal n
decimal_is n h =
    decimal_by_steps (λ n ds. n < 2 ^ 32 → ds ≡ decimal n) (λ n one l. sym (decimal-one n one))
    (λ n ds ten is l. ap (λ (d : List ℕ). d ++ ((48 + n % 10) ∷ [])) (is (omega arith)) ∙ sym (decimal-more n ten l)) n (omega arith) h

digits-few : (f n : ℕ) → length (digits f n) ≤ suc f
unfolding digits
digits-few zero n = omega arith
digits-few (suc f) n = go (ltb n 10) (digits-few f (n / 10))
  where
    go : (b : Bool) → length (digits f (n / 10)) ≤ suc f → length (cond b ((48 + n) ∷ []) (digits f (n / 10) ++ ((48 + n % 10) ∷ []))) ≤ suc (suc f)
    go true h = omega arith
    go false h = omega (arith, length-append (digits f (n / 10)) ((48 + n % 10) ∷ []))

-- ---- lines

pub line-length : (word : List ℕ) (n : ℕ) → length (line word n) ≡ length word + length (decimal n) + 1
unfolding line
line-length word n = omega (arith, length-append word (decimal n ++ (10 ∷ [])), length-append (decimal n) (10 ∷ []))

pub line-is : (word : List ℕ) (n : ℕ) → line word n ≡ (word ++ decimal n) ++ (10 ∷ [])
unfolding line
line-is word n = sym (append_assoc word (decimal n) (10 ∷ []))

pub line-few : (word : List ℕ) (n : ℕ) → length (line word n) ≤ length word + 11
unfolding decimal
line-few word n = omega (arith, line-length word n, digits-few 9 n)

pub lines-few : (ms : List ℕ) → length (lines ms) ≤ 11 * length ms
unfolding lines
lines-few [] = omega arith
lines-few (m ∷ ms) = omega (arith, length-append (line [] m) (lines ms), line-few [] m, lines-few ms)

-- the lines from the i-th member on
pub lines_from : (ms : List ℕ) (i : ℕ) → i < length ms → lines (drop i ms) ≡ line [] (get_or ms i 0) ++ lines (drop (i + 1) ms)
unfolding lines
lines_from ms i h = ap lines (drop-cons ms i 0 h) ∙ ap (λ (k : ℕ). line [] (get_or ms i 0) ++ lines (drop k ms)) (sym (add-one i))

pub lines_long : (ms : List ℕ) (i : ℕ) → i < length ms → length (lines (drop i ms)) ≡ length (line [] (get_or ms i 0)) + length (lines (drop (i + 1) ms))
lines_long ms i h = ap (λ (k : List ℕ). length k) (lines_from ms i h) ∙ length-append (line [] (get_or ms i 0)) (lines (drop (i + 1) ms))

pub lines_done : (ms : List ℕ) (i : ℕ) → length ms ≤ i → lines (drop i ms) ≡ []
unfolding lines
lines_done ms i h = ap lines (drop_of_length-le ms h)
