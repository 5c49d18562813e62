-- Laws of `lay`: it is an action of lists on rows, so a row that is written piece by piece is written as one. Assumes
-- nothing.
use mathlib.Core.Path.{◌≡◌, sym, ap, ap₂, ◌∙◌}
use mathlib.Core.List.{List, [], ◌∷◌, ◌++◌, append_assoc}
use Prim.Native.Nat.{ℕ, ◌+◌, ◌≤◌, ◌<◌}
use native.Mathlib.Nat.{add-zero}
use native.Mathlib.Numerals.{add-one}
use native.Mathlib.Omega.{arith}
use lib.ListN.{length, get_or, take, drop, set, length-append, length-take, length-drop, take-append-drop, drop_of_length-le, get_or-append}
use lib.Seq.{take_at, take-add, take-suc, drop-drop, drop-append-add, drop-cons, set_split, set_at, get_or-take}
use Rattle.fields.specs.Rows.{lay}

module _ {A : Type 0} where
  pub lay-nil : (row : List A) (at : ℕ) → lay row at [] ≡ row
  unfolding lay
  lay-nil row at = ap (λ (n : ℕ). take at row ++ drop n row) (add-zero at) ∙ take-append-drop at row

  -- the row up to behind what is laid
  front : (row : List A) (at : ℕ) (xs : List A) → at ≤ length row → length (take at row ++ xs) ≡ at + length xs
  front row at xs h = omega (arith, length-append (take at row) xs, length-take at row)

  parts : (row : List A) (at : ℕ) (xs : List A) → lay row at xs ≡ (take at row ++ xs) ++ drop (at + length xs) row
  unfolding lay
  parts row at xs = sym (append_assoc (take at row) xs (drop (at + length xs) row))

  pub lay-take : (row : List A) (at : ℕ) (xs : List A) → at ≤ length row → take (at + length xs) (lay row at xs) ≡ take at row ++ xs
  lay-take row at xs h = ap (take (at + length xs)) (parts row at xs) ∙ take_at (take at row ++ xs) _ (at + length xs) (front row at xs h)

  pub lay-drop : (row : List A) (at : ℕ) (xs : List A) (n : ℕ) → at ≤ length row → drop (at + length xs + n) (lay row at xs) ≡ drop (at + length xs + n) row
  lay-drop row at xs n h =
      ap (drop (at + length xs + n)) (parts row at xs)
      ∙ ap (λ (m : ℕ). drop (m + n) ((take at row ++ xs) ++ drop (at + length xs) row)) (sym (front row at xs h))
      ∙ drop-append-add (take at row ++ xs) (drop (at + length xs) row) n ∙ drop-drop n (at + length xs) row

  pub lay-length : (row : List A) (at : ℕ) (xs : List A) → at + length xs ≤ length row → length (lay row at xs) ≡ length row
  lay-length row at xs h =
      ap length (parts row at xs)
      ∙ omega (arith, length-append (take at row ++ xs) (drop (at + length xs) row), front row at xs (omega arith), length-drop (at + length xs) row)

  -- one piece behind another
  pub lay-append : (row : List A) (at : ℕ) (xs ys : List A) → at ≤ length row → lay (lay row at xs) (at + length xs) ys ≡ lay row at (xs ++ ys)
  lay-append row at xs ys h =
      let ends : at + length xs + length ys ≡ at + length (xs ++ ys) = omega (arith, length-append xs ys) in
      parts (lay row at xs) (at + length xs) ys
      ∙ ap₂ (λ (f b : List A). (f ++ ys) ++ b) (lay-take row at xs h) (lay-drop row at xs (length ys) h)
      ∙ ap (λ (f : List A). f ++ drop (at + length xs + length ys) row) (append_assoc (take at row) xs ys)
      ∙ ap (λ (n : ℕ). (take at row ++ (xs ++ ys)) ++ drop n row) ends
      ∙ sym (parts row at (xs ++ ys))

  -- a store
  pub lay-set : (row : List A) (i : ℕ) (x : A) → i < length row → set row i x ≡ lay row i (x ∷ [])
  unfolding lay
  lay-set row i x h = set_split row i x h ∙ ap (λ (n : ℕ). take i row ++ (x ∷ drop n row)) (sym (add-one i))

  pub lay-cons : (row : List A) (i : ℕ) (x : A) (xs : List A) → i < length row → lay row i (x ∷ xs) ≡ lay (set row i x) (i + 1) xs
  lay-cons row i x xs h = sym (lay-append row i (x ∷ []) xs (omega arith)) ∙ ap (λ (r : List A). lay r (i + 1) xs) (sym (lay-set row i x h))

  -- elements copied one by one into a row from k on: one more, and none left
  pub lay-copied : (row from : List A) (k i : ℕ) (x : A) → i < length from → k < length row → lay (set row k (get_or from i x)) (k + 1) (drop (i + 1) from) ≡ lay row k (drop i from)
  lay-copied row from k i x h l =
      sym (ap (lay row k) (drop-cons from i x h ∙ ap (λ (n : ℕ). get_or from i x ∷ drop n from) (sym (add-one i))) ∙ lay-cons row k (get_or from i x) (drop (i + 1) from) l)

  pub lay-all : (row from : List A) (k i : ℕ) → length from ≤ i → row ≡ lay row k (drop i from)
  lay-all row from k i h = sym (ap (lay row k) (drop_of_length-le from h) ∙ lay-nil row k)

  -- what stood there may be laid again around what is new
  pub lay_around : (row : List A) (at a b : ℕ) (xs : List A) → at + a + length xs + b ≤ length row
      → lay row at (take a (drop at row) ++ (xs ++ take b (drop (at + a + length xs) row))) ≡ lay row (at + a) xs
  unfolding lay
  lay_around row at a b xs h =
      let before : List A = take a (drop at row) in
      let behind : List A = take b (drop (at + a + length xs) row) in
      let rest : List A = drop (at + length (before ++ (xs ++ behind))) row in
      let ends : at + length (before ++ (xs ++ behind)) ≡ at + a + length xs + b =
      omega (arith, length-append before (xs ++ behind), length-append xs behind, length-take a (drop at row), length-drop at row, length-take b (drop (at + a + length xs) row), length-drop (at + a + length xs) row) in
      let back : behind ++ rest ≡ drop (at + a + length xs) row =
      ap (λ (l : List A). behind ++ l) (ap (λ (n : ℕ). drop n row) ends ∙ sym (drop-drop b (at + a + length xs) row)) ∙ take-append-drop b (drop (at + a + length xs) row) in
      ap (λ (l : List A). take at row ++ l) (append_assoc before (xs ++ behind) rest ∙ ap (λ (l : List A). before ++ l) (append_assoc xs behind rest ∙ ap (λ (l : List A). xs ++ l) back))
      ∙ sym (append_assoc (take at row) before (xs ++ drop (at + a + length xs) row))
      ∙ ap (λ (l : List A). l ++ (xs ++ drop (at + a + length xs) row)) (sym (take-add at a row))

  -- a store just before what was laid
  pub lay-before : (row : List A) (i : ℕ) (x : A) (xs : List A) → i < length row → set (lay row (i + 1) xs) i x ≡ lay row i (x ∷ xs)
  unfolding lay
  lay-before row i x xs h =
      let rest : List A = xs ++ drop (i + 1 + length xs) row in
      let ends : i + 1 + length xs ≡ i + length (x ∷ xs) = omega arith in
      ap (λ (f : List A). set (f ++ rest) i x) (ap (λ (n : ℕ). take n row) (add-one i) ∙ take-suc row i x h)
      ∙ ap (λ (f : List A). set f i x) (append_assoc (take i row) _ rest)
      ∙ set_at (take i row) _ rest x i (omega (arith, length-take i row))
      ∙ ap (λ (n : ℕ). take i row ++ (x ∷ (xs ++ drop n row))) ends

  -- elements before what was laid stand
  pub lay_earlier : (row : List A) (at : ℕ) (xs : List A) (i : ℕ) (d : A) → i < at → at ≤ length row → get_or (lay row at xs) i d ≡ get_or row i d
  unfolding lay
  lay_earlier row at xs i d h l = get_or-append (take at row) _ d i (omega (arith, length-take at row)) ∙ get_or-take at row i d h
