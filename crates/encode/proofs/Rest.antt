-- The lists from the k-th on, and rows that hold something for each of them. Assumes nothing.
use mathlib.Core.Path.{◌≡◌, sym, ap, ◌∙◌}
use mathlib.Core.List.{List, [], ◌∷◌, ◌++◌, flat_map}
use Prim.Native.Nat.{ℕ, ◌+◌, ◌≤◌, ◌<◌}
use native.Mathlib.Omega.{arith}
use native.Mathlib.Numerals.{add-one}
use lib.ListN.{length, get_or, take, drop, set, length-append, length-take, drop_of_length-le}
use lib.Seq.{set-get_or, get_or_at}
use Rattle.model.specs.Lists.{part, lists_from, delivered}
use Rattle.model.specs.Delivery.{Supplied, supplied_from}
use Rattle.lists.proofs.Left.{left-cons}
use Rattle.fields.specs.Rows.{lay}
use Rattle.fields.proofs.Rows.{lay-cons, lay-drop}
use Rattle.encode.specs.Measures.{as_supplied, list_bits, lists_bits}

module _ (numbers ends : List ℕ) (start k : ℕ) where
  pub rest_more : k < length ends → lists_from numbers start (drop k ends) ≡ part numbers start (get_or ends k 0) ∷ lists_from numbers (get_or ends k 0) (drop (k + 1) ends)
  unfolding lists_from
  rest_more h = rw (left-cons ends k h)

  pub rest-none : length ends ≤ k → lists_from numbers start (drop k ends) ≡ []
  unfolding lists_from
  rest-none h = rw (drop_of_length-le ends {i = k} h)

  -- as they are supplied, with a word
  module _ (word : ℕ) where
    pub supplied-more : k < length ends → supplied_from word k (lists_from numbers start (drop k ends)) ≡ as_supplied (delivered word k) (part numbers start (get_or ends k 0)) ∷ supplied_from word (k + 1) (lists_from numbers (get_or ends k 0) (drop (k + 1) ends))
    unfolding supplied_from
    supplied-more h = rw (rest_more h, add-one k)

    pub supplied-none : length ends ≤ k → supplied_from word k (lists_from numbers start (drop k ends)) ≡ []
    unfolding supplied_from
    supplied-none h = rw (rest-none h)

pub bits-cons : (a : Supplied) (ss : List Supplied) → length (lists_bits (a ∷ ss)) ≡ length (list_bits a) + length (lists_bits ss)
unfolding flat_map
bits-cons a ss = length-append (list_bits a) (lists_bits ss)

-- a row in which x is said to stand at k, and xs behind it
pub lay-head : (row : List ℕ) (k x : ℕ) (xs : List ℕ) → k < length row → row ≡ lay row k (x ∷ xs) → (get_or row k 0 ≡ x) × (row ≡ lay row (k + 1) xs)
unfolding lay
lay-head row k x xs h e =
    let here : get_or row k 0 ≡ x = ap (λ (r : List ℕ). get_or r k 0) e ∙ get_or_at (take k row) x (xs ++ drop (k + length (x ∷ xs)) row) 0 k (omega (arith, length-take k row)) in
    let same : set row k x ≡ row = ap (set row k) (sym here) ∙ set-get_or row k 0 in
    (here, e ∙ lay-cons row k x xs h ∙ ap (λ (r : List ℕ). lay r (k + 1) xs) same)

-- a row in which xs was laid holds xs
pub lay-again : (row : List ℕ) (xs : List ℕ) {r : List ℕ} → r ≡ lay row 0 xs → r ≡ lay r 0 xs
unfolding lay
lay-again row xs {r} e =
    let none : 0 + length xs ≡ 0 + length xs + 0 = omega arith in
    let behind : drop (0 + length xs) r ≡ drop (0 + length xs) row =
    ap (drop (0 + length xs)) e ∙ ap (λ (n : ℕ). drop n (lay row 0 xs)) none ∙ lay-drop row 0 xs 0 (omega arith) ∙ ap (λ (n : ℕ). drop n row) (sym none) in
    e ∙ ap (λ (b : List ℕ). xs ++ b) (sym behind)
