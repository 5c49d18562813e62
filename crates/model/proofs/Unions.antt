-- The union of two lists: first of both the lower first number, a common one once; ascending, and no longer than both. Assumes
-- nothing.
use mathlib.Core.Path.{◌≡◌, refl, ap, ◌∙◌}
use mathlib.Core.Bool.{Bool, true, false, ◌||◌}
use mathlib.Core.List.{List, [], ◌∷◌}
use Prim.Native.Nat.{ℕ, zero, suc, ◌+◌, ◌≤◌, ◌<◌}
use native.Mathlib.Omega.{arith}
use lib.Dec.{ltb, eqb}
use lib.ListN.{length}
use borrow.Author.Tests.{lt-ltb, le-ltb, ltb-true, ltb-false, eqb-false, eq-eqb, ne_eqb}
use Rattle.model.specs.Lists.{top, Numbers, rises, ascending}
use Rattle.model.specs.Sets.{among, insert}
use Rattle.model.specs.Delivery.{Supplied, undelivered, came, is_delivered}
use Rattle.model.specs.Joined.{list_union, join_list}
use Rattle.model.proofs.Order.{and_true}
use Rattle.model.proofs.Denoted.{insert-among, insert-few}

-- ---- one number put in

rises-low : (x y : ℕ) (l : List ℕ) → x < y → rises y l ≡ true → rises x l ≡ true
unfolding rises
rises-low x y [] h r = refl
rises-low x y (z ∷ zs) h r = let a = and_true (ltb y z) (rises z zs) r in cc (lt-ltb x z (omega (arith, ltb-true y z a.0)))

rises-ascending : (x : ℕ) (l : List ℕ) → rises x l ≡ true → ascending l ≡ true
unfolding rises ascending
rises-ascending x [] r = refl
rises-ascending x (y ∷ ys) r = (and_true (ltb x y) (rises y ys) r).1

insert-first : (x : ℕ) (l : List ℕ) → rises x l ≡ true → insert x l ≡ x ∷ l
unfolding rises insert
insert-first x [] r = refl
insert-first x (y ∷ ys) r = rw ((and_true (ltb x y) (rises y ys) r).0, insert)

insert-same : (x : ℕ) (l : List ℕ) → insert x (x ∷ l) ≡ x ∷ l
unfolding insert
insert-same x l = rw (le-ltb x x (omega arith), eq-eqb x x refl, insert)

insert-behind : (x y : ℕ) (l : List ℕ) → y < x → insert x (y ∷ l) ≡ y ∷ insert x l
unfolding insert
insert-behind x y l h = rw (le-ltb x y (omega arith), ne_eqb x y (λ e. omega arith), insert)

insert-rises : (lo x : ℕ) (l : List ℕ) → lo < x → rises lo l ≡ true → rises lo (insert x l) ≡ true
unfolding rises insert
insert-rises lo x [] h r = cc (lt-ltb lo x h)
insert-rises lo x (y ∷ ys) h r = let a = and_true (ltb lo y) (rises y ys) r in go (ltb x y) refl (eqb x y) refl a.0 a.1 (λ q. insert-rises y x ys q a.1)
  where
    go : (a : Bool) → ltb x y ≡ a → (b : Bool) → eqb x y ≡ b → ltb lo y ≡ true → rises y ys ≡ true → (y < x → rises y (insert x ys) ≡ true)
        → rises lo (elim a [ true ↦ x ∷ y ∷ ys | false ↦ elim b [ true ↦ y ∷ ys | false ↦ y ∷ insert x ys ] ]) ≡ true
    go true p b q f g ih = cc (lt-ltb lo x h)
    go false p true q f g ih = cc
    go false p false q f g ih = cc (ih (omega (arith, ltb-false x y p, eqb-false x y q)))

insert-ascending : (x : ℕ) (l : List ℕ) → ascending l ≡ true → ascending (insert x l) ≡ true
unfolding rises ascending insert
insert-ascending x [] r = refl
insert-ascending x (y ∷ ys) r = go (ltb x y) refl (eqb x y) refl
  where
    go : (a : Bool) → ltb x y ≡ a → (b : Bool) → eqb x y ≡ b → ascending (elim a [ true ↦ x ∷ y ∷ ys | false ↦ elim b [ true ↦ y ∷ ys | false ↦ y ∷ insert x ys ] ]) ≡ true
    go true p b q = cc
    go false p true q = r
    go false p false q = insert-rises y x ys (omega (arith, ltb-false x y p, eqb-false x y q)) r

numbers_cons : (x : ℕ) (l : List ℕ) → x < top → Numbers l → Numbers (x ∷ l)
numbers_cons x l h n zero = h
numbers_cons x l h n (suc i) = n i

insert_numbers : (x : ℕ) (l : List ℕ) → x < top → Numbers l → Numbers (insert x l)
unfolding insert
insert_numbers x [] h n = numbers_cons x [] h n
insert_numbers x (y ∷ ys) h n = go (ltb x y) (eqb x y) (insert_numbers x ys h (λ i. n (suc i)))
  where
    go : (a b : Bool) → Numbers (insert x ys) → Numbers (elim a [ true ↦ x ∷ y ∷ ys | false ↦ elim b [ true ↦ y ∷ ys | false ↦ y ∷ insert x ys ] ])
    go true b ih = numbers_cons x (y ∷ ys) h n
    go false true ih = n
    go false false ih = numbers_cons y (insert x ys) (n 0) ih

-- ---- all of one list

-- a number below all of the first list stands ahead of it
union_ahead : (y : ℕ) (xs ys : List ℕ) → rises y xs ≡ true → list_union xs (y ∷ ys) ≡ y ∷ list_union xs ys
unfolding list_union rises
union_ahead y [] ys r = refl
union_ahead y (x ∷ xs) ys r =
    let a = and_true (ltb y x) (rises x xs) r in
    let low : y < x = ltb-true y x a.0 in
    ap (insert x) (union_ahead y xs ys (rises-low y x xs low a.1)) ∙ insert-behind x y (list_union xs ys) low

union_rises : (lo : ℕ) (xs ys : List ℕ) → rises lo xs ≡ true → rises lo ys ≡ true → rises lo (list_union xs ys) ≡ true
unfolding list_union rises
union_rises lo [] ys r s = s
union_rises lo (x ∷ xs) ys r s =
    let a = and_true (ltb lo x) (rises x xs) r in
    let low : lo < x = ltb-true lo x a.0 in
    insert-rises lo x (list_union xs ys) low (union_rises lo xs ys (rises-low lo x xs low a.1) s)

pub union_nil : (xs : List ℕ) → ascending xs ≡ true → list_union xs [] ≡ xs
unfolding list_union ascending
union_nil [] r = refl
union_nil (x ∷ xs) r = ap (insert x) (union_nil xs (rises-ascending x xs r)) ∙ insert-first x xs r

pub union_full : (x y : ℕ) (xs ys : List ℕ) → x < y → ascending (x ∷ xs) ≡ true → ascending (y ∷ ys) ≡ true → list_union (x ∷ xs) (y ∷ ys) ≡ x ∷ list_union xs (y ∷ ys)
unfolding list_union ascending rises
union_full x y xs ys h r s = insert-first x (list_union xs (y ∷ ys)) (union_rises x xs (y ∷ ys) r (cc (lt-ltb x y h)))

pub union_daily : (x y : ℕ) (xs ys : List ℕ) → y < x → ascending (x ∷ xs) ≡ true → ascending (y ∷ ys) ≡ true → list_union (x ∷ xs) (y ∷ ys) ≡ y ∷ list_union (x ∷ xs) ys
unfolding ascending rises
union_daily x y xs ys h r s = union_ahead y (x ∷ xs) ys (cc (lt-ltb y x h))

pub union_both : (x : ℕ) (xs ys : List ℕ) → ascending (x ∷ xs) ≡ true → ascending (x ∷ ys) ≡ true → list_union (x ∷ xs) (x ∷ ys) ≡ x ∷ list_union xs ys
unfolding list_union ascending
union_both x xs ys r s = ap (insert x) (union_ahead x xs ys r) ∙ insert-same x (list_union xs ys)

-- a list with itself is that list
pub union_self : (xs : List ℕ) → ascending xs ≡ true → list_union xs xs ≡ xs
unfolding ascending
union_self [] r = union_nil [] r
union_self (x ∷ xs) r = union_both x xs xs r r ∙ ap (λ (l : List ℕ). x ∷ l) (union_self xs (rises-ascending x xs r))

pub union_ascending : (xs ys : List ℕ) → ascending xs ≡ true → ascending ys ≡ true → ascending (list_union xs ys) ≡ true
unfolding list_union ascending
union_ascending [] ys r s = s
union_ascending (x ∷ xs) ys r s = insert-ascending x (list_union xs ys) (union_ascending xs ys (rises-ascending x xs r) s)

pub union_length : (xs ys : List ℕ) → length (list_union xs ys) ≤ length xs + length ys
unfolding list_union
union_length [] ys = omega arith
union_length (x ∷ xs) ys = omega (arith, insert-few x (list_union xs ys), union_length xs ys)

pub union_numbers : (xs ys : List ℕ) → Numbers xs → Numbers ys → Numbers (list_union xs ys)
unfolding list_union
union_numbers [] ys n m = m
union_numbers (x ∷ xs) ys n m = insert_numbers x (list_union xs ys) (n 0) (union_numbers xs ys (λ i. n (suc i)) m)

-- it holds the numbers of either, and no other
pub union_among : (x : ℕ) (xs ys : List ℕ) → among x (list_union xs ys) ≡ among x xs || among x ys
unfolding list_union among
union_among x [] ys = refl
union_among x (y ∷ xs) ys = insert-among x y (list_union xs ys) ∙ go (eqb x y) (union_among x xs ys)
  where
    go : (b : Bool) → among x (list_union xs ys) ≡ among x xs || among x ys → b || among x (list_union xs ys) ≡ (b || among x xs) || among x ys
    go true h = refl
    go false h = h

-- ---- of lists as they are supplied

pub join-came : (a b : Supplied) → is_delivered (join_list a b) ≡ is_delivered a || is_delivered b
unfolding join_list is_delivered
join-came undelivered b = refl
join-came (came l) undelivered = refl
join-came (came l) (came m) = refl
