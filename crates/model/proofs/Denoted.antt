-- The denoted set: every member is a number of some list at a leaf; the row of its members, and those of them at or above
-- a floor. Assumes nothing.
use mathlib.Core.Path.{◌≡◌, refl, sym, ap, ◌∙◌}
use mathlib.Core.Bool.{Bool, true, false, not, ◌&&◌, ◌||◌}
use mathlib.Core.List.{List, [], ◌∷◌, ◌++◌}
use Prim.Native.Nat.{ℕ, zero, suc, ◌≤◌, ◌<◌}
use native.Mathlib.Omega.{arith}
use lib.Dec.{ltb, leb, eqb}
use borrow.Author.Tests.{lt-ltb, le-ltb, ltb-true, ltb-false, leb-true, leb-false, eqb-true, eqb-false, eq-eqb, ne_eqb}
use lib.ListN.{length, get_or}
use Rattle.model.specs.Lists.{top, rises, ascending}
use Rattle.model.specs.Expression.{Tree, leaf, difference, union, intersection, Members, one, more}
use Rattle.model.specs.Sets.{among, member, member_some, member_all, all_numbers, insert, select, members}
use Rattle.model.proofs.Order.{or_right, and_right, and_true, or_true, not_both, Up, up_none}

-- ---- where a member stands

pub among-append : (x : ℕ) (l r : List ℕ) → among x (l ++ r) ≡ among x l || among x r
unfolding among
among-append x [] r = refl
among-append x (y ∷ ys) r = go (eqb x y) (among-append x ys r)
  where
    go : (b : Bool) → among x (ys ++ r) ≡ among x ys || among x r → b || among x (ys ++ r) ≡ (b || among x ys) || among x r
    go true h = refl
    go false h = h

among-left : (x : ℕ) (l r : List ℕ) → among x l ≡ true → among x (l ++ r) ≡ true
among-left x l r h = cc (among-append x l r, h)

among_right : (x : ℕ) (l r : List ℕ) → among x r ≡ true → among x (l ++ r) ≡ true
among_right x l r h = among-append x l r ∙ or_right (among x l) (among x r) h

pub among-all : (x : ℕ) (ls : List (List ℕ)) (k : ℕ) → among x (get_or ls k []) ≡ true → among x (all_numbers ls) ≡ true
unfolding all_numbers
among-all x [] k h = h
among-all x (l ∷ ls) zero h = among-left x l (all_numbers ls) h
among-all x (l ∷ ls) (suc k) h = among_right x l (all_numbers ls) (among-all x ls k h)

-- the list numbers at the leaves, in expression order: "One list may stand at several leaves"
unfoldable mutual
  pub leaves : Tree → List ℕ
  leaves (leaf k) = k ∷ []
  leaves (difference s t) = leaves s ++ leaves t
  leaves (union ts) = leaves_all ts
  leaves (intersection ts) = leaves_all ts

  pub leaves_all : Members → List ℕ
  leaves_all (one t) = leaves t
  leaves_all (more t ts) = leaves t ++ leaves_all ts

-- a list at a leaf that holds x
pub record AtLeaf (ls : List (List ℕ)) (ks : List ℕ) (x : ℕ) : Type 0 where
  pub number : ℕ
  pub at_leaf : among number ks ≡ true
  pub holds : among x (get_or ls number []) ≡ true

at_left : (ls : List (List ℕ)) (ks rs : List ℕ) (x : ℕ) → AtLeaf ls ks x → AtLeaf ls (ks ++ rs) x
at_left ls ks rs x h = record { number = h.number; at_leaf = among-left h.number ks rs h.at_leaf; holds = h.holds }

at_right : (ls : List (List ℕ)) (ks rs : List ℕ) (x : ℕ) → AtLeaf ls rs x → AtLeaf ls (ks ++ rs) x
at_right ls ks rs x h = record { number = h.number; at_leaf = among_right h.number ks rs h.at_leaf; holds = h.holds }

module _ (ls : List (List ℕ)) (x : ℕ) where
  mutual
    unfolding member leaves among

    -- every member is a number of some list at a leaf
    pub member_at_leaf : (t : Tree) → member ls t x ≡ true → AtLeaf ls (leaves t) x
    member_at_leaf (leaf k) h = record { number = k; at_leaf = cc (eq-eqb k k refl); holds = h }
    member_at_leaf (difference s t) h = at_left ls (leaves s) (leaves t) x (member_at_leaf s (and_true (member ls s x) (not (member ls t x)) h).0)
    member_at_leaf (union ts) h = some_at_leaf ts h
    member_at_leaf (intersection ts) h = all_at_leaf ts h

    some_at_leaf : (ts : Members) → member_some ls ts x ≡ true → AtLeaf ls (leaves_all ts) x
    some_at_leaf (one t) h = member_at_leaf t h
    some_at_leaf (more t ts) h =
        or_true (member ls t x) (member_some ls ts x) (λ q. at_left ls (leaves t) (leaves_all ts) x (member_at_leaf t q))
        (λ q. at_right ls (leaves t) (leaves_all ts) x (some_at_leaf ts q)) h

    all_at_leaf : (ts : Members) → member_all ls ts x ≡ true → AtLeaf ls (leaves_all ts) x
    all_at_leaf (one t) h = member_at_leaf t h
    all_at_leaf (more t ts) h = at_left ls (leaves t) (leaves_all ts) x (member_at_leaf t (and_true (member ls t x) (member_all ls ts x) h).0)

pub member_in : (ls : List (List ℕ)) (t : Tree) (x : ℕ) → member ls t x ≡ true → among x (all_numbers ls) ≡ true
member_in ls t x h = let l = member_at_leaf ls x t h in among-all x ls l.number l.holds

-- ---- the members, ascending

pub insert-among : (x y : ℕ) (l : List ℕ) → among x (insert y l) ≡ eqb x y || among x l
unfolding insert among
insert-among x y [] = refl
insert-among x y (z ∷ zs) = go (ltb y z) (eqb y z) refl (insert-among x y zs)
  where
    swap : (a b c d : Bool) → c ≡ b || d → a || c ≡ b || (a || d)
    swap true true c d h = refl
    swap true false c d h = refl
    swap false true c d h = h
    swap false false c d h = h

    twice : (a b : Bool) → a || b ≡ a || (a || b)
    twice true b = refl
    twice false b = refl

    go : (a b : Bool) → eqb y z ≡ b → among x (insert y zs) ≡ eqb x y || among x zs
        → among x (elim a [ true ↦ y ∷ z ∷ zs | false ↦ elim b [ true ↦ z ∷ zs | false ↦ z ∷ insert y zs ] ]) ≡ eqb x y || (eqb x z || among x zs)
    go true b h ih = refl
    go false true h ih = rw (← eqb-true y z h) (twice (eqb x y) (among x zs))
    go false false h ih = swap (eqb x z) (eqb x y) (among x (insert y zs)) (among x zs) ih

pub insert_up : (lo y : ℕ) (l : List ℕ) → lo ≤ y → y < top → Up lo l → Up lo (insert y l)
unfolding insert
insert_up lo y [] h t u = (h, t, tt)
insert_up lo y (z ∷ zs) h t u = go (ltb y z) refl (eqb y z) refl (λ q. insert_up (suc z) y zs q t u.2)
  where
    go : (a : Bool) → ltb y z ≡ a → (b : Bool) → eqb y z ≡ b → (suc z ≤ y → Up (suc z) (insert y zs)) → Up lo (elim a [ true ↦ y ∷ z ∷ zs | false ↦ elim b [ true ↦ z ∷ zs | false ↦ z ∷ insert y zs ] ])
    go true p b q ih = (h, t, (ltb-true y z p, u.1, u.2))
    go false p true q ih = u
    go false p false q ih = (u.0, u.1, ih (omega (arith, ltb-false y z p, eqb-false y z q)))

select-among : (p : ℕ → Bool) (x : ℕ) (xs : List ℕ) → among x (select p xs) ≡ p x && among x xs
unfolding select among
select-among p x [] = sym (and_right (p x) false refl)
select-among p x (y ∷ ys) = go (p y) refl (select-among p x ys)
  where
    spread : (a b c : Bool) → (a ≡ true → b ≡ true) → a || (b && c) ≡ b && (a || c)
    spread true true c h = refl
    spread true false c h = sym (h refl)
    spread false b c h = refl

    miss : (a b c : Bool) → (a ≡ true → b ≡ false) → b && c ≡ b && (a || c)
    miss true true c h = cc (h refl)
    miss true false c h = refl
    miss false b c h = refl

    go : (b : Bool) → p y ≡ b → among x (select p ys) ≡ p x && among x ys
        → among x (elim b [ true ↦ insert y (select p ys) | false ↦ select p ys ]) ≡ p x && (eqb x y || among x ys)
    go true h ih = insert-among x y (select p ys) ∙ ap (λ (c : Bool). eqb x y || c) ih ∙ spread (eqb x y) (p x) (among x ys) (λ e. cc (eqb-true x y e, h))
    go false h ih = ih ∙ miss (eqb x y) (p x) (among x ys) (λ e. cc (eqb-true x y e, h))

select_up : (p : ℕ → Bool) (lo : ℕ) (xs : List ℕ) → ((x : ℕ) → among x xs ≡ true → p x ≡ true → (lo ≤ x) × (x < top)) → Up lo (select p xs)
unfolding select among
select_up p lo [] h = tt
select_up p lo (y ∷ ys) h = go (p y) refl (select_up p lo ys (λ x m q. h x (or_right (eqb x y) (among x ys) m) q))
  where
    go : (b : Bool) → p y ≡ b → Up lo (select p ys) → Up lo (elim b [ true ↦ insert y (select p ys) | false ↦ select p ys ])
    go true q ih = let f = h y (cc (eq-eqb y y refl)) q in insert_up lo y (select p ys) f.0 f.1 ih
    go false q ih = ih

pub up-ascending : (lo : ℕ) (l : List ℕ) → Up lo l → ascending l ≡ true
unfolding ascending rises
up-ascending lo [] u = refl
up-ascending lo (x ∷ xs) u = go x xs u.2
  where
    go : (x : ℕ) (xs : List ℕ) → Up (suc x) xs → rises x xs ≡ true
    go x [] u = refl
    go x (y ∷ ys) u = cc (lt-ltb x y u.0, go y ys u.2)

-- a number of ascending lists is a number
pub all_small : (ls : List (List ℕ)) → ((k : ℕ) → Up 0 (get_or ls k [])) → (x : ℕ) → among x (all_numbers ls) ≡ true → x < top
unfolding all_numbers among
all_small [] up x m = absurd (not_both m refl)
all_small (l ∷ ls) up x m = or_true (among x l) (among x (all_numbers ls)) (λ i. go 0 l (up 0) i) (λ i. all_small ls (λ k. up (suc k)) x i) (sym (among-append x l (all_numbers ls)) ∙ m)
  where
    go : (lo : ℕ) (l : List ℕ) → Up lo l → among x l ≡ true → x < top
    go lo [] u i = absurd (not_both i refl)
    go lo (y ∷ ys) u i = or_true (eqb x y) (among x ys) (λ e. omega (arith, eqb-true x y e, u.1)) (λ j. go (suc y) ys u.2 j) i

pub members_up : (ls : List (List ℕ)) → ((k : ℕ) → Up 0 (get_or ls k [])) → (t : Tree) → Up 0 (members ls t)
unfolding members
members_up ls up t = select_up (member ls t) 0 (all_numbers ls) (λ x m q. (omega arith, all_small ls up x m))

-- the row of members holds each member, and nothing else
pub members_are : (ls : List (List ℕ)) (t : Tree) (x : ℕ) → among x (members ls t) ≡ member ls t x
unfolding members
members_are ls t x = select-among (member ls t) x (all_numbers ls) ∙ go (member ls t x) (λ m. member_in ls t x m)
  where
    go : (b : Bool) → (b ≡ true → among x (all_numbers ls) ≡ true) → b && among x (all_numbers ls) ≡ b
    go true h = h refl
    go false h = refl

-- they are no more than all numbers
pub insert-few : (x : ℕ) (ys : List ℕ) → length (insert x ys) ≤ suc (length ys)
unfolding insert
insert-few x [] = omega arith
insert-few x (y ∷ ys) = go (ltb x y) (eqb x y) (insert-few x ys)
  where
    go : (a b : Bool) → length (insert x ys) ≤ suc (length ys) → length {A = ℕ} (elim a [ true ↦ x ∷ y ∷ ys | false ↦ elim b [ true ↦ y ∷ ys | false ↦ y ∷ insert x ys ] ]) ≤ suc (suc (length ys))
    go true b h = omega arith
    go false true h = omega arith
    go false false h = omega arith

select-few : (p : ℕ → Bool) (xs : List ℕ) → length (select p xs) ≤ length xs
unfolding select
select-few p [] = omega arith
select-few p (x ∷ xs) = go (p x) (select-few p xs)
  where
    go : (b : Bool) → length (select p xs) ≤ length xs → length {A = ℕ} (elim b [ true ↦ insert x (select p xs) | false ↦ select p xs ]) ≤ suc (length xs)
    go true h = omega (arith, insert-few x (select p xs))
    go false h = omega arith

pub members-few : (ls : List (List ℕ)) (t : Tree) → length (members ls t) ≤ length (all_numbers ls)
unfolding members
members-few ls t = select-few (member ls t) (all_numbers ls)

-- ---- those of a row at or above a floor

unfoldable pub from : ℕ → List ℕ → List ℕ
from floor [] = []
from floor (x ∷ xs) = elim (ltb x floor) [ true ↦ from floor xs | false ↦ x ∷ xs ]

pub from_up : (floor lo : ℕ) (xs : List ℕ) → Up lo xs → Up floor (from floor xs)
unfolding from
from_up floor lo [] u = tt
from_up floor lo (x ∷ xs) u = go (ltb x floor) refl (from_up floor (suc x) xs u.2)
  where
    go : (b : Bool) → ltb x floor ≡ b → Up floor (from floor xs) → Up floor (elim b [ true ↦ from floor xs | false ↦ x ∷ xs ])
    go true h ih = ih
    go false h ih = (ltb-false x floor h, u.1, u.2)

pub from-among : (floor lo : ℕ) (xs : List ℕ) → Up lo xs → (y : ℕ) → among y (from floor xs) ≡ leb floor y && among y xs
unfolding from among
from-among floor lo [] u y = sym (and_right (leb floor y) false refl)
from-among floor lo (x ∷ xs) u y = go (ltb x floor) refl (from-among floor (suc x) xs u.2 y)
  where
    -- the first one stands below the floor: y is another, or below the floor too
    skip : (b : Bool) → leb floor y ≡ b → x < floor → b && among y xs ≡ b && (eqb y x || among y xs)
    skip true h lt = cc (ne_eqb y x (λ e. omega (arith, leb-true floor y h)))
    skip false h lt = refl

    -- it does not: nothing of the row stands below the floor
    keep : (b : Bool) → leb floor y ≡ b → floor ≤ x → eqb y x || among y xs ≡ b && (eqb y x || among y xs)
    keep true h le = refl
    keep false h le = cc (ne_eqb y x (λ e. omega (arith, leb-false floor y h)), up_none (suc x) y xs u.2 (omega (arith, leb-false floor y h)))

    go : (b : Bool) → ltb x floor ≡ b → among y (from floor xs) ≡ leb floor y && among y xs
        → among y (elim b [ true ↦ from floor xs | false ↦ x ∷ xs ]) ≡ leb floor y && (eqb y x || among y xs)
    go true h ih = ih ∙ skip (leb floor y) refl (ltb-true x floor h)
    go false h ih = keep (leb floor y) refl (ltb-false x floor h)

pub from_all : (lo : ℕ) (xs : List ℕ) → Up lo xs → from lo xs ≡ xs
unfolding from
from_all lo [] u = refl
from_all lo (x ∷ xs) u = rw (le-ltb x lo u.0, from)

pub from_on : (floor x : ℕ) (xs : List ℕ) → x < floor → from floor (x ∷ xs) ≡ from floor xs
unfolding from
from_on floor x xs h = rw (lt-ltb x floor h, from)

-- the members at or above a bookmark, ascending
abbrev pub members_from : List (List ℕ) → Tree → ℕ → List ℕ
members_from ls t bookmark = from bookmark (members ls t)

pub members_from_up : (ls : List (List ℕ)) → ((k : ℕ) → Up 0 (get_or ls k [])) → (t : Tree) (bookmark : ℕ) → Up bookmark (members_from ls t bookmark)
members_from_up ls up t bookmark = from_up bookmark 0 (members ls t) (members_up ls up t)

pub members_from_are : (ls : List (List ℕ)) → ((k : ℕ) → Up 0 (get_or ls k [])) → (t : Tree) (bookmark x : ℕ) → among x (members_from ls t bookmark) ≡ leb bookmark x && member ls t x
members_from_are ls up t bookmark x = from-among bookmark 0 (members ls t) (members_up ls up t) x ∙ ap (λ (b : Bool). leb bookmark x && b) (members_are ls t x)
