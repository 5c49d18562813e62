-- The members of an expression are never more than the rule says: any ascending numbers that are members of it are counted against the
-- lists at its leaves. Numbers of a union are parted by its first member node. Assumes nothing.
use mathlib.Core.Path.{◌≡◌, refl, sym, subst, ◌∙◌}
use mathlib.Core.Bool.{Bool, true, false, not, ◌||◌}
use mathlib.Core.List.{List, [], ◌∷◌, ◌++◌, map}
use Prim.Native.Nat.{ℕ, suc, ◌+◌, ◌*◌, ◌≤◌}
use native.Mathlib.Omega.{arith}
use lib.Dec.{eqb}
use borrow.Author.Tests.{eqb-true, eq-eqb, ne_eqb}
use lib.ListN.{length, get_or, get_or-map}
use Rattle.model.specs.Expression.{Tree, leaf, difference, union, intersection, Members, one, more, size, sizes}
use Rattle.model.specs.Sets.{among, member, member_some, member_all, members}
use Rattle.model.specs.Demands.{lengths, lengths_all, sum}
use Rattle.model.specs.Bounds.{most_members, sum_of_most, least_of_most}
use Rattle.model.proofs.Order.{and_true, or_true, not_both, split, Up, up_low, up_none}
use Rattle.model.proofs.Denoted.{members_up, members_are}

-- every number of the one stands in the other
abbrev Inside : List ℕ → List ℕ → Type 0
Inside xs ys = (x : ℕ) → among x xs ≡ true → among x ys ≡ true

first-among : (x : ℕ) (xs : List ℕ) → among x (x ∷ xs) ≡ true
unfolding among
first-among x xs = cc (eq-eqb x x refl)

behind-among : (x y : ℕ) (xs : List ℕ) → among x xs ≡ true → among x (y ∷ xs) ≡ true
unfolding among
behind-among x y xs h = go (eqb x y)
  where
    go : (b : Bool) → b || among x xs ≡ true
    go true = refl
    go false = h

-- of an ascending row nothing stands twice: a number behind the first is above it
above : (lo x : ℕ) (xs : List ℕ) → Up lo xs → among x xs ≡ true → lo ≤ x
above lo x xs u h = split (lo ≤ x) x lo (λ lt. absurd (not_both h (up_none lo x xs u lt))) (λ ge. ge)

not_first : (x y : ℕ) (ys : List ℕ) → (x ≡ y → ⊥) → among x (y ∷ ys) ≡ true → among x ys ≡ true
unfolding among
not_first x y ys n h = sym (cc (ne_eqb x y n)) ∙ h

-- ascending numbers that stand in an ascending row are no more than that has
inside-few : (lo hi : ℕ) (xs ys : List ℕ) → Up lo xs → Up hi ys → Inside xs ys → length xs ≤ length ys
unfolding among
inside-few lo hi [] ys u v h = omega arith
inside-few lo hi (x ∷ xs) [] u v h = absurd (not_both (h x (first-among x xs)) refl)
inside-few lo hi (x ∷ xs) (y ∷ ys) u v h =
    split (length (x ∷ xs) ≤ length (y ∷ ys)) y x
    (λ lt. omega (arith, inside-few lo (suc y) (x ∷ xs) ys u v.2 (λ z m. not_first z y ys (λ e. omega (arith, least z m)) (h z m))))
    (λ ge. omega (arith, inside-few (suc x) (suc y) xs ys u.2 v.2 (λ z m. not_first z y ys (λ e. omega (arith, above (suc x) z xs u.2 m, first)) (h z (behind-among z x xs m)))))
  where
    least : (z : ℕ) → among z (x ∷ xs) ≡ true → x ≤ z
    least z m = above x z (x ∷ xs) (omega arith, u.1, u.2) m

    first : y ≤ x
    first = above y x (y ∷ ys) (omega arith, v.1, v.2) (h x (first-among x xs))

-- ---- parted by a test

unfoldable keep : (ℕ → Bool) → List ℕ → List ℕ
keep p [] = []
keep p (x ∷ xs) = elim (p x) [ true ↦ x ∷ keep p xs | false ↦ keep p xs ]

keep_up : (p : ℕ → Bool) (lo : ℕ) (xs : List ℕ) → Up lo xs → Up lo (keep p xs)
unfolding keep
keep_up p lo [] u = tt
keep_up p lo (x ∷ xs) u = go (p x) (keep_up p (suc x) xs u.2)
  where
    go : (b : Bool) → Up (suc x) (keep p xs) → Up lo (elim b [ true ↦ x ∷ keep p xs | false ↦ keep p xs ])
    go true v = (u.0, u.1, v)
    go false v = up_low lo (suc x) (keep p xs) (omega (arith, u.0)) v

keep-among : (p : ℕ → Bool) (x : ℕ) (xs : List ℕ) → among x (keep p xs) ≡ true → (p x ≡ true) × (among x xs ≡ true)
unfolding keep among
keep-among p x [] h = absurd (not_both h refl)
keep-among p x (y ∷ ys) h = go (p y) refl (λ m. let a = keep-among p x ys m in (a.0, behind-among x y ys a.1)) h
  where
    go : (b : Bool) → p y ≡ b → (among x (keep p ys) ≡ true → (p x ≡ true) × (among x (y ∷ ys) ≡ true))
        → among x (elim b [ true ↦ y ∷ keep p ys | false ↦ keep p ys ]) ≡ true → (p x ≡ true) × (among x (y ∷ ys) ≡ true)
    go true e later m = or_true (eqb x y) (among x (keep p ys)) (λ q. let same = eqb-true x y q in (rw same e, subst (λ z. among x (z ∷ ys) ≡ true) same (first-among x ys))) later m
    go false e later m = later m

keep-both : (p : ℕ → Bool) (xs : List ℕ) → length (keep p xs) + length (keep (λ x. not (p x)) xs) ≡ length xs
unfolding keep
keep-both p [] = refl
keep-both p (x ∷ xs) = go (p x) (keep-both p xs)
  where
    go : (b : Bool) → length (keep p xs) + length (keep (λ x. not (p x)) xs) ≡ length xs
        → length {A = ℕ} (elim b [ true ↦ x ∷ keep p xs | false ↦ keep p xs ]) + length {A = ℕ} (elim (not b) [ true ↦ x ∷ keep (λ x. not (p x)) xs | false ↦ keep (λ x. not (p x)) xs ]) ≡ suc (length xs)
    go true h = omega arith
    go false h = omega arith

-- ---- over ascending lists
module _ (ls : List (List ℕ)) (up : (k : ℕ) → Up 0 (get_or ls k [])) where
  abbrev ns : List ℕ
  ns = map length ls

  length-of : (k : ℕ) → get_or ns k 0 ≡ length (get_or ls k [])
  length-of k = get_or-map length ls k []

  mutual
    unfolding member most_members

    pub few : (t : Tree) (xs : List ℕ) → Up 0 xs → ((x : ℕ) → among x xs ≡ true → member ls t x ≡ true) → length xs ≤ most_members ns t
    few (leaf k) xs u h = rw (length-of k) (inside-few 0 0 xs (get_or ls k []) u (up k) h)
    few (difference s t) xs u h = few s xs u (λ x m. (and_true (member ls s x) (not (member ls t x)) (h x m)).0)
    few (union ts) xs u h = few-some ts xs u h
    few (intersection ts) xs u h = few-all ts xs u h

    few-some : (ts : Members) (xs : List ℕ) → Up 0 xs → ((x : ℕ) → among x xs ≡ true → member_some ls ts x ≡ true) → length xs ≤ sum_of_most ns ts
    few-some (one t) xs u h = few t xs u h
    few-some (more t ts) xs u h =
        let p : ℕ → Bool = member ls t in
        omega (
          arith,
          keep-both p xs,
          few t (keep p xs) (keep_up p 0 xs u) (λ x m. (keep-among p x xs m).0),
          few-some ts (keep (λ x. not (p x)) xs) (keep_up (λ x. not (p x)) 0 xs u) (λ x m. let a = keep-among (λ x. not (p x)) x xs m in other (p x) (member_some ls ts x) a.0 (h x a.1)),
        )
      where
        other : (a b : Bool) → not a ≡ true → a || b ≡ true → b ≡ true
        other true b n h = absurd (not_both n refl)
        other false b n h = h

    few-all : (ts : Members) (xs : List ℕ) → Up 0 xs → ((x : ℕ) → among x xs ≡ true → member_all ls ts x ≡ true) → length xs ≤ least_of_most ns ts
    few-all (one t) xs u h = few t xs u h
    few-all (more t ts) xs u h =
        omega (arith, few t xs u (λ x m. (and_true (member ls t x) (member_all ls ts x) (h x m)).0), few-all ts xs u (λ x m. (and_true (member ls t x) (member_all ls ts x) (h x m)).1))

  pub members_bounded : (t : Tree) → length (members ls t) ≤ most_members ns t
  members_bounded t = few t (members ls t) (members_up ls up t) (λ x m. sym (members_are ls t x) ∙ m)

  -- of a single list it is exact
  pub members-single : (k : ℕ) → length (members ls (leaf k)) ≡ most_members ns (leaf k)
  unfolding member most_members
  members-single k = omega (arith, members_bounded (leaf k), inside-few 0 0 (get_or ls k []) (members ls (leaf k)) (up k) (members_up ls up (leaf k)) (λ x m. members_are ls (leaf k) x ∙ m), length-of k)

-- ---- what the rule can come to

pub sum-append : (l r : List ℕ) → sum (l ++ r) ≡ sum l + sum r
unfolding sum
sum-append [] r = omega arith
sum-append (x ∷ l) r = omega (arith, sum-append l r)

module _ (ns : List ℕ) where
  mutual
    unfolding most_members lengths sum

    pub most-within : (t : Tree) → most_members ns t ≤ sum (lengths ns t)
    most-within (leaf k) = omega arith
    most-within (difference s t) = omega (arith, most-within s, sum-append (lengths ns s) (lengths ns t))
    most-within (union ts) = omega (arith, sum-within ts)
    most-within (intersection ts) = omega (arith, least-within ts)

    sum-within : (ts : Members) → sum_of_most ns ts ≤ sum (lengths_all ns ts)
    sum-within (one t) = most-within t
    sum-within (more t ts) = omega (arith, most-within t, sum-within ts, sum-append (lengths ns t) (lengths_all ns ts))

    least-within : (ts : Members) → least_of_most ns ts ≤ sum (lengths_all ns ts)
    least-within (one t) = most-within t
    least-within (more t ts) = omega (arith, most-within t, sum-append (lengths ns t) (lengths_all ns ts))

  module _ (small : (k : ℕ) → get_or ns k 0 ≤ 65535) where
    mutual
      unfolding lengths sum size

      pub lengths-within : (t : Tree) → sum (lengths ns t) ≤ 65535 * size t
      lengths-within (leaf k) = omega (arith, small k)
      lengths-within (difference s t) = omega (arith, lengths-within s, lengths-within t, sum-append (lengths ns s) (lengths ns t))
      lengths-within (union ts) = omega (arith, all-within ts)
      lengths-within (intersection ts) = omega (arith, all-within ts)

      all-within : (ts : Members) → sum (lengths_all ns ts) ≤ 65535 * sizes ts
      all-within (one t) = lengths-within t
      all-within (more t ts) = omega (arith, lengths-within t, all-within ts, sum-append (lengths ns t) (lengths_all ns ts))
