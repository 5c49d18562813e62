-- Two deliveries' lists joined, list by list: what of each came, its numbers, and their lengths. Assumes nothing.
use mathlib.Core.Path.{◌≡◌, refl, sym, ap, ap₂, ◌∙◌}
use mathlib.Core.Bool.{Bool, true, false, ◌&&◌, ◌||◌, cond}
use mathlib.Core.List.{List, [], ◌∷◌, map}
use Prim.Native.Nat.{ℕ, zero, suc, ◌+◌, ◌≤◌, ◌<◌}
use native.Mathlib.Omega.{arith}
use native.Mathlib.Nat.{add-zero}
use lib.Dec.{leb}
use borrow.Author.Tests.{le-leb, lt-leb, leb-true, leb-false}
use lib.ListN.{length, get_or}
use Rattle.model.specs.Lists.{delivered}
use Rattle.model.specs.Sets.{among}
use Rattle.model.specs.Delivery.{Supplied, undelivered, came, supplied_numbers, is_delivered, supplied_from}
use Rattle.model.specs.Joined.{join_list, join_lists, lengths_hold}
use Rattle.model.proofs.Order.{and_right, and_true, not_both, Up}
use Rattle.model.proofs.Denoted.{up-ascending}
use Rattle.model.proofs.Deliveries.{Storable}
use Rattle.model.proofs.Unions.{union_self, union_among}
use Rattle.joins.proofs.Unique.{union_up, union_swap}

-- list k as it was supplied; one that is not there did not come
abbrev pub nth : List Supplied → ℕ → Supplied
nth ss k = get_or ss k undelivered

-- ---- one list

pub join-among : (x : ℕ) (a b : Supplied) → among x (supplied_numbers (join_list a b)) ≡ among x (supplied_numbers a) || among x (supplied_numbers b)
unfolding join_list supplied_numbers among
join-among x undelivered b = refl
join-among x (came l) undelivered = none (among x l)
  where
    none : (p : Bool) → p ≡ p || false
    none true = refl
    none false = refl
join-among x (came l) (came m) = union_among x l m

pub join_up : (a b : Supplied) → Up 0 (supplied_numbers a) → Up 0 (supplied_numbers b) → Up 0 (supplied_numbers (join_list a b))
unfolding join_list supplied_numbers
join_up undelivered b u v = v
join_up (came l) undelivered u v = u
join_up (came l) (came m) u v = union_up 0 l m u v

pub join_full : (a b : Supplied) → is_delivered b ≡ false → join_list a b ≡ a
unfolding join_list is_delivered
join_full undelivered undelivered h = refl
join_full (came l) undelivered h = refl
join_full a (came m) h = absurd (not_both refl h)

pub join-daily : (a b : Supplied) → is_delivered a ≡ false → join_list a b ≡ b
unfolding join_list is_delivered
join-daily undelivered b h = refl
join-daily (came l) b h = absurd (not_both refl h)

join_swap : (a b : Supplied) → Up 0 (supplied_numbers a) → Up 0 (supplied_numbers b) → join_list a b ≡ join_list b a
unfolding join_list supplied_numbers
join_swap undelivered undelivered u v = refl
join_swap undelivered (came m) u v = refl
join_swap (came l) undelivered u v = refl
join_swap (came l) (came m) u v = ap came (union_swap l m u v)

join-self : (a : Supplied) → Up 0 (supplied_numbers a) → join_list a a ≡ a
unfolding join_list supplied_numbers
join-self undelivered u = refl
join-self (came l) u = ap came (union_self l (up-ascending 0 l u))

-- ---- all lists

pub join-at : (fs ds : List Supplied) (k : ℕ) → length fs ≡ length ds → nth (join_lists fs ds) k ≡ join_list (nth fs k) (nth ds k)
unfolding join_lists join_list
join-at [] [] k h = refl
join-at [] (d ∷ ds) k h = absurd (omega arith)
join-at (f ∷ fs) [] k h = absurd (omega arith)
join-at (f ∷ fs) (d ∷ ds) zero h = refl
join-at (f ∷ fs) (d ∷ ds) (suc k) h = join-at fs ds k (omega arith)

pub join-length : (fs ds : List Supplied) → length fs ≡ length ds → length (join_lists fs ds) ≡ length fs
unfolding join_lists
join-length [] ds h = refl
join-length (f ∷ fs) [] h = absurd (omega arith)
join-length (f ∷ fs) (d ∷ ds) h = ap suc (join-length fs ds (omega arith))

pub swapped : (fs ds : List Supplied) → Storable (map supplied_numbers fs) → Storable (map supplied_numbers ds) → join_lists fs ds ≡ join_lists ds fs
unfolding join_lists
swapped [] [] s t = refl
swapped [] (d ∷ ds) s t = refl
swapped (f ∷ fs) [] s t = refl
swapped (f ∷ fs) (d ∷ ds) s t = ap₂ (λ (a : Supplied) (ss : List Supplied). a ∷ ss) (join_swap f d s.0.0 t.0.0) (swapped fs ds s.1 t.1)

pub itself : (fs : List Supplied) → Storable (map supplied_numbers fs) → join_lists fs fs ≡ fs
unfolding join_lists
itself [] s = refl
itself (f ∷ fs) s = ap₂ (λ (a : Supplied) (ss : List Supplied). a ∷ ss) (join-self f s.0.0) (itself fs s.1)

-- ---- lengths

pub short-all : (ss : List Supplied) → ((k : ℕ) → length (supplied_numbers (nth ss k)) ≤ 65535) → lengths_hold ss ≡ true
unfolding lengths_hold
short-all [] h = refl
short-all (a ∷ ss) h = rw (le-leb (length (supplied_numbers a)) 65535 (h 0), short-all ss (λ k. h (suc k)))

pub storable-short : (ss : List Supplied) → Storable (map supplied_numbers ss) → lengths_hold ss ≡ true
unfolding lengths_hold
storable-short [] s = refl
storable-short (a ∷ ss) s = rw (le-leb (length (supplied_numbers a)) 65535 s.0.1, storable-short ss s.1)

pub long-at : (ss : List Supplied) (k : ℕ) → 65535 < length (supplied_numbers (nth ss k)) → lengths_hold ss ≡ false
unfolding lengths_hold supplied_numbers
long-at [] k h = absurd (omega arith)
long-at (a ∷ ss) zero h = rw (lt-leb (length (supplied_numbers a)) 65535 h) refl
long-at (a ∷ ss) (suc k) h = and_right (leb (length (supplied_numbers a)) 65535) (lengths_hold ss) (long-at ss k h)

pub record Long (ss : List Supplied) : Type 0 where
  pub list : ℕ
  pub long : 65535 < length (supplied_numbers (nth ss list))

pub long_found : (ss : List Supplied) → lengths_hold ss ≡ false → Long ss
unfolding lengths_hold
long_found [] h = absurd (not_both refl h)
long_found (a ∷ ss) h = go (leb (length (supplied_numbers a)) 65535) refl h (λ q. long_found ss q)
  where
    go : (b : Bool) → leb (length (supplied_numbers a)) 65535 ≡ b → b && lengths_hold ss ≡ false → (lengths_hold ss ≡ false → Long ss) → Long (a ∷ ss)
    go true e q f = let l = f q in record { list = suc l.list; long = l.long }
    go false e q f = record { list = 0; long = leb-false (length (supplied_numbers a)) 65535 e }

-- then a delivery can hold them
pub joined_storable : (fs ds : List Supplied) → Storable (map supplied_numbers fs) → Storable (map supplied_numbers ds) → lengths_hold (join_lists fs ds) ≡ true → Storable (map supplied_numbers (join_lists fs ds))
unfolding join_lists lengths_hold
joined_storable [] ds s t h = tt
joined_storable (f ∷ fs) [] s t h = tt
joined_storable (f ∷ fs) (d ∷ ds) s t h =
    let a = and_true (leb (length (supplied_numbers (join_list f d))) 65535) (lengths_hold (join_lists fs ds)) h in
    ((join_up f d s.0.0 t.0.0, leb-true (length (supplied_numbers (join_list f d))) 65535 a.0), joined_storable fs ds s.1 t.1 a.1)

-- ---- lists and a word that say what was supplied, list by list
pub supplied-is : (word k : ℕ) (ls : List (List ℕ)) (ss : List Supplied) → length ls ≡ length ss
    → ((i : ℕ) → i < length ss → (delivered word (k + i) ≡ is_delivered (nth ss i)) × (get_or ls i [] ≡ supplied_numbers (nth ss i))) → supplied_from word k ls ≡ ss
unfolding supplied_from is_delivered supplied_numbers
supplied-is word k [] [] n h = refl
supplied-is word k [] (a ∷ ss) n h = absurd (omega arith)
supplied-is word k (l ∷ ls) [] n h = absurd (omega arith)
supplied-is word k (l ∷ ls) (a ∷ ss) n h =
    let here = h 0 (omega arith) in
    ap₂ (λ (b : Supplied) (r : List Supplied). b ∷ r) (first (delivered word k) a (ap (delivered word) (sym (add-zero k)) ∙ here.0) here.1)
    (supplied-is word (suc k) ls ss (omega arith) (λ i lt. let e : k + suc i ≡ suc k + i = omega arith in rw e at (h (suc i) (omega arith))))
  where
    first : (b : Bool) (a : Supplied) → b ≡ is_delivered a → l ≡ supplied_numbers a → cond b (came l) undelivered ≡ a
    first b undelivered p q = rw p refl
    first b (came m) p q = rw (p, q) refl
