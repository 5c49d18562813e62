-- One number in or out: of a list that ascends it comes or goes at one place, so of the row that the lists are laid in
-- too, and the ends from its list on move by one; no other number's membership can change, so the members are those that
-- were, with that one in or out; the lists afterwards can be lent again, and the opposite change gives back those that
-- were. Assumes nothing.
use mathlib.Core.Path.{◌≡◌, refl, sym, ap, ap₂, ◌∙◌}
use mathlib.Core.Bool.{Bool, true, false, not, ◌&&◌, ◌||◌}
use mathlib.Core.List.{List, [], ◌∷◌, ◌++◌, append_assoc, map}
use Prim.Native.Nat.{ℕ, zero, suc, ◌+◌, ◌-◌, ◌≤◌, ◌<◌}
use native.Mathlib.Omega.{arith}
use lib.Dec.{ltb, leb, eqb}
use borrow.Author.Tests.{lt-ltb, le-ltb, ltb-true, ltb-false, leb-true, eqb-true, eqb-false, eq-eqb, ne_eqb, not-true}
use lib.ListN.{length, get_or, take, drop, set, length-append, length-take, length-drop, length-set}
use lib.Seq.{get_or-set_same, get_or-set_other, set_out, set-set, set_split, set-get_or, take-add, drop-drop, take-append-add, drop-append-add, take-append-le, drop-append-le}
use Rattle.model.specs.Lists.{top, part, lists_from, ends_hold}
use Rattle.model.specs.Expression.{Tree, leaf, difference, union, intersection, Members, one, more}
use Rattle.model.specs.Sets.{among, member, member_some, member_all, all_numbers, insert, members}
use Rattle.model.specs.Steps.{passed}
use Rattle.model.specs.Calls.{ends_from}
use Rattle.model.specs.Update.{Change, remove, old_list, new_list, new_lists, same, is_new, has_room}
use Rattle.model.specs.RequestOne.{in_or_out, moved, opposite}
use Rattle.model.proofs.Order.{and_right, and_true, not_both, split, Up, up_low, up_none}
use Rattle.model.proofs.Denoted.{insert-among, insert_up, members_up, members_are}
use Rattle.model.proofs.Hops.{passed_on, passed_off}
use Rattle.model.proofs.Deliveries.{Storable, storable_up}
use Rattle.model.proofs.Laid.{lists_length}

-- ---- one number in or out of a list that ascends

or_false : (a b : Bool) → a || b ≡ false → (a ≡ false) × (b ≡ false)
or_false true b h = absurd (not_both refl h)
or_false false b h = (refl, h)

-- it comes where those below it have passed
pub insert-at : (lo x : ℕ) (l : List ℕ) → Up lo l → among x l ≡ false → insert x l ≡ take (passed l x) l ++ (x ∷ drop (passed l x) l)
unfolding insert among passed
insert-at lo x [] u h = refl
insert-at lo x (y ∷ ys) u h = let o = or_false (eqb x y) (among x ys) h in go (ltb y x) refl o.0 (insert-at (suc y) x ys u.2 o.1)
  where
    go : (b : Bool) → ltb y x ≡ b → eqb x y ≡ false → insert x ys ≡ take (passed ys x) ys ++ (x ∷ drop (passed ys x) ys)
        → insert x (y ∷ ys) ≡ take (passed (y ∷ ys) x) (y ∷ ys) ++ (x ∷ drop (passed (y ∷ ys) x) (y ∷ ys))
    go true q ne ih = rw (passed_on y ys x q, le-ltb x y (omega (arith, ltb-true y x q)), ne, insert) (ap (λ (r : List ℕ). y ∷ r) ih)
    go false q ne ih = rw (passed_off y ys x q, lt-ltb x y (omega (arith, ltb-false y x q, eqb-false x y ne)), insert)

-- a number of the list that is not its first one stands above that
below : (lo x y : ℕ) (ys : List ℕ) → Up lo (y ∷ ys) → among x ys ≡ true → y < x
below lo x y ys u m = split (y < x) y x (λ lt. lt) (λ ge. absurd (not_both m (up_none (suc y) x ys u.2 (omega arith))))

-- it goes from where those below it have passed
pub remove-at : (lo x : ℕ) (l : List ℕ) → Up lo l → among x l ≡ true → remove x l ≡ take (passed l x) l ++ drop (suc (passed l x)) l
unfolding remove among
remove-at lo x [] u h = absurd (not_both h refl)
remove-at lo x (y ∷ ys) u h = go (eqb x y) refl h (λ m. remove-at (suc y) x ys u.2 m)
  where
    go : (b : Bool) → eqb x y ≡ b → b || among x ys ≡ true → (among x ys ≡ true → remove x ys ≡ take (passed ys x) ys ++ drop (suc (passed ys x)) ys)
        → elim b [ true ↦ ys | false ↦ y ∷ remove x ys ] ≡ take (passed (y ∷ ys) x) (y ∷ ys) ++ drop (suc (passed (y ∷ ys) x)) (y ∷ ys)
    go true q m ih = rw (passed_off y ys x (le-ltb y x (omega (arith, eqb-true x y q))))
    go false q m ih = rw (passed_on y ys x (lt-ltb y x (below lo x y ys u m))) (ap (λ (r : List ℕ). y ∷ r) (ih m))

among_first : (x : ℕ) (xs : List ℕ) → among x (x ∷ xs) ≡ true
unfolding among
among_first x xs = cc (eq-eqb x x refl)

-- the first of a list that ascends is not above what stands in it
first-least : (lo x y : ℕ) (ys : List ℕ) → Up lo (y ∷ ys) → among x (y ∷ ys) ≡ true → y ≤ x
first-least lo x y ys u m = split (y ≤ x) x y (λ lt. absurd (not_both m (up_none y x (y ∷ ys) (omega arith, u.1, u.2) lt))) (λ ge. ge)

-- lists that ascend and hold the same numbers are the same
pub up_same : (lo : ℕ) (l m : List ℕ) → Up lo l → Up lo m → ((x : ℕ) → among x l ≡ among x m) → l ≡ m
unfolding among
up_same lo [] [] u v h = refl
up_same lo [] (y ∷ ys) u v h = absurd (not_both (h y ∙ among_first y ys) refl)
up_same lo (x ∷ xs) [] u v h = absurd (not_both (sym (h x) ∙ among_first x xs) refl)
up_same lo (x ∷ xs) (y ∷ ys) u v h =
    let e : x ≡ y = omega (arith, first-least lo y x xs u (h y ∙ among_first y ys), first-least lo x y ys v (sym (h x) ∙ among_first x xs)) in
    let w : Up (suc x) ys = rw e v.2 in
    ap₂ (λ (z : ℕ) (zs : List ℕ). z ∷ zs) e (up_same (suc x) xs ys u.2 w (λ z. rest e w z (eqb z x) refl))
  where
    rest : x ≡ y → Up (suc x) ys → (z : ℕ) (b : Bool) → eqb z x ≡ b → among z xs ≡ among z ys
    rest e w z true q = let lt : z < suc x = omega (arith, eqb-true z x q) in up_none (suc x) z xs u.2 lt ∙ sym (up_none (suc x) z ys w lt)
    rest e w z false q = rw (← e, q) at (h z)

-- a list without a number: what stands in it, and that it still ascends
pub remove-among : (lo x y : ℕ) (l : List ℕ) → Up lo l → among x (remove y l) ≡ not (eqb x y) && among x l
unfolding remove among
remove-among lo x y [] u = sym (and_right (not (eqb x y)) false refl)
remove-among lo x y (z ∷ zs) u = go (eqb y z) refl (eqb x y) refl (eqb x z) refl (remove-among (suc z) x y zs u.2)
  where
    go : (a : Bool) → eqb y z ≡ a → (b : Bool) → eqb x y ≡ b → (c : Bool) → eqb x z ≡ c → among x (remove y zs) ≡ not b && among x zs
        → among x (elim a [ true ↦ zs | false ↦ z ∷ remove y zs ]) ≡ not b && (c || among x zs)
    go true p true q c r ih = up_none (suc z) x zs u.2 (omega (arith, eqb-true y z p, eqb-true x y q))
    go true p false q true r ih = absurd (eqb-false x y q (eqb-true x z r ∙ sym (eqb-true y z p)))
    go true p false q false r ih = refl
    go false p true q true r ih = absurd (eqb-false y z p (sym (eqb-true x y q) ∙ eqb-true x z r))
    go false p true q false r ih = cc
    go false p false q c r ih = cc

pub remove_up : (lo y : ℕ) (l : List ℕ) → Up lo l → Up lo (remove y l)
unfolding remove
remove_up lo y [] u = tt
remove_up lo y (z ∷ zs) u = go (eqb y z) (remove_up (suc z) y zs u.2)
  where
    go : (b : Bool) → Up (suc z) (remove y zs) → Up lo (elim b [ true ↦ zs | false ↦ z ∷ remove y zs ])
    go true ih = up_low lo (suc z) zs (omega (arith, u.0)) u.2
    go false ih = (u.0, u.1, ih)

-- with a number more or less the list is longer or shorter by one
pub insert-long : (x : ℕ) (l : List ℕ) → (lo : ℕ) → Up lo l → among x l ≡ false → length (insert x l) ≡ suc (length l)
insert-long x l lo u h =
    let p = passed l x in
    rw (insert-at lo x l u h) (omega (arith, length-append (take p l) (x ∷ drop p l), length-take p l, length-drop p l))

pub remove-long : (x : ℕ) (l : List ℕ) → among x l ≡ true → suc (length (remove x l)) ≡ length l
unfolding remove among
remove-long x [] h = absurd (not_both h refl)
remove-long x (y ∷ ys) h = go (eqb x y) h (λ m. remove-long x ys m)
  where
    go : (b : Bool) → b || among x ys ≡ true → (among x ys ≡ true → suc (length (remove x ys)) ≡ length ys) → suc (length {A = ℕ} (elim b [ true ↦ ys | false ↦ y ∷ remove x ys ])) ≡ suc (length ys)
    go true m ih = refl
    go false m ih = ap suc (ih m)

-- the test of two rows
pub same-is : (xs ys : List ℕ) → same xs ys ≡ true → xs ≡ ys
unfolding same
same-is [] [] h = refl
same-is [] (y ∷ ys) h = absurd (not_both h refl)
same-is (x ∷ xs) [] h = absurd (not_both h refl)
same-is (x ∷ xs) (y ∷ ys) h = let a = and_true (eqb x y) (same xs ys) h in ap₂ (λ (z : ℕ) (zs : List ℕ). z ∷ zs) (eqb-true x y a.0) (same-is xs ys a.1)

pub same_refl : (xs : List ℕ) → same xs xs ≡ true
unfolding same
same_refl [] = refl
same_refl (x ∷ xs) = cc (eq-eqb x x refl, same_refl xs)

-- ---- membership is of what stands in the lists

module _ (ls ms : List (List ℕ)) (x : ℕ) (h : (k : ℕ) → among x (get_or ls k []) ≡ among x (get_or ms k [])) where
  mutual
    unfolding member

    pub member_agrees : (t : Tree) → member ls t x ≡ member ms t x
    member_agrees (leaf k) = h k
    member_agrees (difference s t) = ap₂ (λ (a b : Bool). a && not b) (member_agrees s) (member_agrees t)
    member_agrees (union ts) = some_agree ts
    member_agrees (intersection ts) = all_agree ts

    some_agree : (ts : Members) → member_some ls ts x ≡ member_some ms ts x
    some_agree (one t) = member_agrees t
    some_agree (more t ts) = ap₂ (λ (a b : Bool). a || b) (member_agrees t) (some_agree ts)

    all_agree : (ts : Members) → member_all ls ts x ≡ member_all ms ts x
    all_agree (one t) = member_agrees t
    all_agree (more t ts) = ap₂ (λ (a b : Bool). a && b) (member_agrees t) (all_agree ts)

-- ---- the lists after a change

pub new_at : (c : Change) (ls : List (List ℕ)) → c.list < length ls → get_or (new_lists c ls) c.list [] ≡ new_list c ls
unfolding new_lists
new_at c ls lt = get_or-set_same ls c.list (new_list c ls) [] lt

pub new_other : (c : Change) (ls : List (List ℕ)) (k : ℕ) → (k ≡ c.list → ⊥) → get_or (new_lists c ls) k [] ≡ get_or ls k []
unfolding new_lists
new_other c ls k ne = get_or-set_other ls c.list k (new_list c ls) [] ne

pub new_many : (c : Change) (ls : List (List ℕ)) → length (new_lists c ls) ≡ length ls
unfolding new_lists
new_many c ls = length-set ls c.list (new_list c ls)

-- what holds of every list and of the changed one holds of every list afterwards
new_each : (c : Change) (ls : List (List ℕ)) (P : ℕ → List ℕ → Type 0) → P c.list (new_list c ls) → ((k : ℕ) → P k (get_or ls k [])) → (k : ℕ) → P k (get_or (new_lists c ls) k [])
new_each c ls P p q k = go (eqb k c.list) refl
  where
    go : (b : Bool) → eqb k c.list ≡ b → P k (get_or (new_lists c ls) k [])
    go true h =
        let e : k ≡ c.list = eqb-true k c.list h in
        split (P k (get_or (new_lists c ls) k [])) c.list (length ls) (λ lt. rw (e, new_at c ls lt) p) (λ ge. rw (out ge) (q k))
      where
        out : length ls ≤ c.list → new_lists c ls ≡ ls
        out ge = unfold new_lists in set_out ls c.list (new_list c ls) ge
    go false h = rw (new_other c ls k (eqb-false k c.list h)) (q k)

-- the changed list, over what the change does
abbrev turn : Bool → ℕ → List ℕ → List ℕ
turn b x l = elim b [ true ↦ insert x l | false ↦ remove x l ]

-- what stands in the changed list
pub new_among : (c : Change) (ls : List (List ℕ)) → Up 0 (old_list c ls) → (x : ℕ) → among x (new_list c ls) ≡ in_or_out c.adds (eqb x c.number) (among x (old_list c ls))
unfolding new_list
new_among c ls u x = go c.adds
  where
    go : (b : Bool) → among x (turn b c.number (old_list c ls)) ≡ in_or_out b (eqb x c.number) (among x (old_list c ls))
    go true = insert-among x c.number (old_list c ls)
    go false = remove-among 0 x c.number (old_list c ls) u

changed_up : (c : Change) (ls : List (List ℕ)) → Up 0 (old_list c ls) → c.number < top → Up 0 (new_list c ls)
unfolding new_list
changed_up c ls u low = go c.adds
  where
    go : (b : Bool) → Up 0 (turn b c.number (old_list c ls))
    go true = insert_up 0 c.number (old_list c ls) (omega arith) low u
    go false = remove_up 0 c.number (old_list c ls) u

pub new_up : (c : Change) (ls : List (List ℕ)) → ((k : ℕ) → Up 0 (get_or ls k [])) → c.number < top → (k : ℕ) → Up 0 (get_or (new_lists c ls) k [])
new_up c ls up low = new_each c ls (λ k l. Up 0 l) (changed_up c ls (up c.list) low) up

-- ---- the members after a change

-- no other number's membership changes
pub new_member : (c : Change) (ls : List (List ℕ)) → ((k : ℕ) → Up 0 (get_or ls k [])) → (t : Tree) (x : ℕ) → (x ≡ c.number → ⊥) → member (new_lists c ls) t x ≡ member ls t x
new_member c ls up t x ne =
    member_agrees (new_lists c ls) ls x (new_each c ls (λ k l. among x l ≡ among x (get_or ls k [])) (new_among c ls (up c.list) x ∙ go c.adds (eqb x c.number) (ne_eqb x c.number ne)) (λ k. refl)) t
  where
    go : (a b : Bool) → b ≡ false → in_or_out a b (among x (old_list c ls)) ≡ among x (old_list c ls)
    go a true h = absurd (not_both refl h)
    go true false h = refl
    go false false h = refl

module _ (c : Change) (ls : List (List ℕ)) (up : (k : ℕ) → Up 0 (get_or ls k [])) (low : c.number < top) (t : Tree) where
  -- a row that ascends is that of the members, if it holds what they are
  members-by : (l : List ℕ) → Up 0 l → ((x : ℕ) → (x ≡ c.number → ⊥) → among x l ≡ member ls t x) → among c.number l ≡ member (new_lists c ls) t c.number → members (new_lists c ls) t ≡ l
  members-by l u h e = up_same 0 (members (new_lists c ls) t) l (members_up (new_lists c ls) (new_up c ls up low) t) u (λ x. members_are (new_lists c ls) t x ∙ go x (eqb x c.number) refl)
    where
      go : (x : ℕ) (b : Bool) → eqb x c.number ≡ b → member (new_lists c ls) t x ≡ among x l
      go x true q = rw (eqb-true x c.number q) (sym e)
      go x false q = let ne = eqb-false x c.number q in new_member c ls up t x ne ∙ sym (h x ne)

  pub members_stay : member (new_lists c ls) t c.number ≡ member ls t c.number → members (new_lists c ls) t ≡ members ls t
  members_stay e = members-by (members ls t) (members_up ls up t) (λ x ne. members_are ls t x) (members_are ls t c.number ∙ sym e)

  pub members_come : member (new_lists c ls) t c.number ≡ true → member ls t c.number ≡ false → members (new_lists c ls) t ≡ insert c.number (members ls t)
  members_come e e' =
      members-by (insert c.number (members ls t)) (insert_up 0 c.number (members ls t) (omega arith) low (members_up ls up t))
      (λ x ne. cc (insert-among x c.number (members ls t), ne_eqb x c.number ne, members_are ls t x))
      (cc (insert-among c.number c.number (members ls t), eq-eqb c.number c.number refl))

  pub members-go : member (new_lists c ls) t c.number ≡ false → member ls t c.number ≡ true → members (new_lists c ls) t ≡ remove c.number (members ls t)
  members-go e e' =
      members-by (remove c.number (members ls t)) (remove_up 0 c.number (members ls t) (members_up ls up t))
      (λ x ne. cc (remove-among 0 x c.number (members ls t) (members_up ls up t), ne_eqb x c.number ne, members_are ls t x))
      (cc (remove-among 0 c.number c.number (members ls t) (members_up ls up t), eq-eqb c.number c.number refl))

-- ---- the row that the lists are laid in, and their ends

-- how far a row is used, and where the number of a change stands in it or belongs
abbrev pub used_of : List ℕ → ℕ
used_of ends = get_or (0 ∷ ends) (length ends) 0

abbrev pub place_of : (numbers ends : List ℕ) → Change → ℕ
place_of numbers ends c = get_or (0 ∷ ends) c.list 0 + passed (old_list c (lists_from numbers 0 ends)) c.number

-- lists taken out of a row are laid in it one after the other, up to the last end
record Used (numbers : List ℕ) (start : ℕ) (ends : List ℕ) : Type 0 where
  from : start ≤ get_or (start ∷ ends) (length ends) 0
  within : get_or (start ∷ ends) (length ends) 0 ≤ length numbers
  row : all_numbers (lists_from numbers start ends) ≡ take (get_or (start ∷ ends) (length ends) 0 - start) (drop start numbers)
  again : ends_from start (lists_from numbers start ends) ≡ ends

used_from : (numbers : List ℕ) (start : ℕ) (ends : List ℕ) → start ≤ length numbers → ends_hold (length numbers) start ends ≡ true → Used numbers start ends
unfolding ends_hold lists_from ends_from part all_numbers
used_from numbers start [] le h = record { from = omega arith; within = le; row = rw none; again = refl }
  where
    none : start - start ≡ 0
    none = omega arith
used_from numbers start (stop ∷ ends) le h =
    let a = and_true (leb start stop) _ h in
    let b = and_true (leb stop (length numbers)) _ a.1 in
    let c = and_true (leb (stop - start) 65535) _ b.1 in
    let q : start ≤ stop = leb-true start stop a.0 in
    let r : stop ≤ length numbers = leb-true stop (length numbers) b.0 in
    let n : start + length (take (stop - start) (drop start numbers)) ≡ stop = omega (arith, length-take (stop - start) (drop start numbers), length-drop start numbers) in
    let f = used_from numbers stop ends r c.1 in
    let last : ℕ = get_or (stop ∷ ends) (length ends) 0 in
    let sum : last - start ≡ (stop - start) + (last - stop) = omega (arith, f.from) in
    let seam : start + (stop - start) ≡ stop = omega arith in
    let next : drop (stop - start) (drop start numbers) ≡ drop stop numbers = drop-drop (stop - start) start numbers ∙ ap (λ (n : ℕ). drop n numbers) seam in
    record {
      from = omega (arith, f.from);
      within = f.within;
      row = rw (sum, take-add (stop - start) (last - stop) (drop start numbers), next) (ap (λ (r : List ℕ). take (stop - start) (drop start numbers) ++ r) f.row);
      again = rw n (ap (λ (es : List ℕ). stop ∷ es) f.again);
    }

pub used-within : (numbers ends : List ℕ) → ends_hold (length numbers) 0 ends ≡ true → used_of ends ≤ length numbers
used-within numbers ends hold = (used_from numbers 0 ends (omega arith) hold).within

pub used-numbers : (numbers ends : List ℕ) → ends_hold (length numbers) 0 ends ≡ true → all_numbers (lists_from numbers 0 ends) ≡ take (used_of ends) numbers
used-numbers numbers ends hold =
    let all : used_of ends - 0 ≡ used_of ends = omega arith in
    (used_from numbers 0 ends (omega arith) hold).row ∙ ap (λ (n : ℕ). take n numbers) all

pub used-ends : (numbers ends : List ℕ) → ends_hold (length numbers) 0 ends ≡ true → ends_from 0 (lists_from numbers 0 ends) ≡ ends
used-ends numbers ends hold = (used_from numbers 0 ends (omega arith) hold).again

-- the lists ahead of one, that one, and those behind it
all_append : (ls ms : List (List ℕ)) → all_numbers (ls ++ ms) ≡ all_numbers ls ++ all_numbers ms
unfolding all_numbers
all_append [] ms = refl
all_append (l ∷ ls) ms = ap (λ (r : List ℕ). l ++ r) (all_append ls ms) ∙ sym (append_assoc l (all_numbers ls) (all_numbers ms))

all_set : (ls : List (List ℕ)) (k : ℕ) (l : List ℕ) → k < length ls → all_numbers (set ls k l) ≡ all_numbers (take k ls) ++ (l ++ all_numbers (drop (suc k) ls))
unfolding all_numbers
all_set ls k l lt = ap all_numbers (set_split ls k l lt) ∙ all_append (take k ls) (l ∷ drop (suc k) ls)

all_around : (ls : List (List ℕ)) (k : ℕ) → k < length ls → all_numbers ls ≡ all_numbers (take k ls) ++ (get_or ls k [] ++ all_numbers (drop (suc k) ls))
all_around ls k lt = ap all_numbers (sym (set-get_or ls k [])) ∙ all_set ls k (get_or ls k []) lt

-- where list k begins
begins : (start : ℕ) (ls : List (List ℕ)) (k : ℕ) → k ≤ length ls → get_or (start ∷ ends_from start ls) k 0 ≡ start + length (all_numbers (take k ls))
unfolding all_numbers ends_from
begins start ls zero h = omega arith
begins start [] (suc k) h = absurd (omega arith)
begins start (l ∷ ls) (suc k) h = omega (arith, begins (start + length l) ls k (omega arith), length-append l (all_numbers (take k ls)))

-- one number in or out of a list in the middle of a row
come_inside : (before l after : List ℕ) (p x : ℕ) → p ≤ length l → before ++ ((take p l ++ (x ∷ drop p l)) ++ after) ≡ take (length before + p) (before ++ (l ++ after)) ++ (x ∷ drop (length before + p) (before ++ (l ++ after)))
come_inside before l after p x h =
    rw (take-append-add before (l ++ after) p, drop-append-add before (l ++ after) p, take-append-le p l after h, drop-append-le p l after h, append_assoc (take p l) (x ∷ drop p l) after)
    (sym (append_assoc before (take p l) (x ∷ (drop p l ++ after))))

go-inside : (before l after : List ℕ) (p : ℕ) → p < length l → before ++ ((take p l ++ drop (suc p) l) ++ after) ≡ take (length before + p) (before ++ (l ++ after)) ++ drop (suc (length before + p)) (before ++ (l ++ after))
go-inside before l after p h =
    let seam : suc (length before + p) ≡ length before + suc p = omega arith in
    rw (seam, take-append-add before (l ++ after) p, drop-append-add before (l ++ after) (suc p), take-append-le p l after (omega arith), drop-append-le (suc p) l after h, append_assoc (take p l) (drop (suc p) l) after)
    (sym (append_assoc before (take p l) (drop (suc p) l ++ after)))

-- no more pass than there are, and fewer where the number sought is there
pub passed-few : (l : List ℕ) (x : ℕ) → passed l x ≤ length l
unfolding passed
passed-few [] x = omega arith
passed-few (y ∷ ys) x = go (ltb y x) (passed-few ys x)
  where
    go : (b : Bool) → passed ys x ≤ length ys → elim b [ true ↦ suc (passed ys x) | false ↦ 0 ] ≤ suc (length ys)
    go true h = omega arith
    go false h = omega arith

pub passed-less : (l : List ℕ) (x : ℕ) → among x l ≡ true → passed l x < length l
unfolding passed among
passed-less [] x h = absurd (not_both h refl)
passed-less (y ∷ ys) x h = go (ltb y x) refl (λ m. passed-less ys x m)
  where
    go : (b : Bool) → ltb y x ≡ b → (among x ys ≡ true → passed ys x < length ys) → elim b [ true ↦ suc (passed ys x) | false ↦ 0 ] < suc (length ys)
    go true q ih = let n : eqb x y ≡ false = ne_eqb x y (λ e. omega (arith, ltb-true y x q)) in omega (arith, ih (rw n at h))
    go false q ih = omega arith

new_adds : (c : Change) (ls : List (List ℕ)) → c.adds ≡ true → new_list c ls ≡ insert c.number (old_list c ls)
unfolding new_list
new_adds c ls h = rw h

new_removes : (c : Change) (ls : List (List ℕ)) → c.adds ≡ false → new_list c ls ≡ remove c.number (old_list c ls)
unfolding new_list
new_removes c ls h = rw h

module _ (numbers ends : List ℕ) (hold : ends_hold (length numbers) 0 ends ≡ true) (c : Change) (lt : c.list < length ends) (up : (k : ℕ) → Up 0 (get_or (lists_from numbers 0 ends) k [])) where
  there : c.list < length (lists_from numbers 0 ends)
  there = omega (arith, lists_length numbers 0 ends)

  ahead : length (all_numbers (take c.list (lists_from numbers 0 ends))) ≡ get_or (0 ∷ ends) c.list 0
  ahead =
      let b = rw (used-ends numbers ends hold) at (begins 0 (lists_from numbers 0 ends) c.list (omega (arith, there))) in
      omega (arith, b)

  around : take (used_of ends) numbers ≡ all_numbers (take c.list (lists_from numbers 0 ends)) ++ (old_list c (lists_from numbers 0 ends) ++ all_numbers (drop (suc c.list) (lists_from numbers 0 ends)))
  around = sym (used-numbers numbers ends hold) ∙ all_around (lists_from numbers 0 ends) c.list there

  -- the changed list stands within the used part
  inside : get_or (0 ∷ ends) c.list 0 + length (old_list c (lists_from numbers 0 ends)) ≤ used_of ends
  inside =
      let ls : List (List ℕ) = lists_from numbers 0 ends in
      let l : List ℕ = old_list c ls in
      let after : List ℕ = all_numbers (drop (suc c.list) ls) in
      omega (arith, ap length around, length-append (all_numbers (take c.list ls)) (l ++ after), length-append l after, ahead, length-take (used_of ends) numbers, used-within numbers ends hold)

  pub place_come : c.adds ≡ true → among c.number (old_list c (lists_from numbers 0 ends)) ≡ false → place_of numbers ends c ≤ used_of ends
  place_come a m = omega (arith, inside, passed-few (old_list c (lists_from numbers 0 ends)) c.number)

  pub place-go : c.adds ≡ false → among c.number (old_list c (lists_from numbers 0 ends)) ≡ true → place_of numbers ends c < used_of ends
  place-go a m = omega (arith, inside, passed-less (old_list c (lists_from numbers 0 ends)) c.number m)

  pub numbers_come : c.adds ≡ true → among c.number (old_list c (lists_from numbers 0 ends)) ≡ false
      → all_numbers (new_lists c (lists_from numbers 0 ends)) ≡ take (place_of numbers ends c) (take (used_of ends) numbers) ++ (c.number ∷ drop (place_of numbers ends c) (take (used_of ends) numbers))
  unfolding new_lists
  numbers_come a m =
      let ls : List (List ℕ) = lists_from numbers 0 ends in
      let l : List ℕ = old_list c ls in
      rw (around, ← ahead, all_set ls c.list (new_list c ls) there, new_adds c ls a, insert-at 0 c.number l (up c.list) m)
      (come_inside (all_numbers (take c.list ls)) l (all_numbers (drop (suc c.list) ls)) (passed l c.number) c.number (passed-few l c.number))

  pub numbers-go : c.adds ≡ false → among c.number (old_list c (lists_from numbers 0 ends)) ≡ true
      → all_numbers (new_lists c (lists_from numbers 0 ends)) ≡ take (place_of numbers ends c) (take (used_of ends) numbers) ++ drop (suc (place_of numbers ends c)) (take (used_of ends) numbers)
  unfolding new_lists
  numbers-go a m =
      let ls : List (List ℕ) = lists_from numbers 0 ends in
      let l : List ℕ = old_list c ls in
      rw (around, ← ahead, all_set ls c.list (new_list c ls) there, new_removes c ls a, remove-at 0 c.number l (up c.list) m)
      (go-inside (all_numbers (take c.list ls)) l (all_numbers (drop (suc c.list) ls)) (passed l c.number) (passed-less l c.number m))

-- ---- the ends after a change

-- one more or one less, as a change goes
abbrev pub OneOff : Bool → (old new : ℕ) → Type 0
OneOff true old new = new ≡ suc old
OneOff false old new = old ≡ suc new

off_by : (b : Bool) (n old new : ℕ) → OneOff b old new → OneOff b (n + old) (n + new)
off_by true n old new h = omega arith
off_by false n old new h = omega arith

off_on : (b : Bool) (old new n : ℕ) → OneOff b old new → OneOff b (old + n) (new + n)
off_on true old new n h = omega arith
off_on false old new n h = omega arith

off_moved : (b : Bool) (old new : ℕ) → OneOff b old new → new ≡ moved b old
off_moved true old new h = h
off_moved false old new h = omega arith

-- where 15 does not apply, the number is absent and comes, or is present and goes, and the list's length goes with it
pub new_absent : (c : Change) (ls : List (List ℕ)) → c.adds ≡ true → is_new c ls ≡ true → among c.number (old_list c ls) ≡ false
unfolding is_new
new_absent c ls a h = not-true (among c.number (old_list c ls)) (rw a at h)

pub new_present : (c : Change) (ls : List (List ℕ)) → c.adds ≡ false → is_new c ls ≡ true → among c.number (old_list c ls) ≡ true
unfolding is_new
new_present c ls a h = rw a at h

pub new_long : (c : Change) (ls : List (List ℕ)) → Up 0 (old_list c ls) → is_new c ls ≡ true → OneOff c.adds (length (old_list c ls)) (length (new_list c ls))
unfolding new_list is_new
new_long c ls u h = go c.adds h
  where
    go : (b : Bool) → elim b [ true ↦ not (among c.number (old_list c ls)) | false ↦ among c.number (old_list c ls) ] ≡ true
        → OneOff b (length (old_list c ls)) (length (turn b c.number (old_list c ls)))
    go true m = insert-long c.number (old_list c ls) 0 u (not-true (among c.number (old_list c ls)) m)
    go false m = sym (remove-long c.number (old_list c ls) m)

-- lists that begin one place further on, or one less far, end so
ends_off : (b : Bool) (old new : ℕ) (ls : List (List ℕ)) → OneOff b old new → (new ∷ ends_from new ls) ≡ map (moved b) (old ∷ ends_from old ls)
unfolding ends_from
ends_off b old new [] h = ap (λ (e : ℕ). e ∷ []) (off_moved b old new h)
ends_off b old new (l ∷ ls) h = ap₂ (λ (e : ℕ) (es : List ℕ). e ∷ es) (off_moved b old new h) (ends_off b (old + length l) (new + length l) ls (off_on b old new (length l) h))

ends_set : (b : Bool) (start : ℕ) (ls : List (List ℕ)) (k : ℕ) (l : List ℕ) → k < length ls → OneOff b (length (get_or ls k [])) (length l)
    → ends_from start (set ls k l) ≡ take k (ends_from start ls) ++ map (moved b) (drop k (ends_from start ls))
unfolding ends_from
ends_set b start [] k l lt h = absurd (omega arith)
ends_set b start (m ∷ ls) zero l lt h = ends_off b (start + length m) (start + length l) ls (off_by b start (length m) (length l) h)
ends_set b start (m ∷ ls) (suc k) l lt h = ap (λ (es : List ℕ). (start + length m) ∷ es) (ends_set b (start + length m) ls k l (omega arith) h)

-- a list ends no earlier than its length says
ends_late : (ls : List (List ℕ)) (k n : ℕ) → k < n → length (get_or ls k []) ≤ length (all_numbers (take n ls))
unfolding all_numbers
ends_late ls k zero h = absurd (omega arith)
ends_late [] k (suc n) h = omega arith
ends_late (l ∷ ls) zero (suc n) h = omega (arith, length-append l (all_numbers (take n ls)))
ends_late (l ∷ ls) (suc k) (suc n) h = omega (arith, length-append l (all_numbers (take n ls)), ends_late ls k n (omega arith))

module _ (numbers ends : List ℕ) (hold : ends_hold (length numbers) 0 ends ≡ true) (c : Change) (lt : c.list < length ends) (up : (k : ℕ) → Up 0 (get_or (lists_from numbers 0 ends) k [])) where
  pub new_ends : is_new c (lists_from numbers 0 ends) ≡ true → ends_from 0 (new_lists c (lists_from numbers 0 ends)) ≡ take c.list ends ++ map (moved c.adds) (drop c.list ends)
  unfolding new_lists
  new_ends h =
      let ls : List (List ℕ) = lists_from numbers 0 ends in
      rw (used-ends numbers ends hold) at (ends_set c.adds 0 ls c.list (new_list c ls) (omega (arith, lists_length numbers 0 ends)) (new_long c ls (up c.list) h))

  -- where a number goes, every end from its list on can move down
  pub later-some : c.adds ≡ false → is_new c (lists_from numbers 0 ends) ≡ true → (i : ℕ) → c.list ≤ i → i < length ends → 1 ≤ get_or ends i 0
  later-some a h i le li =
      let ls : List (List ℕ) = lists_from numbers 0 ends in
      let b = rw (used-ends numbers ends hold) at (begins 0 ls (suc i) (omega (arith, lists_length numbers 0 ends))) in
      omega (arith, b, remove-long c.number (old_list c ls) (new_present c ls a h), ends_late ls c.list (suc i) (omega arith))

-- ---- the lists afterwards can be lent again, and the opposite change gives back those that were

pub storable-few : (ls : List (List ℕ)) → Storable ls → (k : ℕ) → length (get_or ls k []) ≤ 65535
storable-few [] s k = omega arith
storable-few (l ∷ ls) s zero = s.0.1
storable-few (l ∷ ls) s (suc k) = storable-few ls s.1 k

storable_by : (ls : List (List ℕ)) → ((k : ℕ) → Up 0 (get_or ls k [])) → ((k : ℕ) → length (get_or ls k []) ≤ 65535) → Storable ls
storable_by [] u h = tt
storable_by (l ∷ ls) u h = ((u 0, h 0), storable_by ls (λ k. u (suc k)) (λ k. h (suc k)))

pub new_storable : (c : Change) (ls : List (List ℕ)) → Storable ls → c.number < top → is_new c ls ≡ true → has_room c ls ≡ true → Storable (new_lists c ls)
unfolding has_room
new_storable c ls s low n r =
    let up = storable_up ls s in
    storable_by (new_lists c ls) (new_up c ls up low) (new_each c ls (λ k l. length l ≤ 65535) (go c.adds r (new_long c ls (up c.list) n)) (storable-few ls s))
  where
    go : (b : Bool) → not b || ltb (length (old_list c ls)) 65535 ≡ true → OneOff b (length (old_list c ls)) (length (new_list c ls)) → length (new_list c ls) ≤ 65535
    go true h o = omega (arith, ltb-true (length (old_list c ls)) 65535 h)
    go false h o = omega (arith, storable-few ls s c.list)

-- in and out again, and the other way round
remove-insert : (x : ℕ) (l : List ℕ) → among x l ≡ false → remove x (insert x l) ≡ l
unfolding remove insert among
remove-insert x [] h = rw (eq-eqb x x refl, remove)
remove-insert x (y ∷ ys) h = let o = or_false (eqb x y) (among x ys) h in go (ltb x y) (eqb x y) refl o.0 (remove-insert x ys o.1)
  where
    go : (a b : Bool) → eqb x y ≡ b → b ≡ false → remove x (insert x ys) ≡ ys → remove x (elim a [ true ↦ x ∷ y ∷ ys | false ↦ elim b [ true ↦ y ∷ ys | false ↦ y ∷ insert x ys ] ]) ≡ y ∷ ys
    go true b q ne ih = rw (eq-eqb x x refl, remove)
    go false true q ne ih = absurd (not_both refl ne)
    go false false q ne ih = rw (q, remove) (ap (λ (r : List ℕ). y ∷ r) ih)

insert-first : (x : ℕ) (l : List ℕ) → Up (suc x) l → insert x l ≡ x ∷ l
unfolding insert
insert-first x [] u = refl
insert-first x (y ∷ ys) u = rw (lt-ltb x y u.0, insert)

insert-remove : (lo x : ℕ) (l : List ℕ) → Up lo l → among x l ≡ true → insert x (remove x l) ≡ l
unfolding remove insert among
insert-remove lo x [] u h = absurd (not_both h refl)
insert-remove lo x (y ∷ ys) u h = go (eqb x y) refl h (λ m. insert-remove (suc y) x ys u.2 m)
  where
    go : (b : Bool) → eqb x y ≡ b → b || among x ys ≡ true → (among x ys ≡ true → insert x (remove x ys) ≡ ys) → insert x (elim b [ true ↦ ys | false ↦ y ∷ remove x ys ]) ≡ y ∷ ys
    go true q m ih = let e : x ≡ y = eqb-true x y q in rw e (insert-first y ys u.2)
    go false q m ih = rw (le-ltb x y (omega (arith, below lo x y ys u m)), q, insert) (ap (λ (r : List ℕ). y ∷ r) (ih m))

list_back : (c : Change) (ls : List (List ℕ)) → is_new c ls ≡ true → Up 0 (old_list c ls) → c.list < length ls → new_list (opposite c) (new_lists c ls) ≡ old_list c ls
unfolding new_list is_new
list_back c ls n u lt = ap (turn (not c.adds) c.number) (new_at c ls lt) ∙ go c.adds n
  where
    go : (b : Bool) → elim b [ true ↦ not (among c.number (old_list c ls)) | false ↦ among c.number (old_list c ls) ] ≡ true → turn (not b) c.number (turn b c.number (old_list c ls)) ≡ old_list c ls
    go true m = remove-insert c.number (old_list c ls) (not-true (among c.number (old_list c ls)) m)
    go false m = insert-remove 0 c.number (old_list c ls) u m

pub opposite-back : (c : Change) (ls : List (List ℕ)) → is_new c ls ≡ true → ((k : ℕ) → Up 0 (get_or ls k [])) → c.list < length ls → new_lists (opposite c) (new_lists c ls) ≡ ls
unfolding new_lists
opposite-back c ls n up lt = rw (list_back c ls n (up c.list) lt) (set-set ls c.list (new_list c ls) (old_list c ls) ∙ set-get_or ls c.list [])

-- that change passes 15 and 16
pub opposite_new : (c : Change) (ls : List (List ℕ)) → is_new c ls ≡ true → ((k : ℕ) → Up 0 (get_or ls k [])) → c.list < length ls → is_new (opposite c) (new_lists c ls) ≡ true
unfolding is_new
opposite_new c ls n up lt =
    let m : among c.number (get_or (new_lists c ls) c.list []) ≡ in_or_out c.adds true (among c.number (old_list c ls)) =
    ap (among c.number) (new_at c ls lt) ∙ new_among c ls (up c.list) c.number ∙ ap (λ (b : Bool). in_or_out c.adds b (among c.number (old_list c ls))) (eq-eqb c.number c.number refl) in
    go c.adds (among c.number (get_or (new_lists c ls) c.list [])) m
  where
    go : (b now : Bool) → now ≡ in_or_out b true (among c.number (old_list c ls)) → elim (not b) [ true ↦ not now | false ↦ now ] ≡ true
    go true now h = h
    go false now h = ap not h

pub opposite-room : (c : Change) (ls : List (List ℕ)) → Storable ls → is_new c ls ≡ true → c.list < length ls → has_room (opposite c) (new_lists c ls) ≡ true
unfolding has_room
opposite-room c ls s n lt = go c.adds (new_long c ls (storable_up ls s c.list) n)
  where
    go : (b : Bool) → OneOff b (length (old_list c ls)) (length (new_list c ls)) → not (not b) || ltb (length (get_or (new_lists c ls) c.list [])) 65535 ≡ true
    go true o = refl
    go false o = lt-ltb (length (get_or (new_lists c ls) c.list [])) 65535 (omega (arith, ap length (new_at c ls lt), storable-few ls s c.list))
