-- Places and moves: no place passes its list's end, places are 0 at operators and unused nodes, moves are within the sum of
-- the places, and so at most the summed lengths of the lists at the leaves; of readers that move singly they are that sum.
--
-- What every reader's step keeps every operator's does. Assumes nothing.
use mathlib.Core.Path.{◌≡◌, refl, ap, ◌∙◌}
use mathlib.Core.Bool.{Bool, true, false}
use mathlib.Core.List.{List, [], ◌∷◌, ◌++◌, map}
use Prim.Native.Nat.{ℕ, zero, suc, ◌+◌, ◌≤◌, ◌<◌, max}
use native.Mathlib.Omega.{arith}
use native.Mathlib.Decide.{ℕ_discrete}
use lib.Dec.{ltb, eqb}
use lib.ListN.{get_or, set, drop, length, length-set, length-append, length-drop, get_or-append}
use lib.Seq.{get_or-set_same, get_or-set_other, get_or-append-add}
use Rattle.model.specs.declared.Reply.{Reply}
use Rattle.model.specs.declared.Reply.TheVariants.{No}
use Rattle.model.specs.Expression.{Tree, leaf, difference, union, intersection, Members, one, more, size, sizes}
use Rattle.model.specs.Machine.{Call, next, at_or_past, past, check, other}
use Rattle.model.specs.Steps.{Readers, Found, end, at, Seek, Checked, says, Check, Progress, Advance, singly, hopping, answer, read_by, read, fuel, differ, unite, follow, intersect, seek_by, seek_union_by, seek_intersection_by, seek_rest_by, is_at, turned, on_yes, on_no, check_by, check_union_by, check_intersection_by, passed}
use Rattle.model.specs.Run.{State, drawn, told, step_by, steps_by, steps, Start, begin}
use Rattle.model.specs.Demands.{lengths, lengths_all, sum}
use Rattle.model.proofs.Order.{none_moved}
use Rattle.model.proofs.Hops.{grown-le, moves-le}
use Rattle.model.proofs.Seek.{on_case, test_case}

-- ---- what the readers keep, every seek and check keeps

abbrev pub readers_of : Found → Readers
readers_of (end rs) = rs
readers_of (at x rs) = rs

abbrev pub readers_after : Checked → Readers
readers_after (says b rs) = rs

module _ (P : Readers → Type 0) where
  abbrev In : Found → Type 0
  In r = P (readers_of r)

  abbrev InCheck : Checked → Type 0
  InCheck r = P (readers_after r)

  abbrev pub Keeps : Seek → Type 0
  Keeps f = (e : ℕ) (rs : Readers) → P rs → In (f e rs)

  abbrev pub Holds : Check → Type 0
  Holds f = (d : ℕ) (rs : Readers) → P rs → InCheck (f d rs)

  pub differ_keeps : (f g : Seek) → Keeps f → Keeps g → (n : ℕ) → Keeps (differ n f g)
  unfolding differ
  differ_keeps f g kf kg zero = λ e rs h. h
  differ_keeps f g kf kg (suc n) = λ e rs h.
      on_case In In _ _ (f e rs) (kf e rs h) (λ rs₁ h₁. h₁) (λ x rs₁ h₁.
      on_case In In _ _ (g x rs₁) (kg x rs₁ h₁) (λ rs₂ h₂. h₂) (λ y rs₂ h₂.
      test_case In (eqb x y) _ _ (λ q. differ_keeps f g kf kg n (suc x) rs₂ h₂) (λ q. h₂)))

  pub unite_keeps : (f g : Seek) → Keeps f → Keeps g → Keeps (unite f g)
  unfolding unite
  unite_keeps f g kf kg e rs h =
      on_case In In _ _ (f e rs) (kf e rs h) (λ rs₁ h₁. kg e rs₁ h₁) (λ x rs₁ h₁.
      on_case In In _ _ (g e rs₁) (kg e rs₁ h₁) (λ rs₂ h₂. h₂) (λ y rs₂ h₂. h₂))

  pub follow_keeps : (f g : Seek) → Keeps f → Keeps g → Keeps (follow f g)
  unfolding follow
  follow_keeps f g kf kg e rs h =
      on_case In In _ _ (f e rs) (kf e rs h) (λ rs₁ h₁. h₁) (λ x rs₁ h₁.
      test_case In (ltb e x) _ _ (λ q. h₁) (λ q. kg e rs₁ h₁))

  pub intersect_keeps : (f g : Seek) → Keeps f → Keeps g → (n : ℕ) → Keeps (intersect n f g)
  unfolding intersect
  intersect_keeps f g kf kg zero = λ e rs h. h
  intersect_keeps f g kf kg (suc n) = λ e rs h.
      on_case In In _ _ (f e rs) (kf e rs h) (λ rs₁ h₁. h₁) (λ x rs₁ h₁.
      on_case In In _ _ (g x rs₁) (kg x rs₁ h₁) (λ rs₂ h₂. h₂) (λ y rs₂ h₂.
      test_case In (ltb x y) _ _ (λ q. intersect_keeps f g kf kg n y rs₂ h₂) (λ q. h₂)))

  is_at_holds : (d : ℕ) (r : Found) → In r → InCheck (is_at d r)
  unfolding is_at
  is_at_holds d (end rs) h = h
  is_at_holds d (at x rs) h = h

  turned_holds : (r : Checked) → InCheck r → InCheck (turned r)
  unfolding turned
  turned_holds (says b rs) h = h

  yes_holds : (r : Checked) (g : Readers → Checked) → ((rs : Readers) → P rs → InCheck (g rs)) → InCheck r → InCheck (on_yes r g)
  unfolding on_yes
  yes_holds (says true rs) g kg h = kg rs h
  yes_holds (says false rs) g kg h = h

  no_holds : (r : Checked) (g : Readers → Checked) → ((rs : Readers) → P rs → InCheck (g rs)) → InCheck r → InCheck (on_no r g)
  unfolding on_no
  no_holds (says true rs) g kg h = h
  no_holds (says false rs) g kg h = kg rs h

  -- of a tree whose readers keep it, whichever way they go: `leaves_keep` says so of each leaf
  module _ (advance : Advance) (ls : List (List ℕ)) where
    abbrev mutual
      pub LeavesKeep : Tree → ℕ → Type 0
      LeavesKeep (leaf k) i = Keeps (read_by advance (get_or ls k []) i)
      LeavesKeep (difference s t) i = LeavesKeep s (1 + i) × LeavesKeep t (1 + i + size s)
      LeavesKeep (union ts) i = AllKeep ts (1 + i)
      LeavesKeep (intersection ts) i = AllKeep ts (1 + i)

      pub AllKeep : Members → ℕ → Type 0
      AllKeep (one t) i = LeavesKeep t i
      AllKeep (more t ts) i = LeavesKeep t i × AllKeep ts (i + size t)

    mutual
      unfolding seek_by

      pub seek_keeps : (t : Tree) (i : ℕ) → LeavesKeep t i → Keeps (seek_by advance ls t i)
      seek_keeps (leaf k) i h = h
      seek_keeps (difference s t) i h = differ_keeps (seek_by advance ls s (1 + i)) (seek_by advance ls t (1 + i + size s)) (seek_keeps s (1 + i) h.0) (seek_keeps t (1 + i + size s) h.1) fuel
      seek_keeps (union ts) i h = union_keeps ts (1 + i) h
      seek_keeps (intersection ts) i h = intersection_keeps ts (1 + i) h

      union_keeps : (ts : Members) (i : ℕ) → AllKeep ts i → Keeps (seek_union_by advance ls ts i)
      union_keeps (one t) i h = seek_keeps t i h
      union_keeps (more t ts) i h = unite_keeps (seek_by advance ls t i) (seek_union_by advance ls ts (i + size t)) (seek_keeps t i h.0) (union_keeps ts (i + size t) h.1)

      intersection_keeps : (ts : Members) (i : ℕ) → AllKeep ts i → Keeps (seek_intersection_by advance ls ts i)
      intersection_keeps (one t) i h = seek_keeps t i h
      intersection_keeps (more t ts) i h = intersect_keeps (seek_by advance ls t i) (seek_rest_by advance ls ts (i + size t)) (seek_keeps t i h.0) (rest_keeps ts (i + size t) h.1) fuel

      rest_keeps : (ts : Members) (i : ℕ) → AllKeep ts i → Keeps (seek_rest_by advance ls ts i)
      rest_keeps (one t) i h = seek_keeps t i h
      rest_keeps (more t ts) i h = follow_keeps (seek_by advance ls t i) (seek_rest_by advance ls ts (i + size t)) (seek_keeps t i h.0) (rest_keeps ts (i + size t) h.1)

    mutual
      unfolding check_by

      pub check_holds : (t : Tree) (i : ℕ) → LeavesKeep t i → Holds (check_by advance ls t i)
      check_holds (leaf k) i h = λ d rs w. is_at_holds d (read_by advance (get_or ls k []) i d rs) (h d rs w)
      check_holds (difference s t) i h = λ d rs w.
          yes_holds (check_by advance ls s (1 + i) d rs) _ (λ rs₁ v. turned_holds (check_by advance ls t (1 + i + size s) d rs₁) (check_holds t (1 + i + size s) h.1 d rs₁ v)) (check_holds s (1 + i) h.0 d rs w)
      check_holds (union ts) i h = some_holds ts (1 + i) h
      check_holds (intersection ts) i h = all_holds ts (1 + i) h

      some_holds : (ts : Members) (i : ℕ) → AllKeep ts i → Holds (check_union_by advance ls ts i)
      some_holds (one t) i h = check_holds t i h
      some_holds (more t ts) i h = λ d rs w. no_holds (check_by advance ls t i d rs) (check_union_by advance ls ts (i + size t) d) (some_holds ts (i + size t) h.1 d) (check_holds t i h.0 d rs w)

      all_holds : (ts : Members) (i : ℕ) → AllKeep ts i → Holds (check_intersection_by advance ls ts i)
      all_holds (one t) i h = check_holds t i h
      all_holds (more t ts) i h = λ d rs w. yes_holds (check_by advance ls t i d rs) (check_intersection_by advance ls ts (i + size t) d) (all_holds ts (i + size t) h.1 d) (check_holds t i h.0 d rs w)

    -- and so a whole list of calls keeps it
    module _ (t : Tree) (h : LeavesKeep t 0) where
      drawn_keeps : (r : Found) → In r → P (drawn r).1.readers
      unfolding drawn
      drawn_keeps (end rs) p = p
      drawn_keeps (at x rs) p = p

      told_keeps : (d : ℕ) (r : Checked) → InCheck r → P (told d r).1.readers
      unfolding told
      told_keeps d (says b rs) p = p

      step_keeps : (s : State) (c : Call) → P s.readers → P (step_by advance ls t s c).1.readers
      unfolding step_by
      step_keeps s next p = drawn_keeps (seek_by advance ls t 0 s.floor s.readers) (seek_keeps t 0 h s.floor s.readers p)
      step_keeps s (at_or_past d) p = drawn_keeps (seek_by advance ls t 0 (max s.floor d) s.readers) (seek_keeps t 0 h (max s.floor d) s.readers p)
      step_keeps s (past d) p = drawn_keeps (seek_by advance ls t 0 (max s.floor (suc d)) s.readers) (seek_keeps t 0 h (max s.floor (suc d)) s.readers p)
      step_keeps s (check d) p = go (ltb d s.floor)
        where
          after : Bool → Reply × State
          after b = elim b [ true ↦ (No, s) | false ↦ told d (check_by advance ls t 0 d s.readers) ]

          go : (b : Bool) → P (after b).1.readers
          go true = p
          go false = told_keeps d (check_by advance ls t 0 d s.readers) (check_holds t 0 h d s.readers p)
      step_keeps s other p = p

      pub steps_keep : (cs : List Call) (s : State) → P s.readers → P (steps_by advance ls t s cs).1.readers
      unfolding steps_by
      steps_keep [] s p = p
      steps_keep (c ∷ cs) s p = steps_keep cs (step_by advance ls t s c).1 (step_keeps s c p)

-- ---- one reader's step

pub sum-set : (ps : List ℕ) (i n : ℕ) → i < length ps → sum (set ps i (get_or ps i 0 + n)) ≡ sum ps + n
unfolding sum
sum-set [] i n h = absurd (omega arith)
sum-set (p ∷ ps) zero n h = omega arith
sum-set (p ∷ ps) (suc i) n h = omega (arith, sum-set ps i n (omega arith))

pub sum-le : (ps bounds : List ℕ) → ((k : ℕ) → get_or ps k 0 ≤ get_or bounds k 0) → sum ps ≤ sum bounds
unfolding sum
sum-le [] bounds h = omega arith
sum-le (p ∷ ps) [] h = omega (arith, h 0, sum-le ps [] (λ k. h (suc k)))
sum-le (p ∷ ps) (b ∷ bs) h = omega (arith, h 0, sum-le ps bs (λ k. h (suc k)))

-- what a step of the node i's reader keeps is what the place and the moves that it comes to keep
read_kept : (advance : Advance) (P : Readers → Type 0) (l : List ℕ) (i e : ℕ) (rs : Readers)
    → (let went = advance (drop (get_or rs.places i 0) l) e in P (record { places = set rs.places i (get_or rs.places i 0 + went.grown); moves = rs.moves + went.moves }))
    → P (readers_of (read_by advance l i e rs))
unfolding read_by answer
read_kept advance P l i e rs h = go (drop (get_or rs.places i 0 + went.grown) l)
  where
    went : Progress
    went = advance (drop (get_or rs.places i 0) l) e

    go : (r : List ℕ) → P (readers_of (answer r (record { places = set rs.places i (get_or rs.places i 0 + went.grown); moves = rs.moves + went.moves })))
    go [] = h
    go (y ∷ ys) = h

-- ---- the bounds

-- no place passes its bound, and the moves are within the sum of the places
pub record Counted (bounds : List ℕ) (rs : Readers) : Type 0 where
  pub long : length rs.places ≡ 48
  pub within : (k : ℕ) → get_or rs.places k 0 ≤ get_or bounds k 0
  pub covered : rs.moves ≤ sum rs.places

-- a reader of a list as long as its bound keeps it
counted_keeps : (bounds l : List ℕ) (i : ℕ) → i < 48 → get_or bounds i 0 ≡ length l → Keeps (Counted bounds) (read l i)
counted_keeps bounds l i h b e rs c = read_kept hopping (Counted bounds) l i e rs (record {
  long = length-set rs.places i (place + n) ∙ c.long;
  within = within;
  covered = omega (arith, sum-set rs.places i n inside, c.covered, moves-le e (drop place l));
})
  where
    place : ℕ
    place = get_or rs.places i 0

    n : ℕ
    n = (hopping (drop place l) e).grown

    inside : i < length rs.places
    inside = omega (arith, c.long)

    small : place + n ≤ get_or bounds i 0
    small = omega (arith, grown-le e (drop place l), length-drop place l, c.within i)

    within : (k : ℕ) → get_or (set rs.places i (place + n)) k 0 ≤ get_or bounds k 0
    within k = to (ℕ_discrete k i)
      where
        to : Dec (k ≡ i) → get_or (set rs.places i (place + n)) k 0 ≤ get_or bounds k 0
        to (yes q) = rw (q, get_or-set_same rs.places i (place + n) 0 inside) small
        to (no q) = rw (get_or-set_other rs.places i k (place + n) 0 q) (c.within k)

-- where readers move singly, "Moves are the sum of the places"
abbrev Summed : Readers → Type 0
Summed rs = (length rs.places ≡ 48) × (rs.moves ≡ sum rs.places)

summed_keeps : (l : List ℕ) (i : ℕ) → i < 48 → Keeps Summed (read_by singly l i)
unfolding singly
summed_keeps l i h e rs c =
    let place : ℕ = get_or rs.places i 0 in
    let n : ℕ = passed (drop place l) e in
    read_kept singly Summed l i e rs (length-set rs.places i (place + n) ∙ c.0, omega (arith, sum-set rs.places i n (omega (arith, c.0)), c.1))

-- ---- each leaf's bound in the row of lengths

-- the row l stands in the row of bounds from i on
abbrev Stands : List ℕ → ℕ → List ℕ → Type 0
Stands bounds i l = (k : ℕ) → k < length l → get_or bounds (i + k) 0 ≡ get_or l k 0

stands_tail : (bounds l : List ℕ) (i x : ℕ) → Stands bounds i (x ∷ l) → Stands bounds (1 + i) l
stands_tail bounds l i x s k h = ap (λ (n : ℕ). get_or bounds n 0) (omega arith) ∙ s (suc k) (omega arith)

stands_left : (bounds l r : List ℕ) (i : ℕ) → Stands bounds i (l ++ r) → Stands bounds i l
stands_left bounds l r i s k h = s k (omega (arith, length-append l r)) ∙ get_or-append l r 0 k h

stands_right : (bounds l r : List ℕ) (i n : ℕ) → length l ≡ n → Stands bounds i (l ++ r) → Stands bounds (i + n) r
stands_right bounds l r i n e s k h =
    ap (λ (m : ℕ). get_or bounds m 0) (omega arith) ∙ s (length l + k) (omega (arith, length-append l r)) ∙ get_or-append-add l r k 0

module _ (ns : List ℕ) where
  mutual
    unfolding lengths size

    lengths-size : (t : Tree) → length (lengths ns t) ≡ size t
    lengths-size (leaf k) = refl
    lengths-size (difference s t) = omega (arith, length-append (lengths ns s) (lengths ns t), lengths-size s, lengths-size t)
    lengths-size (union ts) = omega (arith, all-size ts)
    lengths-size (intersection ts) = omega (arith, all-size ts)

    all-size : (ts : Members) → length (lengths_all ns ts) ≡ sizes ts
    all-size (one t) = lengths-size t
    all-size (more t ts) = omega (arith, length-append (lengths ns t) (lengths_all ns ts), lengths-size t, all-size ts)

list_length : (ls : List (List ℕ)) (k : ℕ) → get_or (map length ls) k 0 ≡ length (get_or ls k [])
list_length [] k = refl
list_length (l ∷ ls) zero = refl
list_length (l ∷ ls) (suc k) = list_length ls k

-- of what every reader within the 48 places keeps whose list is as long as its bound
module _ (advance : Advance) (ls : List (List ℕ)) (P : Readers → Type 0) (bounds : List ℕ) (keeps : (l : List ℕ) (i : ℕ) → i < 48 → get_or bounds i 0 ≡ length l → Keeps P (read_by advance l i)) where
  abbrev ns : List ℕ
  ns = map length ls

  mutual
    unfolding lengths size

    leaves_keep : (t : Tree) (i : ℕ) → i + size t ≤ 48 → Stands bounds i (lengths ns t) → LeavesKeep P advance ls t i
    leaves_keep (leaf k) i h s = keeps (get_or ls k []) i (omega arith) (ap (λ (n : ℕ). get_or bounds n 0) (omega arith) ∙ s 0 (omega arith) ∙ list_length ls k)
    leaves_keep (difference a b) i h s =
        let s' : Stands bounds (1 + i) (lengths ns a ++ lengths ns b) = stands_tail bounds (lengths ns a ++ lengths ns b) i 0 s in (
          leaves_keep a (1 + i) (omega arith) (stands_left bounds (lengths ns a) (lengths ns b) (1 + i) s'),
          leaves_keep b (1 + i + size a) (omega arith) (stands_right bounds (lengths ns a) (lengths ns b) (1 + i) (size a) (lengths-size ns a) s'),
        )
    leaves_keep (union ts) i h s = all_keep ts (1 + i) (omega arith) (stands_tail bounds (lengths_all ns ts) i 0 s)
    leaves_keep (intersection ts) i h s = all_keep ts (1 + i) (omega arith) (stands_tail bounds (lengths_all ns ts) i 0 s)

    all_keep : (ts : Members) (i : ℕ) → i + sizes ts ≤ 48 → Stands bounds i (lengths_all ns ts) → AllKeep P advance ls ts i
    all_keep (one t) i h s = leaves_keep t i h s
    all_keep (more t ts) i h s = (
      leaves_keep t i (omega arith) (stands_left bounds (lengths ns t) (lengths_all ns ts) i s),
      all_keep ts (i + size t) (omega arith) (stands_right bounds (lengths ns t) (lengths_all ns ts) i (size t) (lengths-size ns t) s),
    )

-- after any list of calls
module _ (ls : List (List ℕ)) (t : Tree) (h : size t ≤ 48) (start : Start) (cs : List Call) where
  abbrev bounds : List ℕ
  bounds = lengths (map length ls) t

  abbrev after : Readers
  after = (steps ls t (begin start) cs).1.readers

  whole : Stands bounds 0 bounds
  whole k q = ap (λ (n : ℕ). get_or bounds n 0) (omega arith)

  pub counted_run : Counted bounds after
  unfolding begin
  counted_run = steps_keep (Counted bounds) hopping ls t (leaves_keep hopping ls (Counted bounds) bounds (counted_keeps bounds) t 0 (omega arith) whole) cs (begin start)
      (record { long = refl; within = λ k. omega (arith, none_moved k); covered = omega arith })

  -- of readers that move singly
  pub summed-run : let single = (steps_by singly ls t (begin start) cs).1.readers in single.moves ≡ sum single.places
  unfolding begin sum
  summed-run = (steps_keep Summed singly ls t (leaves_keep singly ls Summed bounds (λ l i q b. summed_keeps l i q) t 0 (omega arith) whole) cs (begin start) (refl, refl)).1
