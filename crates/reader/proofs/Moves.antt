-- A reader's step: how often it moves, and what it answers. Assumes nothing.
use mathlib.Core.Path.{◌≡◌, refl, sym, ap, ◌∙◌}
use mathlib.Core.Bool.{Bool, true, false}
use mathlib.Core.List.{List, [], ◌∷◌}
use Prim.Native.Nat.{ℕ, zero, suc, ◌+◌, ◌-◌, ◌*◌, ◌/◌, ◌≤◌, ◌<◌}
use native.Mathlib.Omega.{arith}
use native.Mathlib.Numerals.{add-one}
use borrow.Author.Tests.{lt-ltb, le-ltb, ltb-true, ltb-false}
use lib.Dec.{ltb}
use lib.ListN.{replicate, length, length-set, get_or, set, drop, drop_of_length-le, length-drop}
use lib.Seq.{drop-cons, get_or-drop}
use Rattle.model.specs.Lists.{top}
use Rattle.model.specs.Steps as model
use Rattle.model.specs.Steps.{at, passed, Progress, singly, hops, answer, read, read_by}
use Rattle.model.specs.Demands.{sum}
use Rattle.model.proofs.Order.{and_true, split, Up, up_drop}
use Rattle.model.proofs.Hops.{passed_on, passed_off, passed-le, up_le, hops-far, hops-near, hopping_off, hops_on, grown-same, moves-le, grown-far}
use Rattle.model.proofs.Places.{sum-set}
use Rattle.reader.specs.declared.ReadResult.{ReadResult}
use Rattle.reader.specs.Tally.{Tallied}
use Rattle.reader.specs.Sought.{has_read, found, below, Hopped, Advanced, Read, Stays}
use Rattle.reader.proofs.Answers.{found_at, found-end}

-- ---- one turn, at a place of the list

module _ (list : List ℕ) (at to : ℕ) where
  none_end : length list ≤ at → passed (drop at list) to ≡ 0
  unfolding passed
  none_end h = rw drop_of_length-le

  none_stop : at < length list → to ≤ get_or list at 0 → passed (drop at list) to ≡ 0
  none_stop h k = rw (drop-cons list at 0, passed_off _ _ to (le-ltb (get_or list at 0) to k))

  -- what the reader finds there: the list's end, or a number that is not below E
  pub stopping : below list at to ≡ false → at < length list → to ≤ get_or list at 0
  unfolding below
  stopping h k = ltb-false (get_or list at 0) to (rw (lt-ltb at (length list) k) at h)

  pub none_more : below list at to ≡ false → passed (drop at list) to ≡ 0
  none_more h = split (passed (drop at list) to ≡ 0) at (length list) (λ lt. none_stop lt (stopping h lt)) none_end

  -- or a number that is
  pub passing : below list at to ≡ true → (at < length list) × (get_or list at 0 < to)
  unfolding below
  passing h = let both = and_true _ _ h in (ltb-true at (length list) both.0, ltb-true (get_or list at 0) to both.1)

  pub one_more : below list at to ≡ true → passed (drop at list) to ≡ suc (passed (drop (at + 1) list) to)
  one_more h = let both = passing h in rw (add-one, drop-cons list at 0 both.0, passed_on _ _ to (lt-ltb (get_or list at 0) to both.1))

-- ---- one hop, at a place of the list

module _ (list : List ℕ) (at to : ℕ) where
  pub few-left : length list < at + 64 → hops (drop at list) to ≡ false
  few-left h = hops-near to (drop at list) (λ far. absurd (omega (arith, far, length-drop at list)))

  pub near-number : (j x : ℕ) → x ≡ get_or list j 0 → j ≡ at + 63 → to ≤ x → hops (drop at list) to ≡ false
  near-number j x e is h = hops-near to (drop at list) (λ far. rw (get_or-drop at list 63 0, ← is, ← e) h)

  pub far-enough : (j x : ℕ) → x ≡ get_or list j 0 → j ≡ at + 63 → at + 64 ≤ length list → x < to → hops (drop at list) to ≡ true
  far-enough j x e is h k = hops-far to (drop at list) (omega (arith, length-drop at list)) (rw (get_or-drop at list 63 0, ← is, ← e) k)

  -- and so one hop more was made
  pub one_more_hop : (place n : ℕ) → at ≡ place + 64 * n → hops (drop at list) to ≡ true → ((k : ℕ) → k < n → hops (drop (place + 64 * k) list) to ≡ true)
      → (k : ℕ) → k < n + 1 → hops (drop (place + 64 * k) list) to ≡ true
  one_more_hop place n is here each k h = split (hops (drop (place + 64 * k) list) to ≡ true) k n (each k)
      (λ last. let same : place + 64 * k ≡ at = omega (arith, is) in rw same here)

-- so many hops, each where it hops, lead to where it stands, and it hops no more
pub hops_counted : (list : List ℕ) (place to stand n last moves : ℕ) → last ≡ stand → moves ≡ (stand - place) / 64 → stand ≡ place + 64 * n
    → ((k : ℕ) → k < n → hops (drop (place + 64 * k) list) to ≡ true) → hops (drop stand list) to ≡ false → Hopped list place to last moves
hops_counted list place to stand n last moves here counts far each ended =
    let so_many : moves ≡ n = omega (arith, counts, far) in
    rw (here, so_many) (record { far = far; each = each; ended = ended })

-- ---- by hops and then singly

module _ (list : List ℕ) (place to : ℕ) where
  -- a reader that does not hop moves singly
  singly_there : (last n : ℕ) → hops (drop place list) to ≡ false → passed (drop place list) to ≡ n → last ≡ place + n → Advanced list place to last n
  unfolding singly
  singly_there last n h moves is =
      let one = hopping_off to (drop place list) h in
      record { comes = omega (arith, ap (λ (p : Progress). p.grown) one, moves, is); counts = omega (arith, ap (λ (p : Progress). p.moves) one, moves) }

  -- over an ascending list, where one of the 64 numbers is not below E the 64th is not
  not_far : Up 0 list → (j : ℕ) → j < 64 → below list (place + j) to ≡ false → hops (drop place list) to ≡ false
  not_far up j small h = split (hops (drop place list) to ≡ false) (place + 63) (length list)
      (λ lt. near-number list place to (place + 63) _ refl refl (omega (arith, stopping list (place + j) to h (omega arith), up_le 0 (place + j) (place + 63) list up (omega arith) lt)))
      (λ ge. few-left list place to (omega arith))

  -- so that one number tells that it stays, and a second one that it makes one move
  pub no_move : (last n : ℕ) → Up 0 list → below list place to ≡ false → last ≡ place → n ≡ 0 → Advanced list place to last n
  no_move last n up h is none =
      let here : place + 0 ≡ place = omega arith in
      singly_there last n (not_far up 0 (omega arith) (rw here h)) (omega (arith, none_more list place to h)) (omega arith)

  pub one_move : (last n : ℕ) → Up 0 list → below list place to ≡ true → below list (place + 1) to ≡ false → last ≡ place + 1 → n ≡ 1 → Advanced list place to last n
  one_move last n up h k is one = singly_there last n (not_far up 1 (omega arith) k) (omega (arith, one_more list place to h, none_more list (place + 1) to k)) (omega arith)

  -- where it has not hopped and both are passed, it may go on behind them
  pub two-behind : (h n from : ℕ) → below list place to ≡ true → below list (place + 1) to ≡ true → Hopped list place to h n → n ≡ 0 → from ≡ place + 2
      → from + passed (drop from list) to ≡ h + passed (drop h list) to
  two-behind h n from one two made none is =
      let here : h ≡ place = omega (arith, made.far, none) in
      let behind : from ≡ place + 1 + 1 = omega (arith, is) in
      rw (here, behind) (omega (arith, one_more list place to one, one_more list (place + 1) to two))

  pub advanced : (h n last moves : ℕ) → Hopped list place to h n → last ≡ h + passed (drop h list) to → moves ≡ n + (last - h) → Advanced list place to last moves
  unfolding singly
  advanced h n last moves made is counts =
      let on = rw (← made.far) at (hops_on to list n place made.each) in
      let one = hopping_off to (drop h list) made.ended in
      record {
        comes = omega (arith, on.grown, ap (λ (p : Progress). p.grown) one, made.far, is);
        counts = omega (arith, on.moves, ap (λ (p : Progress). p.moves) one, is, counts);
      }

-- ---- the whole step

-- the number that a reader stops at is not below the one sought
stop_above : (l : List ℕ) (e : ℕ) → passed l e < length l → e ≤ get_or l (passed l e) 0
stop_above [] e h = absurd (omega arith)
stop_above (x ∷ xs) e h = go (ltb x e) refl (stop_above xs e)
  where
    go : (b : Bool) → ltb x e ≡ b → (passed xs e < length xs → e ≤ get_or xs (passed xs e) 0) → e ≤ get_or (x ∷ xs) (passed (x ∷ xs) e) 0
    go true q ih = let p = passed_on x xs e q in rw p (ih (omega (arith, p)))
    go false q ih = rw (passed_off x xs e q) (omega (arith, ltb-false x e q))

-- at most so many moves for each place
pub sum_bound : (ps : List ℕ) (most : ℕ) → ((i : ℕ) → get_or ps i 0 ≤ most) → sum ps ≤ length ps * most
unfolding sum
sum_bound [] most h = omega arith
sum_bound (p ∷ ps) most h = omega (arith, h 0, sum_bound ps most (λ i. h (suc i)))

-- an element set to at most the bound keeps it
below_set : (ps : List ℕ) (i x most j : ℕ) → x ≤ most → get_or ps j 0 ≤ most → get_or (set ps i x) j 0 ≤ most
below_set [] i x most j h k = k
below_set (p ∷ ps) zero x most zero h k = h
below_set (p ∷ ps) zero x most (suc j) h k = k
below_set (p ∷ ps) (suc i) x most zero h k = k
below_set (p ∷ ps) (suc i) x most (suc j) h k = below_set ps i x most j h k

-- readers that have made no move
pub none_moved : Tallied (replicate 48 0) 0
none_moved = record { many = refl; small = λ i. omega (arith, none-there 48 i); within = omega arith }
  where
    none-there : (n i : ℕ) → get_or (replicate n 0) i 0 ≤ 0
    none-there zero i = omega arith
    none-there (suc n) zero = omega arith
    none-there (suc n) (suc i) = none-there n i

-- 48 places of 16 bits sum to far less than 32 bits hold
pub moves-few : (places : List ℕ) (moves : ℕ) → Tallied places moves → moves ≤ 48 * 65535
moves-few places moves t = omega (arith, t.within, rw t.many at (sum_bound places 65535 t.small))

-- a reader comes to a place, by so many moves
pub moved_tallied : (places : List ℕ) (moves i place n : ℕ) → Tallied places moves → i < 48 → place ≤ 65535 → get_or places i 0 + n ≤ place → Tallied (set places i place) (moves + n)
moved_tallied places moves i place n t here small within =
    let more : get_or places i 0 + (place - get_or places i 0) ≡ place = omega arith in
    let grown = rw more at (sum-set places i (place - get_or places i 0) (omega (arith, t.many))) in
    record {
      many = length-set places i place ∙ t.many;
      small = λ j. below_set places i place 65535 j small (t.small j);
      within = omega (arith, grown, t.within);
    }

-- readers to which a function writes: the check holds their places and moves apart, and the tally is said of them by its proofs
abbrev pub apart : List ℕ × (ℕ × Unit {0}) → model.Readers
apart rs = record { places = rs.0; moves = rs.1.0 }

abbrev pub AreTallied : model.Readers → Type 0
AreTallied rs = Tallied rs.places rs.moves

-- a node's reader has made a step: they are tallied after it too, and their moves fit
module _ {l : List ℕ} {e : ℕ} {r : ReadResult} (rs : model.Readers) (i : ℕ) (reads : Read l (get_or rs.places i 0) e r) (here : i < 48) (t : AreTallied rs) where
  pub stepped_tallied : AreTallied (has_read i r rs)
  stepped_tallied = moved_tallied rs.places rs.moves i r.place r.moves t here reads.small reads.within

  pub stepped-fits : rs.moves + r.moves ≤ 48 * 65535
  stepped-fits = moves-few _ _ stepped_tallied

-- the readers after the reader of the node i has come to a place, by so many moves
abbrev after : model.Readers → ℕ → ℕ → ℕ → model.Readers
after rs i place n = record { places = set rs.places i place; moves = rs.moves + n }

-- what is known of the place where a reader over an ascending list comes to, by n moves
pub record Stopped (list : List ℕ) (before to place n : ℕ) : Type 0 where
  pub small : before ≤ 65535 → length list ≤ 65535 → place ≤ 65535
  pub within : before + n ≤ place
  pub still : n ≡ 0 → place ≡ before
  pub above : place < length list → to ≤ get_or list place 0
  pub number : (x : ℕ) → place < length list → x ≡ get_or list place 0 → x < top
      → (i : ℕ) (rs : model.Readers) → get_or rs.places i 0 ≡ before → found x (after rs i place n) ≡ read list i to rs
  pub finished : length list ≤ place
      → (i : ℕ) (rs : model.Readers) → get_or rs.places i 0 ≡ before → found top (after rs i place n) ≡ read list i to rs

pub stopped : (list : List ℕ) (before to place n : ℕ) → Up 0 list → Advanced list before to place n → Stopped list before to place n
unfolding read_by answer
stopped list before to place n up a = record { small = small; within = within; still = still; above = above; number = number; finished = finished }
  where
    left : List ℕ
    left = drop before list

    single : place ≡ before + passed left to
    single = a.comes ∙ ap (λ (m : ℕ). before + m) (grown-same to 0 left (up_drop 0 before list up))

    small : before ≤ 65535 → length list ≤ 65535 → place ≤ 65535
    small h k = omega (arith, single, passed-le left to, length-drop before list)

    within : before + n ≤ place
    within = omega (arith, a.comes, a.counts, moves-le to left)

    still : n ≡ 0 → place ≡ before
    still z = omega (arith, z, a.comes, a.counts, grown-far to left)

    above : place < length list → to ≤ get_or list place 0
    above h = rw (single, ← get_or-drop before list (passed left to) 0) (stop_above left to (omega (arith, single, length-drop before list)))

    reads : (i : ℕ) (rs : model.Readers) → get_or rs.places i 0 ≡ before → read list i to rs ≡ answer (drop place list) (after rs i place n)
    reads i rs here = rw (here, ← a.comes, ← a.counts)

    number : (x : ℕ) → place < length list → x ≡ get_or list place 0 → x < top
        → (i : ℕ) (rs : model.Readers) → get_or rs.places i 0 ≡ before → found x (after rs i place n) ≡ read list i to rs
    number x h e lt i rs here = found_at x _ lt ∙ ap (λ (y : ℕ). at y (after rs i place n)) e ∙ sym (reads i rs here ∙ ap (λ (l : List ℕ). answer l (after rs i place n)) (drop-cons list place 0 h))

    finished : length list ≤ place → (i : ℕ) (rs : model.Readers) → get_or rs.places i 0 ≡ before → found top (after rs i place n) ≡ read list i to rs
    finished h i rs here = found-end top _ (omega arith) ∙ sym (reads i rs here ∙ ap (λ (l : List ℕ). answer l (after rs i place n)) (drop_of_length-le list h))

-- ---- a reader that stays
set_same : (ps : List ℕ) (i : ℕ) → set ps i (get_or ps i 0) ≡ ps
set_same [] i = refl
set_same (p ∷ ps) zero = refl
set_same (p ∷ ps) (suc i) = ap (λ (qs : List ℕ). p ∷ qs) (set_same ps i)

pub stays : (l : List ℕ) (place e : ℕ) (r : ReadResult) → Read l place e r → r.moves ≡ 0 → Stays l place e r.answer
stays l place e r reads z = record {
  above = reads.above;
  low = reads.low;
  is = λ i rs here.
      let place : r.place ≡ get_or rs.places i 0 = reads.still z ∙ sym here in
      let places : set rs.places i r.place ≡ rs.places = ap (set rs.places i) place ∙ set_same rs.places i in
      let moves : rs.moves + r.moves ≡ rs.moves = omega (arith, z) in
      rw (places, moves) at (reads.is i rs here);
}
