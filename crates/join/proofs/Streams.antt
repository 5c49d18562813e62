-- What is left of streams: it ascends, it is few, and how drawing its first number leaves it. Assumes nothing.
use mathlib.Core.Path.{◌≡◌, refl, sym, ap, ap₂, ◌∙◌, subst}
use mathlib.Core.Bool.{Bool, true, false, ◌||◌}
use mathlib.Core.List.{List, [], ◌∷◌}
use Prim.Native.Nat.{ℕ, zero, suc, ◌+◌, ◌-◌, ◌*◌, ◌≤◌, ◌<◌, max}
use native.Mathlib.Omega.{arith}
use lib.Dec.{ltb, leb}
use lib.ListN.{length, take, drop}
use borrow.Author.Tests.{lt-ltb, le-ltb, ltb-true, ltb-false, leb-true}
use Rattle.model.specs.Outcome.{Outcome, accepted}
use Rattle.model.specs.Lists.{top, Numbers, rises, ascending}
use Rattle.model.specs.Fields.{value, bits}
use Rattle.model.specs.Delivery.{largest_gap, read_gaps}
use Rattle.model.specs.Joined.{list_union}
use Rattle.model.proofs.Order.{and_true, split}
use Rattle.model.proofs.Accepted.{accepted-same, bound, required}
use Rattle.model.proofs.Unions.{union_nil, union_full, union_daily, union_both, union_ascending, union_length, union_numbers}
use Rattle.fields.specs.Positions.{take_at}
use Rattle.walk.specs.Answers.{only}
use Rattle.walk.proofs.Reading.{kept, only-is, gaps_none}
use Rattle.walk.proofs.Bounds.{gaps_next}
use Rattle.join.specs.declared.Stream.{Stream}
use Rattle.join.specs.declared.Pair.{Pair}
use Rattle.join.specs.declared.Drawn.{Drawn}
use Rattle.join.specs.Streams.{value_read, end_read, Reads, ended_at, coming, left_of, end_of, Draws, Advances, some_left, union_left, PairDraws, NextDrawn}

-- ---- what reads

pub value-is : {A : Type 0} (other : A) {o : Outcome (A × ℕ)} {a : A} {q : ℕ} → o ≡ accepted (a, q) → value_read other o ≡ a
unfolding value_read
value-is other e = rw e

pub end_is : {A : Type 0} {o : Outcome (A × ℕ)} {a : A} {q : ℕ} → o ≡ accepted (a, q) → end_read o ≡ q
unfolding end_read
end_is e = rw e

pub reads_is : {A : Type 0} (other : A) {o : Outcome (A × ℕ)} {a : A} {q : ℕ} → o ≡ accepted (a, q) → Reads other o
reads_is {A} other e = e ∙ ap₂ (λ (x : A) (p : ℕ). accepted (x, p)) (sym (value-is other e)) (sym (end_is e))

-- ---- the numbers behind a gap rise, and are numbers

pub small_cons : (x : ℕ) (xs : List ℕ) → x < top → Numbers xs → Numbers (x ∷ xs)
small_cons x xs h n zero = h
small_cons x xs h n (suc i) = n i

record Rising (last : ℕ) (xs : List ℕ) : Type 0 where
  up : rises last xs ≡ true
  small : Numbers xs

gaps_rise : (s : List ℕ) (w n last p : ℕ) (r : List ℕ × ℕ) → read_gaps (take_at s) w n last p ≡ accepted r → Rising last r.0
unfolding read_gaps rises
gaps_rise s w zero last p r e = subst (λ (r : List ℕ × ℕ). Rising last r.0) (accepted-same e) (record { up = refl; small = λ i. omega arith })
gaps_rise s w (suc n) last p r e =
    let a = bound (take_at s w p) _ r e in
    let x : ℕ = last + a.got.0 + 1 in
    let b = required 8 (ltb x top) _ r a.rest in
    let g = bound (read_gaps (take_at s) w n x a.got.1) _ r b.1 in
    let k = gaps_rise s w n x a.got.1 g.got g.first in
    subst (λ (r : List ℕ × ℕ). Rising last r.0) (accepted-same g.rest) (record { up = rw (lt-ltb last x (omega arith)) k.up; small = small_cons x g.got.0 (ltb-true x top b.0) k.small })

-- the first of n numbers behind `last`, and those behind it
record First (s : List ℕ) (w n last p : ℕ) (xs : List ℕ) (q : ℕ) : Type 0 where
  room : w ≤ 8 * length s - p
  small : last + value (take w (drop p (bits s))) + 1 < top
  rest : List ℕ
  are : xs ≡ (last + value (take w (drop p (bits s))) + 1) ∷ rest
  read : read_gaps (take_at s) w (n - 1) (last + value (take w (drop p (bits s))) + 1) (p + w) ≡ accepted (rest, q)

first : (s : List ℕ) (w n last p : ℕ) (xs : List ℕ) (q : ℕ) → 0 < n → read_gaps (take_at s) w n last p ≡ accepted (xs, q) → First s w n last p xs q
unfolding read_gaps take_at
first s w zero last p xs q h e = absurd (omega arith)
first s w (suc n) last p xs q h e =
    let v : ℕ = value (take w (drop p (bits s))) in
    let a = bound (take_at s w p) _ (xs, q) e in
    let t = required 1 (leb w (8 * length s - p)) _ a.got a.first in
    let same : ◌≡◌ {A = ℕ × ℕ} (v, p + w) a.got = accepted-same t.1 in
    let is : a.got.0 ≡ v = sym (ap (λ (r : ℕ × ℕ). r.0) same) in
    let to : a.got.1 ≡ p + w = sym (ap (λ (r : ℕ × ℕ). r.1) same) in
    let b = required 8 (ltb (last + a.got.0 + 1) top) _ (xs, q) a.rest in
    let g = bound (read_gaps (take_at s) w n (last + a.got.0 + 1) a.got.1) _ (xs, q) b.1 in
    let ends : ◌≡◌ {A = List ℕ × ℕ} ((last + a.got.0 + 1) ∷ g.got.0, g.got.1) (xs, q) = accepted-same g.rest in
    let pred : suc n - 1 ≡ n = omega arith in
    record {
      room = leb-true w (8 * length s - p) t.0;
      small = omega (arith, ltb-true (last + a.got.0 + 1) top b.0, is);
      rest = g.got.0;
      are = sym (ap (λ (r : List ℕ × ℕ). r.0) ends) ∙ ap (λ (k : ℕ). (last + k + 1) ∷ g.got.0) is;
      read = ap (λ (m : ℕ). read_gaps (take_at s) w m (last + v + 1) (p + w)) pred ∙ ap₂ (λ (k r : ℕ). read_gaps (take_at s) w n (last + k + 1) r) (sym is) (sym to) ∙ g.first
          ∙ ap (λ (r : ℕ). accepted (g.got.0, r)) (ap (λ (r : List ℕ × ℕ). r.1) ends);
    }

-- ---- one stream

module _ (s : List ℕ) (st : Stream) where
  pub coming-more : st.number < top → coming s st ≡ only (λ xs. st.number ∷ xs) (read_gaps (take_at s) st.width st.left st.number st.next)
  unfolding coming
  coming-more h = rw (coming, lt-ltb st.number top h)

  pub coming-none : top ≤ st.number → coming s st ≡ accepted ([], st.next)
  unfolding coming
  coming-none h = rw (coming, le-ltb st.number top h)

  -- its number, and those behind it
  pub record Going : Type 0 where
    pub xs : List ℕ
    pub read : read_gaps (take_at s) st.width st.left st.number st.next ≡ accepted (xs, end_of s st)
    pub are : left_of s st ≡ st.number ∷ xs

  pub going : Draws s st → st.number < top → Going
  going d h =
      let k = kept (λ (xs : List ℕ). st.number ∷ xs) (read_gaps (take_at s) st.width st.left st.number st.next) (left_of s st) (end_of s st) (sym (coming-more h) ∙ d.reads) in
      record { xs = k.got; read = k.read; are = sym k.is }

  record Left (xs : List ℕ) : Type 0 where
    ascends : ascending xs ≡ true
    small : Numbers xs
    few : length xs ≤ 65535

  left : Draws s st → Left (left_of s st)
  unfolding ascending
  left d = split (Left (left_of s st)) st.number top
      (λ h.
      let g = going d h in
      let r = gaps_rise s st.width st.left st.number st.next _ g.read in
      let n = gaps_next s st.width st.left st.number st.next _ g.read in
      subst Left (sym g.are) (record { ascends = r.up; small = small_cons st.number g.xs h r.small; few = omega (arith, n.many, d.few) }))
      (λ h. subst Left (sym (value-is [] (coming-none h))) (record { ascends = refl; small = λ i. omega arith; few = omega arith }))

  pub left-ascending : Draws s st → ascending (left_of s st) ≡ true
  left-ascending d = (left d).ascends

  pub left_numbers : Draws s st → Numbers (left_of s st)
  left_numbers d = (left d).small

  pub left-few : Draws s st → length (left_of s st) ≤ 65535
  left-few d = (left d).few

-- ---- behind its number

module _ (s : List ℕ) (st : Stream) where
  pub advance_last : Draws s st → st.number < top → st.left ≡ 0 → Advances s st (ended_at st.next)
  advance_last d h e =
      let g = going s st d h in
      let none : ◌≡◌ {A = List ℕ × ℕ} ([], st.next) (g.xs, end_of s st) = accepted-same (sym (gaps_none (take_at s) st.width st.left st.number st.next e) ∙ g.read) in
      let done : coming s (ended_at st.next) ≡ accepted ([], st.next) = coming-none s (ended_at st.next) (omega arith) in
      record {
        draws = record { reads = reads_is [] done; wide = λ l. absurd (omega arith); few = omega arith; low = omega (arith, d.low) };
        numbers = g.are ∙ ap (λ (xs : List ℕ). st.number ∷ xs) (sym (ap (λ (r : List ℕ × ℕ). r.0) none) ∙ sym (value-is [] done));
        end = end_is done ∙ ap (λ (r : List ℕ × ℕ). r.1) none;
      }

  -- the bits that the next number is read off
  abbrev less : ℕ
  less = value (take st.width (drop st.next (bits s)))

  pub record Behind : Type 0 where
    pub room : st.next + st.width ≤ 8 * length s
    pub fits : st.number + less + 1 < top
    pub advances : Advances s st (record { number = st.number + less + 1; left = st.left - 1; width = st.width; next = st.next + st.width })

  pub advance_more : Draws s st → st.number < top → 0 < st.left → Behind
  advance_more d h l =
      let g = going s st d h in
      let f = first s st.width st.left st.number st.next g.xs (end_of s st) l g.read in
      let x : ℕ = st.number + less + 1 in
      let to : Stream = record { number = x; left = st.left - 1; width = st.width; next = st.next + st.width } in
      let reads : coming s to ≡ accepted (x ∷ f.rest, end_of s st) = coming-more s to f.small ∙ only-is (λ (xs : List ℕ). x ∷ xs) f.read in
      let w = d.wide l in
      record {
        room = omega (arith, f.room, w);
        fits = f.small;
        advances = record {
          draws = record { reads = reads_is [] reads; wide = λ _. w; few = omega (arith, d.few); low = omega (arith, d.low, w) };
          numbers = g.are ∙ ap (λ (xs : List ℕ). st.number ∷ xs) (f.are ∙ sym (value-is [] reads));
          end = end_is reads;
        };
      }

-- ---- both

module _ (full daily : List ℕ) (pair : Pair) where
  module _ (d : PairDraws full daily pair) where
    pub pair-ascending : ascending (union_left full daily pair) ≡ true
    pair-ascending = union_ascending _ _ (left-ascending full pair.full d.of_full) (left-ascending daily pair.daily d.of_daily)

    pub pair_numbers : Numbers (union_left full daily pair)
    pair_numbers = union_numbers _ _ (left_numbers full pair.full d.of_full) (left_numbers daily pair.daily d.of_daily)

    pub pair-few : length (union_left full daily pair) ≤ 131070
    pair-few = omega (arith, union_length (left_of full pair.full) (left_of daily pair.daily), left-few full pair.full d.of_full, left-few daily pair.daily d.of_daily)

  none_left-by : top ≤ pair.full.number → top ≤ pair.daily.number
      → (union_left full daily pair ≡ []) × (end_of full pair.full ≡ pair.full.next) × (end_of daily pair.daily ≡ pair.daily.next)
  unfolding list_union
  none_left-by h l =
      let f = coming-none full pair.full h in
      let g = coming-none daily pair.daily l in
      (ap₂ list_union (value-is [] f) (value-is [] g), end_is f, end_is g)

  pub none_left : some_left pair ≡ false → (union_left full daily pair ≡ []) × (end_of full pair.full ≡ pair.full.next) × (end_of daily pair.daily ≡ pair.daily.next)
  unfolding some_left
  none_left e = let a = or_false (ltb pair.full.number top) (ltb pair.daily.number top) e in none_left-by (ltb-false pair.full.number top a.0) (ltb-false pair.daily.number top a.1)
    where
      or_false : (a b : Bool) → a || b ≡ false → (a ≡ false) × (b ≡ false)
      or_false true b e = (e, let z : true ≡ false = e in cc)
      or_false false b e = (refl, e)

-- numbers that rise, of which the first is drawn
pub record Turn (last : ℕ) (all : List ℕ) (x : ℕ) (xs : List ℕ) : Type 0 where
  pub above : last < x
  pub rest : rises x xs ≡ true
  pub many : length all ≡ suc (length xs)
  pub largest : largest_gap last all ≡ max (x - last - 1) (largest_gap x xs)

pub turn : (last : ℕ) (all : List ℕ) (x : ℕ) (xs : List ℕ) → all ≡ x ∷ xs → rises last all ≡ true → Turn last all x xs
unfolding rises largest_gap
turn last all x xs e h =
    let a = and_true (ltb last x) (rises x xs) (sym (ap (rises last) e) ∙ h) in
    record { above = ltb-true last x a.0; rest = a.1; many = ap length e; largest = ap (largest_gap last) e }

-- ---- the smaller of both numbers

-- what a stream that has no number left, or a higher one, has to do with it
module _ (full daily : List ℕ) (pair : Pair) (f d : Stream) (draws : PairDraws full daily pair) where
  abbrev drawn : ℕ → Drawn
  drawn x = record { number = x; pair = record { full = f; daily = d } }

  -- it is the full one's alone
  pub draw_full : Advances full pair.full f → d ≡ pair.daily → pair.full.number < pair.daily.number → NextDrawn full daily pair (drawn pair.full.number)
  draw_full a e h =
      let x : ℕ = pair.full.number in
      let xs : List ℕ = left_of full f in
      let up = subst (λ (l : List ℕ). ascending l ≡ true) a.numbers (left-ascending full pair.full draws.of_full) in
      record {
        draws = record { of_full = a.draws; of_daily = subst (Draws daily) (sym e) draws.of_daily };
        numbers = ap (λ (l : List ℕ). list_union l (left_of daily pair.daily)) a.numbers
            ∙ split (list_union (x ∷ xs) (left_of daily pair.daily) ≡ x ∷ list_union xs (left_of daily pair.daily)) pair.daily.number top
            (λ l.
            let g = going daily pair.daily draws.of_daily l in
            let down = subst (λ (l : List ℕ). ascending l ≡ true) g.are (left-ascending daily pair.daily draws.of_daily) in
            rw g.are (union_full x pair.daily.number xs g.xs h up down))
            (λ l. rw (value-is [] (coming-none daily pair.daily l)) (union_nil (x ∷ xs) up ∙ ap (λ (l : List ℕ). x ∷ l) (sym (union_nil xs (left-ascending full f a.draws)))))
            ∙ ap (λ (st : Stream). x ∷ list_union xs (left_of daily st)) (sym e);
        full_end = a.end;
        daily_end = ap (end_of daily) e;
      }

  -- the daily one's alone
  pub draw_daily : f ≡ pair.full → Advances daily pair.daily d → pair.daily.number < pair.full.number → NextDrawn full daily pair (drawn pair.daily.number)
  unfolding list_union
  draw_daily e a h =
      let y : ℕ = pair.daily.number in
      let ys : List ℕ = left_of daily d in
      let down = subst (λ (l : List ℕ). ascending l ≡ true) a.numbers (left-ascending daily pair.daily draws.of_daily) in
      record {
        draws = record { of_full = subst (Draws full) (sym e) draws.of_full; of_daily = a.draws };
        numbers = ap (list_union (left_of full pair.full)) a.numbers
            ∙ split (list_union (left_of full pair.full) (y ∷ ys) ≡ y ∷ list_union (left_of full pair.full) ys) pair.full.number top
            (λ l.
            let g = going full pair.full draws.of_full l in
            let up = subst (λ (l : List ℕ). ascending l ≡ true) g.are (left-ascending full pair.full draws.of_full) in
            rw g.are (union_daily pair.full.number y g.xs ys h up down))
            (λ l. rw (value-is [] (coming-none full pair.full l)) refl)
            ∙ ap (λ (st : Stream). y ∷ list_union (left_of full st) ys) (sym e);
        full_end = ap (end_of full) e;
        daily_end = a.end;
      }

  -- it is in both
  pub draw_both : Advances full pair.full f → Advances daily pair.daily d → pair.full.number ≡ pair.daily.number → NextDrawn full daily pair (drawn pair.full.number)
  draw_both a b e =
      let x : ℕ = pair.full.number in
      let up = subst (λ (l : List ℕ). ascending l ≡ true) a.numbers (left-ascending full pair.full draws.of_full) in
      let same : left_of daily pair.daily ≡ x ∷ left_of daily d = b.numbers ∙ ap (λ (n : ℕ). n ∷ left_of daily d) (sym e) in
      let down = subst (λ (l : List ℕ). ascending l ≡ true) same (left-ascending daily pair.daily draws.of_daily) in
      record {
        draws = record { of_full = a.draws; of_daily = b.draws };
        numbers = ap₂ list_union a.numbers same ∙ union_both x (left_of full f) (left_of daily d) up down;
        full_end = a.end;
        daily_end = b.end;
      }
