-- What users of a page cite. Of any state: page by page is the whole, and a page is a run of nexts. Of a state between two calls
-- of a run: a page is the first of the members at or above the floor, and leaves the others. Assumes nothing.
use mathlib.Core.Path.{◌≡◌, refl, sym, ap, ap₂, subst, ◌∙◌}
use mathlib.Core.Bool.{Bool, true, false, not, ◌&&◌, ◌||◌, cond}
use mathlib.Core.List.{List, [], ◌∷◌, ◌++◌, map}
use Prim.Native.Nat.{ℕ, zero, suc, ◌+◌, ◌≤◌, ◌<◌, min}
use native.Mathlib.Nat.{zero-add}
use native.Mathlib.Omega.{arith}
use lib.Dec.{ltb, leb, eqb, leb-suc-zero, leb-suc-suc}
use borrow.Author.Tests.{lt-ltb, le-ltb, ltb-true, lt-leb, le-leb, eqb-true}
use lib.ListN.{length, take, drop, replicate, length-take, drop_of_length-le}
use lib.Seq.{take_all}
use Rattle.model.specs.declared.Reply.{Reply}
use Rattle.model.specs.declared.Reply.TheVariants.{Member, Finished}
use Rattle.model.specs.Lists.{top, Numbers, lists_from}
use Rattle.model.specs.Expression.{Tree}
use Rattle.model.specs.Sets.{among, member}
use Rattle.model.specs.Machine.{next}
use Rattle.model.specs.Steps.{Found, end, at, seek}
use Rattle.model.specs.Run.{State, drawn, step, steps, Start, Low, begin, step_by, steps_by}
use Rattle.model.proofs.Order.{split, Up, up_drop, up_none}
use Rattle.model.proofs.Denoted.{members_from, members_from_up, members_from_are}
use Rattle.model.proofs.Join.{Between, begins, floor-low, NextDrawn, draws_next}
use Rattle.fields.specs.Rows.{lay}
use Rattle.fields.proofs.Rows.{lay-take, lay-drop, lay-length}
use Rattle.lists.specs.Readable.{Readable}
use Rattle.lists.proofs.Spans.{readable_up}
use Rattle.reader.specs.Rows.{Stands}
use Rattle.reader.proofs.Standing.{inside}
use Rattle.engine.specs.States.{state_of}
use Rattle.pages.specs.declared.Page.{Page}
use Rattle.pages.specs.Pages.{Drawing, go_on, page, Handed, page_of, laid_down}
use Rattle.pages.proofs.Pages.{more, goes_on, goes_no_further}

-- ---- of any state

-- one drawing and, unless it ended with finished, one more from the state that it left
unfoldable pub and_then : Drawing → (State → Drawing) → Drawing
and_then (ms, s, true) rest = (ms, s, true)
and_then (ms, s, false) rest = let d = rest s in (ms ++ d.0, d.1, d.2)

-- how many nexts a page of so many members has taken, by whether finished came; and what they replied
unfoldable pub asked : ℕ → Bool → ℕ
asked n true = suc n
asked n false = n

unfoldable pub replied : List ℕ → Bool → List Reply
replied ms true = map Member ms ++ (Finished ∷ [])
replied ms false = map Member ms

abbrev asked_of : Drawing → ℕ
asked_of d = asked (length d.0) d.2

abbrev ran_of : Drawing → List Reply × State
ran_of d = (replied d.0 d.2, d.1)

-- the floor behind members: the last of them plus 1
unfoldable pub behind : ℕ → List ℕ → ℕ
behind floor [] = floor
behind floor (m ∷ ms) = behind (suc m) ms

pub behind-last : (floor : ℕ) (ms : List ℕ) (m : ℕ) → behind floor (ms ++ (m ∷ [])) ≡ suc m
unfolding behind
behind-last floor [] m = refl
behind-last floor (x ∷ ms) m = behind-last (suc x) ms m

module _ (ls : List (List ℕ)) (t : Tree) where
  -- page by page is the whole
  pub page-append : (n m : ℕ) (s : State) → page ls t s (n + m) ≡ and_then (page ls t s n) (λ s. page ls t s m)
  unfolding page and_then go_on step_by drawn
  page-append zero m s = rw (zero-add m)
  page-append (suc n) m s =
      let one : suc n + m ≡ suc (n + m) = omega arith in
      ap (page ls t s) one ∙ go (seek ls t 0 s.floor s.readers) (page-append n m)
    where
      further : (x : ℕ) (d e : Drawing) → e ≡ and_then d (λ s. page ls t s m) → more x e ≡ and_then (more x d) (λ s. page ls t s m)
      further x (ms, s, true) e h = ap (more x) h
      further x (ms, s, false) e h = ap (more x) h

      go : (f : Found) → ((s : State) → page ls t s (n + m) ≡ and_then (page ls t s n) (λ s. page ls t s m))
          → go_on (λ s. page ls t s (n + m)) (drawn f) ≡ and_then (go_on (λ s. page ls t s n) (drawn f)) (λ s. page ls t s m)
      go (end rs) ih = refl
      go (at x rs) ih = let after : State = record { floor = suc x; readers = rs } in further x (page ls t after n) (page ls t after (n + m)) (ih after)

  -- it is full where it did not end with finished
  pub page_full : (n : ℕ) (s : State) → (page ls t s n).2 ≡ false → length (page ls t s n).0 ≡ n
  unfolding page go_on step_by drawn
  page_full zero s h = refl
  page_full (suc n) s h = go (seek ls t 0 s.floor s.readers) (page_full n) h
    where
      go : (f : Found) → ((s : State) → (page ls t s n).2 ≡ false → length (page ls t s n).0 ≡ n) → (go_on (λ s. page ls t s n) (drawn f)).2 ≡ false → length (go_on (λ s. page ls t s n) (drawn f)).0 ≡ suc n
      go (end rs) ih h = cc
      go (at x rs) ih h = ap suc (ih (record { floor = suc x; readers = rs }) h)

  -- a page is a run of nexts: their replies, and the state after the last
  pub page-run : (n : ℕ) (s : State) → let d = page ls t s n in steps ls t s (replicate (asked (length d.0) d.2) next) ≡ (replied d.0 d.2, d.1)
  unfolding page go_on step_by drawn steps_by asked replied
  page-run zero s = refl
  page-run (suc n) s = go (seek ls t 0 s.floor s.readers) refl (page-run n)
    where
      further : (x : ℕ) (after : State) (d : Drawing) → step ls t s next ≡ (Member x, after) → steps ls t after (replicate (asked_of d) next) ≡ ran_of d → steps ls t s (replicate (asked_of (more x d)) next) ≡ ran_of (more x d)
      further x after (ms, last, true) e ih = rw e (ap (λ (q : List Reply × State). (Member x ∷ q.0, q.1)) ih)
      further x after (ms, last, false) e ih = rw e (ap (λ (q : List Reply × State). (Member x ∷ q.0, q.1)) ih)

      go : (f : Found) → seek ls t 0 s.floor s.readers ≡ f → ((s : State) → steps ls t s (replicate (asked_of (page ls t s n)) next) ≡ ran_of (page ls t s n))
          → let d = go_on (λ s. page ls t s n) (drawn f) in steps ls t s (replicate (asked_of d) next) ≡ ran_of d
      go (end rs) e ih = rw e
      go (at x rs) e ih = let after : State = record { floor = suc x; readers = rs } in further x after (page ls t after n) (ap drawn e) (ih after)

  -- the floor after a page
  pub page-floor : (n : ℕ) (s : State) → (page ls t s n).1.floor ≡ cond (page ls t s n).2 top (behind s.floor (page ls t s n).0)
  unfolding page go_on step_by drawn behind
  page-floor zero s = refl
  page-floor (suc n) s = go (seek ls t 0 s.floor s.readers) (page-floor n)
    where
      go : (f : Found) → ((s : State) → (page ls t s n).1.floor ≡ cond (page ls t s n).2 top (behind s.floor (page ls t s n).0))
          → let d = go_on (λ s. page ls t s n) (drawn f) in d.1.floor ≡ cond d.2 top (behind s.floor d.0)
      go (end rs) ih = refl
      go (at x rs) ih = ih (record { floor = suc x; readers = rs })

-- ---- of a state between two calls

-- a run's first state is one, by what a page asks of its caller
pub starts : (numbers ends nodes : List ℕ) → Numbers numbers → Readable numbers ends → (t : Tree) → Stands (length ends) nodes t 0
    → (start : Start) → Low start → Between (lists_from numbers 0 ends) t (begin start)
starts numbers ends nodes n r t h start low = begins _ (readable_up numbers ends n r) t start low (omega (arith, inside (length ends) nodes t 0 h))

-- a page of n places where ms are the members at or above the floor: the first n of them; the others are left, and finished came
-- exactly if there were fewer than n
pub record DrawnPage (ls : List (List ℕ)) (t : Tree) (ms : List ℕ) (n : ℕ) (d : Drawing) : Type 0 where
  pub members : d.0 ≡ take n ms
  pub left : members_from ls t d.1.floor ≡ drop n ms
  pub finished : d.2 ≡ ltb (length ms) n
  pub between : Between ls t d.1

-- the first n of an ascending row are those of it that do not stand behind them
cut : (x lo n : ℕ) (ms : List ℕ) → Up lo ms → among x (take n ms) ≡ among x ms && not (among x (drop n ms))
unfolding among
cut x lo zero ms u = go (among x ms)
  where
    go : (b : Bool) → false ≡ b && not b
    go true = refl
    go false = refl
cut x lo (suc n) [] u = refl
cut x lo (suc n) (m ∷ ms) u = go (eqb x m) refl (cut x (suc m) n ms u.2)
  where
    go : (b : Bool) → eqb x m ≡ b → among x (take n ms) ≡ among x ms && not (among x (drop n ms)) → b || among x (take n ms) ≡ (b || among x ms) && not (among x (drop n ms))
    go true e ih = rw (up_none (suc m) x (drop n ms) (up_drop (suc m) n ms u.2) (omega (arith, eqb-true x m e)))
    go false e ih = ih

up_take : (lo n : ℕ) (ms : List ℕ) → Up lo ms → Up lo (take n ms)
up_take lo zero ms u = tt
up_take lo (suc n) [] u = tt
up_take lo (suc n) (m ∷ ms) u = (u.0, u.1, up_take (suc m) n ms u.2)

-- each member stands 1 or more above the one before it
behind-up : (lo : ℕ) (ms : List ℕ) → Up lo ms → lo ≤ top → (lo + length ms ≤ behind lo ms) × (behind lo ms ≤ top)
unfolding behind
behind-up lo [] u h = (omega arith, h)
behind-up lo (m ∷ ms) u h = let q = behind-up (suc m) ms u.2 (omega (arith, u.1)) in (omega (arith, u.0, q.0), q.1)

-- at or above f and not at or above g is at or above f and below g
sides : (x f g : ℕ) (m : Bool) → (leb f x && m) && not (leb g x && m) ≡ leb f x && (ltb x g && m)
sides x f g m =
    split ((leb f x && m) && not (leb g x && m) ≡ leb f x && (ltb x g && m)) x g (λ lt. rw (lt-leb g x lt, lt-ltb x g lt) (below (leb f x) m))
    (λ ge. rw (le-leb g x ge, le-ltb x g ge) (above (leb f x) m))
  where
    below : (a m : Bool) → (a && m) && true ≡ a && m
    below true true = refl
    below true false = refl
    below false m = refl

    above : (a m : Bool) → (a && m) && not m ≡ a && false
    above true true = refl
    above true false = refl
    above false m = refl

module _ (ls : List (List ℕ)) (t : Tree) where
  pub drawn_page : (n : ℕ) (s : State) → Between ls t s → DrawnPage ls t (members_from ls t s.floor) n (page ls t s n)
  unfolding page
  drawn_page zero s b = record { members = refl; left = refl; finished = sym (leb-suc-zero (length (members_from ls t s.floor))); between = b }
  drawn_page (suc n) s b =
      let d = draws_next ls t s b in
      go (members_from ls t s.floor) (step ls t s next) d (drawn_page n (step ls t s next).1 d.between)
    where
      go : (ms : List ℕ) (p : Reply × State) → NextDrawn ls t ms p → DrawnPage ls t (members_from ls t p.1.floor) n (page ls t p.1 n)
          → DrawnPage ls t ms (suc n) (go_on (λ s. page ls t s n) p)
      go [] p d ih = rw (goes_no_further (λ s. page ls t s n) p d.says) (record { members = refl; left = d.left; finished = sym (lt-ltb 0 (suc n) (omega arith)); between = d.between })
      go (m ∷ ms) p d ih =
          let q = rw d.left at ih in
          rw (goes_on (λ s. page ls t s n) p m d.says)
          (record { members = ap (λ (l : List ℕ). m ∷ l) q.members; left = q.left; finished = q.finished ∙ sym (leb-suc-suc (suc (length ms)) n); between = q.between })

  module _ (n : ℕ) (s : State) (b : Between ls t s) where
    -- one that ended with finished has all, and none are left: a further page is empty and finished
    fewer : (page ls t s n).2 ≡ true → length (members_from ls t s.floor) < n
    fewer e = ltb-true (length (members_from ls t s.floor)) n (sym (drawn_page n s b).finished ∙ e)

    pub page-whole : (page ls t s n).2 ≡ true → (page ls t s n).0 ≡ members_from ls t s.floor
    page-whole e = (drawn_page n s b).members ∙ take_all n (members_from ls t s.floor) (omega (arith, fewer e))

    pub page-ended : (page ls t s n).2 ≡ true → members_from ls t (page ls t s n).1.floor ≡ []
    page-ended e = (drawn_page n s b).left ∙ drop_of_length-le (members_from ls t s.floor) {i = n} (omega (arith, fewer e))

    pub page_further : (page ls t s n).2 ≡ true → (m : ℕ) → ((page ls t (page ls t s n).1 (suc m)).0 ≡ []) × ((page ls t (page ls t s n).1 (suc m)).2 ≡ true)
    page_further e m =
        let d = rw (page-ended e) at (drawn_page (suc m) (page ls t s n).1 (drawn_page n s b).between) in
        (d.members, d.finished ∙ lt-ltb 0 (suc m) (omega arith))

    -- its members are those at or above the floor before it and below the floor after it
    pub page-members : (x : ℕ) → among x (page ls t s n).0 ≡ leb s.floor x && (ltb x (page ls t s n).1.floor && member ls t x)
    page-members x =
        let d = drawn_page n s b in
        let ms : List ℕ = members_from ls t s.floor in
        ap (among x) d.members
        ∙ cut x s.floor n ms (members_from_up ls b.up t s.floor)
        ∙ ap₂ (λ (i j : Bool). i && not j) (members_from_are ls b.up t s.floor x) (ap (among x) (sym d.left) ∙ members_from_are ls b.up t (page ls t s n).1.floor x)
        ∙ sides x s.floor (page ls t s n).1.floor (member ls t x)

    -- each member raises the floor by 1 or more: a bound for what counts them, and a measure for what goes on until finished
    pub page-rises : s.floor + length (page ls t s n).0 ≤ (page ls t s n).1.floor
    page-rises = go (page ls t s n).2 refl
      where
        up : Up s.floor (page ls t s n).0
        up = rw (drawn_page n s b).members (up_take s.floor n (members_from ls t s.floor) (members_from_up ls b.up t s.floor))

        go : (f : Bool) → (page ls t s n).2 ≡ f → s.floor + length (page ls t s n).0 ≤ (page ls t s n).1.floor
        go true e = omega (arith, rw e at (page-floor ls t n s), behind-up s.floor (page ls t s n).0 up (floor-low ls t s b))
        go false e = omega (arith, rw e at (page-floor ls t n s), behind-up s.floor (page ls t s n).0 up (floor-low ls t s b))

-- ---- what `draw_page` hands back, with its row, where ms are the members at or above the floor
pub record HoldsPage (ls : List (List ℕ)) (t : Tree) (s : State) (ms lent : List ℕ) (r : Page) (row : List ℕ) : Type 0 where
  pub count : r.count ≡ min (length lent) (length ms)
  pub holds : take r.count row ≡ take r.count ms
  pub behind_them : drop r.count row ≡ drop r.count lent
  pub long : length row ≡ length lent
  pub left : members_from ls t r.floor ≡ drop r.count ms
  pub finished : r.finished ≡ ltb (length ms) (length lent)
  pub full : r.finished ≡ false → r.count ≡ length lent
  pub ended : r.finished ≡ true → members_from ls t r.floor ≡ []
  pub floor : r.floor ≡ cond r.finished top (behind s.floor (take r.count ms))
  pub rises : s.floor + r.count ≤ r.floor
  pub between : Between ls t (state_of r.floor r.readers)
  pub ran : steps ls t s (replicate (asked r.count r.finished) next) ≡ (replied (take r.count ms) r.finished, state_of r.floor r.readers)

-- the first n are as many as there are, or n
min_taken : (n : ℕ) (ms : List ℕ) → take (length (take n ms)) ms ≡ take n ms
min_taken zero ms = refl
min_taken (suc n) [] = refl
min_taken (suc n) (m ∷ ms) = ap (λ (l : List ℕ). m ∷ l) (min_taken n ms)

min_dropped : (n : ℕ) (ms : List ℕ) → drop (length (take n ms)) ms ≡ drop n ms
min_dropped zero ms = refl
min_dropped (suc n) [] = refl
min_dropped (suc n) (m ∷ ms) = min_dropped n ms

pub holds_page : (ls : List (List ℕ)) (t : Tree) (s : State) → Between ls t s → (lent : List ℕ) (r : Page) (row : List ℕ) → page_of r row ≡ laid_down (page ls t s (length lent)) lent
    → HoldsPage ls t s (members_from ls t s.floor) lent r row
unfolding laid_down
holds_page ls t s b lent r row e = record {
  count = counts ∙ length-take n ms;
  holds = ap₂ (λ (k : ℕ) (l : List ℕ). take k l) (counts ∙ sym (zero-add (length (take n ms)))) rows ∙ lay-take lent 0 (take n ms) (omega arith) ∙ sym taken;
  behind_them = ap (drop r.count) rows ∙ rw there at (lay-drop lent 0 (take n ms) 0 (omega arith));
  long = ap (λ (l : List ℕ). length l) rows ∙ lay-length lent 0 (take n ms) (omega (arith, length-take n ms));
  left = ap (λ (h : Handed). members_from ls t h.1.floor) e ∙ d.left ∙ sym (min_dropped n ms) ∙ ap (λ (k : ℕ). drop k ms) (sym counts);
  finished = ends ∙ d.finished;
  full = λ h. ap (λ (h : Handed). h.0) e ∙ page_full ls t n s (sym ends ∙ h);
  ended = λ h. ap (λ (s : State). members_from ls t s.floor) states ∙ page-ended ls t n s b (sym ends ∙ h);
  floor = ap (λ (h : Handed). h.1.floor) e ∙ page-floor ls t n s ∙ ap₂ (λ (f : Bool) (l : List ℕ). cond f top (behind s.floor l)) (sym ends) drew;
  rises = omega (arith, ap (λ (h : Handed). h.0) e, ap (λ (h : Handed). h.1.floor) e, page-rises ls t n s b);
  between = subst (Between ls t) (sym states) d.between;
  ran = ap₂ (λ (k : ℕ) (f : Bool). steps ls t s (replicate (asked k f) next)) (ap (λ (h : Handed). h.0) e) ends ∙ page-run ls t n s ∙ (λ i. (replied (drew i) (sym ends i), sym states i));
}
  where
    n : ℕ
    n = length lent

    ms : List ℕ
    ms = members_from ls t s.floor

    d : DrawnPage ls t ms n (page ls t s n)
    d = drawn_page ls t n s b

    counts : r.count ≡ length (take n ms)
    counts = ap (λ (h : Handed). h.0) e ∙ ap (λ (l : List ℕ). length l) d.members

    rows : row ≡ lay lent 0 (take n ms)
    rows = ap (λ (h : Handed). h.3) e ∙ ap (lay lent 0) d.members

    states : state_of r.floor r.readers ≡ (page ls t s n).1
    states = ap (λ (h : Handed). h.1) e

    ends : r.finished ≡ (page ls t s n).2
    ends = ap (λ (h : Handed). h.2) e

    taken : take r.count ms ≡ take n ms
    taken = ap (λ (k : ℕ). take k ms) counts ∙ min_taken n ms

    drew : (page ls t s n).0 ≡ take r.count ms
    drew = d.members ∙ sym taken

    there : 0 + length (take n ms) + 0 ≡ r.count
    there = omega (arith, counts)
