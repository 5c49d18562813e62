-- Request One, proved: a call that hands back 0 has passed every test and leaves the new lists laid out, over which the
-- expression is accepted and draws just the row's members; the opposite change passes every test over what it leaves.
-- Assumes nothing but that the elements of the rows of numbers are numbers, which their type says.
use mathlib.Core.Path.{◌≡◌, refl, sym, ap, ap₂, ◌∙◌, subst}
use mathlib.Core.Bool.{Bool, true, false, not, ◌||◌}
use mathlib.Core.List.{List, [], ◌∷◌, ◌++◌, map, append-nil}
use Prim.Native.Nat.{ℕ, zero, suc, ◌+◌, ◌-◌, ◌≤◌, ◌<◌}
use native.Mathlib.Omega.{arith}
use native.Mathlib.Nat.{zero-add}
use lib.Dec.{ltb, leb, eqb}
use borrow.Author.Tests.{ltb-true, ltb-false, lt-ltb, leb-true, le-leb, eqb-true, eq-eqb, not-true, not-false}
use lib.ListN.{length, get_or, take, drop, length-append, length-take, length-drop, take-append-drop, drop_of_length-le, get_or-append}
use lib.Seq.{take_at, drop_at, get_or-take, get_or-drop, get_or-append-add}
use Rattle.model.specs.Outcome.{Outcome, refused, accepted, ◌>>=◌, ◌>>◌, require, number_of, Success, Sent, sent, over}
use Rattle.model.specs.Lists.{top, Numbers, lists_from, count_holds, ends_hold, delivered, word_holds, Lent, lists_of}
use Rattle.model.specs.Sets.{among, member, all_numbers}
use Rattle.model.specs.Run.{starting, Source, source_of}
use Rattle.model.specs.Forms.{there}
use Rattle.model.specs.Calls.{ends_from}
use Rattle.model.specs.Demands.{Drawn}
use Rattle.model.specs.Update.{Change, old_list, new_list, new_lists, changed, shown, same, shows, is_new, has_room, fits, update_of, as_left, update, updated}
use Rattle.model.specs.RequestOne.{lent_left, kept_left, count_left, last_end, moved, opposite, Other, AsBefore, KeptCurrent, RequestOne, RequestOneMet, RequestOneHolds}
use Rattle.model.proofs.Order.{and_true, not_both, Up}
use Rattle.model.proofs.Denoted.{members_up, members_are, from_all}
use Rattle.model.proofs.Accepted.{bound, AcceptedLists, lists_accepted}
use Rattle.model.proofs.Deliveries.{Storable}
use Rattle.model.proofs.Laid.{ends-length, numbers_append, laid_numbers, laid-over, storable-accepted, accepted-many, accepted_empty}
use Rattle.model.proofs.Word.{empty_holds, empty_set}
use Rattle.model.proofs.DemandThree.{source-accepted, up, drawn}
use Rattle.model.proofs.Told.{zero_accepts, sent-number}
use Rattle.changes.proofs.Told.{update_told}
use Rattle.changes.proofs.Changes.{new_at, new_other, new_many, new_among, same-is, same_refl, used_of, place_of, used-within, used-numbers, used-ends, numbers_come, numbers-go, place-go, OneOff, new_up, new_member, members_stay, new_absent, new_present, new_ends, storable-few, new_storable, opposite-back, opposite_new, opposite-room}

-- ---- the tests, in their order: a number comes where its own test is the first that fails

abbrev tests : {A : Type 0} → Bool → Bool → Bool → Bool → Bool → Bool → A → Outcome A
tests a w b c d e x = (require 4 a >> require 18 w) >> (require 17 b >> (require 15 c >> (require 16 d >> (require 6 e >> accepted x))))

-- a test as a number, so that arithmetic goes through the cases
abbrev bit : Bool → ℕ
bit true = 1
bit false = 0

is_true : (t : Bool) → bit t ≡ 1 → t ≡ true
is_true true h = refl
is_true false h = absurd (omega arith)

is_false : (t : Bool) → bit t ≡ 0 → t ≡ false
is_false true h = absurd (omega arith)
is_false false h = refl

record ByTest (a w b c d e : Bool) (n : ℕ) : Type 0 where
  only_4 : n ≡ 4 → bit a ≡ 0
  only_18 : n ≡ 18 → (bit a ≡ 1) × (bit w ≡ 0)
  only_17 : n ≡ 17 → bit b ≡ 0
  only_15 : n ≡ 15 → bit c ≡ 0
  only_16 : n ≡ 16 → bit d ≡ 0
  only_6 : n ≡ 6 → bit e ≡ 0
  past_4 : Other n (4 ∷ []) → bit a ≡ 1
  past_18 : Other n (4 ∷ 18 ∷ []) → bit w ≡ 1
  past_17 : Other n (4 ∷ 18 ∷ 17 ∷ []) → bit b ≡ 1
  past_15 : Other n (4 ∷ 18 ∷ 17 ∷ 15 ∷ []) → bit c ≡ 1
  past_16 : Other n (4 ∷ 18 ∷ 17 ∷ 15 ∷ 16 ∷ []) → bit d ≡ 1
  past_6 : Other n (4 ∷ 18 ∷ 17 ∷ 15 ∷ 16 ∷ 6 ∷ []) → (bit e ≡ 1) × (n ≡ 0)

by_test : {A : Type 0} (a w b c d e : Bool) (x : A) → ByTest a w b c d e (number_of (tests a w b c d e x))
unfolding number_of
by_test false w b c d e x = omega arith
by_test true false b c d e x = omega arith
by_test true true false c d e x = omega arith
by_test true true true false d e x = omega arith
by_test true true true true false e x = omega arith
by_test true true true true true false x = omega arith
by_test true true true true true true x = omega arith

accepts-on : {A B : Type 0} (o : Outcome A) (f : A → B) → number_of o ≡ number_of (o >>= (λ a. accepted (f a)))
unfolding number_of
accepts-on (refused n) f = refl
accepts-on (accepted a) f = refl

-- a refusal leaves every row
pub refused-leaves : (rows : List (List ℕ)) (o : Outcome Success) → ((sent 0 rows o).number ≡ 0 → ⊥) → sent 0 rows o ≡ record { number = (sent 0 rows o).number; parts = []; rows = rows }
unfolding sent
refused-leaves rows (refused n) h = refl
refused-leaves rows (accepted s) h = absurd (h refl)

-- ---- lengths

-- what is written over the beginning of a row
pub written-many : (w row : List ℕ) → length w ≤ length row → length (w ++ drop (length w) row) ≡ length row
written-many w row h = length-append w (drop (length w) row) ∙ omega (arith, length-drop (length w) row)

-- accepted lists have an end each, before a change and after it
pub ends_many : (l : Lent) (c : Change) (ls : List (List ℕ)) → lists_of l ≡ accepted ls → length (ends_from 0 (new_lists c ls)) ≡ length l.ends
ends_many l c ls e = ends-length 0 (new_lists c ls) ∙ new_many c ls ∙ accepted-many l ls e

-- where the last list ends
last-is : (start : ℕ) (ls : List (List ℕ)) → get_or (start ∷ ends_from start ls) (length (ends_from start ls)) 0 ≡ start + length (all_numbers ls)
unfolding ends_from all_numbers
last-is start [] = omega arith
last-is start (l ∷ ls) = omega (arith, last-is (start + length l) ls, length-append l (all_numbers ls))

-- a number more is laid out, or one less
all_off : (numbers ends : List ℕ) → ends_hold (length numbers) 0 ends ≡ true → (c : Change) → c.list < length ends → ((k : ℕ) → Up 0 (get_or (lists_from numbers 0 ends) k []))
    → is_new c (lists_from numbers 0 ends) ≡ true → OneOff c.adds (used_of ends) (length (all_numbers (new_lists c (lists_from numbers 0 ends))))
all_off numbers ends hold c lt up h = go c.adds refl
  where
    ls : List (List ℕ)
    ls = lists_from numbers 0 ends

    xs : List ℕ
    xs = take (used_of ends) numbers

    p : ℕ
    p = place_of numbers ends c

    go : (b : Bool) → c.adds ≡ b → OneOff b (used_of ends) (length (all_numbers (new_lists c ls)))
    go true a =
        let m = new_absent c ls a h in
        rw (numbers_come numbers ends hold c lt up a m) (omega (arith, length-append (take p xs) (c.number ∷ drop p xs), length-take p xs, length-drop p xs, length-take (used_of ends) numbers, used-within numbers ends hold))
    go false a =
        let m = new_present c ls a h in
        rw (numbers-go numbers ends hold c lt up a m)
        (omega (arith, length-append (take p xs) (drop (suc p) xs), length-take p xs, length-drop (suc p) xs, length-take (used_of ends) numbers, used-within numbers ends hold, place-go numbers ends hold c lt up a m))

map_at : (f : ℕ → ℕ) (xs : List ℕ) (i : ℕ) → i < length xs → get_or (map f xs) i 0 ≡ f (get_or xs i 0)
map_at f [] i h = absurd (omega arith)
map_at f (x ∷ xs) zero h = refl
map_at f (x ∷ xs) (suc i) h = map_at f xs i (omega arith)

-- ---- what a call passes, and what one that has passed leaves

pub record Passed (l : Lent) (c : Change) (kept : List ℕ) (count : ℕ) (s : Source) : Type 0 where
  pub named : c.list < length l.ends
  pub came : delivered l.word c.list ≡ true
  pub counted : count ≡ length (shown s)
  pub kept-is : take count kept ≡ shown s
  pub new : is_new c s.lists ≡ true
  pub room : has_room c s.lists ≡ true
  pub numbers_fit : length (all_numbers (new_lists c s.lists)) ≤ length l.numbers
  pub members_fit : length (shown (changed c s)) ≤ length kept

-- the lists and the members afterwards, and behind them what the rows held
abbrev pub left_by : Lent → Change → List ℕ → Source → Sent
left_by l c kept s =
    let w = all_numbers (new_lists c s.lists) in
    let m = shown (changed c s) in
    updated 0 (w ++ drop (length w) l.numbers) (ends_from 0 (new_lists c s.lists)) (m ++ drop (length m) kept) (length m)

module _ (l : Lent) (expression : List ℕ) (c : Change) (kept : List ℕ) (count : ℕ) (s : Source) (is : source_of l expression ≡ accepted s) where
  abbrev Tests : ℕ → Type 0
  Tests = ByTest (ltb c.list (length l.ends)) (delivered l.word c.list) (shows kept count (shown s)) (is_new c s.lists) (has_room c s.lists) (fits l kept (changed c s))

  -- the tests that come after those of lists and expression
  tested : Tests (update l expression c kept count).number
  unfolding update update_of there
  tested = subst Tests (accepts-on (update_of l expression c kept count) as_left ∙ sent-number 0 (l.numbers ∷ l.ends ∷ kept ∷ (count ∷ []) ∷ []) _) (rw is (by_test _ _ _ _ _ _ (changed c s)))

  abbrev Past : List ℕ → Type 0
  Past = Other (update l expression c kept count).number

  past_4 : Past (4 ∷ []) → c.list < length l.ends
  past_4 o = ltb-true c.list (length l.ends) (is_true _ (tested.past_4 o))

  past_18 : Past (4 ∷ 18 ∷ []) → delivered l.word c.list ≡ true
  past_18 o = is_true _ (tested.past_18 o)

  past_17 : Past (4 ∷ 18 ∷ 17 ∷ []) → (count ≡ length (shown s)) × (take count kept ≡ shown s)
  unfolding shows
  past_17 o =
      let a = and_true (eqb count (length (shown s))) (same (take count kept) (shown s)) (is_true _ (tested.past_17 o)) in
      (eqb-true count (length (shown s)) a.0, same-is (take count kept) (shown s) a.1)

  past_15 : Past (4 ∷ 18 ∷ 17 ∷ 15 ∷ []) → is_new c s.lists ≡ true
  past_15 o = is_true _ (tested.past_15 o)

  past_16 : Past (4 ∷ 18 ∷ 17 ∷ 15 ∷ 16 ∷ []) → has_room c s.lists ≡ true
  past_16 o = is_true _ (tested.past_16 o)

  -- a call that hands back 0 has passed them all
  pub zero_passes : (update l expression c kept count).number ≡ 0 → Passed l c kept count s
  unfolding fits
  zero_passes z =
      let a = past_17 (omega arith) in
      let b = and_true (leb (length (all_numbers (new_lists c s.lists))) (length l.numbers)) (leb (length (shown (changed c s))) (length kept)) (is_true _ (tested.past_6 (omega arith)).0) in
      record {
        named = past_4 (omega arith);
        came = past_18 (omega arith);
        counted = a.0;
        kept-is = a.1;
        new = past_15 (omega arith);
        room = past_16 (omega arith);
        numbers_fit = leb-true _ (length l.numbers) b.0;
        members_fit = leb-true _ (length kept) b.1;
      }

  -- and one that has leaves this
  pub passed-leaves : Passed l c kept count s → update l expression c kept count ≡ left_by l c kept s
  unfolding update update_of sent over there shows fits
  passed-leaves p =
      let es : List ℕ = ends_from 0 (new_lists c s.lists) in
      let many : length es ≡ length l.ends = ends_many l c s.lists (source-accepted l expression s is).0 in
      let full : es ++ drop (length es) l.ends ≡ es = rw (drop_of_length-le l.ends {i = length es} (omega arith)) (append-nil es) in
      rw (
        is,
        lt-ltb c.list (length l.ends) p.named,
        p.came,
        eq-eqb count (length (shown s)) p.counted,
        p.kept-is,
        same_refl (shown s),
        p.new,
        p.room,
        le-leb _ (length l.numbers) p.numbers_fit,
        le-leb _ (length kept) p.members_fit,
        full,
      )

  only_4 : (update l expression c kept count).number ≡ 4 → length s.lists ≤ c.list
  only_4 h = omega (arith, accepted-many l s.lists (source-accepted l expression s is).0, ltb-false c.list (length l.ends) (is_false _ (tested.only_4 h)))

  only_18 : (update l expression c kept count).number ≡ 18 → (c.list < length s.lists) × (delivered l.word c.list ≡ false)
  only_18 h =
      let o = tested.only_18 h in
      (omega (arith, accepted-many l s.lists (source-accepted l expression s is).0, ltb-true c.list (length l.ends) (is_true _ o.0)), is_false _ o.1)

  only_17 : (update l expression c kept count).number ≡ 17 → count ≡ length (shown s) → take count kept ≡ shown s → ⊥
  unfolding shows
  only_17 h e f = not_both {b = shows kept count (shown s)} (rw (eq-eqb count (length (shown s)) e, f, same_refl (shown s))) (is_false _ (tested.only_17 h))

  only_15 : (update l expression c kept count).number ≡ 15 → among c.number (old_list c s.lists) ≡ c.adds
  unfolding is_new
  only_15 h = go c.adds (is_false _ (tested.only_15 h))
    where
      go : (b : Bool) → elim b [ true ↦ not (among c.number (old_list c s.lists)) | false ↦ among c.number (old_list c s.lists) ] ≡ false → among c.number (old_list c s.lists) ≡ b
      go true f = not-false _ f
      go false f = f

-- what a call that hands back 0 has accepted
pub record AcceptedUpdate (l : Lent) (expression : List ℕ) (c : Change) (kept : List ℕ) (count : ℕ) : Type 0 where
  pub source : Source
  pub is-source : source_of l expression ≡ accepted source
  pub passed : Passed l c kept count source
  pub leaves : update l expression c kept count ≡ left_by l c kept source

pub update_accepted : (l : Lent) (expression : List ℕ) (c : Change) (kept : List ℕ) (count : ℕ) → (update l expression c kept count).number ≡ 0 → AcceptedUpdate l expression c kept count
unfolding update update_of
update_accepted l expression c kept count z =
    let o = zero_accepts (update_of l expression c kept count) (update_told l expression c kept count) (accepts-on (update_of l expression c kept count) as_left ∙ sent-number 0 _ _ ∙ z) in
    let a = bound (source_of l expression) _ o.got o.is in
    let p = zero_passes l expression c kept count a.got a.first z in
    record { source = a.got; is-source = a.first; passed = p; leaves = passed-leaves l expression c kept count a.got a.first p }

-- ---- over numbers

module _ (l : Lent) (expression : List ℕ) (c : Change) (kept : List ℕ) (count : ℕ) (s : Source) (is : source_of l expression ≡ accepted s) (n : Numbers l.numbers) where
  are_lists : lists_of l ≡ accepted s.lists
  are_lists = (source-accepted l expression s is).0

  taken : AcceptedLists l s.lists
  taken = lists_accepted l s.lists are_lists

  storable : Storable s.lists × (count_holds (length s.lists) ≡ true)
  storable = storable-accepted l s.lists n are_lists

  ups : (k : ℕ) → Up 0 (get_or s.lists k [])
  ups = up l expression n s is

  last_within : last_end l ≤ length l.numbers
  last_within = used-within l.numbers l.ends taken.hold

  only_16 : (update l expression c kept count).number ≡ 16 → (c.adds ≡ true) × (length (old_list c s.lists) ≡ 65535)
  unfolding has_room
  only_16 h = go c.adds (is_false _ ((tested l expression c kept count s is).only_16 h))
    where
      go : (b : Bool) → not b || ltb (length (old_list c s.lists)) 65535 ≡ false → (b ≡ true) × (length (old_list c s.lists) ≡ 65535)
      go true f = (refl, omega (arith, ltb-false (length (old_list c s.lists)) 65535 f, storable-few s.lists storable.0 c.list))
      go false f = absurd (not_both refl f)

  only_6 : (update l expression c kept count).number ≡ 6 → (c.adds ≡ true → last_end l < length l.numbers) → length (shown (changed c s)) ≤ length kept → ⊥
  unfolding fits
  only_6 h room fit =
      let off = all_off l.numbers l.ends taken.hold c (past_4 l expression c kept count s is (omega arith)) (rw taken.are ups) (rw taken.are (past_15 l expression c kept count s is (omega arith))) in
      not_both {b = fits l kept (changed c s)} (rw (le-leb _ _ fit, le-leb _ _ (go c.adds room (rw taken.are at off)))) (is_false _ ((tested l expression c kept count s is).only_6 h))
    where
      go : (b : Bool) → (b ≡ true → last_end l < length l.numbers) → OneOff b (last_end l) (length (all_numbers (new_lists c s.lists))) → length (all_numbers (new_lists c s.lists)) ≤ length l.numbers
      go true r o = omega (arith, r refl)
      go false r o = omega (arith, last_within)

  module _ (low : c.number < top) (p : Passed l c kept count s) where
    abbrev ls : List (List ℕ)
    ls = new_lists c s.lists

    abbrev ms : List ℕ
    ms = shown (changed c s)

    abbrev back : Sent
    back = left_by l c kept s

    has_list : c.list < length s.lists
    has_list = omega (arith, p.named, accepted-many l s.lists are_lists)

    -- ---- the lists: accepted again, and the members drawn from them

    stored : Storable ls
    stored = new_storable c s.lists storable.0 low p.new p.room

    -- only a delivered list is changed, so the word still holds
    agrees : word_holds l.word 0 0 (ends_from 0 ls) ≡ true
    unfolding new_lists
    agrees = empty_holds l.word 0 0 ls (empty_set l.word 0 s.lists c.list (new_list c s.lists) (accepted_empty l s.lists are_lists) (ap (delivered l.word) (zero-add c.list) ∙ p.came))

    accepts : source_of (lent_left l.word back) expression ≡ accepted (changed c s)
    unfolding source_of
    accepts =
        rw (
          laid-over l.word ls (drop (length (all_numbers ls)) l.numbers) (ap count_holds (new_many c s.lists) ∙ storable.1) stored agrees,
          ends_many l c s.lists are_lists,
          (source-accepted l expression s is).1,
        )

    numbers_left : Numbers (lent_left l.word back).numbers
    numbers_left = numbers_append (all_numbers ls) (drop (length (all_numbers ls)) l.numbers) (laid_numbers ls stored) (λ i. rw (get_or-drop (length (all_numbers ls)) l.numbers i 0) (n _))

    afresh : Drawn (lent_left l.word back) expression (changed c s) (starting 0)
    afresh = drawn (lent_left l.word back) expression numbers_left (changed c s) accepts (starting 0) (omega arith)

    drawn-all : afresh.members ≡ ms
    unfolding afresh drawn
    drawn-all = from_all 0 ms (members_up ls (new_up c s.lists ups low) s.tree)

    -- ---- the rows

    ends_are : ends_from 0 ls ≡ take c.list l.ends ++ map (moved c.adds) (drop c.list l.ends)
    ends_are = rw taken.are at (new_ends l.numbers l.ends taken.hold c p.named (rw taken.are ups) (rw taken.are p.new))

    earlier : (k : ℕ) → k < c.list → get_or (ends_from 0 ls) k 0 ≡ get_or l.ends k 0
    earlier k lt =
        rw ends_are
        (get_or-append (take c.list l.ends) (map (moved c.adds) (drop c.list l.ends)) 0 k (omega (arith, p.named, length-take c.list l.ends)) ∙ get_or-take c.list l.ends k 0 lt)

    later : (k : ℕ) → c.list ≤ k → k < length l.ends → get_or (ends_from 0 ls) k 0 ≡ moved c.adds (get_or l.ends k 0)
    later k le lt =
        let before : List ℕ = take c.list l.ends in
        let behind : List ℕ = map (moved c.adds) (drop c.list l.ends) in
        let i : ℕ = k - c.list in
        let at : k ≡ length before + i = omega (arith, p.named, length-take c.list l.ends) in
        let on : c.list + i ≡ k = omega arith in
        rw ends_are
        (ap (λ (j : ℕ). get_or (before ++ behind) j 0) at ∙ get_or-append-add before behind i 0 ∙ map_at (moved c.adds) (drop c.list l.ends) i (omega (arith, length-drop c.list l.ends))
        ∙ ap (moved c.adds) (get_or-drop c.list l.ends i 0 ∙ ap (λ (j : ℕ). get_or l.ends j 0) on))

    last-left : last_end (lent_left l.word back) ≡ length (all_numbers ls)
    last-left = omega (arith, last-is 0 ls)

    numbers_many : length (lent_left l.word back).numbers ≡ length l.numbers
    numbers_many = written-many (all_numbers ls) l.numbers p.numbers_fit

    row_many : length (kept_left back) ≡ length kept
    row_many = written-many ms kept p.members_fit

    row_is : take (length ms) (kept_left back) ≡ ms
    row_is = take_at ms (drop (length ms) kept) (length ms) refl

    others : (x : ℕ) → (x ≡ c.number → ⊥) → among x ms ≡ among x (take count kept)
    others x ne = members_are ls s.tree x ∙ new_member c s.lists ups s.tree x ne ∙ sym (members_are s.lists s.tree x) ∙ ap (among x) (sym p.kept-is)

    untouched : member ls s.tree c.number ≡ member s.lists s.tree c.number → (kept_left back ≡ kept) × (count_left back ≡ count)
    untouched e =
        let stay : ms ≡ shown s = members_stay c s.lists ups low s.tree e in
        let long : length ms ≡ count = ap length stay ∙ sym p.counted in
        (ap₂ (λ (m : List ℕ) (k : ℕ). m ++ drop k kept) (stay ∙ sym p.kept-is) long ∙ take-append-drop count kept, long)

    -- ---- the opposite change: it gives back the lists, and passes

    lists_back : new_lists (opposite c) ls ≡ s.lists
    lists_back = opposite-back c s.lists p.new ups has_list

    ends-back : ends_from 0 s.lists ≡ l.ends
    ends-back = rw taken.are at (used-ends l.numbers l.ends taken.hold)

    all-used : all_numbers s.lists ≡ take (last_end l) l.numbers
    all-used = rw taken.are at (used-numbers l.numbers l.ends taken.hold)

    all-long : length (all_numbers s.lists) ≡ last_end l
    all-long = omega (arith, ap length all-used, length-take (last_end l) l.numbers, last_within)

    passes_back : Passed (lent_left l.word back) (opposite c) (kept_left back) (count_left back) (changed c s)
    passes_back = record {
      named = omega (arith, p.named, ends_many l c s.lists are_lists);
      came = p.came;
      counted = refl;
      kept-is = row_is;
      new = opposite_new c s.lists p.new ups has_list;
      room = opposite-room c s.lists storable.0 p.new has_list;
      numbers_fit = rw lists_back (omega (arith, numbers_many, all-long, last_within));
      members_fit = rw lists_back (omega (arith, row_many, ap length p.kept-is, length-take count kept));
    }

    taken_back : AsBefore l expression c kept count (update (lent_left l.word back) expression (opposite c) (kept_left back) (count_left back))
    taken_back =
        rw (passed-leaves (lent_left l.word back) expression (opposite c) (kept_left back) (count_left back) (changed c s) accepts passes_back, lists_back) (record {
          accepts = refl;
          ends = ends-back;
          numbers = take_at (all_numbers s.lists) _ (last_end l) all-long ∙ all-used;
          counted = sym p.counted;
          row = take_at (shown s) _ count (sym p.counted) ∙ sym p.kept-is;
        })

    kept_current : KeptCurrent l expression c kept count s back
    kept_current =
        record {
          after = changed c s;
          accepts = accepts;
          tree = refl;
          lists = new_many c s.lists;
          list_k = λ x. ap (among x) (new_at c s.lists has_list) ∙ new_among c s.lists (ups c.list) x;
          other_lists = new_other c s.lists;
          ends_many = ends_many l c s.lists are_lists;
          earlier_ends = earlier;
          later_ends = later;
          numbers_many = numbers_many;
          numbers_behind = rw last-left (drop_at (all_numbers ls) (drop (length (all_numbers ls)) l.numbers) (length (all_numbers ls)) refl);
          afresh = afresh;
          counted = ap length (sym drawn-all);
          row = row_is ∙ sym drawn-all;
          row_many = row_many;
          row_behind = drop_at ms (drop (length ms) kept) (length ms) refl;
          other_numbers = λ x ne. ap (among x) row_is ∙ others x ne;
          untouched = untouched;
          taken_back = taken_back;
        }

-- the request, over a source
over_source : (l : Lent) (expression : List ℕ) (c : Change) (kept : List ℕ) (count : ℕ) → Numbers l.numbers → c.number < top → (s : Source) → source_of l expression ≡ accepted s
    → RequestOne l expression c kept count s (update l expression c kept count)
unfolding update is_new has_room
over_source l expression c kept count n low s is =
    record {
      current = λ z. let p = zero_passes l expression c kept count s is z in rw (passed-leaves l expression c kept count s is p) (kept_current l expression c kept count s is n low p);
      nothing_changed = refused-leaves (l.numbers ∷ l.ends ∷ kept ∷ (count ∷ []) ∷ []) _;
      only_4 = only_4 l expression c kept count s is;
      only_18 = only_18 l expression c kept count s is;
      only_17 = only_17 l expression c kept count s is;
      only_15 = only_15 l expression c kept count s is;
      only_16 = only_16 l expression c kept count s is n;
      only_6 = only_6 l expression c kept count s is n;
      past_4 = λ o. omega (arith, past_4 l expression c kept count s is o, accepted-many l s.lists (source-accepted l expression s is).0);
      past_18 = past_18 l expression c kept count s is;
      past_17 = past_17 l expression c kept count s is;
      past_15 = λ o. absent_or_present c.adds _ (past_15 l expression c kept count s is o);
      past_16 = λ o a. room-left c.adds _ (past_16 l expression c kept count s is o) a;
      past_6 = λ o. ((tested l expression c kept count s is).past_6 o).1;
    }
  where
    absent_or_present : (b stood : Bool) → elim b [ true ↦ not stood | false ↦ stood ] ≡ true → stood ≡ not b
    absent_or_present true stood h = not-true stood h
    absent_or_present false stood h = h

    room-left : (b : Bool) (many : ℕ) → not b || ltb many 65535 ≡ true → b ≡ true → many < 65535
    room-left true many h a = ltb-true many 65535 h
    room-left false many h a = absurd (not_both a refl)

-- the request
pub request_one : RequestOneHolds
unfolding update update_of sent
request_one l expression c kept count n low = record { over_source = over_source l expression c kept count n low; over_none = λ m e. rw e }

-- and of one call
pub one : (l : Lent) (expression : List ℕ) (c : Change) (kept : List ℕ) (count : ℕ) → Numbers l.numbers → c.number < top
    → (back : Sent) → back ≡ update l expression c kept count → RequestOneMet l expression c kept count back
one l expression c kept count n low back e = rw e (request_one l expression c kept count n low)
