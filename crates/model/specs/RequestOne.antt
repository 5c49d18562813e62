-- Request One's promise, "Keep the shown list current", about what the call leaves.
use Rattle.std.specs.Prelude.{◌≡◌, Bool, true, false, not, ◌&&◌, ◌||◌, List, [], ◌∷◌, ℕ, suc, ◌-◌, ◌≤◌, ◌<◌, eqb, length, get_or, take, drop}
use Rattle.model.specs.Outcome.{refused, accepted, Sent}
use Rattle.model.specs.Lists.{top, Numbers, delivered, Lent, lend}
use Rattle.model.specs.Sets.{among, member}
use Rattle.model.specs.Run.{starting, Source, source_of}
use Rattle.model.specs.Demands.{Drawn}
use Rattle.model.specs.Update.{Change, old_list, changed, shown, update, updated}

-- what the call has left: the lists, with the word they were lent with, the kept row and its count
abbrev pub lent_left : ℕ → Sent → Lent
lent_left word back = lend (get_or back.rows 0 []) (get_or back.rows 1 []) word

abbrev pub kept_left : Sent → List ℕ
kept_left back = get_or back.rows 2 []

abbrev pub count_left : Sent → ℕ
count_left back = get_or (get_or back.rows 3 []) 0 0

-- "the last end says how far the rows are used"
abbrev pub last_end : Lent → ℕ
last_end l = get_or (0 ∷ l.ends) (length l.ends) 0

-- what a change does to whether x stands in the list, and to an end from it on
abbrev pub in_or_out : Bool → (same stood : Bool) → Bool
in_or_out true same stood = same || stood
in_or_out false same stood = not same && stood

abbrev pub moved : Bool → ℕ → ℕ
moved true stop = suc stop
moved false stop = stop - 1

-- the change that takes a change back
abbrev pub opposite : Change → Change
opposite c = record { list = c.list; number = c.number; adds = not c.adds }

-- a number that is none of these
abbrev pub Other : ℕ → List ℕ → Type 0
Other n [] = Unit {0}
Other n (m ∷ ms) = (n ≡ m → ⊥) × Other n ms

module _ (l : Lent) (expression : List ℕ) (c : Change) (kept : List ℕ) (count : ℕ) where
  -- lists, kept row and count as they were, in the parts that are used
  pub record AsBefore (back : Sent) : Type 0 where
    pub accepts : back.number ≡ 0
    pub ends : (lent_left l.word back).ends ≡ l.ends
    pub numbers : take (last_end l) (lent_left l.word back).numbers ≡ take (last_end l) l.numbers
    pub counted : count_left back ≡ count
    pub row : take count (kept_left back) ≡ take count kept

  -- what an accepted call leaves, where s are the lists and the expression before it
  pub record KeptCurrent (s : Source) (back : Sent) : Type 0 where
    -- the lists are accepted and the expression over them; list k has the number in it, or out of it; every other list is
    -- the old one
    pub after : Source
    pub accepts : source_of (lent_left l.word back) expression ≡ accepted after
    pub tree : after.tree ≡ s.tree
    pub lists : length after.lists ≡ length s.lists
    pub list_k : (x : ℕ) → among x (old_list c after.lists) ≡ in_or_out c.adds (eqb x c.number) (among x (old_list c s.lists))
    pub other_lists : (k : ℕ) → (k ≡ c.list → ⊥) → get_or after.lists k [] ≡ get_or s.lists k []
    -- "Later lists shift by one place; the last end says how far the rows are used": behind it the row holds what it held
    pub ends_many : length (lent_left l.word back).ends ≡ length l.ends
    pub earlier_ends : (k : ℕ) → k < c.list → get_or (lent_left l.word back).ends k 0 ≡ get_or l.ends k 0
    pub later_ends : (k : ℕ) → c.list ≤ k → k < length l.ends → get_or (lent_left l.word back).ends k 0 ≡ moved c.adds (get_or l.ends k 0)
    pub numbers_many : length (lent_left l.word back).numbers ≡ length l.numbers
    pub numbers_behind : drop (last_end (lent_left l.word back)) (lent_left l.word back).numbers ≡ drop (last_end (lent_left l.word back)) l.numbers
    -- "Afterwards lists and row equal those worked out afresh": the members from 0 that runs of nexts over the new lists
    -- draw, ascending; behind them the kept row holds what it held
    pub afresh : Drawn (lent_left l.word back) expression after (starting 0)
    pub counted : count_left back ≡ length afresh.members
    pub row : take (count_left back) (kept_left back) ≡ afresh.members
    pub row_many : length (kept_left back) ≡ length kept
    pub row_behind : drop (count_left back) (kept_left back) ≡ drop (count_left back) kept
    -- "in the row only that number may have come or gone"
    pub other_numbers : (x : ℕ) → (x ≡ c.number → ⊥) → among x (take (count_left back) (kept_left back)) ≡ among x (take count kept)
    pub untouched : member after.lists after.tree c.number ≡ member s.lists s.tree c.number → (kept_left back ≡ kept) × (count_left back ≡ count)
    -- the opposite change takes it back
    pub taken_back : AsBefore (update (lent_left l.word back) expression (opposite c) (kept_left back) (count_left back))

  -- the request of one call: what it leaves, and each number under its condition only, "A row too short gives 6 and changes
  -- nothing"
  pub record RequestOne (s : Source) (back : Sent) : Type 0 where
    pub current : back.number ≡ 0 → KeptCurrent s back
    pub nothing_changed : (back.number ≡ 0 → ⊥) → back ≡ updated back.number l.numbers l.ends kept count
    pub only_4 : back.number ≡ 4 → length s.lists ≤ c.list
    pub only_18 : back.number ≡ 18 → (c.list < length s.lists) × (delivered l.word c.list ≡ false)
    pub only_17 : back.number ≡ 17 → count ≡ length (shown s) → take count kept ≡ shown s → ⊥
    pub only_15 : back.number ≡ 15 → among c.number (old_list c s.lists) ≡ c.adds
    pub only_16 : back.number ≡ 16 → (c.adds ≡ true) × (length (old_list c s.lists) ≡ 65535)
    pub only_6 : back.number ≡ 6 → (c.adds ≡ true → last_end l < length l.numbers) → length (shown (changed c s)) ≤ length kept → ⊥
    -- 4 first, then Two's 18, then "in the order 17, 15, 16, then 6": what is refused by none of the numbers so far has passed their
    -- tests, and by none of them is accepted
    pub past_4 : Other back.number (4 ∷ []) → c.list < length s.lists
    pub past_18 : Other back.number (4 ∷ 18 ∷ []) → delivered l.word c.list ≡ true
    pub past_17 : Other back.number (4 ∷ 18 ∷ 17 ∷ []) → (count ≡ length (shown s)) × (take count kept ≡ shown s)
    pub past_15 : Other back.number (4 ∷ 18 ∷ 17 ∷ 15 ∷ []) → among c.number (old_list c s.lists) ≡ not c.adds
    pub past_16 : Other back.number (4 ∷ 18 ∷ 17 ∷ 15 ∷ 16 ∷ []) → c.adds ≡ true → length (old_list c s.lists) < 65535
    pub past_6 : Other back.number (4 ∷ 18 ∷ 17 ∷ 15 ∷ 16 ∷ 6 ∷ []) → back.number ≡ 0

  -- for the call's contract: what it leaves where the tests of lists and expression accept; where they refuse it hands
  -- back their number, and nothing has changed
  pub record RequestOneMet (back : Sent) : Type 0 where
    pub over_source : (s : Source) → source_of l expression ≡ accepted s → RequestOne s back
    pub over_none : (n : ℕ) → source_of l expression ≡ refused n → back ≡ updated n l.numbers l.ends kept count

-- of every call: 32-bit rows hold numbers, and what is added or removed is one
abbrev pub RequestOneHolds : Type 0
RequestOneHolds = (l : Lent) (expression : List ℕ) (c : Change) (kept : List ℕ) (count : ℕ) → Numbers l.numbers → c.number < top
    → RequestOneMet l expression c kept count (update l expression c kept count)
