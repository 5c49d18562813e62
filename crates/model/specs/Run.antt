-- "Generator steps", a run: each call gets the floor, places and moves that the call before it left.
use Rattle.std.specs.Prelude.{true, false, ◌&&◌, cond, List, [], ◌∷◌, ℕ, suc, ◌≤◌, max, ltb, leb, eqb, length, replicate}
use Rattle.model.specs.declared.Reply.{Reply}
use Rattle.model.specs.declared.Reply.TheVariants.{Member, Finished, Yes, No, Unknown}
use Rattle.model.specs.Outcome.{Outcome, accepted, ◌>>=◌, ◌>>◌, require}
use Rattle.model.specs.Lists.{top, Lent, lists_of}
use Rattle.model.specs.Expression.{Tree}
use Rattle.model.specs.Machine.{Call, next, at_or_past, past, check, other, calls}
use Rattle.model.specs.Steps.{Readers, Found, end, at, Checked, says, Advance, hopping, seek_by, check_by}
use Rattle.model.specs.Forms.{LeafTest, there, read_packed}

-- what one call leaves to the next: floor, places and moves
pub record State : Type 0 where
  pub floor : ℕ
  pub readers : Readers

-- the whole expression's answer: a reply, and the state after it
unfoldable pub drawn : Found → Reply × State
drawn (end rs) = (Finished, record { floor = top; readers = rs })
drawn (at x rs) = (Member x, record { floor = suc x; readers = rs })

-- a check's reply; its number is not below the floor, so the floor becomes it
unfoldable pub told : ℕ → Checked → Reply × State
told d (says b rs) = (cond b Yes No, record { floor = d; readers = rs })

-- by the way readers go
module _ (advance : Advance) where
  -- "Codes 0 to 2 seek the raised floor. Check with D below the floor moves nothing"
  unfoldable pub step_by : List (List ℕ) → Tree → State → Call → Reply × State
  step_by ls t s next = drawn (seek_by advance ls t 0 s.floor s.readers)
  step_by ls t s (at_or_past d) = drawn (seek_by advance ls t 0 (max s.floor d) s.readers)
  step_by ls t s (past d) = drawn (seek_by advance ls t 0 (max s.floor (suc d)) s.readers)
  step_by ls t s (check d) = elim (ltb d s.floor) [ true ↦ (No, s) | false ↦ told d (check_by advance ls t 0 d s.readers) ]
  step_by ls t s other = (Unknown, s)

  -- the calls one after another: the replies in order, and the last state
  unfoldable pub steps_by : List (List ℕ) → Tree → State → List Call → List Reply × State
  steps_by ls t s [] = ([], s)
  steps_by ls t s (c ∷ cs) =
      let (r, after) = step_by ls t s c in
      let (rs, last) = steps_by ls t after cs in
      (r ∷ rs, last)

-- where a run begins, and where one that goes on from it does: the bookmark
pub record Start : Type 0 where
  pub bookmark : ℕ

abbrev pub starting : ℕ → Start
starting bookmark = record { bookmark = bookmark }

-- 12 does not apply
abbrev pub Low : Start → Type 0
Low start = start.bookmark ≤ top

-- "A run begins with the bookmark handed in as floor, every reader at place 0 and no moves"
unfoldable pub begin : Start → State
begin start = record { floor = start.bookmark; readers = record { places = replicate 48 0; moves = 0 } }

-- what a run hands back
pub record Result : Type 0 where
  pub replies : List Reply
  pub moves : ℕ
  pub places : List ℕ
  pub last : Start

unfoldable pub run_by : Advance → List (List ℕ) → Tree → Start → List Call → Result
run_by advance ls t start cs =
    let (rs, s) = steps_by advance ls t (begin start) cs in
    record { replies = rs; moves = s.readers.moves; places = s.readers.places; last = starting s.floor }

-- by readers that hop
abbrev pub step : List (List ℕ) → Tree → State → Call → Reply × State
step = step_by hopping

abbrev pub steps : List (List ℕ) → Tree → State → List Call → List Reply × State
steps = steps_by hopping

abbrev pub run : List (List ℕ) → Tree → Start → List Call → Result
run = run_by hopping

-- lists and expression, by what a run tests ahead of the bookmark: 7, 10, 11; 1 to 5 and 18
pub record Source : Type 0 where
  pub lists : List (List ℕ)
  pub tree : Tree

-- what a leaf may name over them: a list that is there (4) and was delivered (18)
abbrev pub named_in : Lent → LeafTest
named_in l = there (length l.ends) l.word

unfoldable pub source_of : Lent → List ℕ → Outcome Source
source_of l expression = do
  ls ← lists_of l
  t ← read_packed (named_in l) expression
  accepted (record { lists = ls; tree = t })

-- "A run takes, in this order of checking: lists [..], the packed expression [..], bookmark (12), row lengths (13)";
-- `room` is the length of the lent reply row
unfoldable pub run_of : Lent → List ℕ → Start → List ℕ → List ℕ → ℕ → Outcome Result
run_of l expression start codes ds room = do
  s ← source_of l expression
  require 12 (leb start.bookmark top)
  require 13 (eqb (length codes) (length ds) && leb (length codes) room)
  accepted (run s.lists s.tree start (calls codes ds))
