-- Request Five's promise, "Readers that hop", about what a run sends back, beside the run that it was: document 01's, whose
-- readers move singly.
use Rattle.std.specs.Prelude.{◌≡◌, List, [], map, ℕ, ◌+◌, ◌≤◌, ◌<◌, length, get_or, set}
use Rattle.model.specs.Outcome.{accepted}
use Rattle.model.specs.Lists.{Numbers, Lent}
use Rattle.model.specs.Expression.{leaf}
use Rattle.model.specs.Machine.{Call, calls}
use Rattle.model.specs.Steps.{Readers, hopping, singly, seek, seek_by, is_at, check_node}
use Rattle.model.specs.Run.{State, step, step_by, Start, Low, Result, run_by, Source, source_of}
use Rattle.model.specs.Calls.{run_call}
use Rattle.model.specs.Demands.{lengths, sum, ran_all}

-- the reader of list k at the node i, that seeks E from its place
pub record ReaderHops (ls : List (List ℕ)) (k i e : ℕ) (rs : Readers) : Type 0 where
  -- "while at least 64 numbers remain from its place and the 64th of them is below E, the place grows by 64 and that counts one move"
  pub hops : let place = get_or rs.places i 0 in place + 64 ≤ length (get_or ls k []) → get_or (get_or ls k []) (place + 63) 0 < e
      → seek ls (leaf k) i e rs ≡ seek ls (leaf k) i e (record { places = set rs.places i (place + 64); moves = rs.moves + 1 })
  -- "Then it moves singly as before"
  pub then_singly : let place = get_or rs.places i 0 in (place + 64 ≤ length (get_or ls k []) → e ≤ get_or (get_or ls k []) (place + 63) 0)
      → seek ls (leaf k) i e rs ≡ seek_by singly ls (leaf k) i e rs

-- one call from one state: as it was in all but the moves, of which it makes no more
pub record StepAsBefore (s : Source) (state : State) (c : Call) : Type 0 where
  pub reply : (step s.lists s.tree state c).0 ≡ (step_by singly s.lists s.tree state c).0
  pub floor : (step s.lists s.tree state c).1.floor ≡ (step_by singly s.lists s.tree state c).1.floor
  pub places : (step s.lists s.tree state c).1.readers.places ≡ (step_by singly s.lists s.tree state c).1.readers.places
  pub moves : (step s.lists s.tree state c).1.readers.moves ≤ (step_by singly s.lists s.tree state c).1.readers.moves

-- one run: what the call sends back, beside the run that it was
module _ (l : Lent) (expression : List ℕ) where
  pub record RunAsBefore (s : Source) (start : Start) (codes ds lent : List ℕ) (before : Result) : Type 0 where
    pub result : Result
    pub sends : run_call l expression start codes ds lent ≡ ran_all result lent
    -- "Places end where they did", all 48, and so do replies and bookmark
    pub places : result.places ≡ before.places
    pub replies : result.replies ≡ before.replies
    pub last : result.last ≡ before.last
    -- "Moves are no longer the sum of the places": which they were, and are where no list has 64 numbers, "their lists being short"
    pub were_the_sum : before.moves ≡ sum before.places
    pub short : ((k : ℕ) → length (get_or s.lists k []) < 64) → result.moves ≡ before.moves
    -- "they equal the new steps, are never above that sum, and the leaf lengths still bound them"
    pub by_the_steps : result ≡ run_by hopping s.lists s.tree start (calls codes ds)
    pub never_above : result.moves ≤ sum result.places
    pub bounded : result.moves ≤ sum (lengths (map length s.lists) s.tree)

pub record RequestFive : Type 0 where
  pub reader : (ls : List (List ℕ)) (k i e : ℕ) (rs : Readers) → i < length rs.places → ReaderHops ls k i e rs
  -- in checks as in seeks: a list's check is its seek
  pub in_checks : (ls : List (List ℕ)) (k i d : ℕ) (rs : Readers) → check_node ls (leaf k) i d rs ≡ is_at d (seek ls (leaf k) i d rs)
  pub every_step : (l : Lent) (expression : List ℕ) → Numbers l.numbers → (s : Source) → source_of l expression ≡ accepted s
      → (state : State) (c : Call) → StepAsBefore s state c
  pub every_run : (l : Lent) (expression : List ℕ) → Numbers l.numbers → (s : Source) → source_of l expression ≡ accepted s
      → (start : Start) → Low start → (codes ds lent : List ℕ) → length codes ≡ length ds → length codes ≤ length lent
      → RunAsBefore l expression s start codes ds lent (run_by singly s.lists s.tree start (calls codes ds))
