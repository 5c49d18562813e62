-- Request Seven's promise, "Menus that regroup", about what the calls send back.
use Rattle.std.specs.Prelude.{◌≡◌, List, ℕ, get_or}
use Rattle.model.specs.Outcome.{accepted, Sent}
use Rattle.model.specs.Lists.{Numbers, Lent}
use Rattle.model.specs.Expression.{Tree}
use Rattle.model.specs.Sets.{member}
use Rattle.model.specs.Run.{Start, Source, source_of}
use Rattle.model.specs.Calls.{run_call}
use Rattle.model.specs.Regrouped.{Regrouped}

-- the last bookmark that a run hands back, behind its moves and its 48 places
abbrev pub last_bookmark : Sent → ℕ
last_bookmark back = get_or back.parts 49 0

-- two runs of one list of calls: "equal replies and an equal last bookmark", or the same refusal. "Moves and places may differ"
pub record RepliedAlike (one two : Sent) : Type 0 where
  pub number : one.number ≡ two.number
  pub replies : one.rows ≡ two.rows
  pub last : last_bookmark one ≡ last_bookmark two

pub record RequestSeven : Type 0 where
  -- "for every accepted expression and its accepted regrouping, that over the same lists every list of calls from the same bookmark gets
  -- equal replies and an equal last bookmark": into every reply row, to its last element
  pub replied_alike : (l : Lent) (expression regrouping : List ℕ) → Numbers l.numbers
      → (s r : Source) → source_of l expression ≡ accepted s → source_of l regrouping ≡ accepted r → Regrouped s.tree r.tree
      → (start : Start) (codes ds lent : List ℕ) → Numbers ds → RepliedAlike (run_call l expression start codes ds lent) (run_call l regrouping start codes ds lent)
  -- since both denote one set, over whatever lists
  pub one_set : (s r : Tree) → Regrouped s r → (ls : List (List ℕ)) (x : ℕ) → member ls s x ≡ member ls r x
