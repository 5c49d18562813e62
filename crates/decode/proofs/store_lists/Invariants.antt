-- `decode::store_lists` meets its contract. The loop's invariant, where the lists read: those that are left read from here, and
-- laying them and their ends from here on is laying all of them from the start. That they read is required, so positions
-- and ends stay small. Assumes nothing.
use mathlib.Core.Path.{◌≡◌}
use mathlib.Core.List.{List, map}
use Prim.Native.Nat.{ℕ, ◌+◌, ◌-◌, ◌*◌, ◌≤◌}
use lib.ListN.{length}
use Rattle.model.specs.Outcome.{accepted}
use Rattle.model.specs.Sets.{all_numbers}
use Rattle.model.specs.Delivery.{Supplied, supplied_numbers}
use Rattle.model.specs.Calls.{ends_from}
use Rattle.fields.specs.Rows.{lay}
use Rattle.fields.specs.Positions.{take_at}
use Rattle.walk.specs.Counts.{read_lists}
use Rattle.decode.proofs.store_lists.Given as goal

-- the numbers of lists, and where each list ends that starts behind `from`
abbrev pub numbers_of : List Supplied → List ℕ
numbers_of ss = all_numbers (map supplied_numbers ss)

abbrev pub ends_of : ℕ → List Supplied → List ℕ
ends_of from ss = ends_from from (map supplied_numbers ss)

-- what is left to store, of lists that are to stand at the start of both rows
pub record Left (s : List ℕ) (n next : ℕ) (numbers : List ℕ) (from : ℕ) (ends : List ℕ) (k : ℕ) (all_Laid ends_laid : List ℕ) (q : ℕ) : Type 0 where
  pub rest : List Supplied
  pub read : read_lists (take_at s) n (length numbers - from) next ≡ accepted (rest, q)
  pub all_are : all_Laid ≡ lay numbers from (numbers_of rest)
  pub ends_are : ends_laid ≡ lay ends k (ends_of from rest)

abbrev pub invariant-loop-k : goal.invariant-loop-k
invariant-loop-k l =
    (l.from ≤ length l.numbers) × (l.from ≤ 65535 * l.k) × (l.next + 4194304 * (l.lists - l.k) ≤ 6 + 4194304 * l.lists) × (length l.numbers ≡ length l.initial.numbers) × (length l.ends ≡ length l.initial.ends)
    × ((ss : List Supplied) (q : ℕ) → read_lists (take_at l.s) l.n (length l.initial.numbers) l.at ≡ accepted (ss, q)
    → Left l.s (l.lists - l.k) l.next l.numbers l.from l.ends l.k (lay l.initial.numbers 0 (numbers_of ss)) (lay l.initial.ends 0 (ends_of 0 ss)) q)
