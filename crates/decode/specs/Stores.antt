-- What the second walk leaves in the lent rows. It goes only through what the first one has found to read, so each of these
-- says what is written where that part of the delivery reads.
use Rattle.std.specs.Prelude.{◌≡◌, List, map, ℕ, ◌+◌, ◌-◌, length}
use Rattle.model.specs.Outcome.{accepted}
use Rattle.model.specs.Sets.{all_numbers}
use Rattle.model.specs.Delivery.{Supplied, supplied_numbers, read_gaps, read_body}
use Rattle.model.specs.Calls.{ends_from}
use Rattle.fields.specs.Rows.{lay}
use Rattle.fields.specs.Positions.{take_at}
use Rattle.walk.specs.Counts.{read_list, read_lists}
use Rattle.decode.specs.declared.Stored.{Stored}

-- the n numbers behind `last` stand in the row from `from` on; r is the position behind them
abbrev pub GapsStored : List ℕ → ℕ → ℕ → ℕ → ℕ → List ℕ → ℕ → List ℕ → ℕ → Type 0
GapsStored s at w n last row from after r =
    (xs : List ℕ) (q : ℕ) → read_gaps (take_at s) w n last at ≡ accepted (xs, q) → (after ≡ lay row from xs) × (r ≡ q)

-- the n numbers of a list stand there
abbrev pub BodyStored : List ℕ → ℕ → ℕ → List ℕ → ℕ → List ℕ → ℕ → Type 0
BodyStored s at n row from after r = (xs : List ℕ) (q : ℕ) → read_body (take_at s) n at ≡ accepted (xs, q) → (after ≡ lay row from xs) × (r ≡ q)

-- the list stands there
abbrev pub ListStored : List ℕ → ℕ → List ℕ → ℕ → List ℕ → Stored → Type 0
ListStored s at row from after r =
    (a : Supplied) (q : ℕ) → read_list (take_at s) (length row - from) at ≡ accepted (a, q)
    → (after ≡ lay row from (supplied_numbers a)) × (r.end ≡ from + length (supplied_numbers a)) × (r.next ≡ q)

-- there are n lists that read, with so much room
pub record ListsRead (s : List ℕ) (at n room : ℕ) : Type 0 where
  pub lists : List Supplied
  pub next : ℕ
  pub read : read_lists (take_at s) n room at ≡ accepted (lists, next)

-- the n lists stand at the start of the row, and their ends at the start of theirs
abbrev pub ListsStored : List ℕ → ℕ → ℕ → List ℕ → List ℕ → List ℕ → List ℕ → Type 0
ListsStored s at n numbers ends numbers_after ends_after =
    (ss : List Supplied) (q : ℕ) → read_lists (take_at s) n (length numbers) at ≡ accepted (ss, q)
    → let ls = map supplied_numbers ss in (numbers_after ≡ lay numbers 0 (all_numbers ls)) × (ends_after ≡ lay ends 0 (ends_from 0 ls))
