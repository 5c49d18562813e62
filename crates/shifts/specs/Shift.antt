-- A number's place; a row of which the first places are used, with a number put in or taken out; ends that move with it.
use Rattle.std.specs.Prelude.{Bool, true, false, Result, Ok, Err, List, ◌∷◌, ◌++◌, map, ℕ, suc, ◌+◌, ◌≤◌, ◌<◌, length, get_or, take, drop}
use Rattle.model.specs.Lists.{top}
use Rattle.model.specs.RequestOne.{moved}
use Rattle.fields.specs.Rows.{lay}

-- where a number stands, or else where it belongs
abbrev pub place_of : Result ℕ ℕ → ℕ
place_of (Ok at) = at
place_of (Err at) = at

-- a number may be put in at the place `at` where a row of so many places is used up to `used` and has one more; or be taken
-- out there
abbrev pub Shifts : Bool → ℕ → ℕ → ℕ → Type 0
Shifts true at used size = (at ≤ used) × (used < size)
Shifts false at used size = (at < used) × (used ≤ size)

-- the row afterwards: only the places from there up to the last that is used hold something else
unfoldable pub shifted : Bool → List ℕ → ℕ → ℕ → ℕ → List ℕ
shifted true row at used x = lay row at (x ∷ drop at (take used row))
shifted false row at used x = lay row at (drop (at + 1) (take used row))

-- the ends from list k on can move by one; and do
abbrev pub CanMove : Bool → ℕ → Type 0
CanMove true stop = suc stop < top
CanMove false stop = 1 ≤ stop

abbrev pub Movable : Bool → ℕ → List ℕ → Type 0
Movable adds k ends = (i : ℕ) → k ≤ i → i < length ends → CanMove adds (get_or ends i 0)

unfoldable pub ends_moved : Bool → ℕ → List ℕ → List ℕ
ends_moved adds k ends = take k ends ++ map (moved adds) (drop k ends)
