-- `move_ends` meets its contract. The loop's invariant: laying what is left of the moved ends from here on is laying all of them from
-- list k on; ends from here on stand as they did. Assumes nothing.
use mathlib.Core.Path.{◌≡◌}
use Prim.Native.Nat.{ℕ, ◌≤◌}
use lib.ListN.{get_or, drop}
use Rattle.fields.specs.Rows.{lay}
use Rattle.shifts.proofs.Shifts.{all_moved}
use Rattle.shifts.proofs.move_ends.Given as goal

abbrev pub invariant-loop-k : goal.invariant-loop-k
invariant-loop-k l =
    ((j : ℕ) → l.k ≤ j → get_or l.ends j 0 ≡ get_or l.initial.ends j 0) × (lay l.ends l.k (drop l.k (all_moved l.initial.ends l.adds)) ≡ lay l.initial.ends l.list (drop l.list (all_moved l.initial.ends l.adds)))
