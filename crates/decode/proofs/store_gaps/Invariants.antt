-- `decode::store_gaps` meets its contract. The loop's invariant, where the numbers read: those that are left read from here,
-- and laying them from here on is laying all of them from the start. Assumes nothing.
use mathlib.Core.Path.{◌≡◌}
use mathlib.Core.List.{List}
use Prim.Native.Nat.{ℕ, ◌+◌, ◌-◌, ◌*◌, ◌≤◌}
use lib.ListN.{length}
use Rattle.model.specs.Outcome.{accepted}
use Rattle.model.specs.Delivery.{read_gaps}
use Rattle.fields.specs.Rows.{lay}
use Rattle.fields.specs.Positions.{take_at}
use Rattle.decode.proofs.store_gaps.Given as goal

-- what is left to store, of the numbers xs that are to stand from `from` on
pub record Left (s : List ℕ) (w n last p : ℕ) (row : List ℕ) (i : ℕ) (whole : List ℕ) (q : ℕ) : Type 0 where
  pub ys : List ℕ
  pub read : read_gaps (take_at s) w n last p ≡ accepted (ys, q)
  pub laid : whole ≡ lay row i ys

abbrev pub invariant-loop-i : goal.invariant-loop-i
invariant-loop-i l =
    (l.next + 32 * (l.end - l.i) ≤ l.at + 32 * l.n) × (length l.numbers ≡ length l.initial.numbers)
    × ((xs : List ℕ) (q : ℕ) → read_gaps (take_at l.s) l.w l.n l.last l.at ≡ accepted (xs, q) → Left l.s l.w (l.end - l.i) l.number l.next l.numbers l.i (lay l.initial.numbers l.from xs) q)
