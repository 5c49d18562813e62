-- `walk::walk_gaps` meets its contract. The loop's invariant: what is asked of all the numbers is the larger of the largest
-- gap so far and what is asked of those that are left. Assumes nothing.
use mathlib.Core.Path.{◌≡◌}
use Prim.Native.Nat.{ℕ, ◌+◌, ◌-◌, ◌*◌, ◌≤◌, ◌<◌, max}
use Rattle.model.specs.Lists.{top}
use Rattle.model.specs.Delivery.{largest_gap, read_gaps}
use Rattle.fields.specs.Positions.{take_at}
use Rattle.walk.specs.Answers.{only}
use Rattle.walk.proofs.walk_gaps.Given as goal

abbrev pub invariant-loop-i : goal.invariant-loop-i
invariant-loop-i l =
    let left : ℕ = l.n - l._i in
    (l.next + 32 * left ≤ l.at + 32 * l.n) × (l.number < top)
    × (only (largest_gap l.last) (read_gaps (take_at l.s) l.w l.n l.last l.at) ≡ only (λ xs. max l.largest (largest_gap l.number xs)) (read_gaps (take_at l.s) l.w left l.number l.next))
