-- `walk::walk_lists` meets its contract. The loop's invariant: what all lists are counted as is what was counted, joined with
-- what those that are left are; and the bits have places for the lists that are left.
-- Assumes nothing.
use mathlib.Core.Path.{◌≡◌}
use mathlib.Core.List.{List}
use Prim.Native.Nat.{ℕ, ◌+◌, ◌-◌, ◌*◌, ◌^◌, ◌≤◌}
use lib.ListN.{length}
use Rattle.model.specs.Delivery.{Supplied}
use Rattle.fields.specs.Positions.{take_at}
use Rattle.walk.specs.Counts.{all_counted, read_lists}
use Rattle.walk.specs.Answers.{only}
use Rattle.walk.proofs.walk_lists.Given as goal

-- lists behind others that are counted
unfoldable pub joined : ℕ → ℕ → List Supplied → ℕ × ℕ
joined bits count ss = (bits * 2 ^ length ss + (all_counted ss).0, count + (all_counted ss).1)

abbrev pub invariant-loop-i : goal.invariant-loop-i
invariant-loop-i l =
    let left : ℕ = l.n - l._i in
    (l.next + 4194304 * left ≤ l.at + 4194304 * l.n) × (l.count ≤ l.room) × (l.count + 65535 * left ≤ 65535 * l.n) × ((l.bits + 1) * 2 ^ left ≤ 2 ^ 32)
    × (only all_counted (read_lists (take_at l.s) l.n l.room l.at) ≡ only (joined l.bits l.count) (read_lists (take_at l.s) left (l.room - l.count) l.next))
