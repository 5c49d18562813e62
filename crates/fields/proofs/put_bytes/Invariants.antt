-- `fields::put_bytes` meets its contract. The loop's invariant, said backwards: what is to be put from the start is what is
-- still to be put from here on, so a turn is one store (`put-turn`). Assumes nothing.
use mathlib.Core.Path.{◌≡◌}
use Prim.Native.Nat.{◌+◌, ◌-◌, ◌*◌, ◌≤◌}
use lib.ListN.{length}
use Rattle.model.specs.Fields.{Bytes, field}
use Rattle.fields.specs.Positions.{put_bits}
use Rattle.fields.proofs.put_bytes.Given as goal

abbrev pub invariant-loop-i : goal.invariant-loop-i
invariant-loop-i l =
    (l.i ≤ l.n) × (length l.s ≡ length l.initial.s) × Bytes l.s × (put_bits l.initial.s (8 * l.first) (field (8 * l.n) l.x) ≡ put_bits l.s (8 * (l.first + l.i)) (field (8 * (l.n - l.i)) l.x))
