-- `encode::put_gaps` meets its contract. The loop's invariant, said backwards: what is to be put from the start is what is still
-- to be put from here on. Assumes nothing.
use mathlib.Core.Path.{◌≡◌}
use mathlib.Core.Bool.{true}
use Prim.Native.Nat.{◌+◌, ◌*◌, ◌^◌, ◌<◌}
use lib.ListN.{length, get_or, drop}
use Rattle.model.specs.Lists.{rises}
use Rattle.model.specs.Fields.{Bytes}
use Rattle.model.specs.Delivery.{largest_gap, gap_bits}
use Rattle.fields.specs.Positions.{put_bits}
use Rattle.encode.proofs.put_gaps.Given as goal

abbrev pub invariant-loop-x : goal.invariant-loop-x
invariant-loop-x l =
    (l.next ≡ l.at + l.w * l.x-index) × (length l.s ≡ length l.initial.s) × Bytes l.s
    × (put_bits l.initial.s l.at (gap_bits l.w (get_or l.list 0 0) (drop 1 l.list)) ≡ put_bits l.s l.next (gap_bits l.w l.last (drop l.x-index l.x-items)))
    × (rises l.last (drop l.x-index l.x-items) ≡ true) × (largest_gap l.last (drop l.x-index l.x-items) < 2 ^ l.w)
