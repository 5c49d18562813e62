-- `join::Deliveries::put_gaps` meets its contract. The loop's invariant, said backwards: what is to be put from the start is what is still to be put
-- from here on. The measure is how many numbers of the union are left. Assumes nothing.
use mathlib.Core.Path.{◌≡◌}
use mathlib.Core.Bool.{true}
use Prim.Native.Nat.{◌+◌, ◌*◌, ◌^◌, ◌<◌}
use lib.ListN.{length}
use Rattle.model.specs.Lists.{rises}
use Rattle.model.specs.Fields.{Bytes}
use Rattle.model.specs.Delivery.{largest_gap, gap_bits}
use Rattle.fields.specs.Positions.{put_bits}
use Rattle.join.specs.Streams.{end_of, union_left, PairDraws}
use Rattle.join.proofs.Deliveries.put_gaps.Given as goal

abbrev pub invariant-loop-drawn : goal.invariant-loop-drawn
invariant-loop-drawn l =
    PairDraws l.self.full.now l.self.daily.now l.pair × (rises l.number (union_left l.self.full.now l.self.daily.now l.pair) ≡ true) × (largest_gap l.number (union_left l.self.full.now l.self.daily.now l.pair) < 2 ^ l.w)
    × (l.next + l.w * length (union_left l.self.full.now l.self.daily.now l.pair) ≡ l.at + l.w * length (union_left l.self.full.now l.self.daily.now l.initial.pair)) × (length l.s ≡ length l.initial.s) × Bytes l.s
    × (put_bits l.initial.s l.at (gap_bits l.w l.last (union_left l.self.full.now l.self.daily.now l.initial.pair)) ≡ put_bits l.s l.next (gap_bits l.w l.number (union_left l.self.full.now l.self.daily.now l.pair)))
    × (end_of l.self.full.now l.pair.full ≡ end_of l.self.full.now l.initial.pair.full) × (end_of l.self.daily.now l.pair.daily ≡ end_of l.self.daily.now l.initial.pair.daily)

abbrev pub decreases-loop-drawn : goal.decreases-loop-drawn
decreases-loop-drawn l = length (union_left l.self.full.now l.self.daily.now l.pair)
