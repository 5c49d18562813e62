-- `join::Deliveries::survey_gaps` meets its contract. The loop's invariant: what was counted and what is left are all, and so are their largest gaps.
-- The measure is how many numbers of the union are left. Assumes nothing.
use mathlib.Core.Path.{◌≡◌}
use mathlib.Core.Bool.{true}
use Prim.Native.Nat.{◌+◌, ◌≤◌, max}
use lib.ListN.{length}
use Rattle.model.specs.Lists.{rises}
use Rattle.model.specs.Delivery.{largest_gap}
use Rattle.join.specs.Streams.{end_of, union_left, PairDraws}
use Rattle.join.proofs.Deliveries.survey_gaps.Given as goal

abbrev pub invariant-loop-drawn : goal.invariant-loop-drawn
invariant-loop-drawn l =
    PairDraws l.self.full.now l.self.daily.now l.pair × (rises l.number (union_left l.self.full.now l.self.daily.now l.pair) ≡ true) × (length (union_left l.self.full.now l.self.daily.now l.initial.pair) ≤ 131070)
    × (length (union_left l.self.full.now l.self.daily.now l.initial.pair) ≡ l.count + length (union_left l.self.full.now l.self.daily.now l.pair))
    × (largest_gap l.last (union_left l.self.full.now l.self.daily.now l.initial.pair) ≡ max l.largest (largest_gap l.number (union_left l.self.full.now l.self.daily.now l.pair)))
    × (end_of l.self.full.now l.pair.full ≡ end_of l.self.full.now l.initial.pair.full) × (end_of l.self.daily.now l.pair.daily ≡ end_of l.self.daily.now l.initial.pair.daily)

abbrev pub decreases-loop-drawn : goal.decreases-loop-drawn
decreases-loop-drawn l = length (union_left l.self.full.now l.self.daily.now l.pair)
