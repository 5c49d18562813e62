-- `join::Deliveries::survey_gaps` meets its contract. The loop's invariant: what was counted and what is left are all, and so are their largest gaps.
-- The measure is how many numbers of the union are left. Assumes nothing.
use mathlib.Core.Path.{refl, sym, ap, ◌∙◌}
use native.Mathlib.Omega.{arith}
use lib.ListN.{length}
use Rattle.model.specs.Delivery.{largest_gap}
use Rattle.join.specs.Streams.{union_left}
use Rattle.join.specs.declared.Places.{Places}
use Rattle.join.proofs.Streams.{pair-few, none_left, Turn, turn}
use Rattle.join.proofs.Deliveries.survey_gaps.Goals as goal
use Rattle.join.proofs.Deliveries.survey_gaps.Goals.{After-draw-drawn}

-- the number that is drawn, and what is left behind it
this : (c : After-draw-drawn) → let args = c.args in
    Turn c.loop-drawn.number (union_left args.self.now.full.now args.self.now.daily.now c.loop-drawn.pair) c.draw-drawn.result.number (union_left args.self.now.full.now args.self.now.daily.now c.draw-drawn.result.pair)
this c = turn _ _ _ _ c.draw-drawn.ensures.numbers c.loop-drawn.invariant.1

pub loop-drawn-init : goal.loop-drawn-init
loop-drawn-init c =
    (c.requires.0, c.requires.1, pair-few c.args.self.now.full.now c.args.self.now.daily.now c.args.start c.requires.0, omega arith, omega arith, refl, refl)

pub overflow_sub-drawn : goal.overflow_sub-drawn
overflow_sub-drawn c = omega (arith, (this (goal.at.overflow_sub-drawn c).After-draw-drawn).above)

pub overflow_sub-drawn-in-loop-drawn : goal.overflow_sub-drawn-in-loop-drawn
overflow_sub-drawn-in-loop-drawn c = omega (arith, (this (goal.at.overflow_sub-drawn-in-loop-drawn c).After-draw-drawn).above)

pub loop-drawn-preserved : goal.loop-drawn-preserved
loop-drawn-preserved c =
    let l = c.loop-drawn in
    let t = this (goal.at.loop-drawn-preserved c).After-draw-drawn in
    let drawn = c.draw-drawn.ensures in (
      drawn.draws,
      t.rest,
      l.invariant.2,
      omega (arith, t.many, l.invariant.3),
      omega (arith, t.largest, l.invariant.4, c.max-largest.ensures),
      drawn.full_end ∙ l.invariant.5,
      drawn.daily_end ∙ l.invariant.6,
    )

pub returns : goal.returns
unfolding largest_gap
returns c =
    let args = c.args in
    let l = c.loop-drawn in
    let none = none_left args.self.now.full.now args.self.now.daily.now l.pair (sym c.any_left.ensures ∙ c.loop-drawn-test.false) in
    let gap = ap (largest_gap l.number) none.0 in
    record {
      count = omega (arith, l.invariant.3, ap length none.0);
      largest = omega (arith, l.invariant.4, gap);
      full_end = ap (λ (p : Places). p.full) c.places.ensures ∙ sym none.1 ∙ l.invariant.5;
      daily_end = ap (λ (p : Places). p.daily) c.places.ensures ∙ sym none.2 ∙ l.invariant.6;
    }
