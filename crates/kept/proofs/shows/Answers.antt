-- `shows` meets its contract. The loop's invariant: what is left of the row is the members that are left exactly if the whole row is all
-- members. Assumes nothing.
use mathlib.Core.Path.{ap, ◌∙◌}
use Prim.Native.Nat.{ℕ}
use mathlib.Core.List.{List}
use native.Mathlib.Omega.{arith}
use Rattle.model.specs.Lists.{lists_from}
use Rattle.model.specs.Sets.{members}
use Rattle.model.specs.Run.{starting, begin}
use Rattle.model.specs.Update.{same}
use Rattle.model.proofs.Denoted.{members_up, from_all}
use Rattle.lists.proofs.Spans.{readable_up}
use Rattle.engine.specs.States.{state_of, stepped_of}
use Rattle.pages.proofs.Laws.{starts}
use Rattle.kept.proofs.Drawing.{goes_between, none_left, another, that_one, all-drawn}
use Rattle.kept.proofs.shows.Goals as goal

pub loop-held-init : goal.loop-held-init
unfolding begin
loop-held-init c =
    let g = c.args.generator.now in
    let ls : List (List ℕ) = lists_from g.numbers.now 0 g.ends.now in (
      omega arith,
      omega arith,
      λ t h. (
        rw c.first-readers.ensures (starts g.numbers.now g.ends.now g.nodes.now g.fit g.ready.lists t h (starting 0) (omega arith)),
        ap (same c.args.kept.now) (from_all 0 (members ls t) (members_up _ (readable_up g.numbers.now g.ends.now g.fit g.ready.lists) t)),
      ),
    )

pub draw-s-requires : goal.draw-s-requires
draw-s-requires c = record { standing = c.requires; floor_le_top = c.loop-held.invariant.0 }

pub returns-in_default : goal.returns-in_default
returns-in_default c =
    let l = c.loop-held in
    let s = c.draw-s in
    λ t h. none_left _ t c.args.kept.now l.held-index (state_of l.floor l.readers) (l.invariant.2 t h).0 (stepped_of s.result) (s.ensures.steps_to t h) (omega arith) c.in_default.not-Member ∙ (l.invariant.2 t h).1

pub returns-then-x-held : goal.returns-then-x-held
returns-then-x-held c =
    let l = c.loop-held in
    let s = c.draw-s in
    λ t h. another _ t c.args.kept.now l.held-index (state_of l.floor l.readers) (l.invariant.2 t h).0 (stepped_of s.result) (s.ensures.steps_to t h) (omega arith) _ c.in-Member.is (λ e. omega (arith, e, c.if-x-held.true)) ∙ (l.invariant.2 t h).1

pub loop-held-preserved : goal.loop-held-preserved
loop-held-preserved c =
    let l = c.loop-held in
    let s = c.draw-s in (
      s.ensures.floor_le_top_2,
      omega arith,
      λ t h. (
        goes_between _ t c.args.kept.now l.held-index (state_of l.floor l.readers) (l.invariant.2 t h).0 (stepped_of s.result) (s.ensures.steps_to t h),
        that_one _ t c.args.kept.now l.held-index (state_of l.floor l.readers) (l.invariant.2 t h).0 (stepped_of s.result) (s.ensures.steps_to t h) (omega arith) _ c.in-Member.is (omega (arith, c.if-x-held.false)) ∙ (l.invariant.2 t h).1,
      ),
    )

pub draw-s-requires-2 : goal.draw-s-requires-2
draw-s-requires-2 c = record { standing = c.requires; floor_le_top = c.loop-held.invariant.0 }

pub returns : goal.returns
returns c =
    let l = c.loop-held in
    let s = c.draw-s-2 in
    λ t h. c.none_drawn.ensures ∙ all-drawn _ t c.args.kept.now l.held-index (state_of l.floor l.readers) (l.invariant.2 t h).0 (stepped_of s.result) (s.ensures.steps_to t h) (omega arith) ∙ (l.invariant.2 t h).1
