-- `compare::rows::first_difference` meets its contract: before each turn both rows have had the same.
use Rattle.std.proofs.Common.{arith, ◌≡◌, ◌<◌, ℕ, Bool, true, false, not, length, slice_index_or, sym, ap₂, ◌∙◌}
use Rattle.std.proofs.lemmas.Bool.{ltb-false, ltb-true}
use Rattle.std.proofs.lemmas.List.{get_or_default}
use borrow.Author.Count.{below_more}
use Rattle.compare.proofs.rows.first_difference.Goals as goal

-- what is not unequal is equal
equal : (b : Bool) → not b ≡ false → b ≡ true
equal true e = cc
equal false e = sym e

pub loop-at-init : goal.loop-at-init
loop-at-init g c = λ k x h. absurd (omega arith)

pub returns-in_err-y-clause-none : goal.returns-in_err-y-clause-none
returns-in_err-y-clause-none g c = λ n k x h i. c.loop-at.invariant k x (omega (arith, ltb-false c.loop-at.at (length c.args.other.now) (sym c.in_err-y.ensures.lookup.0)))

pub returns-then-ne-clause-first : goal.returns-then-ne-clause-first
returns-then-ne-clause-first g c = λ k h. c.loop-at.invariant k _ h

pub loop-at-preserved : goal.loop-at-preserved
loop-at-preserved g c =
    let l = c.loop-at in
    let row = c.args.row.now in
    let other = c.args.other.now in
    let there : l.at < length other = ltb-true l.at (length other) (sym c.in_ok-y.ensures.lookup.0) in
    let same : (x : g.row.T.Denot) → g.T.PartialEq.eq (slice_index_or row l.at x) (slice_index_or other l.at x) ≡ true =
    λ x. ap₂ g.T.PartialEq.eq (get_or_default row l.at x _ c.loop-at-test.true ∙ sym c.index-row-at.is) (get_or_default other l.at x _ there ∙ sym c.in_ok-y.ensures.lookup.1)
    ∙ equal _ (sym c.ne.ensures ∙ c.if-ne.false) in
    λ k x h. below_more (λ (j : ℕ). (y : g.row.T.Denot) → g.T.PartialEq.eq (slice_index_or row j y) (slice_index_or other j y) ≡ true) l.at (λ j i y. l.invariant j y i) same k h x

pub returns-clause-none : goal.returns-clause-none
returns-clause-none g c = λ n k x h i. c.loop-at.invariant k x (omega arith)
