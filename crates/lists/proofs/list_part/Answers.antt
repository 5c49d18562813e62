-- `list_part` meets its contract: the span that it goes by is that of list k, and lies inside the numbers. Assumes nothing.
use mathlib.Core.Path.{◌≡◌, ap}
use Prim.Native.Nat.{ℕ, ◌+◌, ◌-◌, ◌≤◌}
use native.Mathlib.Omega.{arith}
use lib.ListN.{length}
use Rattle.model.specs.Lists.{Lent, lend, Span, span_of, part_of}
use Rattle.lists.specs.Place.{element_at}
use Rattle.lists.specs.Span.{span_says}
use Rattle.lists.proofs.Spans.{span-inside}
use Rattle.lists.proofs.list_part.Goals as goal
use Rattle.lists.proofs.list_part.Goals.{After-list_span-span}

-- the span handed back is the one of the definitions, and inside the numbers
record Handed (l : Lent) (k start size : ℕ) : Type 0 where
  starts : start ≡ (span_of l k).start
  sizes : size ≡ (span_of l k).size
  inside : start + size ≤ length l.numbers

spans : (c : After-list_span-span) → let args = c.args in Handed (lend args.numbers.now args.ends.now args.word) args.k c.list_span-span.result.start c.list_span-span.result.size
unfolding span_says
spans c =
    let args = c.args in
    let e = c.list_span-span.ensures in
    let span : Span = span_of (lend args.numbers.now args.ends.now args.word) args.k in
    let a : c.list_span-span.result.start ≡ span.start = ap (λ (s : Span). s.start) e in
    let b : c.list_span-span.result.size ≡ span.size = ap (λ (s : Span). s.size) e in
    record { starts = a; sizes = b; inside = rw (a, b) (span-inside (lend args.numbers.now args.ends.now args.word) args.k) }

pub overflow_add-to : goal.overflow_add-to
overflow_add-to c = omega (arith, (spans (goal.at.overflow_add-to c).After-list_span-span).inside)

pub offset_bounds-numbers-from : goal.offset_bounds-numbers-from
offset_bounds-numbers-from c = omega (arith, (spans (goal.at.offset_bounds-numbers-from c).After-list_span-span).inside)

pub slice_bounds-result-end : goal.slice_bounds-result-end
slice_bounds-result-end c = omega (arith, (spans (goal.at.slice_bounds-result-end c).After-list_span-span).inside)

pub returns : goal.returns
unfolding part_of element_at
returns c =
    let args = c.args in
    let s = spans (goal.at.returns c).After-list_span-span in
    let got = c.list_span-span.result in
    let size : got.start + got.size - got.start ≡ got.size = omega arith in
    record { part = rw (size, s.starts, s.sizes); place = ap (element_at args.numbers.ref_ptr) s.starts }
