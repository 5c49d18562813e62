-- `encode::survey` meets its contract. The loop's invariant: whether all lists ascend, their bits and their widths are what was
-- found and what those that are left have. Assumes nothing.
use mathlib.Core.Path.{◌≡◌, sym, ap, ap₂, ◌∙◌}
use mathlib.Core.Bool.{Bool, true, false, cond}
use mathlib.Core.List.{List, map, flat_map}
use Prim.Native.Nat.{ℕ, ◌+◌, ◌-◌, ◌≤◌}
use native.Mathlib.Omega.{arith}
use borrow.Author.Rules.{rules}
use lib.ListN.{length, get_or, drop, set, replicate, length-set, length-take, length-drop}
use Rattle.model.specs.Outcome.{Outcome, accepted}
use Rattle.model.specs.Lists.{ascending, all_ascending, part, lists_from, delivered}
use Rattle.model.specs.Delivery.{width, Supplied, list_size, supplied_from, supplied}
use Rattle.model.proofs.Accepted.{numbers_part}
use Rattle.refusals.proofs.Up.{up, test-failed}
use Rattle.lists.specs.Rise.{largest, rise}
use Rattle.lists.proofs.Ends.{Next, hold_next, lists_fall, lists-more}
use Rattle.fields.specs.Rows.{lay}
use Rattle.fields.proofs.Rows.{lay-nil, lay-cons}
use Rattle.encode.specs.declared.Measure.{Measure}
use Rattle.encode.specs.Measures.{as_supplied, list_bits, lists_bits, gap_width, measured}
use Rattle.encode.proofs.Sizes.{gap_width_wide, risen, supplied-size, supplied-small}
use Rattle.encode.proofs.Rest.{rest_more, rest-none, supplied-more, supplied-none, bits-cons}
use Rattle.encode.proofs.survey.Goals as goal
use Rattle.encode.proofs.survey.Goals.{After-bits_of-bits, After-width_of-w, In-loop-k}

-- what is handed back
abbrev handed : Measure → Outcome Measure
handed m = accepted m

-- the end of this turn's list
next : (c : In-loop-k) → let args = c.args in Next (length args.numbers.now) c.loop-k.start args.ends.now c.loop-k.k
next c =
    let l = c.loop-k in
    let args = c.args in
    hold_next (length args.numbers.now) l.start args.ends.now l.k (omega arith) l.invariant.2

-- what the pass over it found: it ascends, and this is the width of its gaps
record Found (l : List ℕ) (w : ℕ) : Type 0 where
  ascends : ascending l ≡ true
  wide : w ≡ gap_width l
  most : w ≤ 32

found : (c : After-width_of-w) → let args = c.args in
    Found (part args.numbers.now c.loop-k.start (get_or args.ends.now c.loop-k.k 0)) c.width_of-w.result
unfolding gap_width part
found c =
    let args = c.args in
    let stop : ℕ = get_or args.ends.now c.loop-k.k 0 in
    let l : List ℕ = part args.numbers.now c.loop-k.start stop in
    let r = risen l c.in_ok-largest.largest c.in_ok-largest.ensures in
    let w : c.width_of-w.result ≡ gap_width l = c.width_of-w.ensures ∙ ap width (sym r.1) in
    let few = gap_width_wide l (numbers_part args.numbers.now (stop - c.loop-k.start) c.loop-k.start (λ i. (c.type_inv.numbers i).fits)) in
    record { ascends = r.0; wide = w; most = omega (arith, few.most) }

-- and these are its bits
sized : (c : After-bits_of-bits) →
    let args = c.args in
    let l = part args.numbers.now c.loop-k.start (get_or args.ends.now c.loop-k.k 0) in
    Next (length args.numbers.now) c.loop-k.start args.ends.now c.loop-k.k → Found l c.width_of-w.result
    → (c.bits_of-bits.result ≡ length (list_bits (as_supplied (delivered args.word c.loop-k.k) l))) × (c.bits_of-bits.result ≤ 4194304)
unfolding part
sized c n f =
    let args = c.args in
    let stop : ℕ = get_or args.ends.now c.loop-k.k 0 in
    let l : List ℕ = part args.numbers.now c.loop-k.start stop in
    let b : Bool = delivered args.word c.loop-k.k in
    let len : stop - c.loop-k.start ≡ length l =
    omega (arith, n.order, n.inside, length-take (stop - c.loop-k.start) (drop c.loop-k.start args.numbers.now), length-drop c.loop-k.start args.numbers.now) in
    let size : c.bits_of-bits.result ≡ length (list_bits (as_supplied b l)) =
    c.bits_of-bits.ensures ∙ ap (λ (d : Bool). cond d (list_size 17 (stop - c.loop-k.start) c.width_of-w.result) 1) c.word_bit.ensures
    ∙ ap₂ (λ (n g : ℕ). cond b (list_size 17 n g) 1) len f.wide ∙ sym (supplied-size b l) in
    (size, omega (arith, size, supplied-small b l (omega (arith, n.few)) (omega (arith, f.wide, f.most))))

pub offset_bounds-numbers-start : goal.offset_bounds-numbers-start
offset_bounds-numbers-start c = let n = next (goal.at.offset_bounds-numbers-start c).In-loop-k in search rules

pub slice_bounds-rise_of-count : goal.slice_bounds-rise_of-count
slice_bounds-rise_of-count c = (next (goal.at.slice_bounds-rise_of-count c).In-loop-k).order

pub slice_bounds-rise_of-start : goal.slice_bounds-rise_of-start
slice_bounds-rise_of-start c = let n = next (goal.at.slice_bounds-rise_of-start c).In-loop-k in omega arith

pub slice_bounds-rise_of-end : goal.slice_bounds-rise_of-end
slice_bounds-rise_of-end c = let n = next (goal.at.slice_bounds-rise_of-end c).In-loop-k in omega arith

pub returns-in_err-largest : goal.returns-in_err-largest
unfolding measured rise part
returns-in_err-largest c =
    let args = c.args in
    let l = c.loop-k in
    let list : List ℕ = part args.numbers.now l.start (get_or args.ends.now l.k 0) in
    let told = test-failed 11 (ascending list) (largest list) c.in_err-largest.ensures in
    let no : all_ascending (lists_from args.numbers.now 0 args.ends.now) ≡ false = l.invariant.3 ∙ lists_fall args.numbers.now l.start args.ends.now l.k (omega arith) told.0 in
    up _ _ c.from_residual.ensures.1 ∙ rw (told.1, no)

pub overflow_cast-widths : goal.overflow_cast-widths
overflow_cast-widths c = let f = found (goal.at.overflow_cast-widths c).After-width_of-w in omega arith

pub overflow_sub-stop : goal.overflow_sub-stop
overflow_sub-stop c = (next (goal.at.overflow_sub-stop c).In-loop-k).order

pub bits_of-bits-requires : goal.bits_of-bits-requires
bits_of-bits-requires c = ((next (goal.at.bits_of-bits-requires c).In-loop-k).few, (found (goal.at.bits_of-bits-requires c).After-width_of-w).most)

pub overflow_add-bits : goal.overflow_add-bits
overflow_add-bits c = let z = sized c (next (goal.at.overflow_add-bits c).In-loop-k) (found (goal.at.overflow_add-bits c).After-width_of-w) in omega (arith, z.1)

pub loop-k-preserved : goal.loop-k-preserved
loop-k-preserved c =
    let args = c.args in
    let l = c.loop-k in
    let f = found (goal.at.loop-k-preserved c).After-width_of-w in
    let n = next (goal.at.loop-k-preserved c).In-loop-k in
    let z = sized (goal.at.loop-k-preserved c).After-bits_of-bits n f in
    let stop : ℕ = get_or args.ends.now l.k 0 in
    let list : List ℕ = part args.numbers.now l.start stop in
    let rest : List (List ℕ) = lists_from args.numbers.now stop (drop (l.k + 1) args.ends.now) in
    let this : Supplied = as_supplied (delivered args.word l.k) list in
    let others : List Supplied = supplied_from args.word (l.k + 1) rest in
    let bits = ap (λ (ss : List Supplied). length (lists_bits ss)) (supplied-more args.numbers.now args.ends.now l.start l.k args.word (omega arith)) in (
      length-set l.widths l.k c.width_of-w.result ∙ l.invariant.0,
      omega (arith, z.1),
      n.rest,
      l.invariant.3 ∙ lists-more args.numbers.now l.start args.ends.now l.k (omega arith) f.ascends,
      omega (arith, l.invariant.4, bits, bits-cons this others, z.0),
      l.invariant.5 ∙ ap (λ (ls : List (List ℕ)). lay l.widths l.k (map gap_width ls)) (rest_more args.numbers.now args.ends.now l.start l.k (omega arith))
          ∙ lay-cons l.widths l.k (gap_width list) (map gap_width rest) (omega arith)
          ∙ ap (λ (b : ℕ). lay (set l.widths l.k b) (l.k + 1) (map gap_width rest)) (sym f.wide),
    )

pub returns : goal.returns
unfolding measured all_ascending flat_map
returns c =
    let l = c.loop-k in
    let args = c.args in
    let none = rest-none args.numbers.now args.ends.now l.start l.k (omega arith) in
    let all : all_ascending (lists_from args.numbers.now 0 args.ends.now) ≡ true = l.invariant.3 ∙ ap all_ascending none in
    let bits : l.bits ≡ length (lists_bits (supplied args.word (lists_from args.numbers.now 0 args.ends.now))) =
    omega (arith, l.invariant.4, ap (λ (ss : List Supplied). length (lists_bits ss)) (supplied-none args.numbers.now args.ends.now l.start l.k args.word (omega arith))) in
    let widths : l.widths ≡ lay (replicate 32 0) 0 (map gap_width (lists_from args.numbers.now 0 args.ends.now)) =
    sym (l.invariant.5 ∙ ap (λ (ls : List (List ℕ)). lay l.widths l.k (map gap_width ls)) none ∙ lay-nil l.widths l.k) in
    rw all (ap₂ (λ (b : ℕ) (w : List ℕ). handed (record { bits = b; widths = w })) bits widths)
