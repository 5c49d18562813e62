-- `join::Deliveries::survey` meets its contract. The loop's invariant: whether no joined list is too long, their bits and their shapes
-- are what was found and what those that are left have. Assumes nothing.
use mathlib.Core.Path.{◌≡◌, refl, sym, ap, ap₂, ◌∙◌, subst}
use mathlib.Core.Bool.{Bool, false, cond}
use mathlib.Core.List.{List, ◌∷◌, map, flat_map}
use Prim.Native.Nat.{ℕ, ◌+◌, ◌-◌, ◌≤◌, ◌<◌}
use native.Mathlib.Omega.{arith}
use lib.ListN.{length, set, length-set}
use Rattle.model.specs.Delivery.{Supplied, supplied_numbers, is_delivered, list_size}
use Rattle.model.specs.Joined.{lengths_hold}
use Rattle.fields.specs.Rows.{lay}
use Rattle.fields.proofs.Rows.{lay-nil, lay-cons}
use Rattle.encode.specs.Measures.{list_bits, lists_bits}
use Rattle.encode.proofs.Sizes.{supplied-size, supplied-small}
use Rattle.encode.proofs.Rest.{bits-cons}
use Rattle.join.specs.Streams.{joined_at}
use Rattle.join.specs.Measures.{joined, count_of, shape_of, no_shapes, measured}
use Rattle.join.specs.declared.Shape.{Shape}
use Rattle.join.proofs.Lists.{supplied-is, BothRead, joined_on, Turn, turn, joined_end, hold-more, hold_not}
use Rattle.join.proofs.Deliveries.survey.Goals as goal
use Rattle.join.proofs.Deliveries.survey.Invariants.{Left}
use Rattle.join.proofs.Deliveries.survey.Goals.{After-bits_of-bits, After-survey_list-size}

-- one more found
more : (all : List Supplied) (a : Supplied) (rest : List Supplied) (shapes : List Shape) (bits k : ℕ) (shape : Shape) (size : ℕ) → count_of a ≤ 65535 → k < length shapes
    → shape ≡ shape_of a → size ≡ length (list_bits a) → Left all (a ∷ rest) shapes bits k → Left all rest (set shapes k shape) (bits + size) (k + 1)
more all a rest shapes bits k shape size few h e es l = record {
  hold = l.hold ∙ hold-more a rest few;
  long = omega (arith, l.long, bits-cons a rest);
  are = l.are ∙ lay-cons shapes k (shape_of a) (map shape_of rest) h ∙ ap (λ (x : Shape). lay (set shapes k x) (k + 1) (map shape_of rest)) (sym e);
}

-- this turn's list, and those behind it
here : (c : After-survey_list-size) → let l = c.loop-k in let args = c.args in let r = c.survey_list-size.result in
    Turn args.self.now.full.now args.self.now.daily.now (args.n - l.k) (args.n - (l.k + 1)) l.at.full l.at.daily r.behind.full r.behind.daily
here c =
    let l = c.loop-k in
    let args = c.args in
    let e = c.survey_list-size.ensures in
    turn args.self.now.full.now args.self.now.daily.now (args.n - l.k) (args.n - (l.k + 1)) l.at.full l.at.daily _ _ (omega arith) (omega arith) e.full_end e.daily_end l.invariant.4

found : (c : After-survey_list-size) → let l = c.loop-k in let args = c.args in let r = c.survey_list-size.result in
    Left (joined args.self.now.full.now args.self.now.daily.now args.n) (joined_at args.self.now.full.now args.self.now.daily.now l.at.full l.at.daily ∷ joined_on args.self.now.full.now args.self.now.daily.now (args.n - (l.k + 1)) r.behind.full r.behind.daily) l.shapes l.bits l.k
found c =
    let l = c.loop-k in
    let args = c.args in
    subst (λ (rest : List Supplied). Left (joined args.self.now.full.now args.self.now.daily.now args.n) rest l.shapes l.bits l.k) (here c).are l.invariant.5

-- its bits
sized : (c : After-bits_of-bits) → let l = c.loop-k in let args = c.args in
    (c.bits_of-bits.result ≡ length (list_bits (joined_at args.self.now.full.now args.self.now.daily.now l.at.full l.at.daily))) × (c.bits_of-bits.result ≤ 4194304)
sized c =
    let l = c.loop-k in
    let args = c.args in
    let a : Supplied = joined_at args.self.now.full.now args.self.now.daily.now l.at.full l.at.daily in
    let e = c.survey_list-size.ensures in
    let is = ap (λ (x : Supplied). length (list_bits x)) (supplied-is a) in
    let size : c.bits_of-bits.result ≡ length (list_bits a) =
    c.bits_of-bits.ensures ∙ ap (λ (d : Bool). cond d (list_size 17 c.survey_list-size.result.count c.survey_list-size.result.width) 1) e.came
    ∙ ap₂ (λ (n w : ℕ). cond (is_delivered a) (list_size 17 n w) 1) e.count e.width
    ∙ sym (supplied-size (is_delivered a) (supplied_numbers a)) ∙ sym is in
    (size, omega (arith, size, is, supplied-small (is_delivered a) (supplied_numbers a) (omega (arith, e.count, c.if-size-gt65535.false)) (omega (arith, e.width, e.narrow))))

pub loop-k-init : goal.loop-k-init
loop-k-init c =
    let args = c.args in
    let all : args.n ≡ args.n - 0 = omega arith in
    let rest = subst (λ (m : ℕ). BothRead args.self.now.full.now args.self.now.daily.now m 6 6 × Left (joined args.self.now.full.now args.self.now.daily.now args.n) (joined_on args.self.now.full.now args.self.now.daily.now m 6 6) no_shapes 0 0) all
    ((c.requires.1, c.requires.2), record { hold = refl; long = omega arith; are = refl }) in
    (refl, omega arith, omega arith, omega arith, rest.0, rest.1)

pub survey_list-size-requires : goal.survey_list-size-requires
survey_list-size-requires c =
    let l = c.loop-k in
    let args = c.args in
    let t = turn args.self.now.full.now args.self.now.daily.now (args.n - l.k) (args.n - (l.k + 1)) l.at.full l.at.daily _ _ (omega arith) (omega arith) refl refl l.invariant.4 in
    (omega arith, t.of_full, omega arith, t.of_daily)

pub returns-then-size-gt65535 : goal.returns-then-size-gt65535
unfolding measured
returns-then-size-gt65535 c =
    let args = c.args in
    let long : lengths_hold (joined args.self.now.full.now args.self.now.daily.now args.n) ≡ false = (found (goal.at.returns-then-size-gt65535 c).After-survey_list-size).hold ∙ hold_not _ _ (omega (arith, c.survey_list-size.ensures.count, c.if-size-gt65535.true)) in
    (rw long, tt)

pub overflow_add-bits : goal.overflow_add-bits
overflow_add-bits c = omega (arith, (sized c).1)

pub loop-k-preserved : goal.loop-k-preserved
loop-k-preserved c =
    let l = c.loop-k in
    let e = c.survey_list-size.ensures in
    let t = here (goal.at.loop-k-preserved c).After-survey_list-size in
    let z = sized (goal.at.loop-k-preserved c).After-bits_of-bits in (
      length-set l.shapes l.k _ ∙ l.invariant.0,
      omega (arith, z.1),
      omega (arith, t.near),
      omega (arith, t.near_beside),
      t.rest,
      more _ _ _ l.shapes l.bits l.k _ _ (omega (arith, e.count, c.if-size-gt65535.false)) (omega arith) (ap₂ (λ (n w : ℕ). record { count = n; width = w }) e.count e.width) z.0 (found (goal.at.loop-k-preserved c).After-survey_list-size),
    )

pub returns : goal.returns
unfolding measured lengths_hold flat_map
returns c =
    let l = c.loop-k in
    let args = c.args in
    let all : List Supplied = joined args.self.now.full.now args.self.now.daily.now args.n in
    let left = subst (λ (rest : List Supplied). Left all rest l.shapes l.bits l.k) (joined_end args.self.now.full.now args.self.now.daily.now (args.n - l.k) l.at.full l.at.daily (omega arith)) l.invariant.5 in
    let bits : l.bits ≡ length (lists_bits all) = omega (arith, left.long) in
    let shapes : l.shapes ≡ lay no_shapes 0 (map shape_of all) = sym (left.are ∙ lay-nil l.shapes l.k) in
    (rw (left.hold, bits, shapes), omega arith)
