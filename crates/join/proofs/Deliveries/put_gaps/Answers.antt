-- `join::Deliveries::put_gaps` meets its contract. The loop's invariant, said backwards: what is to be put from the start is what is still to be put
-- from here on. The measure is how many numbers of the union are left. Assumes nothing.
use mathlib.Core.Path.{◌≡◌, refl, sym, ap, ap₂, ◌∙◌, subst}
use mathlib.Core.Bool.{Bool}
use mathlib.Core.List.{List}
use Prim.Native.Nat.{ℕ, ◌+◌, ◌-◌, ◌*◌, ◌^◌, ◌≤◌, ◌<◌}
use native.Mathlib.Nat.{mul-suc, mul-zero, mul-le-mul_right}
use native.Mathlib.Omega.{arith}
use lib.ListN.{length}
use Rattle.model.specs.Fields.{Bytes, field}
use Rattle.model.specs.Delivery.{gap_bits}
use Rattle.model.proofs.Bits.{field-length}
use Rattle.fields.specs.Positions.{put_bits}
use Rattle.fields.proofs.Puts.{put_small, put-nil, put-append}
use Rattle.join.specs.Streams.{union_left}
use Rattle.join.specs.declared.Places.{Places}
use Rattle.join.proofs.Streams.{pair-few, none_left, Turn, turn}
use Rattle.join.proofs.Deliveries.put_gaps.Goals as goal
use Rattle.join.proofs.Deliveries.put_gaps.Goals.{After-draw-drawn}

-- the number that is drawn, and what is left behind it
this : (c : After-draw-drawn) → let args = c.args in
    Turn c.loop-drawn.number (union_left args.self.now.full.now args.self.now.daily.now c.loop-drawn.pair) c.draw-drawn.result.number (union_left args.self.now.full.now args.self.now.daily.now c.draw-drawn.result.pair)
this c = turn _ _ _ _ c.draw-drawn.ensures.numbers c.loop-drawn.invariant.1

-- there is room for its field, and behind it for the others
room : (c : After-draw-drawn) → let args = c.args in
    (c.loop-drawn.next + args.w ≤ 8 * length c.loop-drawn.s) × (c.loop-drawn.next + args.w + args.w * length (union_left args.self.now.full.now args.self.now.daily.now c.draw-drawn.result.pair) ≡ args.at + args.w * length (union_left args.self.now.full.now args.self.now.daily.now args.start))
    × (c.loop-drawn.next + args.w < 2 ^ 62)
room c =
    let args = c.args in
    let l = c.loop-drawn in
    let rest : ℕ = length (union_left args.self.now.full.now args.self.now.daily.now c.draw-drawn.result.pair) in
    let all : ℕ = length (union_left args.self.now.full.now args.self.now.daily.now args.start) in
    let few = pair-few args.self.now.full.now args.self.now.daily.now args.start c.requires.draws in
    let more : args.w * length (union_left args.self.now.full.now args.self.now.daily.now l.pair) ≡ args.w + args.w * rest = ap (λ (n : ℕ). args.w * n) (this c).many ∙ omega (arith, mul-suc args.w rest) in
    let wide = mul-le-mul_right all c.requires.most in
    (omega (arith, l.invariant.3, l.invariant.4, c.requires.room, more), omega (arith, l.invariant.3, more), omega (arith, l.invariant.3, c.requires.low, more, wide, few))

pub loop-drawn-init : goal.loop-drawn-init
loop-drawn-init c =
    let pre = c.requires in
    (pre.draws, pre.rise, pre.hold, refl, refl, λ i. (c.type_inv.s i).fits, refl, refl, refl)

pub overflow_sub-drawn : goal.overflow_sub-drawn
overflow_sub-drawn c = omega (arith, (this (goal.at.overflow_sub-drawn c).After-draw-drawn).above)

pub overflow_sub-drawn-in-loop-drawn : goal.overflow_sub-drawn-in-loop-drawn
overflow_sub-drawn-in-loop-drawn c = omega (arith, (this (goal.at.overflow_sub-drawn-in-loop-drawn c).After-draw-drawn).above)

pub put_field-requires : goal.put_field-requires
put_field-requires c =
    (omega (arith, c.requires.most), omega (arith, (this (goal.at.put_field-requires c).After-draw-drawn).largest, c.loop-drawn.invariant.2), (room (goal.at.put_field-requires c).After-draw-drawn).0)

pub overflow_add-next : goal.overflow_add-next
overflow_add-next c = omega (arith, (room (goal.at.overflow_add-next c).After-draw-drawn).2)

pub loop-drawn-preserved : goal.loop-drawn-preserved
unfolding gap_bits
loop-drawn-preserved c =
    let args = c.args in
    let l = c.loop-drawn in
    let t = this (goal.at.loop-drawn-preserved c).After-draw-drawn in
    let r = room (goal.at.loop-drawn-preserved c).After-draw-drawn in
    let drawn = c.draw-drawn.ensures in
    let x : ℕ = c.draw-drawn.result.number in
    let zs : List ℕ = union_left args.self.now.full.now args.self.now.daily.now c.draw-drawn.result.pair in
    let gap : List Bool = field args.w (x - l.number - 1) in
    let rest : List Bool = gap_bits args.w x zs in
    let put = c.put_field.ensures in
    let wide : l.next + length gap ≡ l.next + args.w = ap (λ (k : ℕ). l.next + k) (field-length args.w (x - l.number - 1)) in (
      drawn.draws,
      t.rest,
      omega (arith, t.largest, l.invariant.2),
      r.1,
      c.put_field.auto.s ∙ l.invariant.4,
      subst Bytes (sym put) (put_small l.s l.next gap),
      l.invariant.6 ∙ ap (λ (xs : List ℕ). put_bits l.s l.next (gap_bits args.w l.number xs)) drawn.numbers
          ∙ sym (put-append l.s l.next gap rest (omega (arith, wide, r.0)))
          ∙ ap₂ (λ (row : List ℕ) (q : ℕ). put_bits row q rest) (sym put) wide,
      drawn.full_end ∙ l.invariant.7,
      drawn.daily_end ∙ l.invariant.8,
    )

pub returns : goal.returns
unfolding gap_bits
returns c =
    let args = c.args in
    let l = c.loop-drawn in
    let none = none_left args.self.now.full.now args.self.now.daily.now l.pair (sym c.any_left.ensures ∙ c.loop-drawn-test.false) in
    let zero : args.w * length (union_left args.self.now.full.now args.self.now.daily.now l.pair) ≡ 0 = ap (λ (xs : List ℕ). args.w * length xs) none.0 ∙ mul-zero args.w in
    record {
      full_end = ap (λ (p : Places). p.full) c.places.ensures ∙ sym none.1 ∙ l.invariant.7;
      daily_end = ap (λ (p : Places). p.daily) c.places.ensures ∙ sym none.2 ∙ l.invariant.8;
      next = omega (arith, l.invariant.3, zero);
      put = sym (l.invariant.6 ∙ ap (λ (xs : List ℕ). put_bits l.s l.next (gap_bits args.w l.number xs)) none.0 ∙ put-nil l.s l.next l.invariant.5);
    }
