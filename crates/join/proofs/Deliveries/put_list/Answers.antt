-- `join::Deliveries::put_list` meets its contract: a list that came in either is put as such, and of one that came in neither, its bit. Assumes
-- nothing.
use mathlib.Core.Path.{◌≡◌, sym, ap, ◌∙◌}
use mathlib.Core.Bool.{Bool, true, false}
use mathlib.Core.List.{List}
use Prim.Native.Nat.{ℕ, ◌+◌}
use native.Mathlib.Omega.{arith}
use lib.ListN.{length}
use Rattle.model.specs.Fields.{field}
use Rattle.model.specs.Delivery.{Supplied, came, supplied_numbers}
use Rattle.model.proofs.Bits.{field-length}
use Rattle.model.proofs.Sizes.{undelivered-bits}
use Rattle.fields.specs.Positions.{put_bits}
use Rattle.encode.specs.Measures.{as_supplied, list_bits, gap_width}
use Rattle.join.specs.declared.Both.{Both}
use Rattle.join.specs.declared.Shape.{Shape}
use Rattle.join.specs.Streams.{end_of, union_left, joined_at, PairOpens}
use Rattle.join.specs.declared.Places.{Places}
use Rattle.join.proofs.Streams.{none_left}
use Rattle.join.proofs.Lists.{supplied-is, nothing_left}
use Rattle.join.proofs.Deliveries.put_list.Goals as goal

-- the list of both, by whether it came
module _ (full daily : List ℕ) (at beside : ℕ) (r : Both) (e : PairOpens full daily at beside r) where
  abbrev list_of : Supplied
  list_of = joined_at full daily at beside

  is-list : (b : Bool) → r.came ≡ b → list_of ≡ as_supplied b (supplied_numbers list_of)
  is-list b h = supplied-is list_of ∙ ap (λ (d : Bool). as_supplied d (supplied_numbers list_of)) (sym e.came ∙ h)

  -- the bits of one that came, and of one that did not
  whole : r.came ≡ true → list_bits list_of ≡ list_bits (came (union_left full daily r.pair))
  whole h = ap list_bits (is-list true h ∙ ap came (sym e.numbers))

  alone : r.came ≡ false → list_bits list_of ≡ field 1 0
  alone h = ap list_bits (is-list false h) ∙ undelivered-bits

  -- no stream of one that did not come has a number
  over : r.came ≡ false → (end_of full r.pair.full ≡ r.pair.full.next) × (end_of daily r.pair.daily ≡ r.pair.daily.next)
  unfolding supplied_numbers
  over h =
      let empty : length (union_left full daily r.pair) ≡ 0 = ap length e.numbers ∙ ap (λ (a : Supplied). length (supplied_numbers a)) (is-list false h) in
      let none = none_left full daily r.pair (nothing_left full daily r.pair e.draws empty) in
      (none.1, none.2)

pub put_came-requires : goal.put_came-requires
put_came-requires c =
    let pre = c.requires in
    let numbers = c.open_both-both.ensures.numbers in
    record {
      draws = c.open_both-both.ensures.draws;
      few = pre.few;
      many = ap (λ (x : Shape). x.count) pre.is ∙ sym (ap length numbers);
      wide = ap (λ (x : Shape). x.width) pre.is ∙ sym (ap gap_width numbers);
      low = pre.low;
      room = omega (arith, ap length (whole _ _ _ _ _ c.open_both-both.ensures c.if-both.true), pre.room);
    }

pub returns-then-both : goal.returns-then-both
returns-then-both c =
    let args = c.args in
    let all = sym (whole _ _ _ _ _ c.open_both-both.ensures c.if-both.true) in
    record {
      full_end = c.put_came.ensures.full_end ∙ c.open_both-both.ensures.full_end;
      daily_end = c.put_came.ensures.daily_end ∙ c.open_both-both.ensures.daily_end;
      next = c.put_came.ensures.next ∙ ap (λ (bs : List Bool). args.from.joined + length bs) all;
      put = c.put_came.ensures.put ∙ ap (put_bits args.s.now args.from.joined) all;
    }

pub put_field-requires : goal.put_field-requires
put_field-requires c = (omega arith, omega arith, omega (arith, ap length (alone _ _ _ _ _ c.open_both-both.ensures c.if-both.false), field-length 1 0, c.requires.room))

pub returns : goal.returns
returns c =
    let args = c.args in
    let one = alone _ _ _ _ _ c.open_both-both.ensures c.if-both.false in
    let done = over _ _ _ _ _ c.open_both-both.ensures c.if-both.false in
    record {
      full_end = ap (λ (p : Places). p.full) c.places.ensures ∙ sym done.0 ∙ c.open_both-both.ensures.full_end;
      daily_end = ap (λ (p : Places). p.daily) c.places.ensures ∙ sym done.1 ∙ c.open_both-both.ensures.daily_end;
      next = omega (arith, ap length one, field-length 1 0);
      put = c.put_field.ensures ∙ ap (put_bits args.s.now args.from.joined) (sym one);
    }
