-- `encode::store` meets its contract: test by test, in the order of `Lists.lists_of`, then 6; then the number of lists, the lists
-- and the fill are put, which together are the delivery. Assumes nothing.
use mathlib.Core.Path.{◌≡◌, sym, ap, ap₂, ◌∙◌}
use mathlib.Core.Bool.{true, ◌&&◌}
use mathlib.Core.List.{List, map}
use Prim.Native.Nat.{ℕ, ◌+◌, ◌-◌, ◌*◌, ◌/◌, ◌≤◌}
use native.Mathlib.Omega.{arith}
use lib.Pow.{pow_pos}
use lib.ListN.{length, replicate}
use Rattle.model.specs.declared.WriteResult.{WriteResult}
use Rattle.model.specs.Outcome.{accepted}
use Rattle.model.specs.Lists.{all_ascending, lists_from, count_holds, ends_hold, word_holds}
use Rattle.model.specs.Fields.{field}
use Rattle.model.specs.Delivery.{Supplied, delivery, supplied}
use Rattle.model.specs.Calls.{written_refused, written}
use Rattle.model.proofs.Order.{and_true}
use Rattle.model.proofs.Accepted.{required, accepted-same}
use Rattle.model.proofs.Laid.{lists_length}
use Rattle.model.proofs.Word.{supplied-length}
use Rattle.model.proofs.Sizes.{delivery-length}
use Rattle.refusals.proofs.Up.{up_written, test-failed}
use Rattle.lists.proofs.Spans.{counts}
use Rattle.fields.specs.Rows.{lay}
use Rattle.fields.specs.Positions.{put_bits}
use Rattle.encode.specs.declared.Measure.{Measure}
use Rattle.encode.specs.Measures.{lists_bits, gap_width, measured}
use Rattle.encode.proofs.Whole.{lists-small, refuses_7, refuses_10, refuses_11, refuses_6, writes, delivery-put}
use Rattle.encode.proofs.store.Goals as goal
use Rattle.encode.proofs.store.Goals.{After-put_lists-next, Else-not-count_holds, Else-not-lists_hold, In_ok-m}

-- 7 and 10 do not apply
seven : (c : Else-not-count_holds) → count_holds (length c.args.ends.now) ≡ true
seven c = sym c.count_holds.ensures ∙ c.if-not-count_holds.false

ten : (c : Else-not-lists_hold) → let args = c.args in ends_hold (length args.numbers.now) 0 args.ends.now && word_holds args.word 0 0 args.ends.now ≡ true
ten c = sym c.lists_hold.ensures ∙ c.if-not-lists_hold.false

hold : (c : Else-not-lists_hold) → let args = c.args in ends_hold (length args.numbers.now) 0 args.ends.now ≡ true
hold c = let args = c.args in (and_true (ends_hold (length args.numbers.now) 0 args.ends.now) _ (ten c)).0

-- 11 does not apply either, and the lists are measured
record Surveyed (word : ℕ) (ls : List (List ℕ)) (m : Measure) : Type 0 where
  up : all_ascending ls ≡ true
  bits : m.bits ≡ length (lists_bits (supplied word ls))
  widths : m.widths ≡ lay (replicate 32 0) 0 (map gap_width ls)

surveyed : (word : ℕ) (ls : List (List ℕ)) (m : Measure) → accepted m ≡ measured word ls → Surveyed word ls m
unfolding measured
surveyed word ls m e =
    let r = required 11 (all_ascending ls) _ m (sym e) in
    let same = accepted-same r.1 in
    record { up = r.0; bits = ap (λ (x : Measure). x.bits) (sym same); widths = ap (λ (x : Measure). x.widths) (sym same) }

found : (c : In_ok-m) → let args = c.args in Surveyed args.word (lists_from args.numbers.now 0 args.ends.now) c.in_ok-m.m
found c = surveyed _ _ _ c.in_ok-m.ensures

-- its bits are few, so sums of them stay small
few : (c : In_ok-m) → let args = c.args in ends_hold (length args.numbers.now) 0 args.ends.now ≡ true → count_holds (length args.ends.now) ≡ true → c.in_ok-m.m.bits ≤ 134217728
few c holds counted =
    let args = c.args in
    omega (arith, (found c).bits, (counts _ counted).1, lists-small args.word 0 args.numbers.now 0 args.ends.now (λ i. (c.type_inv.numbers i).fits) holds)

-- the bytes that are written, and there is room for them
count_is : (c : In_ok-m) → let args = c.args in (c.in_ok-m.m.bits + 13) / 8 ≡ length (delivery (supplied args.word (lists_from args.numbers.now 0 args.ends.now)))
count_is c = let args = c.args in ap (λ (n : ℕ). (n + 13) / 8) (found c).bits ∙ sym (delivery-length (supplied args.word (lists_from args.numbers.now 0 args.ends.now)))

-- where the lists end
next_is : (c : After-put_lists-next) → c.put_lists-next.result ≡ 6 + c.in_ok-m.m.bits
next_is c =
    let f = surveyed _ _ _ c.in_ok-m.ensures in
    omega (arith, c.put_lists-next.ensures.0, f.bits)

pub returns-then-not-count_holds : goal.returns-then-not-count_holds
returns-then-not-count_holds c =
    let args = c.args in
    refuses_7 args.numbers.now args.ends.now args.word args.bytes.now (sym c.count_holds.ensures ∙ c.if-not-count_holds.true)

pub returns-then-not-lists_hold : goal.returns-then-not-lists_hold
returns-then-not-lists_hold c =
    let args = c.args in
    refuses_10 args.numbers.now args.ends.now args.word args.bytes.now (seven (goal.at.returns-then-not-lists_hold c).Else-not-count_holds) (sym c.lists_hold.ensures ∙ c.if-not-lists_hold.true)

pub survey-requires : goal.survey-requires
survey-requires c = (hold c, (counts _ (seven (goal.at.survey-requires c).Else-not-count_holds)).1)

pub returns-in_err-m : goal.returns-in_err-m
unfolding measured
returns-in_err-m c =
    let args = c.args in
    let told = test-failed 11 (all_ascending (lists_from args.numbers.now 0 args.ends.now)) _ c.in_err-m.ensures in
    ap (λ (r : WriteResult). written r args.bytes.now) (up_written _ _ c.from_residual.ensures.1 ∙ ap written_refused told.1)
    ∙ refuses_11 args.numbers.now args.ends.now args.word args.bytes.now (seven (goal.at.returns-in_err-m c).Else-not-count_holds) (ten (goal.at.returns-in_err-m c).Else-not-lists_hold) told.0

pub overflow_add-count : goal.overflow_add-count
overflow_add-count c = omega (arith, few (goal.at.overflow_add-count c).In_ok-m (hold (goal.at.overflow_add-count c).Else-not-lists_hold) (seven (goal.at.overflow_add-count c).Else-not-count_holds))

pub returns-then-bytes-count : goal.returns-then-bytes-count
returns-then-bytes-count c =
    let args = c.args in
    let m = (goal.at.returns-then-bytes-count c).In_ok-m in
    refuses_6 args.numbers.now args.ends.now args.word args.bytes.now (seven (goal.at.returns-then-bytes-count c).Else-not-count_holds) (ten (goal.at.returns-then-bytes-count c).Else-not-lists_hold) (found m).up (omega (arith, count_is m))

pub overflow_cast-ends : goal.overflow_cast-ends
overflow_cast-ends c = omega (arith, (counts _ (seven (goal.at.overflow_cast-ends c).Else-not-count_holds)).1)

pub put_field-requires : goal.put_field-requires
put_field-requires c = (omega arith, omega (arith, (counts _ (seven (goal.at.put_field-requires c).Else-not-count_holds)).1), omega arith)

pub put_lists-next-requires : goal.put_lists-next-requires
put_lists-next-requires c =
    let f = found (goal.at.put_lists-next-requires c).In_ok-m in
    record { hold = hold (goal.at.put_lists-next-requires c).Else-not-lists_hold; few = (counts _ (seven (goal.at.put_lists-next-requires c).Else-not-count_holds)).1; ascend = f.up; wide = f.widths; room = omega (arith, f.bits, c.if-bytes-count.false, c.put_field.auto.s) }

pub overflow_mul-count : goal.overflow_mul-count
overflow_mul-count c = omega (arith, few (goal.at.overflow_mul-count c).In_ok-m (hold (goal.at.overflow_mul-count c).Else-not-lists_hold) (seven (goal.at.overflow_mul-count c).Else-not-count_holds))

pub overflow_sub-count : goal.overflow_sub-count
overflow_sub-count c = omega (arith, next_is (goal.at.overflow_sub-count c).After-put_lists-next)

pub put_field-requires-2 : goal.put_field-requires-2
put_field-requires-2 c =
    let n = next_is (goal.at.put_field-requires-2 c).After-put_lists-next in
    (omega (arith, n), pow_pos _, omega (arith, n, c.if-bytes-count.false, c.put_field.auto.s, c.put_lists-next.auto.s))

pub returns : goal.returns
returns c =
    let args = c.args in
    let m = (goal.at.returns c).In_ok-m in
    let ls : List (List ℕ) = lists_from args.numbers.now 0 args.ends.now in
    let ss : List Supplied = supplied args.word ls in
    let n = count_is m in
    let next = next_is (goal.at.returns c).After-put_lists-next in
    let room : length (delivery ss) ≤ length args.bytes.now = omega (arith, n, c.if-bytes-count.false) in
    let first : c.put_field.new.s ≡ put_bits args.bytes.now 0 (field 6 (length ss)) =
    c.put_field.ensures ∙ ap (λ (k : ℕ). put_bits args.bytes.now 0 (field 6 k)) (sym (supplied-length args.word 0 ls ∙ lists_length args.numbers.now 0 args.ends.now)) in
    let row = delivery-put args.bytes.now ss (8 * ((c.in_ok-m.m.bits + 13) / 8) - c.put_lists-next.result) (λ i. (m.type_inv.bytes i).fits) room first c.put_lists-next.ensures.1 c.put_lists-next.ensures.0 c.put_field-2.ensures (omega (arith, n, next)) in
    ap₂ (λ (k : ℕ) (r : List ℕ). written (record { number = 0; count = k }) r) n row
    ∙ writes args.numbers.now args.ends.now args.word args.bytes.now (seven (goal.at.returns c).Else-not-count_holds) (ten (goal.at.returns c).Else-not-lists_hold) (found m).up room
