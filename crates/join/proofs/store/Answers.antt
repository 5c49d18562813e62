-- `join::store` meets its contract: test by test, in the order of `Joined.join_deliveries`; then the number of lists, the lists and the
-- fill are put, which together are the delivery. Assumes nothing.
use mathlib.Core.Path.{◌≡◌, sym, ap, ap₂, ◌∙◌, subst}
use mathlib.Core.List.{List, map}
use Prim.Native.Nat.{ℕ, ◌+◌, ◌-◌, ◌*◌, ◌/◌, ◌≤◌}
use native.Mathlib.Omega.{arith}
use lib.Pow.{pow_pos}
use lib.ListN.{length, take, length-map}
use Rattle.std.proofs.Common.{Ok}
use Rattle.model.specs.Outcome.{accepted}
use Rattle.model.specs.declared.WriteResult.{WriteResult}
use Rattle.model.specs.Fields.{field}
use Rattle.model.specs.Delivery.{Supplied, by_bit, read_stored, delivery}
use Rattle.model.specs.Calls.{written, written_refused}
use Rattle.model.proofs.Sizes.{delivery-length}
use Rattle.refusals.proofs.Up.{up_written}
use Rattle.fields.specs.Positions.{put_bits}
use Rattle.encode.proofs.Whole.{delivery-put}
use Rattle.join.specs.Measures.{lists_at, ListsRead, Tests, joined, shape_of, no_shapes}
use Rattle.join.specs.Fits.{ListsFit, ListsPut}
use Rattle.fields.proofs.Rows.{lay-take}
use Rattle.join.proofs.Lists.{joined-many}
use Rattle.join.proofs.Whole.{Holds, holds, too_long, refuses_full, refuses-daily, refuses_20, refuses_21, refuses_6, writes}
use Rattle.join.proofs.store.Goals as goal
use Rattle.join.proofs.store.Goals.{After-put_lists-next, Else-n-m, In_ok-measure}

-- a refusal handed back
handed : (lent : List ℕ) {r : WriteResult} {n : ℕ} → r ≡ written_refused n → written r lent ≡ written (written_refused n) lent
handed lent e = ap (λ (x : WriteResult). written x lent) e

-- both read, and have n
record Read (full daily : List ℕ) (n : ℕ) : Type 0 where
  few : n ≤ 32
  of_full : ListsRead full n
  of_daily : ListsRead daily n
  full_stored : read_stored by_bit full ≡ accepted (lists_at full n)
  daily-stored : read_stored by_bit daily ≡ accepted (lists_at daily n)
  full_many : length (lists_at full n) ≡ n
  daily-many : length (lists_at daily n) ≡ n
  same : length (lists_at full n) ≡ length (lists_at daily n)
  many : length (joined full daily n) ≡ n

read : (full daily : List ℕ) (n m : ℕ) → Tests full (Ok n) → Tests daily (Ok m) → n ≡ m → Read full daily n
read full daily n m f g e =
    let d = subst (λ (k : ℕ). Tests daily (Ok k)) (sym e) g in
    record { few = f.0; of_full = f.1; of_daily = d.1; full_stored = f.3; daily-stored = d.3; full_many = f.2; daily-many = d.2; same = f.2 ∙ sym d.2; many = joined-many full daily n 6 6 (f.1, d.1) }

both : (c : Else-n-m) → Read c.args.full.now c.args.daily.now c.in_ok-n.n
both c = read _ _ _ _ c.in_ok-n.ensures c.in_ok-m.ensures c.if-n-m.false

pub returns-in_err-n : goal.returns-in_err-n
returns-in_err-n c =
    let args = c.args in
    handed args.joined.now (up_written _ _ c.from_residual.ensures.1) ∙ refuses_full args.full.now args.daily.now args.joined.now c.in_err-n.ensures

pub returns-in_err-m : goal.returns-in_err-m
returns-in_err-m c =
    let args = c.args in
    handed args.joined.now (up_written _ _ c.from_residual-in_err-m.ensures.1) ∙ refuses-daily args.full.now args.daily.now args.joined.now c.in_ok-n.ensures.3 c.in_err-m.ensures

pub returns-then-n-m : goal.returns-then-n-m
returns-then-n-m c =
    let args = c.args in
    let f = c.in_ok-n.ensures in
    let g = c.in_ok-m.ensures in
    refuses_20 args.full.now args.daily.now args.joined.now f.3 g.3 (λ e. c.if-n-m.true (sym f.2 ∙ e ∙ g.2))

pub returns-in_err-measure : goal.returns-in_err-measure
returns-in_err-measure c =
    let args = c.args in
    let r = both (goal.at.returns-in_err-measure c).Else-n-m in
    let t = too_long _ c.in_err-measure.ensures.0 in
    handed args.joined.now (up_written _ _ c.from_residual-in_err-measure.ensures.1)
    ∙ ap (λ (n : ℕ). written (written_refused n) args.joined.now) t.1
    ∙ refuses_21 args.full.now args.daily.now args.joined.now r.full_stored r.daily-stored r.same t.0

-- what is to be written, and the bytes that it takes
found : (c : In_ok-measure) → let args = c.args in
    Holds (joined args.full.now args.daily.now c.in_ok-n.n) c.in_ok-measure.measure
found c = holds _ c.in_ok-measure.measure c.in_ok-measure.ensures.0

count_is : (c : In_ok-measure) → let args = c.args in
    (c.in_ok-measure.measure.bits + 13) / 8 ≡ length (delivery (joined args.full.now args.daily.now c.in_ok-n.n))
count_is c =
    let args = c.args in
    ap (λ (n : ℕ). (n + 13) / 8) (found c).bits ∙ sym (delivery-length (joined args.full.now args.daily.now c.in_ok-n.n))

-- the shapes that are handed on
shapes : (c : In_ok-measure) → Read c.args.full.now c.args.daily.now c.in_ok-n.n → let args = c.args in
    take c.in_ok-n.n c.in_ok-measure.measure.shapes ≡ map shape_of (joined args.full.now args.daily.now c.in_ok-n.n)
shapes c r =
    let args = c.args in
    let ss : List Supplied = joined args.full.now args.daily.now c.in_ok-n.n in
    let all : c.in_ok-n.n ≡ 0 + length (map shape_of ss) = omega (arith, length-map ss shape_of, r.many) in
    ap₂ take all (found c).shapes ∙ lay-take no_shapes 0 (map shape_of ss) (omega arith)

many : (c : In_ok-measure) → Read c.args.full.now c.args.daily.now c.in_ok-n.n → c.in_ok-n.n ≡ length (take c.in_ok-n.n c.in_ok-measure.measure.shapes)
many c r = omega (arith, ap length (shapes c r), length-map (joined c.args.full.now c.args.daily.now c.in_ok-n.n) shape_of, r.many)

low : (c : In_ok-measure) → c.in_ok-measure.measure.bits ≤ 134217728
low c = c.in_ok-measure.ensures.1

pub returns-then-joined-count : goal.returns-then-joined-count
returns-then-joined-count c =
    let args = c.args in
    let r = both (goal.at.returns-then-joined-count c).Else-n-m in
    let found = found (goal.at.returns-then-joined-count c).In_ok-measure in
    refuses_6 args.full.now args.daily.now args.joined.now r.full_stored r.daily-stored r.same found.hold (omega (arith, count_is (goal.at.returns-then-joined-count c).In_ok-measure))

pub put_lists-next-requires : goal.put_lists-next-requires
put_lists-next-requires c =
    let r = both (goal.at.put_lists-next-requires c).Else-n-m in
    let measured = (goal.at.put_lists-next-requires c).In_ok-measure in
    let f = found measured in
    let fits : ListsFit c.args.full.now c.args.daily.now c.in_ok-n.n c.put_field.new.s (take c.in_ok-n.n c.in_ok-measure.measure.shapes) =
    record {
      few = r.few;
      full_reads = r.of_full;
      daily_reads = r.of_daily;
      hold = f.hold;
      are = shapes measured r;
      room = omega (arith, f.bits, c.if-joined-count.false, c.put_field.auto.s);
      low = omega (arith, f.bits, low measured);
    } in
    subst (λ (n : ℕ). ListsFit c.args.full.now c.args.daily.now n c.put_field.new.s (take c.in_ok-n.n c.in_ok-measure.measure.shapes)) (many measured r) fits

-- what was put
done : (c : After-put_lists-next) → c.in_ok-n.n ≡ length (take c.in_ok-n.n c.in_ok-measure.measure.shapes)
    → ListsPut c.args.full.now c.args.daily.now c.in_ok-n.n c.put_field.new.s c.put_lists-next.new.s c.put_lists-next.result
done c e = subst (λ (n : ℕ). ListsPut c.args.full.now c.args.daily.now n c.put_field.new.s c.put_lists-next.new.s c.put_lists-next.result) (sym e) c.put_lists-next.ensures

pub overflow_sub-count : goal.overflow_sub-count
overflow_sub-count c =
    let measured = (goal.at.overflow_sub-count c).In_ok-measure in
    let put = done (goal.at.overflow_sub-count c).After-put_lists-next (many measured (both (goal.at.overflow_sub-count c).Else-n-m)) in
    omega (arith, put.end, (found measured).bits)

pub put_field-requires-2 : goal.put_field-requires-2
put_field-requires-2 c =
    let measured = (goal.at.put_field-requires-2 c).In_ok-measure in
    let put = done (goal.at.put_field-requires-2 c).After-put_lists-next (many measured (both (goal.at.put_field-requires-2 c).Else-n-m)) in
    let f = found measured in
    (omega (arith, put.end, f.bits), pow_pos _, omega (arith, put.end, f.bits, c.if-joined-count.false, c.put_field.auto.s, c.put_lists-next.auto.s))

pub returns : goal.returns
returns c =
    let args = c.args in
    let r = both (goal.at.returns c).Else-n-m in
    let measured = (goal.at.returns c).In_ok-measure in
    let f = found measured in
    let put = done (goal.at.returns c).After-put_lists-next (many measured r) in
    let ss : List Supplied = joined args.full.now args.daily.now c.in_ok-n.n in
    let n = count_is measured in
    let room : length (delivery ss) ≤ length args.joined.now = omega (arith, n, c.if-joined-count.false) in
    let first : c.put_field.new.s ≡ put_bits args.joined.now 0 (field 6 (length ss)) = c.put_field.ensures ∙ ap (λ (k : ℕ). put_bits args.joined.now 0 (field 6 k)) (sym r.many) in
    let row = delivery-put args.joined.now ss (8 * ((c.in_ok-measure.measure.bits + 13) / 8) - c.put_lists-next.result) (λ i. (measured.type_inv.joined i).fits) room first put.put put.end c.put_field-2.ensures (omega (arith, n, put.end, f.bits)) in
    ap₂ (λ (k : ℕ) (l : List ℕ). written (record { number = 0; count = k }) l) n row
    ∙ writes args.full.now args.daily.now args.joined.now r.full_stored r.daily-stored r.same f.hold room
