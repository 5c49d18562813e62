-- `join::test_delivery` meets its contract: test by test, in the order of `Delivery.read_in`, with more room than any delivery fills.
-- Assumes nothing.
use mathlib.Core.Path.{◌≡◌, sym, ap, ◌∙◌}
use mathlib.Core.Bool.{true}
use mathlib.Core.List.{List, []}
use mathlib.Core.Option.{none, some}
use Prim.Native.Nat.{ℕ, ◌*◌, ◌≤◌}
use native.Mathlib.Omega.{arith}
use lib.ListN.{length, drop}
use Rattle.std.proofs.Common.{Result, Ok, Err}
use Rattle.std.specs.Result.{IsErrAnd}
use Rattle.refusals.specs.declared.Refusal.{Refusal}
use Rattle.refusals.specs.Numbers.{number}
use Rattle.model.specs.Outcome.{Outcome, refused, accepted, ◌>>=◌, ◌>>◌, require}
use Rattle.model.specs.Lists.{count_holds}
use Rattle.model.specs.Fields.{bits, only_fill}
use Rattle.model.specs.Delivery.{Supplied, by_bit, read_lists, read_stored}
use Rattle.lists.proofs.Spans.{counts}
use Rattle.fields.specs.Positions.{take_at}
use Rattle.fields.proofs.Fields.{took}
use Rattle.walk.specs.Counts.{all_counted}
use Rattle.walk.proofs.Reading.{Kept, kept, lost}
use Rattle.walk.proofs.Bounds.{lists_next, by_bit_ahead}
use Rattle.join.specs.Measures.{Tests, lists_from}
use Rattle.join.proofs.Streams.{value-is, reads_is}
use Rattle.join.proofs.Lists.{lists-many, lists-room}
use Rattle.join.proofs.Whole.{reads_no_number, reads_wrong_number, reads_on}
use Rattle.join.proofs.test_delivery.Goals as goal
use Rattle.join.proofs.test_delivery.Goals.{Else-not-count_holds, In_ok-_lists, In_ok-n}

-- a refusal goes up by `?` as it came
up : (s : List ℕ) (r : Result ℕ Refusal) (e : Refusal) → IsErrAnd r (λ y. y ≡ e) → read_stored by_bit s ≡ refused (number e) → Tests s r
up s (Ok n) e h t = absurd h
up s (Err y) e h t = rw h t

-- how many lists there are
number_read : (c : In_ok-n) → take_at c.args.bytes.now 6 0 ≡ accepted (c.in_ok-n.n, c.in_ok-n.next)
number_read c = sym c.in_ok-n.ensures

six : (c : In_ok-n) → (c.in_ok-n.next ≡ 6) × (6 ≤ 8 * length c.args.bytes.now)
six c = let t = took c.args.bytes.now 6 0 _ (number_read c) in (omega (arith, t.next), omega (arith, t.inside))

right : (c : Else-not-count_holds) → count_holds c.in_ok-n.n ≡ true
right c = sym c.count_holds.ensures ∙ c.if-not-count_holds.false

-- the walk's room is as good as none
roomy : (c : Else-not-count_holds) → let s = c.args.bytes.now in read_lists (take_at s) by_bit c.in_ok-n.n (some 2097120) c.in_ok-n.next ≡ read_lists (take_at s) by_bit c.in_ok-n.n none c.in_ok-n.next
roomy c =
    lists-room c.args.bytes.now c.in_ok-n.n 2097120 c.in_ok-n.next (omega (arith, (counts _ (right c)).1))

on : (c : Else-not-count_holds) {o : Outcome (List Supplied × ℕ)} → let s = c.args.bytes.now in read_lists (take_at s) by_bit c.in_ok-n.n (some 2097120) c.in_ok-n.next ≡ o → read_stored by_bit s ≡ (o >>= λ r. (require 5 (only_fill (drop r.1 (bits s))) >> accepted r.0))
on c e = reads_on c.args.bytes.now (sym c.in_ok-n.ensures) (right c) (sym (roomy c) ∙ e)

-- the lists that were walked through
walked : (c : In_ok-_lists) → let s = c.args.bytes.now in Kept all_counted (read_lists (take_at s) by_bit c.in_ok-n.n (some 2097120) c.in_ok-n.next) (c.in_ok-_lists._lists.bits, c.in_ok-_lists._lists.count) c.in_ok-_lists.end
walked c = kept _ _ _ _ (sym c.in_ok-_lists.ensures)

pub returns-in_err-n : goal.returns-in_err-n
returns-in_err-n c = up _ _ _ c.from_residual.ensures.1 (reads_no_number c.args.bytes.now (sym c.in_err-n.ensures))

pub returns-then-not-count_holds : goal.returns-then-not-count_holds
returns-then-not-count_holds c =
    reads_wrong_number c.args.bytes.now (number_read (goal.at.returns-then-not-count_holds c).In_ok-n) (sym c.count_holds.ensures ∙ c.if-not-count_holds.true)

pub walk_lists-requires : goal.walk_lists-requires
walk_lists-requires c = ((counts _ (right c)).1, omega (arith, (six (goal.at.walk_lists-requires c).In_ok-n).0))

pub returns-in_err-_lists : goal.returns-in_err-_lists
returns-in_err-_lists c = up _ _ _ c.from_residual-in_err-_lists.ensures.1 (on (goal.at.returns-in_err-_lists c).Else-not-count_holds (lost _ _ _ (sym c.in_err-_lists.ensures)))

pub only_fill-requires : goal.only_fill-requires
only_fill-requires c =
    let few = (counts _ (right (goal.at.only_fill-requires c).Else-not-count_holds)).1 in
    let at = six (goal.at.only_fill-requires c).In_ok-n in
    let w = lists_next by_bit c.args.bytes.now (by_bit_ahead _) c.in_ok-n.n (some 2097120) c.in_ok-n.next _ (walked (goal.at.only_fill-requires c).In_ok-_lists).read (omega (arith, at)) in
    (w.inside, omega (arith, w.near, at, few))

pub returns-then-not-only_fill : goal.returns-then-not-only_fill
returns-then-not-only_fill c =
    let fill = sym c.only_fill.ensures ∙ c.if-not-only_fill.true in
    on (goal.at.returns-then-not-only_fill c).Else-not-count_holds (walked (goal.at.returns-then-not-only_fill c).In_ok-_lists).read ∙ rw fill

pub returns : goal.returns
returns c =
    let s = c.args.bytes.now in
    let fill = sym c.only_fill.ensures ∙ c.if-not-only_fill.false in
    let w = walked (goal.at.returns c).In_ok-_lists in
    let read : lists_from s c.in_ok-n.n 6 ≡ accepted (w.got, c.in_ok-_lists.end) = ap (lists_from s c.in_ok-n.n) (sym (six (goal.at.returns c).In_ok-n).0) ∙ sym (roomy (goal.at.returns c).Else-not-count_holds) ∙ w.read in
    ((counts _ (right (goal.at.returns c).Else-not-count_holds)).1, reads_is [] read, lists-many s c.in_ok-n.n 6 (reads_is [] read), on (goal.at.returns c).Else-not-count_holds w.read ∙ rw fill (ap accepted (sym (value-is [] read))))
