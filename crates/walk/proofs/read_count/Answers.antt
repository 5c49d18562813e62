-- `walk::read_count` meets its contract: the bit, and behind a 1 the count, with the test for its room. Assumes nothing.
use mathlib.Core.Path.{◌≡◌, sym, ◌∙◌}
use native.Mathlib.Omega.{arith}
use Rattle.model.specs.Outcome.{accepted}
use Rattle.fields.specs.Positions.{take_at}
use Rattle.fields.proofs.Fields.{took}
use Rattle.walk.proofs.Counting.{counted_up, head-ends, head-none, head-short, head_full, head_more}
use Rattle.walk.proofs.read_count.Goals as goal
use Rattle.walk.proofs.read_count.Goals.{In_ok-bit, In_ok-count}

-- the fields as they were taken, each with the position behind it
bit-read : (c : In_ok-bit) → let args = c.args in take_at args.s.now 1 args.at ≡ accepted (c.in_ok-bit.bit, c.in_ok-bit.next)
bit-read c = sym c.in_ok-bit.ensures

count_read : (c : In_ok-count) → take_at c.args.s.now 16 c.in_ok-bit.next ≡ accepted (c.in_ok-count.count, c.in_ok-count.behind)
count_read c = sym c.in_ok-count.ensures

pub returns-in_err-bit : goal.returns-in_err-bit
returns-in_err-bit c =
    counted_up _ _ c.from_residual.ensures.1 ∙ sym (head-ends (take_at _) _ _ (sym c.in_err-bit.ensures))

pub returns-then-bit-eq0 : goal.returns-then-bit-eq0
returns-then-bit-eq0 c = sym (head-none (take_at _) _ _ c.if-bit-eq0.true (bit-read (goal.at.returns-then-bit-eq0 c).In_ok-bit))

pub take_field-requires-2 : goal.take_field-requires-2
take_field-requires-2 c = let args = c.args in omega (arith, (took args.s.now 1 args.at _ (bit-read (goal.at.take_field-requires-2 c).In_ok-bit)).next)

pub returns-in_err-count : goal.returns-in_err-count
returns-in_err-count c =
    counted_up _ _ c.from_residual-in_err-count.ensures.1 ∙ sym (head-short (take_at _) _ _ _ c.if-bit-eq0.false (bit-read (goal.at.returns-in_err-count c).In_ok-bit) (sym c.in_err-count.ensures))

pub returns-then-room-count : goal.returns-then-room-count
returns-then-room-count c =
    sym (head_full (take_at _) _ _ _ c.if-bit-eq0.false (bit-read (goal.at.returns-then-room-count c).In_ok-bit) (count_read (goal.at.returns-then-room-count c).In_ok-count) c.if-room-count.true)

pub returns : goal.returns
returns c =
    sym (head_more (take_at _) _ _ _ c.if-bit-eq0.false (bit-read (goal.at.returns c).In_ok-bit) (count_read (goal.at.returns c).In_ok-count) c.if-room-count.false)
