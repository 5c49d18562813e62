-- `try_update` meets its contract: what the tests refuse leaves everything as it was; else rows, ends and count move as the definition
-- says. Assumes nothing.
use mathlib.Core.Path.{◌≡◌, sym}
use mathlib.Core.Bool.{true, false, not, beq}
use mathlib.Core.List.{List}
use Prim.Native.Nat.{ℕ, ◌<◌}
use native.Mathlib.Omega.{arith}
use lib.ListN.{length}
use Rattle.model.specs.Outcome.{number_of}
use Rattle.model.specs.Lists.{top, Numbers, Lent, lend}
use Rattle.model.specs.Update.{Change, change, update as update_call, updated}
use Rattle.model.specs.RequestOne.{moved}
use Rattle.shifts.specs.Shift.{Shifts, shifted, Movable, ends_moved}
use Rattle.update.specs.Plans.{Placed}
use Rattle.update.proofs.Tests.{found_of}
use Rattle.update.proofs.Whole.{AllPassed, all_passed}
use Rattle.update.proofs.Leaves.{refusal-leaves, numbers_shift, ends_movable, row_shift, RowLeft, row_left, row_same, leaves}
use Rattle.update.proofs.try_update.Goals as goal
use Rattle.update.proofs.try_update.Goals.{In_ok-plan}

-- every test has passed, and what follows from that for the rows
module _ (c : In_ok-plan) where
  abbrev lent : Lent
  lent = lend c.args.numbers.now c.args.ends.now c.args.word

  abbrev asked : Change
  asked = change c.args.list c.args.number c.args.add

  abbrev p : Placed
  p = found_of c.in_ok-plan.plan

  pass : AllPassed lent c.args.packed.now asked c.args.members.now c.args.count.now p
  pass = all_passed _ _ _ _ _ p (sym c.in_ok-plan.ensures)

  fit : Numbers lent.numbers
  fit = λ i. (c.slice_known-1.given i).fits

  small : c.args.number < top
  small = omega (arith, c.ranges.number.fits)

  room : length c.args.members.now < 18446744073709551616
  room = omega arith

  numbers_can : Shifts asked.adds p.at p.used (length lent.numbers)
  numbers_can = numbers_shift _ _ _ _ _ fit small p pass

  ends_can : Movable asked.adds asked.list lent.ends
  ends_can = ends_movable _ _ _ _ _ fit small p pass

  -- where the number comes or goes
  row_can : not (beq p.was p.will) ≡ true → Shifts p.will p.place c.args.count.now (length c.args.members.now)
  row_can d = row_shift _ _ _ _ _ fit small p pass d

  -- and the whole
  all_left : (numbers ends row : List ℕ) (held : ℕ) → numbers ≡ shifted asked.adds lent.numbers p.at p.used c.args.number → ends ≡ ends_moved asked.adds asked.list lent.ends
      → RowLeft pass.source asked c.args.members.now row held → updated 0 numbers ends row held ≡ update_call lent c.args.packed.now asked c.args.members.now c.args.count.now
  all_left = leaves _ _ _ _ _ fit small p pass

  row_changed : not (beq p.was p.will) ≡ true → (row : List ℕ) (held : ℕ) → row ≡ shifted p.will c.args.members.now p.place c.args.count.now c.args.number → held ≡ moved p.will c.args.count.now
      → RowLeft pass.source asked c.args.members.now row held
  row_changed d = row_left _ _ _ _ _ fit small p pass d

  row_kept : not (beq p.was p.will) ≡ false → RowLeft pass.source asked c.args.members.now c.args.members.now c.args.count.now
  row_kept d = row_same _ _ _ _ _ fit small p pass d

pub returns-in_err-plan : goal.returns-in_err-plan
returns-in_err-plan c = refusal-leaves _ _ _ _ _ _ _ c.from_residual.ensures.1 c.in_err-plan.ensures

pub shift-requires : goal.shift-requires
shift-requires c = numbers_can (goal.at.shift-requires c).In_ok-plan

pub move_ends-requires : goal.move_ends-requires
move_ends-requires c = ends_can (goal.at.move_ends-requires c).In_ok-plan

pub shift-requires-then-member_changes : goal.shift-requires-then-member_changes
shift-requires-then-member_changes c = row_can (goal.at.shift-requires-then-member_changes c).In_ok-plan c.if-member_changes.true

pub overflow_add-now : goal.overflow_add-now
overflow_add-now c =
    let passed = (goal.at.overflow_add-now c).In_ok-plan in
    let r = rw c.if-plan.true at (row_can passed c.if-member_changes.true) in
    omega (arith, r.1, room passed)

pub overflow_sub-now : goal.overflow_sub-now
overflow_sub-now c =
    let r = rw c.if-plan.false at (row_can (goal.at.overflow_sub-now c).In_ok-plan c.if-member_changes.true) in
    omega (arith, r.0)

pub returns-then-plan : goal.returns-then-plan
unfolding number_of
returns-then-plan c =
    let passed = (goal.at.returns-then-plan c).In_ok-plan in
    all_left passed _ _ _ _ c.shift.ensures c.move_ends.ensures (row_changed passed c.if-member_changes.true _ _ c.shift-then-member_changes.ensures (rw c.if-plan.true (omega arith)))

pub returns-else-plan : goal.returns-else-plan
unfolding number_of
returns-else-plan c =
    let passed = (goal.at.returns-else-plan c).In_ok-plan in
    all_left passed _ _ _ _ c.shift.ensures c.move_ends.ensures (row_changed passed c.if-member_changes.true _ _ c.shift-then-member_changes.ensures (rw c.if-plan.false))

pub returns-else-member_changes : goal.returns-else-member_changes
unfolding number_of
returns-else-member_changes c =
    let passed = (goal.at.returns-else-member_changes c).In_ok-plan in
    all_left passed _ _ _ _ c.shift.ensures c.move_ends.ensures (row_kept passed c.if-member_changes.false)
