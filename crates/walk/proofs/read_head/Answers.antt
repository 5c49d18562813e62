-- `walk::read_head` meets its contract: field by field, each for as many numbers as have it. Assumes nothing.
use mathlib.Core.Path.{◌≡◌, sym, ◌∙◌}
use Prim.Native.Nat.{◌≤◌}
use native.Mathlib.Omega.{arith}
use Rattle.model.specs.Outcome.{accepted}
use Rattle.refusals.proofs.Up.{up}
use Rattle.fields.specs.Positions.{take_at}
use Rattle.fields.proofs.Fields.{took}
use Rattle.walk.proofs.Reading.{header-none, header-ends, header-one, header-more}
use Rattle.walk.proofs.read_head.Goals as goal
use Rattle.walk.proofs.read_head.Goals.{Else-count-eq1, In_ok-first, In_ok-less}

-- the fields as they were taken, each with the position behind it
first_read : (c : In_ok-first) → let args = c.args in take_at args.s.now 32 args.at ≡ accepted (c.in_ok-first.first, c.in_ok-first.next)
first_read c = sym c.in_ok-first.ensures

less_read : (c : In_ok-less) → take_at c.args.s.now 5 c.in_ok-first.next ≡ accepted (c.in_ok-less.less, c.in_ok-less.behind)
less_read c = sym c.in_ok-less.ensures

-- there are two numbers or more
more : (c : Else-count-eq1) → 2 ≤ c.args.count
more c = omega (arith, c.if-count-eq1.false, c.if-count-eq0.false)

pub returns-then-count-eq0 : goal.returns-then-count-eq0
returns-then-count-eq0 c = sym (header-none (take_at _) _ _ c.if-count-eq0.true)

pub returns-in_err-first : goal.returns-in_err-first
returns-in_err-first c =
    up _ _ c.from_residual.ensures.1 ∙ sym (header-ends (take_at _) _ _ c.if-count-eq0.false (sym c.in_err-first.ensures))

pub returns-then-count-eq1 : goal.returns-then-count-eq1
returns-then-count-eq1 c = sym (header-one (take_at _) _ _ c.if-count-eq1.true (first_read (goal.at.returns-then-count-eq1 c).In_ok-first))

pub take_field-requires-2 : goal.take_field-requires-2
take_field-requires-2 c = let args = c.args in omega (arith, (took args.s.now 32 args.at _ (first_read (goal.at.take_field-requires-2 c).In_ok-first)).next)

pub returns-in_err-less : goal.returns-in_err-less
returns-in_err-less c =
    up _ _ c.from_residual-in_err-less.ensures.1 ∙ sym (header-more (take_at _) _ _ (more (goal.at.returns-in_err-less c).Else-count-eq1) (first_read (goal.at.returns-in_err-less c).In_ok-first) (sym c.in_err-less.ensures))

pub overflow_add-width : goal.overflow_add-width
overflow_add-width c =
    omega (arith, (took c.args.s.now 5 c.in_ok-first.next _ (less_read c)).small)

pub returns : goal.returns
returns c = sym (header-more (take_at _) _ _ (more (goal.at.returns c).Else-count-eq1) (first_read (goal.at.returns c).In_ok-first) (less_read c))
