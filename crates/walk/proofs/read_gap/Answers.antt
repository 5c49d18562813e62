-- `walk::read_gap` meets its contract: the field is taken, and the sum is tested before it is made. Assumes nothing.
use mathlib.Core.Path.{◌≡◌, sym, ◌∙◌}
use Prim.Native.Nat.{◌+◌, ◌≤◌, ◌<◌}
use native.Mathlib.Omega.{arith}
use borrow.Author.Tests.{lt-ltb, le-ltb}
use Rattle.refusals.proofs.Up.{up}
use Rattle.model.specs.Outcome.{accepted, refused}
use Rattle.model.specs.Lists.{top}
use Rattle.fields.specs.Positions.{take_at}
use Rattle.refusals.specs.Numbers.{number}
use Rattle.walk.specs.Heads.{gap}
use Rattle.walk.proofs.read_gap.Goals as goal
use Rattle.walk.proofs.read_gap.Goals.{In_ok-less}

-- the field that was taken
less_read : (c : In_ok-less) → let args = c.args in take_at args.s.now args.w args.at ≡ accepted (c.in_ok-less.less, c.in_ok-less.next)
less_read c = sym c.in_ok-less.ensures

pub returns-in_err-less : goal.returns-in_err-less
unfolding gap
returns-in_err-less c =
    let args = c.args in
    let short : take_at args.s.now args.w args.at ≡ refused (number c.in_err-less.field-0.0) = sym c.in_err-less.ensures in
    up _ _ c.from_residual.ensures.1 ∙ rw short

pub returns-then-last-less : goal.returns-then-last-less
unfolding gap
returns-then-last-less c =
    let args = c.args in
    let over : top ≤ args.last + c.in_ok-less.less + 1 = omega arith in
    rw (less_read (goal.at.returns-then-last-less c).In_ok-less, le-ltb _ _ over)

pub returns : goal.returns
unfolding gap
returns c =
    let args = c.args in
    let under : args.last + c.in_ok-less.less + 1 < top = omega arith in
    rw (less_read (goal.at.returns c).In_ok-less, lt-ltb _ _ under)
