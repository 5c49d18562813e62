-- `fields::take_field` meets its contract: the bits are all there if the byte behind them is. Assumes nothing.
use mathlib.Core.Path.{ap}
use Prim.Native.Nat.{ℕ, ◌+◌, ◌-◌, ◌*◌, ◌≤◌, ◌<◌}
use native.Mathlib.Omega.{arith}
use lib.ListN.{length}
use borrow.Author.Tests.{le-leb, lt-leb}
use Rattle.model.specs.Outcome.{accepted}
use Rattle.fields.specs.Positions.{take_at}
use Rattle.fields.proofs.take_field.Goals as goal

pub returns-then-s-byte_of : goal.returns-then-s-byte_of
unfolding take_at
returns-then-s-byte_of c =
    let args = c.args in
    let out : 8 * length args.s.now - args.at < args.w = omega arith in
    simp (lt-leb _ _ out)

pub returns : goal.returns
unfolding take_at
returns c =
    let args = c.args in
    let there : args.w ≤ 8 * length args.s.now - args.at = omega arith in
    simp (le-leb _ _ there) (ap (λ (x : ℕ). accepted (x, args.at + args.w)) c.field_at.ensures)
