-- `take_out` meets its contract: what stands behind the place is copied onto it. Assumes nothing.
use mathlib.Core.Path.{◌∙◌}
use Prim.Native.Nat.{◌+◌}
use native.Mathlib.Omega.{arith}
use Rattle.shifts.specs.Shift.{shifted}
use Rattle.shifts.proofs.Shifts.{copied}
use Rattle.shifts.proofs.take_out.Goals as goal

pub returns : goal.returns
unfolding shifted
returns c = let args = c.args in λ x. c.copy_within.ensures.after ∙ copied args.row.now (args.at + 1) args.at args.used (omega arith) (omega arith)
