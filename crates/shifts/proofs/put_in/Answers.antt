-- `put_in` meets its contract: a store just before what was copied. Assumes nothing.
use mathlib.Core.Path.{ap, ◌∙◌}
use mathlib.Core.List.{List}
use Prim.Native.Nat.{ℕ, ◌+◌}
use native.Mathlib.Omega.{arith}
use lib.ListN.{take, drop, set}
use Rattle.fields.proofs.Rows.{lay-before}
use Rattle.shifts.specs.Shift.{shifted}
use Rattle.shifts.proofs.Shifts.{copied}
use Rattle.shifts.proofs.put_in.Goals as goal

pub returns : goal.returns
unfolding shifted
returns c =
    let args = c.args in
    let row : List ℕ = args.row.now in
    ap (λ (r : List ℕ). set r args.at args.x) (c.copy_within.ensures.after ∙ copied row args.at (args.at + 1) args.used (omega arith) (omega arith))
    ∙ lay-before row args.at args.x (drop args.at (take args.used row)) (omega arith)
