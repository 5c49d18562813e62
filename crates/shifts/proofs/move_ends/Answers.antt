-- `move_ends` meets its contract: one store more, and none left. Assumes nothing.
use mathlib.Core.Path.{ap, ◌∙◌}
use Prim.Native.Nat.{ℕ, ◌+◌}
use native.Mathlib.Omega.{arith}
use lib.ListN.{drop, set}
use lib.Seq.{get_or-set_other}
use Rattle.fields.specs.Rows.{lay}
use Rattle.shifts.proofs.Shifts.{all_moved, move_step, move_end, move_all}
use Rattle.shifts.proofs.move_ends.Goals as goal

pub loop-k-preserved : goal.loop-k-preserved
loop-k-preserved c =
    let l = c.loop-k in
    let args = c.args in (
      λ j h. get_or-set_other l.ends l.k j _ 0 (λ e. omega arith) ∙ l.invariant.0 j (omega arith),
      ap (λ (x : ℕ). lay (set l.ends l.k x) (l.k + 1) (drop (l.k + 1) (all_moved args.ends.now args.adds))) c.by_one.ensures ∙ move_step args.ends.now args.adds l.ends l.k (omega arith) l.auto.ends (l.invariant.0 l.k (omega arith)) ∙ l.invariant.1,
    )

pub returns : goal.returns
returns c =
    let l = c.loop-k in
    let args = c.args in
    move_end args.ends.now args.adds l.ends l.k (omega arith) l.auto.ends ∙ l.invariant.1 ∙ move_all args.ends.now args.adds args.list
