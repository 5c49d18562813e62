-- `end_of` meets its contract: before each turn the siblings that are left, from where it is, end where all of them do from the
-- start. Assumes nothing.
use mathlib.Core.Path.{◌≡◌, ap, ◌∙◌}
use mathlib.Core.List.{List}
use Prim.Native.Nat.{ℕ, ◌+◌, ◌-◌}
use native.Mathlib.Omega.{arith}
use Rattle.reader.specs.Rows.{siblings}
use Rattle.reader.proofs.Siblings.{siblings-none, sibling_inside, sibling_outside}
use Rattle.reader.proofs.end_of.Goals as goal
use Rattle.reader.proofs.end_of.Goals.{then-at-lt48, else-at-lt48}

pub loop-preserved : goal.loop-preserved
loop-preserved c =
    let behind : List ℕ = c.args.behind.now in
    let left : ℕ = c.args.members - c.loop.counter in
    let fewer : c.args.members - (c.loop.counter + 1) ≡ left - 1 = omega arith in
    rw fewer (elim c.if-at-lt48.branch [
      | then-at-lt48 w ↦ ap (siblings behind (left - 1)) w.at-is ∙ sibling_inside behind left c.loop.at (omega arith) w.if-at-lt48.true ∙ c.loop.invariant
      | else-at-lt48 w ↦ ap (siblings behind (left - 1)) w.at-is ∙ sibling_outside behind left c.loop.at (omega arith) w.if-at-lt48.false ∙ c.loop.invariant
    ])

pub returns : goal.returns
returns c = siblings-none c.args.behind.now (c.args.members - c.loop.counter) c.loop.at (omega arith) ∙ c.loop.invariant
