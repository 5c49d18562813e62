-- `ascends` meets its contract. Before each turn the list ascends just where all that has passed does and what is left does, from the
-- number before it on. Assumes nothing.
use mathlib.Core.Path.{◌≡◌, sym, ◌∙◌}
use mathlib.Core.List.{List}
use Prim.Native.Nat.{ℕ, ◌+◌, ◌-◌}
use native.Mathlib.Omega.{arith}
use Rattle.lists.proofs.Rises.{all_first, all_falls, all_more, all_end}
use Rattle.lists.proofs.ascends.Goals as goal
use Rattle.lists.proofs.ascends.Goals.{then-list-i, else-list-i}

pub loop-i-init : goal.loop-i-init
loop-i-init c = all_first _

pub loop-i-preserved : goal.loop-i-preserved
loop-i-preserved c =
    let list : List ℕ = c.args.list.now in
    let l = c.loop-i in
    let inside = c.loop-i-test.true in
    let back : l.i + 1 - 1 ≡ l.i = omega arith in
    rw back (
    elim c.if-list-i.branch [
      | then-list-i w ↦ rw w.all-is (sym (all_falls list l.i l.all inside w.if-list-i.true) ∙ l.invariant)
      | else-list-i w ↦ rw w.all-is (sym (all_more list l.i l.all inside w.if-list-i.false) ∙ l.invariant)
    ])

pub returns : goal.returns
returns c = let l = c.loop-i in sym (all_end c.args.list.now l.i l.all c.loop-i-test.false) ∙ l.invariant
