-- `rise_of` meets its contract. Before each turn the list's rise is that of what is left, from the last number and the
-- largest gap minus 1 so far; the turn takes one number off. Assumes nothing.
use mathlib.Core.Path.{sym, ◌∙◌}
use mathlib.Core.List.{List}
use Prim.Native.Nat.{ℕ, ◌-◌}
use native.Mathlib.Omega.{arith}
use lib.ListN.{length, take, drop}
use Rattle.lists.proofs.Rises.{rise-none, rise-first, rise_falls, rise-more, rise-end}
use Rattle.lists.proofs.rise_of.Goals as goal

-- what stands behind the first number
abbrev rest : List ℕ → List ℕ
rest list = take (length list - 1) (drop 1 list)

pub returns-in_default : goal.returns-in_default
returns-in_default c = sym (rise-none c.args.list.now c.in_default.len_below)

pub loop-x-init : goal.loop-x-init
loop-x-init c = rise-first c.args.list.now c.in-len1-up.len_at_least

pub returns-then-x-last : goal.returns-then-x-last
returns-then-x-last c =
    let l = c.loop-x in
    sym (l.invariant ∙ rise_falls l.largest l.last (rest c.args.list.now) l.x-index (omega arith) (omega arith))

pub loop-x-preserved : goal.loop-x-preserved
loop-x-preserved c =
    let l = c.loop-x in
    rw c.max-largest.ensures (l.invariant ∙ rise-more l.largest l.last (rest c.args.list.now) l.x-index (omega arith) (omega arith))

pub returns : goal.returns
returns c =
    let l = c.loop-x in
    sym (l.invariant ∙ rise-end l.largest l.last (rest c.args.list.now) l.x-index (omega arith))
