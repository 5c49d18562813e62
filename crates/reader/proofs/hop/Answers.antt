-- `hop` meets its contract: at each turn, so many hops were made, each where the reader hops. The measure is what is left of the list.
-- Assumes nothing.
use Prim.Native.Nat.{◌+◌}
use native.Mathlib.Omega.{arith}
use Rattle.reader.proofs.Moves.{few-left, near-number, far-enough, one_more_hop, hops_counted}
use Rattle.reader.proofs.hop.Goals as goal

pub overflow_add-at : goal.overflow_add-at
overflow_add-at c = omega (arith, c.loop-at.invariant.2)

pub returns-then-to-from : goal.returns-then-to-from
returns-then-to-from c =
    let args = c.args in
    let l = c.loop-at in
    hops_counted args.list.now args.place args.to l.at l.invariant.0 _ _ c.hops_between.ensures.0 c.hops_between.ensures.1 l.invariant.1 l.invariant.3
    (near-number args.list.now l.at args.to _ _ c.from.ensures (omega arith) (omega arith))

pub loop-at-preserved : goal.loop-at-preserved
loop-at-preserved c =
    let args = c.args in
    let l = c.loop-at in
    let here = far-enough args.list.now l.at args.to _ _ c.from.ensures (omega arith) (omega arith) (omega arith) in
    (l.invariant.0 + 1, omega (arith, l.invariant.1), omega (arith, c.requires.0), one_more_hop args.list.now l.at args.to args.place l.invariant.0 l.invariant.1 here l.invariant.3)

pub returns : goal.returns
returns c =
    let args = c.args in
    let l = c.loop-at in
    hops_counted args.list.now args.place args.to l.at l.invariant.0 _ _ c.hops_between-2.ensures.0 c.hops_between-2.ensures.1 l.invariant.1 l.invariant.3
    (few-left args.list.now l.at args.to (omega arith))
