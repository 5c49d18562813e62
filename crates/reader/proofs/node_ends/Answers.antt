-- `node_ends` meets its contract: before each turn the table says of every tree at or above the node where it ends. Assumes
-- nothing.
use mathlib.Core.Path.{refl}
use mathlib.Core.List.{List}
use Prim.Native.Nat.{ℕ, ◌-◌}
use native.Mathlib.Omega.{arith}
use lib.ListN.{length-set, replicate}
use Rattle.reader.proofs.Siblings.{behind_more, behind_none}
use Rattle.reader.proofs.node_ends.Goals as goal

pub loop-node-init : goal.loop-node-init
loop-node-init c = (omega arith, (refl, behind_none c.args.nodes.now (replicate 48 0)))

pub loop-node-preserved : goal.loop-node-preserved
loop-node-preserved c =
    let nodes : List ℕ = c.args.nodes.now in
    let l = c.loop-node in (
      omega arith,
      (simp length-set l.invariant.1.0, behind_more nodes l.behind (l.node - 1) _ c.end_of-end.result (omega arith) c.members_at.ensures c.end_of-end.ensures (λ lists t i h s. l.invariant.1.1 lists t i (omega arith) s)),
    )

pub returns : goal.returns
returns c lists t i s = c.loop-node.invariant.1.1 lists t i (omega arith) s
