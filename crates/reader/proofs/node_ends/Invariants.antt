-- `node_ends` meets its contract: before each turn the table says of every tree at or above the node where it ends. Assumes
-- nothing.
use mathlib.Core.Path.{◌≡◌}
use Prim.Native.Nat.{◌≤◌}
use lib.ListN.{length}
use Rattle.reader.proofs.Siblings.{BehindFrom}
use Rattle.reader.proofs.node_ends.Given as goal

abbrev pub invariant-loop-node : goal.invariant-loop-node
invariant-loop-node l = (l.node ≤ 48) × ((length l.behind ≡ 48) × BehindFrom l.nodes l.behind l.node)
