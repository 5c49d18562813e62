-- `most_moves` meets its contract: what is summed up and the leaves that are left come to all leaves. Assumes nothing.
use mathlib.Core.Path.{◌≡◌}
use Prim.Native.Nat.{◌+◌}
use lib.ListN.{drop}
use Rattle.model.specs.Bounds.{lengths_from}
use Rattle.bounds.specs.Backwards.{leaf_lengths}
use Rattle.bounds.proofs.most_moves.Given as goal

abbrev pub invariant-loop-b : goal.invariant-loop-b
invariant-loop-b l = l.moves + leaf_lengths (lengths_from 0 l.ends) (drop l.b-index l.nodes) ≡ leaf_lengths (lengths_from 0 l.ends) l.nodes
