-- `most_members` meets its contract: behind `at` stand the bounds of the trees from node i on. Assumes nothing.
use mathlib.Core.Path.{◌≡◌}
use Prim.Native.Nat.{◌-◌, ◌≤◌}
use lib.ListN.{length, drop}
use Rattle.model.specs.Bounds.{lengths_from}
use Rattle.bounds.specs.Backwards.{trees}
use Rattle.bounds.proofs.most_members.Given as goal

abbrev pub invariant-loop-b : goal.invariant-loop-b
invariant-loop-b l = (l.at ≤ 48) × ((length l.bounds ≡ 48) × (drop l.at l.bounds ≡ trees (lengths_from 0 l.ends) (drop (length l.nodes - length l.yielded) l.nodes)))
