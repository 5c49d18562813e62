-- `shows` meets its contract. The loop's invariant: what is left of the row is the members that are left exactly if the whole row is all
-- members. Assumes nothing.
use mathlib.Core.Path.{◌≡◌}
use Prim.Native.Nat.{◌≤◌}
use lib.ListN.{length, drop}
use Rattle.model.specs.Lists.{top, lists_from}
use Rattle.model.specs.Expression.{Tree}
use Rattle.model.specs.Sets.{members}
use Rattle.model.specs.Update.{same}
use Rattle.model.proofs.Denoted.{members_from}
use Rattle.model.proofs.Join.{Between}
use Rattle.reader.specs.Rows.{Stands}
use Rattle.engine.specs.States.{state_of}
use Rattle.kept.proofs.shows.Given as goal

abbrev pub invariant-loop-held : goal.invariant-loop-held
invariant-loop-held l =
    let g = l.generator in
    (l.floor ≤ top) × (l.held-index ≤ length l.kept)
    × ((t : Tree) → Stands (length g.ends.now) g.nodes.now t 0 → let ls = lists_from g.numbers.now 0 g.ends.now in Between ls t (state_of l.floor l.readers) × (same (drop l.held-index l.kept) (members_from ls t l.floor) ≡ same l.kept (members ls t)))
