-- `answer` meets its contract. The loop's invariant, said backwards: what is sent back from here on is what is sent back from the
-- start. Assumes nothing.
use mathlib.Core.Path.{◌≡◌}
use Prim.Native.Nat.{◌≤◌}
use lib.ListN.{length, drop}
use Rattle.model.specs.Lists.{top, lists_from}
use Rattle.model.specs.Expression.{Tree}
use Rattle.model.specs.Machine.{calls}
use Rattle.model.specs.Run.{starting, run}
use Rattle.model.specs.Demands.{ran_all}
use Rattle.reader.specs.Rows.{Stands}
use Rattle.engine.specs.States.{state_of}
use Rattle.engine.proofs.Sends.{sends}
use Rattle.engine.proofs.answer.Given as goal

abbrev pub invariant-loop-i : goal.invariant-loop-i
invariant-loop-i l =
    let g = l.generator in
    (l.floor ≤ top) × (length l.replies ≡ length l.initial.replies)
    × ((t : Tree) → Stands (length g.ends.now) g.nodes.now t 0
    → sends (lists_from g.numbers.now 0 g.ends.now) t (state_of l.floor l.readers) (calls (drop l.i l.codes) (drop l.i l.arguments)) l.replies l.i ≡ ran_all (run (lists_from g.numbers.now 0 g.ends.now) t (starting l.bookmark) (calls l.codes l.arguments)) l.initial.replies)
