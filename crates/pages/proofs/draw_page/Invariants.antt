-- `draw_page` meets its contract. The loop's invariant, said backwards: what is handed back from here on is what is handed back
-- from the start. Assumes nothing.
use mathlib.Core.Path.{◌≡◌}
use Prim.Native.Nat.{◌-◌, ◌≤◌}
use lib.ListN.{length}
use Rattle.model.specs.Lists.{top, lists_from}
use Rattle.model.specs.Expression.{Tree}
use Rattle.reader.specs.Rows.{Stands}
use Rattle.engine.specs.States.{state_of}
use Rattle.pages.proofs.Pages.{hands}
use Rattle.pages.proofs.draw_page.Given as goal

abbrev pub invariant-loop-i : goal.invariant-loop-i
invariant-loop-i l =
    let g = l.generator in
    (l.floor ≤ top) × (length l.row ≡ length l.initial.row)
    × ((t : Tree) → Stands (length g.ends.now) g.nodes.now t 0 → hands (lists_from g.numbers.now 0 g.ends.now) t (state_of l.floor l.readers) l.row l.i ≡ hands (lists_from g.numbers.now 0 g.ends.now) t (state_of l.bookmark l.initial.readers) l.initial.row 0)
