-- `cut_ends` meets its contract. The loop's invariant: laying the ends that are left from here on is laying all of them. Assumes
-- nothing.
use mathlib.Core.Path.{◌≡◌}
use Prim.Native.Nat.{◌≤◌}
use lib.ListN.{length, drop, replicate}
use Rattle.model.specs.Lists.{lists_from}
use Rattle.model.specs.Calls.{ends_from}
use Rattle.model.specs.Update.{new_lists}
use Rattle.fields.specs.Rows.{lay}
use Rattle.kept.specs.Kept.{as_change}
use Rattle.kept.proofs.Cuts.{cuts}
use Rattle.kept.proofs.cut_ends.Given as goal

abbrev pub invariant-loop-k : goal.invariant-loop-k
invariant-loop-k l =
    let all = cuts l.number (new_lists (as_change l.list l.number l.adds) (lists_from l.numbers 0 l.ends)) in
    (l.k ≤ length l.ends) × (l.stop ≤ l.k) × (length l.stops ≡ 32) × (lay l.stops l.k (ends_from l.stop (drop l.k all)) ≡ lay (replicate 32 0) 0 (ends_from 0 all))
