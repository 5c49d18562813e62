-- `convert::walk_lists` meets its contract. The loop's invariant: what is found of all lists is what was found so far and what is
-- found of those that are left. Assumes nothing.
use mathlib.Core.Path.{◌≡◌}
use mathlib.Core.Option.{none}
use Prim.Native.Nat.{◌+◌, ◌-◌, ◌*◌, ◌≤◌}
use lib.ListN.{length, replicate}
use Rattle.model.specs.Delivery.{read_lists}
use Rattle.fields.specs.Positions.{take_at}
use Rattle.convert.specs.Forms.{form_of}
use Rattle.convert.specs.Walks.{found}
use Rattle.convert.proofs.walk_lists.Given as goal

abbrev pub invariant-loop-k : goal.invariant-loop-k
invariant-loop-k l =
    (length l.stops ≡ 33) × (l.missing ≤ l.k) × (l.next ≤ 6 + 4194304 * l.k) × (l.next ≤ 8 * length l.s)
    × (found l.bit 0 (replicate 33 0) 0 6 (read_lists (take_at l.s) (form_of l.bit) l.n none 6) ≡ found l.bit l.missing l.stops l.k l.next (read_lists (take_at l.s) (form_of l.bit) (l.n - l.k) none l.next))
