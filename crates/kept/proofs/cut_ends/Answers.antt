-- `cut_ends` meets its contract. The loop's invariant: laying the ends that are left from here on is laying all of them. Assumes
-- nothing.
use mathlib.Core.Path.{◌≡◌, refl, ap, ◌∙◌}
use mathlib.Core.Bool.{Bool, true, false}
use mathlib.Core.List.{List, []}
use Prim.Native.Nat.{ℕ, ◌+◌, ◌≤◌}
use native.Mathlib.Omega.{arith}
use lib.ListN.{length, get_or, drop, set, length-set}
use Rattle.model.specs.Lists.{lists_from}
use Rattle.model.specs.Sets.{among}
use Rattle.model.specs.Calls.{ends_from}
use Rattle.model.specs.Update.{new_lists}
use Rattle.model.proofs.Laid.{lists_length}
use Rattle.changes.proofs.Changes.{new_many}
use Rattle.fields.specs.Rows.{lay}
use Rattle.kept.specs.Kept.{as_change, truth_number}
use Rattle.kept.proofs.Cuts.{cuts, cut_step, cut-end}
use Rattle.kept.proofs.cut_ends.Goals as goal
use Rattle.kept.proofs.cut_ends.Goals.{After-from-stop, Start}

one_or_none : (c : After-from-stop) → c.from-stop.result ≤ 1
one_or_none c = rw c.from-stop.ensures (go c.will_hold.result)
  where
    go : (b : Bool) → truth_number b ≤ 1
    go true = omega arith
    go false = omega arith

-- as many lists as ends
many : (c : Start) → let args = c.args in length (new_lists (as_change args.list args.number args.adds) (lists_from args.numbers.now 0 args.ends.now)) ≡ length args.ends.now
many c = let args = c.args in new_many (as_change args.list args.number args.adds) (lists_from args.numbers.now 0 args.ends.now) ∙ lists_length args.numbers.now 0 args.ends.now

pub loop-k-init : goal.loop-k-init
loop-k-init c = (omega arith, omega arith, refl, refl)

pub will_hold-requires : goal.will_hold-requires
will_hold-requires c = (c.requires.0, c.loop-k-test.true)

pub overflow_add-stop : goal.overflow_add-stop
overflow_add-stop c = omega (arith, c.loop-k.invariant.0, c.loop-k.invariant.1, one_or_none c)

pub loop-k-preserved : goal.loop-k-preserved
loop-k-preserved c =
    let l = c.loop-k in
    let args = c.args in
    let ms : List (List ℕ) = new_lists (as_change args.list args.number args.adds) (lists_from args.numbers.now 0 args.ends.now) in
    let here : c.from-stop.result ≡ truth_number (among args.number (get_or ms l.k [])) = c.from-stop.ensures ∙ ap truth_number c.will_hold.ensures in (
      omega arith,
      omega (arith, l.invariant.1, one_or_none c),
      length-set l.stops l.k (l.stop + c.from-stop.result) ∙ l.invariant.2,
      ap (λ (n : ℕ). lay (set l.stops l.k (l.stop + n)) (l.k + 1) (ends_from (l.stop + n) (drop (l.k + 1) (cuts args.number ms)))) here
          ∙ cut_step args.number ms l.stops l.stop l.k (omega (arith, many (goal.at.loop-k-preserved c).Start)) (omega (arith, l.invariant.2, c.requires.1)) ∙ l.invariant.3,
    )

pub returns : goal.returns
returns c = let l = c.loop-k in cut-end c.args.number (new_lists (as_change c.args.list c.args.number c.args.adds) (lists_from c.args.numbers.now 0 c.args.ends.now)) l.stops l.stop l.k (omega (arith, many (goal.at.returns c).Start)) ∙ l.invariant.3
