-- `will_hold` meets its contract: the list that is changed, or another. Assumes nothing.
use mathlib.Core.Path.{◌≡◌, sym, ap, ◌∙◌}
use mathlib.Core.List.{List, []}
use Prim.Native.Nat.{ℕ}
use native.Mathlib.Omega.{arith}
use lib.ListN.{get_or}
use Rattle.model.specs.Lists.{lists_from}
use Rattle.model.specs.Sets.{among}
use Rattle.model.specs.Update.{new_lists}
use Rattle.model.proofs.Laid.{lists_length}
use Rattle.changes.proofs.Changes.{new_other}
use Rattle.lists.proofs.Spans.{readable_up}
use Rattle.kept.specs.Kept.{as_change}
use Rattle.kept.proofs.Cuts.{holds-changed}
use Rattle.kept.proofs.will_hold.Goals as goal

pub returns-then-k-list : goal.returns-then-k-list
returns-then-k-list c =
    let args = c.args in
    let ls : List (List ℕ) = lists_from args.numbers.now 0 args.ends.now in
    let here : args.k ≡ args.list = c.if-k-list.true in
    holds-changed (as_change args.list args.number args.adds) ls (readable_up args.numbers.now args.ends.now (λ i. (c.shared_slice_known-1.given i).fits) c.requires.0 args.list) (omega (arith, here, c.requires.1, lists_length args.numbers.now 0 args.ends.now))
    ∙ ap (λ (k : ℕ). among args.number (get_or (new_lists (as_change args.list args.number args.adds) ls) k [])) (sym here)

pub returns : goal.returns
returns c =
    let args = c.args in
    let ls : List (List ℕ) = lists_from args.numbers.now 0 args.ends.now in
    c.is_ok.ensures.value ∙ c.find_in.ensures.1 ∙ ap (among args.number) (sym (new_other (as_change args.list args.number args.adds) ls args.k c.if-k-list.false))
