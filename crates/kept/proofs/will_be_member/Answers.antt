-- `will_be_member` meets its contract: lists cut down to the number can be read, and the check over them says whether it is a member.
-- Assumes nothing.
use mathlib.Core.Path.{◌≡◌, sym, ◌∙◌}
use mathlib.Core.List.{List}
use Prim.Native.Nat.{ℕ}
use native.Mathlib.Omega.{arith}
use lib.ListN.{length, take}
use Rattle.model.specs.Lists.{lists_from}
use Rattle.model.specs.Update.{new_lists}
use Rattle.model.proofs.Laid.{lists_length}
use Rattle.changes.proofs.Changes.{new_many}
use Rattle.lists.proofs.Spans.{counts}
use Rattle.reader.proofs.Standing.{inside}
use Rattle.kept.specs.Kept.{as_change}
use Rattle.kept.proofs.Cuts.{alone-fits, ends_many, cuts_readable, cuts-told}
use Rattle.kept.proofs.will_be_member.Goals as goal
use Rattle.kept.proofs.will_be_member.Goals.{After-cut_ends-stops}

-- the lists after the change, as many as there are
abbrev after : After-cut_ends-stops → List (List ℕ)
after c = new_lists (as_change c.args.list c.args.number c.args.adds) (lists_from c.args.generator.now.numbers.now 0 c.args.generator.now.ends.now)

many : (c : After-cut_ends-stops) → length (after c) ≡ length c.args.generator.now.ends.now
many c = new_many (as_change c.args.list c.args.number c.args.adds) (lists_from c.args.generator.now.numbers.now 0 c.args.generator.now.ends.now) ∙ lists_length c.args.generator.now.numbers.now 0 c.args.generator.now.ends.now

-- as many ends
long : (c : After-cut_ends-stops) → length (take (length c.args.generator.now.ends.now) c.cut_ends-stops.result) ≡ length c.args.generator.now.ends.now
long c = ends_many c.args.number (after c) _ (many c) c.requires.ends_value (omega (arith, c.ranges.number.fits)) c.cut_ends-stops.result c.cut_ends-stops.ensures

pub cut_ends-stops-requires : goal.cut_ends-stops-requires
cut_ends-stops-requires c = (c.args.generator.now.ready.lists, (counts _ c.requires.ends_value).1)

pub slice_bounds-stops-end : goal.slice_bounds-stops-end
slice_bounds-stops-end c = omega (arith, (counts _ c.requires.ends_value).1)

pub slice_bounds-cut-end-2 : goal.slice_bounds-cut-end-2
slice_bounds-cut-end-2 c = sym (long (goal.at.slice_bounds-cut-end-2 c).After-cut_ends-stops)

pub invariant_of-cut : goal.invariant_of-cut
invariant_of-cut c =
    let a = (goal.at.invariant_of-cut c).After-cut_ends-stops in
    record {
      ready = record { lists = cuts_readable c.args.number (after a) _ (many a) c.requires.ends_value (omega (arith, c.ranges.number.fits)) c.cut_ends-stops.result c.cut_ends-stops.ensures; table = c.args.generator.now.ready.table };
      fit = λ i. alone-fits c.args.number 32 i (omega (arith, c.ranges.number.fits));
    }

pub check-told-requires : goal.check-told-requires
check-told-requires c =
    let a = (goal.at.check-told-requires c).After-cut_ends-stops in
    record { tree = c.requires.standing.tree; stands = rw (long a) c.requires.standing.stands }

pub returns : goal.returns
returns c =
    let a = (goal.at.returns c).After-cut_ends-stops in
    λ t h. cuts-told c.args.number (after a) _ (many a) c.requires.ends_value (omega (arith, c.ranges.number.fits)) c.cut_ends-stops.result c.cut_ends-stops.ensures t (omega (arith, inside _ _ t 0 h)) _ _
    (rw c.first.ensures at (c.check-told.ensures t (rw (long a) h)))
