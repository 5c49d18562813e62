-- `read_list` meets its contract: list k is the run of numbers that the reader gets, and the reader stops where the step does.
-- Assumes nothing.
use mathlib.Core.Path.{ap, ◌∙◌}
use mathlib.Core.List.{List, []}
use Prim.Native.Nat.{ℕ, ◌≤◌, ◌<◌}
use native.Mathlib.Omega.{arith}
use lib.ListN.{length, get_or}
use Rattle.model.specs.Lists.{top, lists_from}
use Rattle.lists.proofs.Spans.{Listed, listed, readable_up}
use Rattle.reader.proofs.Moves.{Stopped, stopped}
use Rattle.reader.proofs.read_list.Goals as goal
use Rattle.reader.proofs.read_list.Goals.{After-advance-went, After-start_of-stop}

-- list k runs from where `start_of` says in the numbers
here : (c : After-start_of-stop) → let args = c.args in Listed args.numbers.now args.ends.now args.k c.start_of-from.result c.start_of-stop.result
here c = listed _ _ c.args.k _ _ c.requires.readable c.requires.k_in_bounds.0 c.start_of-from.ensures c.start_of-stop.ensures

there : (c : After-advance-went) → let args = c.args in Listed args.numbers.now args.ends.now args.k c.start_of-from.result c.start_of-stop.result
there c = listed _ _ c.args.k _ _ c.requires.readable c.requires.k_in_bounds.0 c.start_of-from.ensures c.start_of-stop.ensures

-- the reader stops where the step does
stops : (c : After-advance-went) → let args = c.args in Stopped (get_or (lists_from args.numbers.now 0 args.ends.now) args.k []) args.place args.to c.advance-went.result.at c.advance-went.result.moves
stops c =
    let args = c.args in
    let a = rw (c.from-before.ensures, (there c).is) at c.advance-went.ensures in
    stopped _ args.place args.to _ _ (readable_up args.numbers.now args.ends.now (λ i. (c.shared_slice_known-1.given i).fits) c.requires.readable args.k) a

few : (c : After-advance-went) → c.advance-went.result.at ≤ 65535
few c =
    let l = there c in
    (stops c).small (omega (arith, c.from-before.ensures)) (omega (arith, l.many, l.few))

pub advance-went-requires : goal.advance-went-requires
advance-went-requires c =
    let l = here (goal.at.advance-went-requires c).After-start_of-stop in
    (rw l.is (c.requires.readable.ascend c.args.k), omega (arith, ap length l.is, l.many, l.few), omega arith)

pub overflow_cast-moves : goal.overflow_cast-moves
overflow_cast-moves c = let w = (goal.at.overflow_cast-moves c).After-advance-went in omega (arith, few w, (stops w).within)

pub overflow_cast-place : goal.overflow_cast-place
overflow_cast-place c = omega (arith, few (goal.at.overflow_cast-place c).After-advance-went)

pub returns-then-at-list : goal.returns-then-at-list
returns-then-at-list c =
    let w = (goal.at.returns-then-at-list c).After-advance-went in
    let l = there w in
    let s = stops w in
    let number = c.from.ensures ∙ ap (λ (xs : List ℕ). get_or xs c.advance-went.result.at 0) l.is in
    let low : c.from.result < top = omega (arith, c.from.ensures, (c.shared_slice_known-then-at-list-1.given c.advance-went.result.at).fits) in
    record {
      above = rw number (s.above (omega (arith, l.many, c.if-at-list.true)));
      low = omega arith;
      small = few w;
      within = s.within;
      still = s.still;
      is = s.number c.from.result (omega (arith, l.many, c.if-at-list.true)) number low;
    }

pub returns-else-at-list : goal.returns-else-at-list
returns-else-at-list c =
    let w = (goal.at.returns-else-at-list c).After-advance-went in
    let l = there w in
    let s = stops w in
    record {
      above = omega (arith, c.requires.k_in_bounds.1);
      low = omega (arith, c.requires.k_in_bounds.1);
      small = few w;
      within = s.within;
      still = s.still;
      is = s.finished (omega (arith, l.many, c.if-at-list.false));
    }
