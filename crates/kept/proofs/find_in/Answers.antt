-- `find_in` meets its contract: list k is the run of numbers that is searched. Assumes nothing.
use mathlib.Core.Path.{◌≡◌, ap, ap₂, ◌∙◌}
use mathlib.Core.Bool.{Bool, true, false}
use mathlib.Core.List.{List, [], ◌∷◌}
use Prim.Native.Nat.{ℕ, ◌+◌, ◌-◌, ◌≤◌}
use native.Mathlib.Omega.{arith}
use lib.ListN.{length, get_or, take, drop}
use Rattle.model.specs.Lists.{ascending, lists_from}
use Rattle.model.specs.Sets.{among}
use Rattle.model.specs.Steps.{passed}
use Rattle.lists.proofs.Spans.{Listed, listed}
use Rattle.shifts.proofs.Places.{passed-inside}
use Rattle.kept.proofs.find_in.Goals as goal
use Rattle.kept.proofs.find_in.Goals.{After-start_of-stop}

-- list k runs from where `start_of` says in the numbers
here : (c : After-start_of-stop) → let args = c.args in Listed args.numbers.now args.ends.now args.k c.start_of-start.result c.start_of-stop.result
here c = listed _ _ c.args.k _ _ c.requires.0 c.requires.1 c.start_of-start.ensures c.start_of-stop.ensures

pub offset_bounds-numbers-start : goal.offset_bounds-numbers-start
offset_bounds-numbers-start c = omega (arith, (here c).order, (here c).inside)

pub slice_bounds-find-count : goal.slice_bounds-find-count
slice_bounds-find-count c = (here c).order

pub slice_bounds-find-start : goal.slice_bounds-find-start
slice_bounds-find-start c = omega (arith, (here c).order, (here c).inside)

pub slice_bounds-find-end : goal.slice_bounds-find-end
slice_bounds-find-end c = omega (arith, (here c).order, (here c).inside)

pub find-requires : goal.find-requires
find-requires c = ap ascending (here (goal.at.find-requires c).After-start_of-stop).is ∙ c.requires.0.ascend c.args.k

-- what the search of the list hands back, of the list and in the whole row
module _ (c : After-start_of-stop) where
  abbrev start : ℕ
  start = c.start_of-start.result

  abbrev searched : List ℕ
  searched = take (c.start_of-stop.result - start) (drop start c.args.numbers.now)

  abbrev list : List ℕ
  list = get_or (lists_from c.args.numbers.now 0 c.args.ends.now) c.args.k []

  fits : (place : ℕ) → place ≡ passed searched c.args.number → start + place ≤ length c.args.numbers.now
  fits place e =
      let in_list : place ≤ length list = rw (e, (here c).is) (passed-inside _ c.args.number) in
      omega (arith, (here c).many, (here c).order, (here c).inside)

  in_row : (place : ℕ) (there : Bool) → (place ≡ passed searched c.args.number) × (there ≡ among c.args.number searched)
      → (start + place ≡ get_or (0 ∷ c.args.ends.now) c.args.k 0 + passed list c.args.number) × (there ≡ among c.args.number list)
  in_row place there f =
      (ap₂ (λ (a b : ℕ). a + b) c.start_of-start.ensures (f.0 ∙ ap (λ (l : List ℕ). passed l c.args.number) (here c).is), f.1 ∙ ap (among c.args.number) (here c).is)

pub overflow_add-result : goal.overflow_add-result
overflow_add-result c = omega (arith, fits (goal.at.overflow_add-result c).After-start_of-stop c.in-Ok.place c.in-Ok.ensures.0)

pub overflow_add-result-in-Err : goal.overflow_add-result-in-Err
overflow_add-result-in-Err c = omega (arith, fits (goal.at.overflow_add-result-in-Err c).After-start_of-stop c.in-Err.place c.in-Err.ensures.0)

pub returns-in-Ok : goal.returns-in-Ok
returns-in-Ok c = in_row (goal.at.returns-in-Ok c).After-start_of-stop c.in-Ok.place true c.in-Ok.ensures

pub returns-in-Err : goal.returns-in-Err
returns-in-Err c = in_row (goal.at.returns-in-Err c).After-start_of-stop c.in-Err.place false c.in-Err.ensures
