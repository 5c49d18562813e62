-- `join::Deliveries::survey_list` meets its contract: a union that has no number, or its first number and those behind it. Assumes nothing.
use mathlib.Core.Path.{◌≡◌, refl, sym, ap, ◌∙◌}
use mathlib.Core.List.{[], ◌∷◌}
use native.Mathlib.Omega.{arith}
use lib.ListN.{length}
use Rattle.model.specs.Delivery.{width_from, width, supplied_numbers}
use Rattle.lists.specs.Rise.{largest}
use Rattle.encode.specs.Measures.{gap_width}
use Rattle.encode.proofs.Sizes.{gap_width_wide}
use Rattle.join.specs.Streams.{union_left, joined_at}
use Rattle.join.specs.declared.Places.{Places}
use Rattle.join.proofs.Streams.{pair-ascending, pair_numbers, pair-few, none_left}
use Rattle.join.proofs.Lists.{first-rises, first_width}
use Rattle.join.proofs.Deliveries.survey_list.Goals as goal
use Rattle.join.proofs.Deliveries.survey_list.Goals.{After-draw-drawn}

-- a list of no numbers has gaps of width 1
width-none : gap_width [] ≡ 1
unfolding gap_width largest width width_from
width-none = refl

-- the number that is drawn first, and those behind it
drawn : (c : After-draw-drawn) → let o = c.open_both-both in let args = c.args in
    supplied_numbers (joined_at args.self.now.full.now args.self.now.daily.now args.at.full args.at.daily) ≡ c.draw-drawn.result.number ∷ union_left args.self.now.full.now args.self.now.daily.now c.draw-drawn.result.pair
drawn c = sym c.open_both-both.ensures.numbers ∙ c.draw-drawn.ensures.numbers

pub returns-then-not-any_left : goal.returns-then-not-any_left
returns-then-not-any_left c =
    let o = c.open_both-both in
    let args = c.args in
    let none = none_left args.self.now.full.now args.self.now.daily.now o.result.pair (sym c.any_left.ensures ∙ c.if-not-any_left.true) in
    let empty : [] ≡ supplied_numbers (joined_at args.self.now.full.now args.self.now.daily.now args.at.full args.at.daily) = sym none.0 ∙ o.ensures.numbers in
    record {
      came = o.ensures.came;
      count = ap length empty;
      width = sym width-none ∙ ap gap_width empty;
      narrow = omega arith;
      full_end = ap (λ (p : Places). p.full) c.places.ensures ∙ sym none.1 ∙ o.ensures.full_end;
      daily_end = ap (λ (p : Places). p.daily) c.places.ensures ∙ sym none.2 ∙ o.ensures.daily_end;
    }

pub survey_gaps-rest-requires : goal.survey_gaps-rest-requires
survey_gaps-rest-requires c =
    let o = c.open_both-both in
    (c.draw-drawn.ensures.draws, first-rises c.draw-drawn.ensures.numbers (pair-ascending _ _ o.result.pair o.ensures.draws))

pub overflow_add-result : goal.overflow_add-result
overflow_add-result c = let d = c.draw-drawn in omega (arith, c.survey_gaps-rest.ensures.count, pair-few _ _ d.result.pair d.ensures.draws)

pub returns : goal.returns
returns c =
    let g = c.survey_gaps-rest in
    let o = c.open_both-both in
    let args = c.args in
    let all = drawn (goal.at.returns c).After-draw-drawn in
    let width : c.width_of.result ≡ gap_width (union_left args.self.now.full.now args.self.now.daily.now o.result.pair) = c.width_of.ensures ∙ ap width g.ensures.largest ∙ sym (first_width c.draw-drawn.ensures.numbers) in
    let wide = gap_width_wide (union_left args.self.now.full.now args.self.now.daily.now o.result.pair) (pair_numbers _ _ o.result.pair o.ensures.draws) in
    record {
      came = o.ensures.came;
      count = omega (arith, g.ensures.count, ap length all);
      width = width ∙ ap gap_width o.ensures.numbers;
      narrow = omega (arith, width, wide.most);
      full_end = g.ensures.full_end ∙ c.draw-drawn.ensures.full_end ∙ o.ensures.full_end;
      daily_end = g.ensures.daily_end ∙ c.draw-drawn.ensures.daily_end ∙ o.ensures.daily_end;
    }
