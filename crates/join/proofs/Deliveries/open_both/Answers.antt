-- `join::Deliveries::open_both` meets its contract: a list that came in one only is taken from that one (`join-came`, `join-numbers`). Assumes nothing.
use mathlib.Core.Path.{◌≡◌, sym, ap, ap₂, ◌∙◌}
use mathlib.Core.Bool.{Bool, true, false, ◌||◌}
use Rattle.model.specs.Lists.{ascending}
use Rattle.model.specs.Delivery.{Supplied}
use Rattle.model.specs.Joined.{list_union}
use Rattle.join.specs.Streams.{list_at}
use Rattle.join.proofs.Streams.{left-ascending}
use Rattle.model.proofs.Unions.{join-came}
use Rattle.join.proofs.Lists.{join-numbers}
use Rattle.join.proofs.Deliveries.open_both.Goals as goal
use Rattle.join.proofs.Deliveries.open_both.Goals.{then-f, else-f}

-- the first of two, or the second
first : (a b : Bool) → a ≡ true → a ≡ a || b
first a b h = rw h

second : (a b : Bool) → a ≡ false → b ≡ a || b
second a b h = rw h

pub returns : goal.returns
returns c =
    let f = c.open-f in
    let d = c.open-d in
    let args = c.args in
    let a : Supplied = list_at args.self.now.full.now args.at.full in
    let b : Supplied = list_at args.self.now.daily.now args.at.daily in
    record {
      came =
          (elim c.if-f.branch [ then-f w ↦ w.result-is ∙ first f.result.came d.result.came w.if-f.true | else-f w ↦ w.result-is ∙ second f.result.came d.result.came w.if-f.false ])
          ∙ ap₂ ◌||◌ f.ensures.came d.ensures.came ∙ sym (join-came a b);
      draws = record { of_full = f.ensures.draws; of_daily = d.ensures.draws };
      numbers = ap₂ list_union f.ensures.numbers d.ensures.numbers ∙ sym (join-numbers a b (sym (ap ascending f.ensures.numbers) ∙ left-ascending args.self.now.full.now f.result.stream f.ensures.draws));
      full_end = f.ensures.end;
      daily_end = d.ensures.end;
    }
