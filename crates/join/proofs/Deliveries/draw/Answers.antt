-- `join::Deliveries::draw` meets its contract, by which of both numbers is the smaller. Assumes nothing.
use borrow.Author.Tests.{ltb-true}
use mathlib.Core.Path.{◌≡◌, subst}
use mathlib.Core.Bool.{Bool, true, false, ◌||◌}
use Prim.Native.Nat.{ℕ, ◌<◌, min}
use native.Mathlib.Omega.{arith}
use lib.Dec.{ltb}
use Rattle.model.specs.Lists.{top}
use Rattle.model.proofs.Order.{split}
use Rattle.join.specs.declared.Pair.{Pair}
use Rattle.join.specs.Streams.{some_left, NextDrawn}
use Rattle.join.proofs.Streams.{draw_full, draw_daily, draw_both}
use Rattle.join.proofs.Deliveries.draw.Goals as goal
use Rattle.join.proofs.Deliveries.draw.Goals.{After-min-x}

-- one of both has a number left
least-small : (pair : Pair) → some_left pair ≡ true → min pair.full.number pair.daily.number < top
unfolding some_left
least-small pair e = go (ltb pair.full.number top) (ltb pair.daily.number top) e (ltb-true pair.full.number top) (ltb-true pair.daily.number top)
  where
    go : (a b : Bool) → a || b ≡ true → (a ≡ true → pair.full.number < top) → (b ≡ true → pair.daily.number < top) → min pair.full.number pair.daily.number < top
    go true b e f g = omega (arith, f e)
    go false b e f g = omega (arith, g e)

small : (c : After-min-x) → c.min-x.result < top
small c = omega (arith, c.min-x.ensures, least-small c.args.pair c.requires.1)

pub overflow_cast-result : goal.overflow_cast-result
overflow_cast-result c = omega (arith, small (goal.at.overflow_cast-result c).After-min-x)

pub pass-requires : goal.pass-requires
pass-requires c = (c.requires.0.of_full, small (goal.at.pass-requires c).After-min-x)

pub pass-requires-2 : goal.pass-requires-2
pass-requires-2 c = (c.requires.0.of_daily, small (goal.at.pass-requires-2 c).After-min-x)

pub returns : goal.returns
returns c =
    let pair = c.args.pair in
    let f = c.pass.ensures in
    let d = c.pass-2.ensures in
    let least : c.min-x.result ≡ min pair.full.number pair.daily.number = c.min-x.ensures in
    let full = c.args.self.now.full.now in
    let daily = c.args.self.now.daily.now in
    split (NextDrawn full daily pair _) pair.full.number pair.daily.number
    (λ l. subst (λ (x : ℕ). NextDrawn full daily pair (record { number = x; pair = record { full = c.pass.result; daily = c.pass-2.result } })) (omega arith)
    (draw_full full daily pair _ _ c.requires.0 (f.drawn (omega arith)) (d.other (λ e. omega arith)) l))
    (λ g. split (NextDrawn full daily pair _) pair.daily.number pair.full.number
    (λ l. subst (λ (x : ℕ). NextDrawn full daily pair (record { number = x; pair = record { full = c.pass.result; daily = c.pass-2.result } })) (omega arith)
    (draw_daily full daily pair _ _ c.requires.0 (f.other (λ e. omega arith)) (d.drawn (omega arith)) l))
    (λ l. subst (λ (x : ℕ). NextDrawn full daily pair (record { number = x; pair = record { full = c.pass.result; daily = c.pass-2.result } })) (omega arith)
    (draw_both full daily pair _ _ c.requires.0 (f.drawn (omega arith)) (d.drawn (omega arith)) (omega arith))))
