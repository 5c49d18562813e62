-- `decode::store_body` meets its contract: where the numbers read, their header does, and they are stored by their count.
-- Assumes nothing.
use mathlib.Core.Path.{◌≡◌, refl, sym, ap, ◌∙◌}
use mathlib.Core.List.{List}
use Prim.Native.Nat.{ℕ, ◌-◌, ◌≤◌}
use native.Mathlib.Omega.{arith}
use lib.Dec.{eqb}
use lib.ListN.{length-set}
use Rattle.model.specs.Outcome.{accepted}
use Rattle.model.specs.Delivery.{largest_gap, width, read_gaps, read_body}
use Rattle.model.proofs.Accepted.{never_accepted, accepted-same, bound, required}
use Rattle.fields.specs.Rows.{lay}
use Rattle.fields.specs.Positions.{take_at}
use Rattle.fields.proofs.Rows.{lay-nil, lay-set, lay-cons}
use Rattle.walk.specs.Heads.{header}
use Rattle.walk.proofs.Reading.{follow, body-short, body_more, follow-none, follow_one, follow-more}
use Rattle.walk.proofs.Bounds.{header_next}
use Rattle.decode.proofs.store_body.Goals as goal
use Rattle.decode.proofs.store_body.Goals.{Else-count-eq1, In-Ok}

-- the header that was read, and what follows it
head_read : (c : In-Ok) → let args = c.args in header (take_at args.s.now) args.count args.at ≡ accepted (c.in-Ok.header, c.in-Ok.next)
head_read c = sym c.in-Ok.ensures

numbers_read : (c : In-Ok) → let args = c.args in read_body (take_at args.s.now) args.count args.at ≡ follow (take_at args.s.now) args.count c.in-Ok.header.first c.in-Ok.header.width c.in-Ok.next
numbers_read c = let args = c.args in body_more (take_at args.s.now) args.count args.at (head_read c)

-- there are two numbers or more
more : (c : Else-count-eq1) → 2 ≤ c.args.count
more c = omega (arith, c.if-count-eq1.false, c.if-count-eq0.false)

-- numbers and the position behind them, told by what is accepted
stored : (row : List ℕ) (from : ℕ) {after xs ys : List ℕ} {p q : ℕ} → ◌≡◌ {A = List ℕ × ℕ} (xs, p) (ys, q) → after ≡ lay row from xs → (after ≡ lay row from ys) × (p ≡ q)
stored row from e h = (h ∙ ap (λ (r : List ℕ × ℕ). lay row from r.0) e, ap (λ (r : List ℕ × ℕ). r.1) e)

pub returns-in_default : goal.returns-in_default
returns-in_default c xs q e =
    let args = c.args in
    never_accepted (sym (body-short (take_at args.s.now) args.count args.at (sym c.in_default.ensures)) ∙ e)

pub returns-then-count-eq0 : goal.returns-then-count-eq0
returns-then-count-eq0 c xs q e =
    let args = c.args in
    stored args.numbers.now args.from (accepted-same (sym (follow-none (take_at args.s.now) args.count c.in-Ok.header.first c.in-Ok.header.width c.in-Ok.next c.if-count-eq0.true) ∙ sym (numbers_read (goal.at.returns-then-count-eq0 c).In-Ok) ∙ e)) (sym (lay-nil args.numbers.now args.from))

pub returns-then-count-eq1 : goal.returns-then-count-eq1
returns-then-count-eq1 c xs q e =
    let args = c.args in
    stored args.numbers.now args.from (accepted-same (sym (follow_one (take_at args.s.now) args.count c.in-Ok.header.first c.in-Ok.header.width c.in-Ok.next c.if-count-eq1.true) ∙ sym (numbers_read (goal.at.returns-then-count-eq1 c).In-Ok) ∙ e)) (lay-set args.numbers.now args.from c.in-Ok.header.first (omega (arith, c.requires, c.if-count-eq1.true)))

pub store_gaps-requires : goal.store_gaps-requires
store_gaps-requires c =
    let args = c.args in
    let b = header_next args.s.now args.count args.at _ (head_read (goal.at.store_gaps-requires c).In-Ok) in
    let w = b.wide (more (goal.at.store_gaps-requires c).Else-count-eq1) in
    (w.0, w.1, omega (arith, c.requires), omega (arith, b.near), simp length-set (omega (arith, c.requires, more (goal.at.store_gaps-requires c).Else-count-eq1)))

pub returns : goal.returns
returns c xs q e =
    let args = c.args in
    let a = bound (read_gaps (take_at args.s.now) c.in-Ok.header.width (args.count - 1) c.in-Ok.header.first c.in-Ok.next) _ (xs, q)
    (sym (follow-more (take_at args.s.now) args.count c.in-Ok.header.first c.in-Ok.header.width c.in-Ok.next (more (goal.at.returns c).Else-count-eq1) refl) ∙ sym (numbers_read (goal.at.returns c).In-Ok) ∙ e) in
    let b = required 9 (eqb c.in-Ok.header.width (width (largest_gap c.in-Ok.header.first a.got.0))) _ (xs, q) a.rest in
    let s = c.store_gaps.ensures a.got.0 a.got.1 a.first in
    let k = stored args.numbers.now args.from (accepted-same b.1) (s.0 ∙ sym (lay-cons args.numbers.now args.from c.in-Ok.header.first a.got.0 (omega (arith, c.requires, more (goal.at.returns c).Else-count-eq1)))) in
    (k.0, s.1 ∙ k.1)
