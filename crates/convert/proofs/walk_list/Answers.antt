-- `convert::walk_list` meets its contract, in each form: behind a bit that says that it came, a list is what it is without the
-- bit. Assumes nothing.
use mathlib.Core.Path.{◌≡◌, sym, ap, ◌∙◌}
use mathlib.Core.Bool.{Bool, true}
use mathlib.Core.Option.{none}
use Prim.Native.Nat.{ℕ}
use native.Mathlib.Omega.{arith}
use Rattle.model.specs.Outcome.{accepted}
use Rattle.model.specs.Delivery.{by_bit, came, by_count, read_list}
use Rattle.refusals.proofs.Up.{up}
use Rattle.fields.specs.Positions.{take_at}
use Rattle.fields.proofs.Fields.{took}
use Rattle.walk.specs.Answers.{only}
use Rattle.walk.proofs.Reading.{only_stop, only-is, only-made}
use Rattle.convert.specs.Forms.{form_of, lacks}
use Rattle.convert.proofs.Reading.{bit-ends, bit-none, bit-came}
use Rattle.convert.proofs.walk_list.Goals as goal
use Rattle.convert.proofs.walk_list.Goals.{Else-not-bit, In_ok-came}

-- the form that is walked through
by_form : (c : Else-not-bit) → let args = c.args in only (lacks true) (read_list (take_at args.s.now) by_bit none args.at) ≡ only (lacks args.bit) (read_list (take_at args.s.now) (form_of args.bit) none args.at)
by_form c = let args = c.args in ap (λ (b : Bool). only (lacks b) (read_list (take_at args.s.now) (form_of b) none args.at)) (sym (c.if-not-bit.false))

-- its bit, and the position behind that
bit-read : (c : In_ok-came) → let args = c.args in take_at args.s.now 1 args.at ≡ accepted (c.in_ok-came.came, c.in_ok-came.next)
bit-read c = sym c.in_ok-came.ensures

pub returns-then-not-bit : goal.returns-then-not-bit
returns-then-not-bit c =
    let args = c.args in
    c.walk_counted.ensures ∙ ap (λ (b : Bool). only (lacks b) (read_list (take_at args.s.now) (form_of b) none args.at)) (sym (c.if-not-bit.true))

pub returns-in_err-came : goal.returns-in_err-came
returns-in_err-came c =
    let args = c.args in
    up _ _ c.from_residual.ensures.1 ∙ sym (only_stop (lacks true) (bit-ends (take_at args.s.now) args.at (sym c.in_err-came.ensures))) ∙ by_form (goal.at.returns-in_err-came c).Else-not-bit

pub returns-then-came-eq0 : goal.returns-then-came-eq0
returns-then-came-eq0 c =
    let args = c.args in
    sym (only-is (lacks true) (bit-none (take_at args.s.now) args.at (bit-read (goal.at.returns-then-came-eq0 c).In_ok-came) (omega arith))) ∙ by_form (goal.at.returns-then-came-eq0 c).Else-not-bit

pub walk_counted-requires-2 : goal.walk_counted-requires-2
walk_counted-requires-2 c = let args = c.args in omega (arith, (took args.s.now 1 args.at _ (bit-read (goal.at.walk_counted-requires-2 c).In_ok-came)).next)

pub returns : goal.returns
returns c =
    let args = c.args in
    let next : ℕ = c.in_ok-came.next in
    c.walk_counted-2.ensures
    ∙ sym (ap (only (lacks true)) (bit-came (take_at args.s.now) args.at _ (bit-read (goal.at.returns c).In_ok-came) (λ z. omega (arith, c.if-came-eq0.false))) ∙ only-made (lacks true) came (read_list (take_at args.s.now) by_count none next))
    ∙ by_form (goal.at.returns c).Else-not-bit
