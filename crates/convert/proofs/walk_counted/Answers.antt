-- `convert::walk_counted` meets its contract: the count, then the numbers. Assumes nothing.
use mathlib.Core.Path.{◌≡◌, sym, ap, ◌∙◌}
use mathlib.Core.Bool.{false}
use mathlib.Core.Option.{none}
use native.Mathlib.Omega.{arith}
use lib.ListN.{length}
use Rattle.model.specs.Outcome.{accepted}
use Rattle.model.specs.Delivery.{by_count, read_body, read_list}
use Rattle.refusals.proofs.Up.{up}
use Rattle.fields.specs.Positions.{take_at}
use Rattle.fields.proofs.Fields.{took}
use Rattle.walk.specs.Answers.{only}
use Rattle.walk.proofs.Reading.{kept, lost, only_stop, only-is, only-made}
use Rattle.convert.specs.Forms.{lacks}
use Rattle.convert.proofs.Reading.{count-ends, count-more}
use Rattle.convert.proofs.walk_counted.Goals as goal
use Rattle.convert.proofs.walk_counted.Goals.{In_ok-count}

-- the count that was read, and what is left to read
count_read : (c : In_ok-count) → let args = c.args in take_at args.s.now 16 args.at ≡ accepted (c.in_ok-count.count, c.in_ok-count.next)
count_read c = sym c.in_ok-count.ensures

rest : (c : In_ok-count) → let args = c.args in
    only (lacks false) (read_list (take_at args.s.now) by_count none args.at) ≡ only (λ xs. 0) (read_body (take_at args.s.now) c.in_ok-count.count c.in_ok-count.next)
rest c =
    let args = c.args in
    ap (only (lacks false)) (count-more (take_at args.s.now) args.at (count_read c)) ∙ only-made (lacks false) (λ l. l) (read_body (take_at args.s.now) c.in_ok-count.count c.in_ok-count.next)

pub returns-in_err-count : goal.returns-in_err-count
returns-in_err-count c =
    let args = c.args in
    up _ _ c.from_residual.ensures.1 ∙ sym (only_stop (lacks false) (count-ends (take_at args.s.now) args.at (sym c.in_err-count.ensures)))

pub walk_body-requires : goal.walk_body-requires
walk_body-requires c = let args = c.args in let t = took args.s.now 16 args.at _ (count_read c) in (omega (arith, t.small), omega (arith, t.next))

pub returns-in_err-behind : goal.returns-in_err-behind
returns-in_err-behind c =
    up _ _ c.from_residual-in_err-behind.ensures.1 ∙ sym (rest (goal.at.returns-in_err-behind c).In_ok-count ∙ only_stop (λ xs. 0) (lost length _ _ (sym c.in_err-behind.ensures)))

pub returns : goal.returns
returns c =
    sym (rest (goal.at.returns c).In_ok-count ∙ only-is (λ xs. 0) (kept length _ _ _ (sym c.in_ok-behind.ensures)).read)
