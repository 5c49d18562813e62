-- `update` meets its contract: what is handed back is `try_update`'s answer, and what is sent back by it is request One
-- (`RequestOne.one`). Assumes nothing.
use mathlib.Core.Path.{◌≡◌, ap, ◌∙◌}
use Prim.Native.Nat.{ℕ}
use native.Mathlib.Omega.{arith}
use Rattle.model.specs.Outcome.{Sent, number_of}
use Rattle.model.specs.Lists.{lend}
use Rattle.model.specs.Update.{change, update as update_call, updated}
use Rattle.model.specs.RequestOne.{RequestOneMet}
use Rattle.changes.proofs.RequestOne.{one}
use Rattle.update.proofs.update.Goals as goal
use Rattle.update.proofs.update.Goals.{After-try_update}

-- the call is the definition's, and what is sent back meets the request
met : (c : After-try_update) (back : Sent) → back ≡ update_call (lend c.args.numbers.now c.args.ends.now c.args.word) c.args.packed.now (change c.args.list c.args.number c.args.add) c.args.members.now c.args.count.now → RequestOneMet (lend c.args.numbers.now c.args.ends.now c.args.word) c.args.packed.now (change c.args.list c.args.number c.args.add) c.args.members.now c.args.count.now back
met c back is = one (lend c.args.numbers.now c.args.ends.now c.args.word) c.args.packed.now (change c.args.list c.args.number c.args.add) c.args.members.now c.args.count.now (λ i. (c.slice_known-1.given i).fits) (omega (arith, c.ranges.number.fits)) back is

pub returns-in-Ok : goal.returns-in-Ok
unfolding number_of
returns-in-Ok c = record { call = c.in-Ok.ensures; request = met (goal.at.returns-in-Ok c).After-try_update _ c.in-Ok.ensures }

pub returns-in-Err : goal.returns-in-Err
unfolding number_of
returns-in-Err c =
    let back = c.try_update.new in
    let call = ap (λ (n : ℕ). updated n back.numbers back.ends back.members back.count) c.from.ensures ∙ c.in-Err.ensures in
    record { call = call; request = met (goal.at.returns-in-Err c).After-try_update _ call }
