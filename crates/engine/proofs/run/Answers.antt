-- `run` meets its contract: what is handed back is `try_run`'s answer, and what is sent back by it meets demand 3. Assumes nothing.
use mathlib.Core.Path.{◌≡◌, ap, ◌∙◌}
use Prim.Native.Nat.{ℕ}
use Rattle.model.specs.declared.RunResult.{RunResult}
use Rattle.model.specs.Outcome.{Sent}
use Rattle.model.specs.Lists.{lend}
use Rattle.model.specs.Run.{starting}
use Rattle.model.specs.Calls.{ran, ran_refused, run_call}
use Rattle.model.specs.Demands.{ThirdDemandMet}
use Rattle.model.proofs.DemandThree.{third}
use Rattle.engine.proofs.run.Goals as goal
use Rattle.engine.proofs.run.Goals.{After-try_run}

-- the call is the definition's, and what is sent back meets demand 3
met : (c : After-try_run) (back : Sent) → let args = c.args in
    back ≡ run_call (lend args.numbers.now args.ends.now args.word) args.packed.now (starting args.bookmark) args.codes.now args.arguments.now args.replies.now
    → (back ≡ run_call (lend args.numbers.now args.ends.now args.word) args.packed.now (starting args.bookmark) args.codes.now args.arguments.now args.replies.now)
    × ThirdDemandMet (lend args.numbers.now args.ends.now args.word) args.packed.now (starting args.bookmark) args.codes.now args.arguments.now args.replies.now back
met c back e =
    let args = c.args in (
      e,
      rw e (third (lend args.numbers.now args.ends.now args.word) args.packed.now (starting args.bookmark) args.codes.now args.arguments.now args.replies.now
          (λ i. (c.shared_slice_known-1.given i).fits) (λ i. (c.shared_slice_known-5-1.given i).fits)),
    )

pub returns-in-Ok : goal.returns-in-Ok
returns-in-Ok c =
    let m = met (goal.at.returns-in-Ok c).After-try_run _ c.in-Ok.ensures in
    record { call = m.0; demand = m.1 }

pub returns-in-Err : goal.returns-in-Err
returns-in-Err c =
    let m = met (goal.at.returns-in-Err c).After-try_run _ (ap (λ (r : RunResult). ran r c.try_run.new.replies) c.refused.ensures ∙ ap (λ (n : ℕ). ran (ran_refused n) c.try_run.new.replies) c.from.ensures ∙ c.in-Err.ensures) in
    record { call = m.0; demand = m.1 }
