-- `verdict` meets its contract: refusal by refusal. Assumes nothing.
use mathlib.Core.Path.{◌≡◌, refl, sym, ap, ◌∙◌}
use mathlib.Core.Bool.{Bool, true}
use Prim.Native.Nat.{ℕ, zero, suc, ◌≤◌}
use native.Mathlib.Omega.{arith}
use Rattle.model.specs.Outcome.{number_of}
use Rattle.refusals.specs.Numbers.{outcome}
use Rattle.refusals.proofs.Up.{up}
use Rattle.update.specs.Plans.{first_number}
use Rattle.update.proofs.Tests.{number_above}
use Rattle.update.proofs.verdict.Goals as goal

-- what lacks room is told
lacks : (n : ℕ) (fits : Bool) → 1 ≤ n → n ≡ first_number true n fits
lacks zero fits h = absurd (omega arith)
lacks (suc n) fits h = refl

pub returns-in_err-room : goal.returns-in_err-room
unfolding number_of
returns-in_err-room c =
    ap number_of (up _ _ c.from_residual.ensures.1)
    ∙ lacks _ c.args.fits (number_above _)
    ∙ sym (λ i. first_number (c.if-not-news.false i) (number_of (outcome (c.in_err-room.was i))) c.args.fits)
