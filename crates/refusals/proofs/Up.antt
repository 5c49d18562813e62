-- A refusal goes up by `?` as it came. Assumes nothing.
use mathlib.Core.Path.{◌≡◌, refl, ap}
use mathlib.Core.Bool.{Bool, true, false}
use Prim.Native.Nat.{ℕ}
use Rattle.std.proofs.Common.{Result, Ok, Err}
use Rattle.std.specs.Result.{IsErrAnd}
use Rattle.model.specs.Outcome.{refused, accepted, ◌>>◌, require}
use Rattle.model.proofs.Accepted.{never_accepted}
use Rattle.model.specs.Calls.{written_refused}
use Rattle.refusals.specs.declared.Refusal.{Refusal}
use Rattle.refusals.specs.Numbers.{number, outcome, written_as}

-- what the exit of a `?` returns: give it that step's result and the second part of what it ensures
pub up : {A : Type 0} (r : Result A Refusal) (e : Refusal) → IsErrAnd r (λ y. y ≡ e) → outcome r ≡ refused (number e)
up (Ok a) e h = absurd h
up (Err y) e h = ap (λ (x : Refusal). refused (number x)) h

-- the same where a count of what was written is handed back
pub up_written : (r : Result ℕ Refusal) (e : Refusal) → IsErrAnd r (λ y. y ≡ e) → written_as r ≡ written_refused (number e)
up_written (Ok n) e h = absurd h
up_written (Err y) e h = ap (λ (x : Refusal). written_refused (number x)) h

-- a test before what is accepted, where it is refused: the test failed, and the number is its own
pub test-failed : {A : Type 0} (n : ℕ) (b : Bool) (a : A) {m : ℕ} → refused m ≡ (require n b >> accepted a) → (b ≡ false) × (m ≡ n)
test-failed n true a e = never_accepted e
test-failed n false a e = (refl, cc)
