-- A test's answer beside the definition's number: an `Err` is a refusal there, an `Ok` is not. Assumes nothing.
use mathlib.Core.Path.{◌≡◌, sym, ap, ◌∙◌}
use Prim.Native.Nat.{◌≤◌}
use native.Mathlib.Omega.{arith}
use Rattle.std.specs.Prelude.{Result, Ok, Err}
use Rattle.model.specs.Outcome.{Outcome, number_of}
use Rattle.refusals.specs.declared.Refusal.{Refusal}
use Rattle.refusals.specs.Numbers.{number, outcome}

number_above : (r : Refusal) → 1 ≤ number r
number_above r = grind arith

module _ {A B : Type 0} {tested : Result A Refusal} (o : Outcome B) (e : number_of (outcome tested) ≡ number_of o) where
  pub accepts : {a : A} → tested ≡ Ok a → number_of o ≡ 0
  unfolding number_of
  accepts is = sym e ∙ ap (λ (t : Result A Refusal). number_of (outcome t)) is

  pub refuses : {r : Refusal} → tested ≡ Err r → number_of o ≡ 0 → ⊥
  unfolding number_of
  refuses {r} is z =
      let above = number_above r in
      let number_is : number r ≡ 0 = sym (ap (λ (t : Result A Refusal). number_of (outcome t)) is) ∙ e ∙ z in
      omega arith
