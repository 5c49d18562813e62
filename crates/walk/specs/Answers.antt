-- What lists are counted as, as the outcome of reading, and what is left of a reading whose numbers are only looked at.
use Rattle.std.specs.Prelude.{ℕ, Result, Ok, Err}
use Rattle.model.specs.Outcome.{Outcome, refused, accepted}
use Rattle.refusals.specs.Numbers.{number}
use Rattle.refusals.specs.declared.Refusal.{Refusal}
use Rattle.walk.specs.declared.Counted.{Counted}

-- what lists are counted as and the position behind them
abbrev pub counted_says : Result (Counted × ℕ) Refusal → Outcome ((ℕ × ℕ) × ℕ)
counted_says (Ok (c, next)) = accepted ((c.bits, c.count), next)
counted_says (Err r) = refused (number r)

-- a reading of which only so much is kept
unfoldable pub only : {A B : Type 0} → (A → B) → Outcome (A × ℕ) → Outcome (B × ℕ)
only about (refused n) = refused n
only about (accepted r) = accepted (about r.0, r.1)
