-- What a walk through the lists of a stored delivery finds: how many did not come, where they end, and where each begins.
use Rattle.std.specs.Prelude.{Bool, List, [], ◌∷◌, ℕ, ◌+◌, length, Result, Ok, Err}
use Rattle.model.specs.Outcome.{Outcome, refused, accepted}
use Rattle.model.specs.Delivery.{Form, list_bits}
use Rattle.fields.specs.Rows.{lay}
use Rattle.refusals.specs.Numbers.{number}
use Rattle.refusals.specs.declared.Refusal.{Refusal}
use Rattle.convert.specs.declared.Walked.{Walked}
use Rattle.convert.specs.Forms.{ListIn, form_of, missing}

-- where each list begins, from a position on, and where the last one ends
unfoldable pub stops_from : {A : Type 0} → Form A → ℕ → List A → List ℕ
stops_from form at [] = at ∷ []
stops_from form at (a ∷ ls) = at ∷ stops_from form (at + length (list_bits form a)) ls

-- the paper's number, or what was found: the missing, the end, and the row of positions
abbrev pub walk_says : Result Walked Refusal → Outcome (ℕ × ℕ × List ℕ)
walk_says (Ok w) = accepted (w.missing, w.end, w.stops)
walk_says (Err r) = refused (number r)

-- a reading from `at` on, of which only this is kept: so many were missing before it, and its positions go into the row from k on
unfoldable pub found : (bit : Bool) → ℕ → List ℕ → ℕ → ℕ → Outcome (List (ListIn bit) × ℕ) → Outcome (ℕ × ℕ × List ℕ)
found bit before row k at (refused n) = refused n
found bit before row k at (accepted r) = accepted (before + missing bit r.0, r.1, lay row k (stops_from (form_of bit) at r.0))
