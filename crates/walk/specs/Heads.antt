-- The paper's list header and its gap, each as one step of reading. `Delivery.read_body` and `Delivery.read_gaps` are shown to
-- equal these one after the other.
use Rattle.std.specs.Prelude.{ℕ, zero, suc, ◌+◌, ltb}
use Rattle.model.specs.Outcome.{Outcome, accepted, ◌>>=◌, ◌>>◌, require}
use Rattle.model.specs.Lists.{top}
use Rattle.walk.specs.declared.Header.{Header}

module _ {S : Type 0} (take_bits : ℕ → S → Outcome (ℕ × S)) where
  -- "if 2 or more, 5 bits of width minus 1": of n numbers behind the first
  unfoldable pub header_width : ℕ → ℕ → S → Outcome (Header × S)
  header_width zero first source = accepted (record { first = first; width = 0 }, source)
  header_width (suc n) first source = do
    (less, rest) ← take_bits 5 source
    accepted (record { first = first; width = less + 1 }, rest)

  -- "if 1 or more, 32 bits of first number": of a list of so many
  unfoldable pub header : ℕ → S → Outcome (Header × S)
  header zero source = accepted (record { first = 0; width = 0 }, source)
  header (suc n) source = do
    (first, rest) ← take_bits 32 source
    header_width n first rest

  -- the number behind `last`, 8 if it passes 4,294,967,295
  unfoldable pub gap : ℕ → ℕ → S → Outcome (ℕ × S)
  gap w last source = do
    (less, rest) ← take_bits w source
    require 8 (ltb (last + less + 1) top)
    accepted (last + less + 1, rest)
