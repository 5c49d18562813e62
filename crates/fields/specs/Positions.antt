-- Fields by their bit position in a row of bytes.
use Rattle.std.specs.Prelude.{Bool, List, ℕ, ◌+◌, ◌-◌, ◌*◌, leb, length, take, drop}
use Rattle.model.specs.Outcome.{Outcome, accepted, ◌>>◌, require}
use Rattle.model.specs.Fields.{bits, value, bytes}
use Rattle.fields.specs.Rows.{lay}

-- a field of w bits off the position p, with the position behind it; 1 if the bits run out
unfoldable pub take_at : List ℕ → ℕ → ℕ → Outcome (ℕ × ℕ)
take_at s w p = do
  require 1 (leb w (8 * length s - p))
  accepted (value (take w (drop p (bits s))), p + w)

-- the row with these bits in place of as many from the position p on; every other bit stays
unfoldable pub put_bits : List ℕ → ℕ → List Bool → List ℕ
put_bits s p bs = bytes (lay (bits s) p bs)
