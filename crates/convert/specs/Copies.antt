-- Bits copied from one row into another.
use Rattle.std.specs.Prelude.{List, ℕ, take, drop}
use Rattle.model.specs.Fields.{bits}
use Rattle.fields.specs.Positions.{put_bits}

-- the second row with the n bits of the first from `at` on in place of as many from `put` on; every other bit stays
unfoldable pub copied : List ℕ → ℕ → List ℕ → ℕ → ℕ → List ℕ
copied from at to put n = put_bits to put (take n (drop at (bits from)))
