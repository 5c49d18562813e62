-- Where a part of a lent row points.
use Rattle.std.specs.Prelude.{ℕ, ◌+◌, ◌*◌}

-- the place of element i of a row of 32-bit numbers that begins at p: the same block, 4 bytes further for each before it
unfoldable pub element_at : ℕ × ℕ → ℕ → ℕ × ℕ
element_at p i = (p.0, i * 4 + p.1)
