-- How many moves readers have made, beside where they stand.
use Rattle.std.specs.Prelude.{◌≡◌, List, ℕ, ◌≤◌, length, get_or}
use Rattle.model.specs.Demands.{sum}

-- 48 places of 16 bits, and moves within their sum, which is why they never pass a 32-bit count
pub record Tallied (places : List ℕ) (moves : ℕ) : Type 0 where
  pub many : length places ≡ 48
  pub small : (i : ℕ) → get_or places i 0 ≤ 65535
  pub within : moves ≤ sum places
