-- Writing into the middle of a row.
use Rattle.std.specs.Prelude.{List, ◌++◌, ℕ, ◌+◌, length, take, drop}

-- the row with xs in place of as many elements from `at` on; the elements before and behind hold what they held
unfoldable pub lay : {A : Type 0} → List A → ℕ → List A → List A
lay row at xs = take at row ++ (xs ++ drop (at + length xs) row)
