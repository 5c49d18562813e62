-- What the readers need of lent lists, whoever has tested them.
use Rattle.std.specs.Prelude.{◌≡◌, true, List, [], ◌∷◌, ℕ, ◌-◌, ◌≤◌, ◌<◌, length, get_or}
use Rattle.model.specs.Lists.{ascending, lists_from}

-- the ends rise within the row, and every list has at most 65,535 numbers and ascends
pub record Readable (numbers ends : List ℕ) : Type 0 where
  pub order : (k : ℕ) → k < length ends → get_or (0 ∷ ends) k 0 ≤ get_or ends k 0
  pub inside : (k : ℕ) → k < length ends → get_or ends k 0 ≤ length numbers
  pub few : (k : ℕ) → k < length ends → get_or ends k 0 - get_or (0 ∷ ends) k 0 ≤ 65535
  pub ascend : (k : ℕ) → ascending (get_or (lists_from numbers 0 ends) k []) ≡ true
