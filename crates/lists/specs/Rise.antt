-- One list: does it ascend, and what is its largest gap minus 1?
use Rattle.std.specs.Prelude.{List, [], ◌∷◌, ℕ}
use Rattle.model.specs.Outcome.{Outcome, accepted, ◌>>◌, require}
use Rattle.model.specs.Lists.{ascending}
use Rattle.model.specs.Delivery.{largest_gap}

-- the largest gap minus 1 of a whole list, 0 for fewer than two numbers
unfoldable pub largest : List ℕ → ℕ
largest [] = 0
largest (x ∷ xs) = largest_gap x xs

-- 11 for a list that is not strictly ascending, else its largest gap minus 1
unfoldable pub rise : List ℕ → Outcome ℕ
rise l = do
  require 11 (ascending l)
  accepted (largest l)
