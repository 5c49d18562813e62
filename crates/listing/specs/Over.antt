-- The work of `members` behind its delivery.
use Rattle.std.specs.Prelude.{List, [], ◌∷◌, ℕ, ◌≤◌, length}
use Rattle.model.specs.Outcome.{◌>>=◌, Sent, sent}
use Rattle.model.specs.Lists.{lists_from}
use Rattle.model.specs.Sets.{all_numbers}
use Rattle.model.specs.Forms.{there, read_packed}
use Rattle.model.specs.Program.{listing_of, listed}
use Rattle.lists.specs.Readable.{Readable}

-- lists that were delivered: they can be read, and are at most 32, of at most 4,096 numbers in all
pub record DeliveredLists (numbers ends : List ℕ) : Type 0 where
  pub lists : Readable numbers ends
  pub many : length ends ≤ 32
  pub few : length (all_numbers (lists_from numbers 0 ends)) ≤ 4096

-- "then the expression", over these lists with this word; then its members into the lent row
unfoldable pub list_over : ℕ → List (List ℕ) → List ℕ → List ℕ → Sent
list_over word ls packed lent = sent 2 (lent ∷ []) (do
  t ← read_packed (there (length ls) word) packed
  listed lent (listing_of ls t))
