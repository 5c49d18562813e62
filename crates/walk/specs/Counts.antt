-- Request Two's form of the delivery, of which only this is kept: a bit for each list, 1 if it came, and how many numbers there
-- are. And what the form has ahead of a list's numbers, as one step of reading.
use Rattle.std.specs.Prelude.{cond, List, [], map, ℕ, leb, length}
use Rattle.std.proofs.Math.Option.{some}
use Rattle.model.specs.Outcome.{Outcome, accepted, ◌>>=◌, ◌>>◌, require}
use Rattle.model.specs.Fields.{value}
use Rattle.model.specs.Sets.{all_numbers}
use Rattle.model.specs.Delivery
use Rattle.model.specs.Delivery.{Supplied, supplied_numbers, is_delivered, by_bit}

-- of one list, and of lists together
unfoldable pub one_counted : Supplied → ℕ × ℕ
one_counted a = (cond (is_delivered a) 1 0, length (supplied_numbers a))

unfoldable pub all_counted : List Supplied → ℕ × ℕ
all_counted ss = (value (map is_delivered ss), length (all_numbers (map supplied_numbers ss)))

module _ {S : Type 0} (take_bits : ℕ → S → Outcome (ℕ × S)) where
  -- one list, and so many lists, with so much room for their numbers
  abbrev pub read_list : ℕ → S → Outcome (Supplied × S)
  read_list room source = Delivery.read_list take_bits by_bit (some room) source

  abbrev pub read_lists : ℕ → ℕ → S → Outcome (List Supplied × S)
  read_lists n room source = Delivery.read_lists take_bits by_bit n (some room) source

  -- a list's bit and its count, "6 for the numbers once its count is read"
  unfoldable pub list_head : ℕ → S → Outcome ((ℕ × ℕ) × S)
  list_head room source = do
    ((count, made), rest) ← by_bit.take_head take_bits source
    require 6 (leb count room)
    accepted ((cond (is_delivered (made [])) 1 0, count), rest)
