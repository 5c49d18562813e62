-- Both forms of a stored delivery, by whether a bit precedes each count: `true` for Two's, `false` for 01's; and the move from
-- either to the other.
use Rattle.std.specs.Prelude.{Bool, true, false, not, List, [], ◌∷◌, map, ℕ, ◌+◌, ◌-◌, eqb}
use Rattle.model.specs.Outcome.{◌>>=◌, ◌>>◌, require, Sent, sent}
use Rattle.model.specs.Delivery.{Form, by_count, by_bit, Supplied, undelivered, came, supplied_numbers, delivery_in, read_stored}
use Rattle.model.specs.Calls.{stored}

-- a list as a form has it
abbrev pub ListIn : Bool → Type 0
ListIn true = Supplied
ListIn false = List ℕ

abbrev pub form_of : (bit : Bool) → Form (ListIn bit)
form_of true = by_bit
form_of false = by_count

-- a list as the other form has it: "all lists delivered", and back
abbrev pub as_other : (bit : Bool) → ListIn bit → ListIn (not bit)
as_other true a = supplied_numbers a
as_other false l = came l

-- how many of lists did not come: 1 for each
abbrev pub lacks : (bit : Bool) → ListIn bit → ℕ
lacks true undelivered = 1
lacks true (came l) = 0
lacks false l = 0

unfoldable pub missing : (bit : Bool) → List (ListIn bit) → ℕ
missing bit [] = 0
missing bit (a ∷ ls) = lacks bit a + missing bit ls

-- how many bits n lists take in the other form: one less or one more for each
abbrev pub resized : Bool → ℕ → ℕ → ℕ
resized true size n = size - n
resized false size n = size + n

-- `Calls.upgrade_delivery` and `Calls.downgrade_delivery` as one, which they are shown to equal
unfoldable pub move_delivery : Bool → List ℕ → List ℕ → Sent
move_delivery bit bytes lent = sent 1 (lent ∷ []) (do
  ls ← read_stored (form_of bit) bytes
  require 19 (eqb (missing bit ls) 0)
  stored (delivery_in (form_of (not bit)) (map (as_other bit) ls)) lent)
