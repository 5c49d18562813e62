-- Request Six, "Full and daily delivery made one": "The index sends a full delivery weekly and additions daily. Join two into
-- one".
use Rattle.std.specs.Prelude.{Bool, true, ◌&&◌, List, [], ◌∷◌, ℕ, leb, eqb, length}
use Rattle.model.specs.Outcome.{◌>>=◌, ◌>>◌, require, Sent, sent}
use Rattle.model.specs.Sets.{insert}
use Rattle.model.specs.Delivery.{Supplied, undelivered, came, supplied_numbers, by_bit, read_stored, delivery}
use Rattle.model.specs.Calls.{stored}

-- "list k of the outcome is the union of both lists k": the numbers of one put into the other, each once
unfoldable pub list_union : List ℕ → List ℕ → List ℕ
list_union [] ys = ys
list_union (x ∷ xs) ys = insert x (list_union xs ys)

-- "a list that came in one only is taken from that one; one that came in neither is undelivered"
unfoldable pub join_list : Supplied → Supplied → Supplied
join_list undelivered daily = daily
join_list (came l) undelivered = came l
join_list (came l) (came m) = came (list_union l m)

-- list by list, of equally many
unfoldable pub join_lists : List Supplied → List Supplied → List Supplied
join_lists [] ds = []
join_lists (f ∷ fs) [] = []
join_lists (f ∷ fs) (d ∷ ds) = join_list f d ∷ join_lists fs ds

-- 21 does not apply: no "joined list over 65,535"
unfoldable pub lengths_hold : List Supplied → Bool
lengths_hold [] = true
lengths_hold (a ∷ ss) = leb (length (supplied_numbers a)) 65535 && lengths_hold ss

-- the call: "Both inputs are bytes in Two's form and pass the reading's tests but 6 first, the full one first. (20 differing
-- numbers of lists; 21 a joined list over 65,535; both before 6.)" "The outcome is written in Two's form"
unfoldable pub join_deliveries : List ℕ → List ℕ → List ℕ → Sent
join_deliveries full daily lent = sent 1 (lent ∷ []) (do
  fs ← read_stored by_bit full
  ds ← read_stored by_bit daily
  require 20 (eqb (length fs) (length ds))
  require 21 (lengths_hold (join_lists fs ds))
  stored (delivery (join_lists fs ds)) lent)
