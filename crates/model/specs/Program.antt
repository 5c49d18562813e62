-- The program `members`: from its input to the members in order and the moves, or a refusal's number. Two: it "reads the
-- new form from then on".
use Rattle.std.specs.Prelude.{List, [], ◌∷◌, map, ℕ, suc, leb, length, take, drop, replicate}
use Rattle.model.specs.Outcome.{Outcome, refused, accepted, ◌>>=◌, ◌>>◌, require, Success, Sent, sent}
use Rattle.model.specs.Expression.{Tree}
use Rattle.model.specs.Sets.{members}
use Rattle.model.specs.Machine.{next}
use Rattle.model.specs.Run.{starting, run, named_in}
use Rattle.model.specs.Forms.{read_packed}
use Rattle.model.specs.Delivery.{supplied_numbers, read_delivery}
use Rattle.model.specs.Calls.{laid_out}

-- "one byte, the expression's length; the expression; the delivery"; 1 for a missing length byte or a short expression
unfoldable pub halves : List ℕ → Outcome (List ℕ × List ℕ)
halves [] = refused 1
halves (n ∷ bs) = do
  require 1 (leb n (length bs))
  accepted (take n bs, drop n bs)

-- what is printed: "each member on a line, then `moves` and the count"
pub record Listing : Type 0 where
  pub members : List ℕ
  pub moves : ℕ

-- "In one run from bookmark 0, whose only finished is its last reply": a next for each member and one more
unfoldable pub listing_of : List (List ℕ) → Tree → Listing
listing_of ls t = let ms = members ls t in record { members = ms; moves = (run ls t (starting 0) (replicate (suc (length ms)) next)).moves }

-- "the whole input's size is tested first", then the halves, "then the delivery, then the expression"
unfoldable pub listing : List ℕ → Outcome Listing
listing input = do
  require 6 (leb (length input) 65535)
  (expression, stored) ← halves input
  ss ← read_delivery 4096 32 stored
  t ← read_packed (named_in (laid_out ss)) expression
  accepted (listing_of (map supplied_numbers ss) t)

-- what success sends back: how many members, the moves; the members in a lent row, for which it may be too short (6)
unfoldable pub listed : List ℕ → Listing → Outcome Success
listed lent l = do
  require 6 (leb (length l.members) (length lent))
  accepted (record { parts = length l.members ∷ l.moves ∷ []; written = l.members ∷ [] })

-- the work of the program as a call: its input, and a lent row for the members
unfoldable pub list_members : List ℕ → List ℕ → Sent
list_members input lent = sent 2 (lent ∷ []) (do
  l ← listing input
  listed lent l)
