-- Request Four, "How large will it get": "From the expression and the list lengths alone, without any number being read".
use Rattle.std.specs.Prelude.{Bool, true, ◌&&◌, List, [], ◌∷◌, ℕ, ◌+◌, ◌-◌, ◌/◌, min, leb, length, get_or}
use Rattle.model.specs.declared.BoundsResult.{BoundsResult}
use Rattle.model.specs.Outcome.{Outcome, accepted, ◌>>=◌, ◌>>◌, require, Sent, sent}
use Rattle.model.specs.Lists.{count_holds}
use Rattle.model.specs.Expression.{Tree, leaf, difference, union, intersection, Members, one, more}
use Rattle.model.specs.Forms.{there, read_packed}
use Rattle.model.specs.Delivery.{list_size}
use Rattle.model.specs.Demands.{lengths, sum}
use Rattle.model.specs.RequestTwo.{every_bit}

-- "the list lengths", from the list that starts at `start` on
unfoldable pub lengths_from : ℕ → List ℕ → List ℕ
lengths_from start [] = []
lengths_from start (stop ∷ ends) = (stop - start) ∷ lengths_from stop ends

-- 10 does not apply: not "falling ends or a length over 65,535"; there is no row that an end could pass
unfoldable pub ends_rise : ℕ → List ℕ → Bool
ends_rise start [] = true
ends_rise start (stop ∷ ends) = leb start stop && (leb (stop - start) 65535 && ends_rise stop ends)

-- "a bound on the members (a list its length, a union the sum, an intersection the least, a difference its first part's)", of
-- lists of these lengths
unfoldable mutual
  pub most_members : List ℕ → Tree → ℕ
  most_members ns (leaf k) = get_or ns k 0
  most_members ns (difference s t) = most_members ns s
  most_members ns (union ts) = sum_of_most ns ts
  most_members ns (intersection ts) = least_of_most ns ts

  pub sum_of_most : List ℕ → Members → ℕ
  sum_of_most ns (one t) = most_members ns t
  sum_of_most ns (more t ts) = most_members ns t + sum_of_most ns ts

  pub least_of_most : List ℕ → Members → ℕ
  least_of_most ns (one t) = most_members ns t
  least_of_most ns (more t ts) = min (most_members ns t) (least_of_most ns ts)

-- "and one on the moves (the summed leaf lengths)": a list "counts once for every leaf it stands at"
unfoldable pub most_moves : List ℕ → Tree → ℕ
most_moves ns t = sum (lengths ns t)

-- "the most bytes a delivery of these lengths can fill in Two's form, each width taken as 32. Every list counts as delivered": 1
-- bit and 16 bits of count ahead of each list's numbers
unfoldable pub most_bits : List ℕ → ℕ
most_bits [] = 0
most_bits (n ∷ ns) = list_size (1 + 16) n 32 + most_bits ns

-- behind 6 bits of their number, up to a whole byte
unfoldable pub most_bytes : List ℕ → ℕ
most_bytes ns = (6 + most_bits ns + 7) / 8

-- "Numbers 7, 10 (falling ends or a length over 65,535) and the expression's but 18 apply": it is read as where every list was
-- delivered
unfoldable pub bounds_of : List ℕ → List ℕ → Outcome (ℕ × ℕ × ℕ)
bounds_of ends expression = do
  require 7 (count_holds (length ends))
  require 10 (ends_rise 0 ends)
  t ← read_packed (there (length ends) every_bit) expression
  let ns = lengths_from 0 ends in accepted (most_members ns t, most_moves ns t, most_bytes ns)

-- the call: most members, most moves, most bytes; it is lent no row
unfoldable pub bounds : List ℕ → List ℕ → Sent
bounds ends expression = sent 3 [] (do
  (members, moves, bytes) ← bounds_of ends expression
  accepted (record { parts = members ∷ moves ∷ bytes ∷ []; written = [] }))

-- what it sends back, from the struct that it hands back; and a refusal as such a struct
abbrev pub bounded : BoundsResult → Sent
bounded r = record { number = r.number; parts = r.members ∷ r.moves ∷ r.bytes ∷ []; rows = [] }

abbrev pub bounded_refused : ℕ → BoundsResult
bounded_refused n = record { number = n; members = 0; moves = 0; bytes = 0 }
