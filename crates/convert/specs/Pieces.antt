-- The bits of a delivery cut where its lists begin and end, and each piece as the other form has it.
use Rattle.std.specs.Prelude.{Bool, true, false, List, [], ◌∷◌, ◌++◌, ℕ, zero, suc, ◌-◌, ◌*◌, ◌^◌, ◌≤◌, ◌<◌, eqb, get_or, take, drop}
use Rattle.model.specs.Outcome.{◌>>◌, require, Sent, sent}
use Rattle.model.specs.Fields.{field, bits, bytes}
use Rattle.model.specs.Calls.{stored}

-- the bits of a list in the other form: without the bit ahead of them, or with it
abbrev pub moved : Bool → List Bool → List Bool
moved true bs = drop 1 bs
moved false bs = field 1 1 ++ bs

-- the piece between two positions, so moved
abbrev pub piece : Bool → List Bool → ℕ → ℕ → List Bool
piece bit bs at end = moved bit (take (end - at) (drop at bs))

-- n pieces one behind the other, from the first of the positions on
unfoldable pub pieces : Bool → List Bool → ℕ → List ℕ → List Bool
pieces bit bs zero stops = []
pieces bit bs (suc n) stops = piece bit bs (get_or stops 0 0) (get_or stops 1 0) ++ pieces bit bs n (drop 1 stops)

-- positions of n pieces, each of a bit or more: they rise, and stay in a row of so many bytes and in a machine word
abbrev pub Rising : ℕ → ℕ → List ℕ → Type 0
Rising size zero stops = Unit {0}
Rising size (suc n) stops = (get_or stops 0 0 < get_or stops 1 0) × (get_or stops 1 0 ≤ 8 * size) × (get_or stops 1 0 < 2 ^ 40) × Rising size n (drop 1 stops)

-- the number of lists and n pieces, written into lent bytes, where none of the lists is missing
unfoldable pub store_pieces : Bool → List ℕ → ℕ → List ℕ → ℕ → List ℕ → Sent
store_pieces bit from n stops missing lent = sent 1 (lent ∷ []) (do
  require 19 (eqb missing 0)
  stored (bytes (field 6 n ++ pieces bit (bits from) n stops)) lent)
