-- "Stored forms": "fields run on across byte borders, most significant bit first, and zero bits fill the last byte,
-- fewer than eight".
use Rattle.std.specs.Prelude.{Bool, true, false, not, ◌&&◌, cond, List, [], ◌∷◌, ◌++◌, ℕ, zero, suc, ◌+◌, ◌*◌, ◌/◌, ◌%◌, ◌^◌, ◌<◌, ltb, leb, eqb, length, get_or, take, drop, replicate}
use Rattle.model.specs.Outcome.{Outcome, accepted, ◌>>◌, require}

-- what the type of an 8-bit element says of each element of a row
abbrev pub Bytes : List ℕ → Type 0
Bytes row = (i : ℕ) → get_or row i 0 < 256

-- a number as a field of w bits
unfoldable pub field : ℕ → ℕ → List Bool
field zero n = []
field (suc w) n = eqb (n / 2 ^ w % 2) 1 ∷ field w n

-- the bits of a row of bytes
unfoldable pub bits : List ℕ → List Bool
bits [] = []
bits (b ∷ bs) = field 8 b ++ bits bs

-- the number that bits write
unfoldable pub value : List Bool → ℕ
value [] = 0
value (b ∷ bs) = cond b 1 0 * 2 ^ length bs + value bs

-- a field of w bits is taken off, 1 if the bits run out
unfoldable pub take_field : ℕ → List Bool → Outcome (ℕ × List Bool)
take_field w bs = do
  require 1 (leb w (length bs))
  accepted (value (take w bs), drop w bs)

-- 5 does not apply: what is left is fewer than eight zero bits
unfoldable pub zeros : List Bool → Bool
zeros [] = true
zeros (b ∷ bs) = not b && zeros bs

unfoldable pub only_fill : List Bool → Bool
only_fill bs = ltb (length bs) 8 && zeros bs

-- bits as bytes, the last one filled
unfoldable pub fill : ℕ → List Bool → List ℕ
fill zero bs = []
fill (suc n) bs = value (take 8 (bs ++ replicate 7 false)) ∷ fill n (drop 8 bs)

unfoldable pub bytes : List Bool → List ℕ
bytes bs = fill ((length bs + 7) / 8) bs
