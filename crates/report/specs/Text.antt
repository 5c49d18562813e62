-- The text that the program `members` prints, as bytes.
use Rattle.std.specs.Prelude.{cond, List, [], ◌∷◌, ◌++◌, ℕ, zero, suc, ◌+◌, ◌/◌, ◌%◌, ltb}
use Rattle.model.specs.Outcome.{Outcome, refused, accepted}
use Rattle.model.specs.Program.{Listing}

-- the decimal digits of n in ASCII, where it has at most f + 1: no leading zeros, and "0" for 0
unfoldable pub digits : ℕ → ℕ → List ℕ
digits zero n = (48 + n) ∷ []
digits (suc f) n = cond (ltb n 10) ((48 + n) ∷ []) (digits f (n / 10) ++ ((48 + n % 10) ∷ []))

-- a number below 2^32 has at most ten
unfoldable pub decimal : ℕ → List ℕ
decimal n = digits 9 n

-- a word, a number, a line end
unfoldable pub line : List ℕ → ℕ → List ℕ
line word n = word ++ (decimal n ++ (10 ∷ []))

-- "each member on a line"
unfoldable pub lines : List ℕ → List ℕ
lines [] = []
lines (m ∷ ms) = line [] m ++ lines ms

-- "refused "
abbrev pub refused_word : List ℕ
refused_word = 0x72 ∷ 0x65 ∷ 0x66 ∷ 0x75 ∷ 0x73 ∷ 0x65 ∷ 0x64 ∷ 0x20 ∷ []

-- "moves "
abbrev pub moves_word : List ℕ
moves_word = 0x6D ∷ 0x6F ∷ 0x76 ∷ 0x65 ∷ 0x73 ∷ 0x20 ∷ []

-- "prints each member on a line, then `moves` and the count; or one line `refused` and the number"
unfoldable pub text : Outcome Listing → List ℕ
text (refused n) = line refused_word n
text (accepted l) = lines l.members ++ line moves_word l.moves
