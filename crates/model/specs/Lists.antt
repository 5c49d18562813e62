-- "Lists and expressions", first paragraph: numbers, list sets, and lists lent as one row of numbers and the ends; request
-- Two's word beside them.
use Rattle.std.specs.Prelude.{Bool, true, false, ◌&&◌, ◌||◌, List, [], ◌∷◌, ℕ, suc, ◌-◌, ◌<◌, ltb, leb, eqb, length, get_or, take, drop}
use Rattle.model.specs.Outcome.{Outcome, refused, accepted, ◌>>=◌, ◌>>◌, require}
use Rattle.model.specs.Fields.{field}

-- the first whole number that is no number any more; the highest floor and the highest bookmark
abbrev pub top : ℕ
top = 4294967296

-- "A number is 0 to 4,294,967,295": what the type of a 32-bit element says of each element of a row
abbrev pub Numbers : List ℕ → Type 0
Numbers row = (i : ℕ) → get_or row i 0 < top

-- D1: a list set is strictly ascending, and may be empty
unfoldable pub rises : ℕ → List ℕ → Bool
rises x [] = true
rises x (y ∷ ys) = ltb x y && rises y ys

unfoldable pub ascending : List ℕ → Bool
ascending [] = true
ascending (x ∷ xs) = rises x xs

-- 11 does not apply: every list is a list set
unfoldable pub all_ascending : List (List ℕ) → Bool
all_ascending [] = true
all_ascending (l ∷ ls) = ascending l && all_ascending ls

-- the run of numbers from start up to stop, that one excluded
unfoldable pub part : List ℕ → ℕ → ℕ → List ℕ
part numbers start stop = take (stop - start) (drop start numbers)

-- "list k is the run of numbers from the end of list k − 1 (0 for the first) up to its own end": from the list that
-- starts at `start` on
unfoldable pub lists_from : List ℕ → ℕ → List ℕ → List (List ℕ)
lists_from numbers start [] = []
lists_from numbers start (stop ∷ ends) = part numbers start stop ∷ lists_from numbers stop ends

-- 7 does not apply: there are 1 to 32 lists
unfoldable pub count_holds : ℕ → Bool
count_holds lists = leb 1 lists && leb lists 32

-- 10 does not apply: no end falls, none passes the row's size, no list is over 65,535
unfoldable pub ends_hold : ℕ → ℕ → List ℕ → Bool
ends_hold size start [] = true
ends_hold size start (stop ∷ ends) = leb start stop && (leb stop size && (leb (stop - start) 65535 && ends_hold size stop ends))

-- Two, of a 32-bit word: list k was delivered, "list 0 in its most significant bit"
unfoldable pub delivered : ℕ → ℕ → Bool
delivered word k = get_or (field 32 word) k false

-- 10 does not apply for the word either: "An undelivered list has equal start and end; a word that contradicts this is sent back as
-- 10"; from list k on, which starts at `start`
unfoldable pub word_holds : ℕ → ℕ → ℕ → List ℕ → Bool
word_holds word k start [] = true
word_holds word k start (stop ∷ ends) = (delivered word k || eqb start stop) && word_holds word (suc k) stop ends

-- lists as they are lent: "all numbers in one row, plus one end for each list"; Two: "Lists carry a 32-bit word beside the
-- ends"
pub record Lent : Type 0 where
  pub numbers : List ℕ
  pub ends : List ℕ
  pub word : ℕ

abbrev pub lend : List ℕ → List ℕ → ℕ → Lent
lend numbers ends word = record { numbers = numbers; ends = ends; word = word }

-- the lists, after 7, 10 and 11, each over all lists before the next; an undelivered one is empty
unfoldable pub lists_of : Lent → Outcome (List (List ℕ))
lists_of l = do
  require 7 (count_holds (length l.ends))
  require 10 (ends_hold (length l.numbers) 0 l.ends && word_holds l.word 0 0 l.ends)
  require 11 (all_ascending (lists_from l.numbers 0 l.ends))
  accepted (lists_from l.numbers 0 l.ends)

-- "One more call": where list k's part stands in the lent numbers, and its length
pub record Span : Type 0 where
  pub start : ℕ
  pub size : ℕ

-- "if refusal 7, 10 or 11 would apply or no such list is there, it is the empty part at the start"
unfoldable pub or_empty : Outcome Span → Span
or_empty (refused n) = record { start = 0; size = 0 }
or_empty (accepted s) = s

unfoldable pub span_of : Lent → ℕ → Span
span_of l k = or_empty (do
  ls ← lists_of l
  require 4 (ltb k (length ls))
  accepted (record { start = get_or (0 ∷ l.ends) k 0; size = length (get_or ls k []) }))

-- the part itself
unfoldable pub part_of : Lent → ℕ → List ℕ
part_of l k = take (span_of l k).size (drop (span_of l k).start l.numbers)
