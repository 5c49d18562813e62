-- Request One, "Keep the shown list current": "one call that adds a number to, or removes it from, list k in the lent
-- lists, and brings the kept row up to date".
use Rattle.std.specs.Prelude.{Bool, true, false, not, ◌&&◌, ◌||◌, List, [], ◌∷◌, ℕ, ltb, leb, eqb, length, get_or, take, set}
use Rattle.model.specs.Outcome.{Outcome, accepted, ◌>>=◌, ◌>>◌, require, Success, Sent, sent}
use Rattle.model.specs.Lists.{Lent}
use Rattle.model.specs.Sets.{among, all_numbers, insert, members}
use Rattle.model.specs.Run.{Source, named_in, source_of}
use Rattle.model.specs.Calls.{ends_from}

-- one number added to a list, or removed from it
pub record Change : Type 0 where
  pub list : ℕ
  pub number : ℕ
  pub adds : Bool

-- as the call takes it: 0 removes, any other value adds
abbrev pub change : ℕ → ℕ → ℕ → Change
change list number add = record { list = list; number = number; adds = not (eqb add 0) }

-- a list set without a number
unfoldable pub remove : ℕ → List ℕ → List ℕ
remove x [] = []
remove x (y ∷ ys) = elim (eqb x y) [ true ↦ ys | false ↦ y ∷ remove x ys ]

-- the list that is changed, before and after
abbrev pub old_list : Change → List (List ℕ) → List ℕ
old_list c ls = get_or ls c.list []

unfoldable pub new_list : Change → List (List ℕ) → List ℕ
new_list c ls = elim c.adds [ true ↦ insert c.number (old_list c ls) | false ↦ remove c.number (old_list c ls) ]

-- the lists afterwards: every other one stays; so does the expression
unfoldable pub new_lists : Change → List (List ℕ) → List (List ℕ)
new_lists c ls = set ls c.list (new_list c ls)

abbrev pub changed : Change → Source → Source
changed c s = record { lists = new_lists c s.lists; tree = s.tree }

-- the members of the expression
abbrev pub shown : Source → List ℕ
shown s = members s.lists s.tree

-- 17 does not apply: the count is the number of members, and the row's first elements are the members in order
unfoldable pub same : List ℕ → List ℕ → Bool
same [] [] = true
same [] (y ∷ ys) = false
same (x ∷ xs) [] = false
same (x ∷ xs) (y ∷ ys) = eqb x y && same xs ys

unfoldable pub shows : List ℕ → ℕ → List ℕ → Bool
shows kept count ms = eqb count (length ms) && same (take count kept) ms

-- 15 does not apply: not "adding a present number or removing an absent one"
unfoldable pub is_new : Change → List (List ℕ) → Bool
is_new c ls = elim c.adds [ true ↦ not (among c.number (old_list c ls)) | false ↦ among c.number (old_list c ls) ]

-- 16 does not apply: not "adding to a list of 65,535"
unfoldable pub has_room : Change → List (List ℕ) → Bool
has_room c ls = not c.adds || ltb (length (old_list c ls)) 65535

-- 6 does not apply: the lists afterwards fit the row of numbers, the members afterwards the kept row
unfoldable pub fits : Lent → List ℕ → Source → Bool
fits l kept s = leb (length (all_numbers s.lists)) (length l.numbers) && leb (length (shown s)) (length kept)

-- lists and expression as the call leaves them: "Where there is no list k, that is 4, straight after the expression's own
-- tests"; Two: it "gives 18 for an undelivered list k too, straight after its 4"; "tested after the lists and the
-- expression, in the order 17, 15, 16, then 6"
unfoldable pub update_of : Lent → List ℕ → Change → List ℕ → ℕ → Outcome Source
update_of l expression c kept count = do
  s ← source_of l expression
  named_in l c.list
  require 17 (shows kept count (shown s))
  require 15 (is_new c s.lists)
  require 16 (has_room c s.lists)
  require 6 (fits l kept (changed c s))
  accepted (changed c s)

-- what is written: the lists' numbers and ends, the members, and how many they are; a lent number is a row of one
abbrev pub as_left : Source → Success
as_left s = record { parts = []; written = all_numbers s.lists ∷ ends_from 0 s.lists ∷ shown s ∷ (length (shown s) ∷ []) ∷ [] }

-- the call: it hands back a number and no other part
unfoldable pub update : Lent → List ℕ → Change → List ℕ → ℕ → Sent
update l expression c kept count = sent 0 (l.numbers ∷ l.ends ∷ kept ∷ (count ∷ []) ∷ []) (do
  s ← update_of l expression c kept count
  accepted (as_left s))

-- what it sends back, from the number that it hands back and its lent rows and count as it leaves them
abbrev pub updated : ℕ → List ℕ → List ℕ → List ℕ → ℕ → Sent
updated number numbers ends kept count = record { number = number; parts = []; rows = numbers ∷ ends ∷ kept ∷ (count ∷ []) ∷ [] }
