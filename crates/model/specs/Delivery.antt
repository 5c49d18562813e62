-- "Stored forms", the delivery; request Two's form of it.
use Rattle.std.specs.Prelude.{Bool, true, false, ◌&&◌, cond, ℕ, zero, suc, ◌+◌, ◌-◌, ◌*◌, ◌^◌, min, max, ltb, leb, eqb, length, replicate}
use mathlib.Core.List.{List, [], ◌∷◌, ◌++◌, map, flat_map}
use Rattle.std.proofs.Math.Option
use Rattle.std.proofs.Math.Option.{Option, none, some}
use Rattle.model.specs.Outcome.{Outcome, accepted, ◌>>=◌, ◌>>◌, require}
use Rattle.model.specs.Lists.{top, count_holds, delivered}
use Rattle.model.specs.Fields.{field, bits, value, bytes, take_field, only_fill}

-- the largest gap minus 1 of the numbers behind `last`
unfoldable pub largest_gap : ℕ → List ℕ → ℕ
largest_gap last [] = 0
largest_gap last (x ∷ xs) = max (x - last - 1) (largest_gap x xs)

-- the first width from w on, of n more at most, that holds m
unfoldable pub width_from : ℕ → ℕ → ℕ → ℕ
width_from zero w m = w
width_from (suc n) w m = elim (ltb m (2 ^ w)) [ true ↦ w | false ↦ width_from n (suc w) m ]

-- "the least width that holds the largest gap minus 1, and at least 1"; a gap minus 1 has at most 32 bits
unfoldable pub width : ℕ → ℕ
width m = width_from 31 1 m

-- written: "for each later number its gap minus 1 in that width"
unfoldable pub gap_bits : ℕ → ℕ → List ℕ → List Bool
gap_bits w last [] = []
gap_bits w last (x ∷ xs) = field w (x - last - 1) ++ gap_bits w x xs

-- "if 1 or more, 32 bits of first number; if 2 or more, 5 bits of width minus 1, then" the gaps
unfoldable pub body_bits : List ℕ → List Bool
body_bits [] = []
body_bits (x ∷ []) = field 32 x
body_bits (x ∷ y ∷ ys) = let w = width (largest_gap x (y ∷ ys)) in field 32 x ++ (field 5 (w - 1) ++ gap_bits w x (y ∷ ys))

-- a form, where A is a list as it has it: the bits ahead of its numbers; off a source, how many follow and what list they make
pub record Form (A : Type 0) : Type 1 where
  pub numbers_of : A → List ℕ
  pub head_bits : A → List Bool
  pub take_head : {S : Type 0} → (ℕ → S → Outcome (ℕ × S)) → S → Outcome ((ℕ × (List ℕ → A)) × S)

-- 01's form: "Each list: 16 bits of count"
abbrev pub by_count : Form (List ℕ)
by_count = record { numbers_of = λ l. l; head_bits = λ l. field 16 (length l); take_head = λ take_bits source. take_bits 16 source >>= λ (count, rest). accepted ((count, λ l. l), rest) }

-- Two: a list as it comes, or that it did not: "The supplier now tells an empty list from one that failed to run"
pub data Supplied : Type 0 where
  undelivered : Supplied
  came : List ℕ → Supplied

-- its numbers, none where it did not come; and whether it came
unfoldable pub supplied_numbers : Supplied → List ℕ
supplied_numbers undelivered = []
supplied_numbers (came l) = l

unfoldable pub is_delivered : Supplied → Bool
is_delivered undelivered = false
is_delivered (came l) = true

unfoldable pub all_delivered : List Supplied → Bool
all_delivered [] = true
all_delivered (a ∷ ss) = is_delivered a && all_delivered ss

-- "In the new delivery form one bit precedes each count: 1 delivered, 0 not delivered, and after 0 nothing more for that
-- list"
unfoldable pub bit_and_count : Supplied → List Bool
bit_and_count undelivered = field 1 0
bit_and_count (came l) = field 1 1 ++ field 16 (length l)

unfoldable pub take_count : {S : Type 0} → (ℕ → S → Outcome (ℕ × S)) → ℕ → S → Outcome ((ℕ × (List ℕ → Supplied)) × S)
take_count take_bits zero source = accepted ((0, λ l. undelivered), source)
take_count take_bits (suc bit) source = take_bits 16 source >>= λ (count, rest). accepted ((count, came), rest)

abbrev pub by_bit : Form Supplied
by_bit = record { numbers_of = supplied_numbers; head_bits = bit_and_count; take_head = λ take_bits source. take_bits 1 source >>= λ (bit, rest). take_count take_bits bit rest }

-- a list, written
unfoldable pub list_bits : {A : Type 0} → Form A → A → List Bool
list_bits form l = form.head_bits l ++ body_bits (form.numbers_of l)

-- how many bits it takes: so many of its head, and those of so many numbers, with gaps of w bits
unfoldable pub list_size : ℕ → ℕ → ℕ → ℕ
list_size head n w = head + 32 * min n 1 + 5 * min (n - 1) 1 + w * (n - 1)

-- "Delivery: 6 bits, number of lists", then each list behind the one before it
unfoldable pub delivery_in : {A : Type 0} → Form A → List A → List ℕ
delivery_in form ls = bytes (field 6 (length ls) ++ flat_map (list_bits form) ls)

-- Reading, from a source off which `take-bits w` takes a field of w bits
module _ {S : Type 0} (take_bits : ℕ → S → Outcome (ℕ × S)) where
  -- the n numbers behind `last`, 8 at the gap that passes 4,294,967,295
  unfoldable pub read_gaps : ℕ → ℕ → ℕ → S → Outcome (List ℕ × S)
  read_gaps w zero last source = accepted ([], source)
  read_gaps w (suc n) last source = do
    (gap, source₁) ← take_bits w source
    require 8 (ltb (last + gap + 1) top)
    (xs, rest) ← read_gaps w n (last + gap + 1) source₁
    accepted ((last + gap + 1) ∷ xs, rest)

  -- the numbers of a list of so many, 9 after its gaps
  unfoldable pub read_body : ℕ → S → Outcome (List ℕ × S)
  read_body zero source = accepted ([], source)
  read_body (suc zero) source = take_bits 32 source >>= λ (first, rest). accepted (first ∷ [], rest)
  read_body (suc (suc n)) source = do
    (first, source₁) ← take_bits 32 source
    (less, source₂) ← take_bits 5 source₁
    (xs, rest) ← read_gaps (less + 1) (suc n) first source₂
    require 9 (eqb (less + 1) (width (largest_gap first xs)))
    accepted (first ∷ xs, rest)

  -- one list, with so much room for its numbers, if a row is lent: "6 for the numbers once its count is read"
  unfoldable pub read_list : {A : Type 0} → Form A → Option ℕ → S → Outcome (A × S)
  read_list form room source = do
    ((count, made), source₁) ← form.take_head take_bits source
    require 6 (elim room [ none ↦ true | some r ↦ leb count r ])
    (xs, rest) ← read_body count source₁
    accepted (made xs, rest)

  -- so many lists, each in the room that those before it have left
  unfoldable pub read_lists : {A : Type 0} → Form A → ℕ → Option ℕ → S → Outcome (List A × S)
  read_lists form zero room source = accepted ([], source)
  read_lists form (suc n) room source = do
    (l, source₁) ← read_list form room source
    (ls, rest) ← read_lists form n (Option.map (λ r. r - length (form.numbers_of l)) room) source₁
    accepted (l ∷ ls, rest)

-- "Order: 1 wherever bits run out; 7; 6 for the ends row; then for each list [..]; finally 5"
unfoldable pub read_in : {A : Type 0} → Form A → Option ℕ → Option ℕ → List ℕ → Outcome (List A)
read_in form numbers_room ends_room bs = do
  (n, bs₁) ← take_field 6 (bits bs)
  require 7 (count_holds n)
  require 6 (elim ends_room [ none ↦ true | some r ↦ leb n r ])
  (ls, rest) ← read_lists take_field form n numbers_room bs₁
  require 5 (only_fill rest)
  accepted ls

-- the same where no row is lent, so without 6
unfoldable pub read_stored : {A : Type 0} → Form A → List ℕ → Outcome (List A)
read_stored form bs = read_in form none none bs

-- "Otherwise only the new form is read and written"
unfoldable pub delivery : List Supplied → List ℕ
delivery ss = delivery_in by_bit ss

unfoldable pub read_delivery : ℕ → ℕ → List ℕ → Outcome (List Supplied)
read_delivery numbers_room ends_room bs = read_in by_bit (some numbers_room) (some ends_room) bs

-- "P9 and the table's delivery bytes stay the old form's"
unfoldable pub old_delivery : List (List ℕ) → List ℕ
old_delivery ls = delivery_in by_count ls

unfoldable pub read_old_delivery : ℕ → ℕ → List ℕ → Outcome (List (List ℕ))
read_old_delivery numbers_room ends_room bs = read_in by_count (some numbers_room) (some ends_room) bs

-- lists and a word, as they are supplied: from list k on
unfoldable pub supplied_from : ℕ → ℕ → List (List ℕ) → List Supplied
supplied_from word k [] = []
supplied_from word k (l ∷ ls) = cond (delivered word k) (came l) undelivered ∷ supplied_from word (suc k) ls

abbrev pub supplied : ℕ → List (List ℕ) → List Supplied
supplied word ls = supplied_from word 0 ls

-- and back: the word, "bits for lists that aren't there are 0 in every word handed back"
unfoldable pub word_of : List Supplied → ℕ
word_of ss = value (map is_delivered ss ++ replicate (32 - length ss) false)
