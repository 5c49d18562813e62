-- Request Two's promise, "A list that didn't come", about what the calls send back.
use Rattle.std.specs.Prelude.{◌≡◌, Bool, true, false, ◌&&◌, List, [], ◌∷◌, ◌++◌, map, ℕ, ◌≤◌, ◌<◌, length, get_or, replicate}
use Rattle.model.specs.Outcome.{refused, accepted, Sent}
use Rattle.model.specs.Lists.{Numbers, count_holds, delivered, Lent, lend, lists_of, span_of}
use Rattle.model.specs.Expression.{Tree, leaf, difference, union, intersection, Members, one, more}
use Rattle.model.specs.Sets.{all_numbers}
use Rattle.model.specs.Run.{Start, Source, source_of}
use Rattle.model.specs.Fields.{Bytes}
use Rattle.model.specs.Forms.{there, read_row, read_packed}
use Rattle.model.specs.Delivery.{by_count, Supplied, came, supplied_numbers, all_delivered, by_bit, read_stored, delivery, read_delivery, old_delivery, word_of}
use Rattle.model.specs.Calls.{run_size, unpack_expression, pack_expression, decode_delivery, encode_delivery, upgrade_delivery, downgrade_delivery, run_call}
use Rattle.model.specs.Program.{halves, listing_of, listing}
use Rattle.model.specs.Demands.{wrote, left_lent, wrote_all, SecondDemand, ThirdDemand}
use Rattle.model.specs.Update.{Change, update}

-- what a refusal sends back, with so many other parts and these lent rows
abbrev pub refused_by : ℕ → ℕ → List (List ℕ) → Sent
refused_by n parts rows = record { number = n; parts = replicate parts 0; rows = rows }

-- the word with which every list was delivered
abbrev pub every_bit : ℕ
every_bit = 4294967295

-- words that differ in bits of lists that are not there, of so many, and in no others
abbrev pub SameThere : ℕ → ℕ → ℕ → Type 0
SameThere lists word other = (k : ℕ) → k < lists → delivered word k ≡ delivered other k

-- every list that an expression names was delivered
unfoldable mutual
  pub all_came : ℕ → Tree → Bool
  all_came word (leaf k) = delivered word k
  all_came word (difference s t) = all_came word s && all_came word t
  all_came word (union ts) = all_came_each word ts
  all_came word (intersection ts) = all_came_each word ts

  pub all_came_each : ℕ → Members → Bool
  all_came_each word (one t) = all_came word t
  all_came_each word (more t ts) = all_came word t && all_came_each word ts

-- a list of those that are there, so many, that was not delivered
pub record Undelivered (lists word : ℕ) : Type 0 where
  pub list : ℕ
  pub is_there : list < lists
  pub not_delivered : delivered word list ≡ false

-- "An undelivered list has equal start and end; a word that contradicts this is sent back as 10", in every call that takes
-- lists; the part of a list is then the empty one at the start
pub record Contradicted (l : Lent) : Type 0 where
  pub tested : lists_of l ≡ refused 10
  pub part : (k : ℕ) → span_of l k ≡ record { start = 0; size = 0 }
  pub written : (lent : List ℕ) → encode_delivery l lent ≡ refused_by 10 1 (lent ∷ [])
  pub run : (expression : List ℕ) (start : Start) (codes ds lent : List ℕ) → run_call l expression start codes ds lent ≡ refused_by 10 run_size (lent ∷ [])
  pub updated : (expression : List ℕ) (c : Change) (kept : List ℕ) (count : ℕ) → update l expression c kept count ≡ refused_by 10 0 (l.numbers ∷ l.ends ∷ kept ∷ (count ∷ []) ∷ [])

-- bits of lists that are not there are "ignored elsewhere": each call that takes lists sends back the same
pub record Ignored (l m : Lent) : Type 0 where
  pub tested : lists_of l ≡ lists_of m
  pub part : (k : ℕ) → span_of l k ≡ span_of m k
  pub written : (lent : List ℕ) → encode_delivery l lent ≡ encode_delivery m lent
  pub run : (expression : List ℕ) (start : Start) (codes ds lent : List ℕ) → run_call l expression start codes ds lent ≡ run_call m expression start codes ds lent
  pub updated : (expression : List ℕ) (c : Change) (kept : List ℕ) (count : ℕ) → update l expression c kept count ≡ update m expression c kept count

-- an expression naming an undelivered list, over accepted lists: 18, and never a reply
pub record NotAnswered (l : Lent) (expression : List ℕ) : Type 0 where
  pub run : (start : Start) (codes ds lent : List ℕ) → run_call l expression start codes ds lent ≡ refused_by 18 run_size (lent ∷ [])
  pub updated : (c : Change) (kept : List ℕ) (count : ℕ) → update l expression c kept count ≡ refused_by 18 0 (l.numbers ∷ l.ends ∷ kept ∷ (count ∷ []) ∷ [])

pub record RequestTwo : Type 0 where
  -- "tells an empty list from one that failed to run": what is written from lists and word reads back as those lists and that
  -- word, accepted bytes are written back the same, and no two byte strings mean one thing
  pub stored_forms : SecondDemand
  pub one_meaning : (bytes others lent_numbers lent_ends : List ℕ) → Bytes bytes → Bytes others → (decode_delivery bytes lent_numbers lent_ends).number ≡ 0
      → decode_delivery bytes lent_numbers lent_ends ≡ decode_delivery others lent_numbers lent_ends → bytes ≡ others
  pub told_apart : (numbers ends : List ℕ) (word other k : ℕ) (lent : List ℕ) → Numbers numbers → k < length ends → delivered word k ≡ true → delivered other k ≡ false
      → (encode_delivery (lend numbers ends word) lent).number ≡ 0 → (encode_delivery (lend numbers ends other) lent).number ≡ 0
      → wrote (encode_delivery (lend numbers ends word) lent) ≡ wrote (encode_delivery (lend numbers ends other) lent) → ⊥
  -- "bits for lists that aren't there are 0 in every word handed back, ignored elsewhere"
  pub handed_back : (bytes lent_numbers lent_ends : List ℕ) (k : ℕ) → let s = decode_delivery bytes lent_numbers lent_ends in get_or s.parts 1 0 ≤ k → delivered (get_or s.parts 0 0) k ≡ false
  pub ignored : (l : Lent) (other : ℕ) → SameThere (length l.ends) l.word other → Ignored l (lend l.numbers l.ends other)
  pub ignored_packed : (bytes : List ℕ) (lists word other : ℕ) (lent : List ℕ) → SameThere lists word other → unpack_expression bytes lists word lent ≡ unpack_expression bytes lists other lent
  pub ignored_row : (row : List ℕ) (lists word other : ℕ) (lent : List ℕ) → SameThere lists word other → pack_expression row lists word lent ≡ pack_expression row lists other lent
  -- "An undelivered list has equal start and end"; it has the empty part at its own place
  pub contradicted : (l : Lent) → count_holds (length l.ends) ≡ true → (k : ℕ) → k < length l.ends → delivered l.word k ≡ false
      → (get_or (0 ∷ l.ends) k 0 ≡ get_or l.ends k 0 → ⊥) → Contradicted l
  pub own_place : (l : Lent) (ls : List (List ℕ)) → lists_of l ≡ accepted ls → (k : ℕ) → k < length l.ends → delivered l.word k ≡ false
      → span_of l k ≡ record { start = get_or (0 ∷ l.ends) k 0; size = 0 }
  -- "Stored deliveries move to the new form, all lists delivered, and back; there and back gives the same bytes"
  pub upgraded : (bytes lent back : List ℕ) → Bytes bytes → (upgrade_delivery bytes lent).number ≡ 0 → length bytes ≤ length back
      → downgrade_delivery (wrote (upgrade_delivery bytes lent)) back ≡ wrote_all bytes back
  pub downgraded : (bytes lent back : List ℕ) → Bytes bytes → (downgrade_delivery bytes lent).number ≡ 0 → length bytes ≤ length back
      → upgrade_delivery (wrote (downgrade_delivery bytes lent)) back ≡ wrote_all bytes back
  -- decoding the one gives the lists of the other, all delivered
  pub same_lists : (bytes lent lent_numbers lent_ends : List ℕ) → (upgrade_delivery bytes lent).number ≡ 0 → (ls : List (List ℕ)) → read_stored by_count bytes ≡ accepted ls
      → length (all_numbers ls) ≤ length lent_numbers → length ls ≤ length lent_ends
      → let s = decode_delivery (wrote (upgrade_delivery bytes lent)) lent_numbers lent_ends in (s.number ≡ 0) × (lists_of (left_lent s) ≡ accepted ls) × ((k : ℕ) → k < length ls → delivered (left_lent s).word k ≡ true)
  pub same_lists_back : (bytes lent lent_numbers lent_ends : List ℕ) → (downgrade_delivery bytes lent).number ≡ 0 → (decode_delivery bytes lent_numbers lent_ends).number ≡ 0
      → read_stored by_count (wrote (downgrade_delivery bytes lent)) ≡ lists_of (left_lent (decode_delivery bytes lent_numbers lent_ends))
  -- "both moves make the reading's own tests bar 6 first, and 6 last": what the reading refuses, what is too long for the lent bytes,
  -- and what is neither (19 below)
  pub upgrade_tests : (bytes lent : List ℕ) (n : ℕ) → read_stored by_count bytes ≡ refused n → upgrade_delivery bytes lent ≡ refused_by n 1 (lent ∷ [])
  pub upgrade_short : (bytes lent : List ℕ) (ls : List (List ℕ)) → read_stored by_count bytes ≡ accepted ls → length lent < length (delivery (map came ls)) → upgrade_delivery bytes lent ≡ refused_by 6 1 (lent ∷ [])
  pub upgrade_moves : (bytes lent : List ℕ) (ls : List (List ℕ)) → read_stored by_count bytes ≡ accepted ls → length (delivery (map came ls)) ≤ length lent
      → upgrade_delivery bytes lent ≡ wrote_all (delivery (map came ls)) lent
  pub downgrade_tests : (bytes lent : List ℕ) (n : ℕ) → read_stored by_bit bytes ≡ refused n → downgrade_delivery bytes lent ≡ refused_by n 1 (lent ∷ [])
  pub downgrade_short : (bytes lent : List ℕ) (ss : List Supplied) → read_stored by_bit bytes ≡ accepted ss → all_delivered ss ≡ true → length lent < length (old_delivery (map supplied_numbers ss))
      → downgrade_delivery bytes lent ≡ refused_by 6 1 (lent ∷ [])
  pub downgrade_moves : (bytes lent : List ℕ) (ss : List Supplied) → read_stored by_bit bytes ≡ accepted ss → all_delivered ss ≡ true → length (old_delivery (map supplied_numbers ss)) ≤ length lent
      → downgrade_delivery bytes lent ≡ wrote_all (old_delivery (map supplied_numbers ss)) lent
  -- "Replies are promised for expressions whose lists all came": demand 3; what it speaks of names only such lists, and every
  -- expression that names only such lists is spoken of, whatever else did not come
  pub promised : ThirdDemand
  pub came_answered : (l : Lent) (ls : List (List ℕ)) (expression : List ℕ) (t : Tree) → lists_of l ≡ accepted ls → read_packed (there (length l.ends) every_bit) expression ≡ accepted t
      → all_came l.word t ≡ true → source_of l expression ≡ accepted (record { lists = ls; tree = t })
  pub all_came_there : (l : Lent) (expression : List ℕ) (s : Source) → source_of l expression ≡ accepted s → all_came l.word s.tree ≡ true
  -- "One's call gives 18 for an undelivered list k too, straight after its 4"
  pub list_18 : (l : Lent) (expression : List ℕ) (s : Source) → source_of l expression ≡ accepted s → (c : Change) (kept : List ℕ) (count : ℕ) → c.list < length l.ends → delivered l.word c.list ≡ false
      → update l expression c kept count ≡ refused_by 18 0 (l.numbers ∷ l.ends ∷ kept ∷ (count ∷ []) ∷ [])
  -- "The program `members` reads the new form from then on": it lists what its expression denotes over the lists that it reads, if
  -- all that it names came
  pub program : (input expression bytes : List ℕ) (ss : List Supplied) (t : Tree) → length input ≤ 65535 → halves input ≡ accepted (expression, bytes) → read_delivery 4096 32 bytes ≡ accepted ss
      → read_packed (there (length ss) every_bit) expression ≡ accepted t
      → listing input ≡ elim (all_came (word_of ss) t) [ true ↦ accepted (listing_of (map supplied_numbers ss) t) | false ↦ refused 18 ]
  -- "18 an expression naming an undelivered list": bytes that are an expression where every list was delivered, and that name one
  -- that was not, are refused by 18; the others read as they did
  pub refused_18 : (l : Lent) (ls : List (List ℕ)) (expression : List ℕ) (t : Tree) → lists_of l ≡ accepted ls → read_packed (there (length l.ends) every_bit) expression ≡ accepted t
      → all_came l.word t ≡ false → NotAnswered l expression
  pub packed_18 : (bytes : List ℕ) (lists word : ℕ) (lent : List ℕ) (t : Tree) → count_holds lists ≡ true → read_packed (there lists every_bit) bytes ≡ accepted t
      → unpack_expression bytes lists word lent ≡ elim (all_came word t) [ true ↦ unpack_expression bytes lists every_bit lent | false ↦ refused_by 18 1 (lent ∷ []) ]
  pub row_18 : (row : List ℕ) (lists word : ℕ) (lent : List ℕ) (t : Tree) → count_holds lists ≡ true → read_row (there lists every_bit) row ≡ accepted t
      → pack_expression row lists word lent ≡ elim (all_came word t) [ true ↦ pack_expression row lists every_bit lent | false ↦ refused_by 18 1 (lent ∷ []) ]
  -- "straight after 4", so at the node, and not behind the expression: whatever stands behind it
  pub packed_18_there : (bytes behind : List ℕ) (lists word : ℕ) (lent : List ℕ) (t : Tree) → count_holds lists ≡ true → read_packed (there lists every_bit) bytes ≡ accepted t → all_came word t ≡ false
      → unpack_expression (bytes ++ behind) lists word lent ≡ refused_by 18 1 (lent ∷ [])
  pub row_18_there : (row behind : List ℕ) (lists word : ℕ) (lent : List ℕ) (t : Tree) → count_holds lists ≡ true → read_row (there lists every_bit) row ≡ accepted t → all_came word t ≡ false
      → pack_expression (row ++ behind) lists word lent ≡ refused_by 18 1 (lent ∷ [])
  -- under its condition only: where every list that is there was delivered, no call says 18
  pub only_18_packed : (bytes : List ℕ) (lists word : ℕ) (lent : List ℕ) → (unpack_expression bytes lists word lent).number ≡ 18 → Undelivered lists word
  pub only_18_row : (row : List ℕ) (lists word : ℕ) (lent : List ℕ) → (pack_expression row lists word lent).number ≡ 18 → Undelivered lists word
  pub only_18_run : (l : Lent) (expression : List ℕ) (start : Start) (codes ds lent : List ℕ) → (run_call l expression start codes ds lent).number ≡ 18 → Undelivered (length l.ends) l.word
  pub only_18_update : (l : Lent) (expression : List ℕ) (c : Change) (kept : List ℕ) (count : ℕ) → (update l expression c kept count).number ≡ 18 → Undelivered (length l.ends) l.word
  -- "19 moving back with any list undelivered": exactly there, ahead of 6
  pub refused_19 : (bytes lent : List ℕ) (ss : List Supplied) → read_stored by_bit bytes ≡ accepted ss → all_delivered ss ≡ false
      → downgrade_delivery bytes lent ≡ refused_by 19 1 (lent ∷ [])
  pub past_19 : (bytes lent : List ℕ) (ss : List Supplied) → read_stored by_bit bytes ≡ accepted ss → all_delivered ss ≡ true → (downgrade_delivery bytes lent).number ≡ 19 → ⊥
