-- What the theorems speak of; demand 2's stored forms, and demand 3 as one statement.
use Rattle.std.specs.Prelude.{◌≡◌, true, false, ◌&&◌, List, [], ◌∷◌, ◌++◌, map, ℕ, suc, ◌+◌, ◌-◌, ◌≤◌, leb, length, get_or, take, drop, replicate}
use Rattle.model.specs.declared.Reply.TheVariants.{Member, Finished}
use Rattle.model.specs.Outcome.{accepted, Sent}
use Rattle.model.specs.Lists.{Numbers, ascending, Lent, lend, lists_of}
use Rattle.model.specs.Expression.{Tree, leaf, difference, union, intersection, Members, one, more, size, depth, count}
use Rattle.model.specs.Sets.{among, member, all_numbers, members}
use Rattle.model.specs.Machine.{calls, machine, encode}
use Rattle.model.specs.Run.{Start, starting, Low, Result, run, Source, named_in, source_of, run_of}
use Rattle.model.specs.Fields.{Bytes, field, value}
use Rattle.model.specs.Forms.{LeafTest, read_packed}
use Rattle.model.specs.Delivery.{Supplied, supplied_numbers, read_delivery}
use Rattle.model.specs.Calls.{laid_out, unpack_expression, pack_expression, decode_delivery, encode_delivery, run_parts, run_call}
use Rattle.model.specs.Program.{halves, Listing}

-- of lists of these lengths, for each node in expression order that of its list; 0 at an operator
unfoldable mutual
  pub lengths : List ℕ → Tree → List ℕ
  lengths ns (leaf k) = get_or ns k 0 ∷ []
  lengths ns (difference s t) = 0 ∷ (lengths ns s ++ lengths ns t)
  lengths ns (union ts) = 0 ∷ lengths_all ns ts
  lengths ns (intersection ts) = 0 ∷ lengths_all ns ts

  pub lengths_all : List ℕ → Members → List ℕ
  lengths_all ns (one t) = lengths ns t
  lengths_all ns (more t ts) = lengths ns t ++ lengths_all ns ts

-- the sum of a row
unfoldable pub sum : List ℕ → ℕ
sum [] = 0
sum (n ∷ ns) = n + sum ns

-- every list number may be named, and every union and intersection has 1 to 8 member nodes
abbrev mutual
  pub Named : LeafTest → Tree → Type 0
  Named test (leaf k) = test k ≡ accepted tt
  Named test (difference s t) = Named test s × Named test t
  Named test (union ts) = NamedAll test ts × (count ts ≤ 8)
  Named test (intersection ts) = NamedAll test ts × (count ts ≤ 8)

  pub NamedAll : LeafTest → Members → Type 0
  NamedAll test (one t) = Named test t
  NamedAll test (more t ts) = Named test t × NamedAll test ts

-- "An expression is a tree of at most 48 nodes and depth 12"
pub record Expression (test : LeafTest) (t : Tree) : Type 0 where
  pub nodes : size t ≤ 48
  pub levels : depth t ≤ 12
  pub named : Named test t

-- ---- demand 2, the stored forms, about the calls: "What is written from a row or from lists reads back the same, and
-- accepted bytes are written back the same"

-- what a call has written into its first lent row, and the lists that reading a delivery has left in its two
abbrev pub wrote : Sent → List ℕ
wrote s = take (get_or s.parts 0 0) (get_or s.rows 0 [])

abbrev pub left_lent : Sent → Lent
left_lent s = lend (get_or s.rows 0 []) (take (get_or s.parts 1 0) (get_or s.rows 1 [])) (get_or s.parts 0 0)

-- a word in the bits of the lists that are there, so many, and 0 in all others
abbrev pub word_there : ℕ → ℕ → ℕ
word_there lists word = value (take lists (field 32 word) ++ replicate (32 - lists) false)

-- a call that has written these elements into its one lent row, and nothing behind them
abbrev pub wrote_all : List ℕ → List ℕ → Sent
wrote_all xs lent = record { number = 0; parts = length xs ∷ []; rows = (xs ++ drop (length xs) lent) ∷ [] }

pub record SecondDemand : Type 0 where
  -- an expression packed and unpacked again, into any row that is long enough, is the row that it was
  pub row_reads_back : (row : List ℕ) (lists word : ℕ) (bytes lent : List ℕ) → (pack_expression row lists word bytes).number ≡ 0 → length row ≤ length lent
      → unpack_expression (wrote (pack_expression row lists word bytes)) lists word lent ≡ wrote_all row lent
  -- bytes unpacked and packed again are the bytes that they were
  pub packed_written_back : (bytes : List ℕ) (lists word : ℕ) (row lent : List ℕ) → Bytes bytes → (unpack_expression bytes lists word row).number ≡ 0 → length bytes ≤ length lent
      → pack_expression (wrote (unpack_expression bytes lists word row)) lists word lent ≡ wrote_all bytes lent
  -- lists written as a delivery and read again, into rows that are long enough, are the lists that they were, and the word
  -- that it was where they are
  pub lists_read_back : (l : Lent) (bytes lent_numbers lent_ends : List ℕ) → Numbers l.numbers → (ls : List (List ℕ)) → lists_of l ≡ accepted ls
      → (encode_delivery l bytes).number ≡ 0 → length (all_numbers ls) ≤ length lent_numbers → length ls ≤ length lent_ends
      → let s = decode_delivery (wrote (encode_delivery l bytes)) lent_numbers lent_ends in (s.number ≡ 0) × (lists_of (left_lent s) ≡ accepted ls) × ((left_lent s).word ≡ word_there (length ls) l.word)
  -- a delivery read and written again is the bytes that it was
  pub delivery_written_back : (bytes lent_numbers lent_ends lent : List ℕ) → Bytes bytes → (decode_delivery bytes lent_numbers lent_ends).number ≡ 0 → length bytes ≤ length lent
      → encode_delivery (left_lent (decode_delivery bytes lent_numbers lent_ends)) lent ≡ wrote_all bytes lent

-- ---- demand 3, about the call, in the customer's sentences, over any lists and expression that nobody changes meanwhile

-- a call that has had this result: its parts, and in its lent row the replies and nothing behind them
abbrev pub ran_all : Result → List ℕ → Sent
ran_all r lent = record { number = 0; parts = run_parts r.moves r.places r.last; rows = (map encode r.replies ++ drop (length r.replies) lent) ∷ [] }

module _ (l : Lent) (expression : List ℕ) where
  -- one run, accepted; the call sends back its result. "In every one of these runs the reported reader moves and places
  -- equal those of the steps in document 01, and the moves never exceed the summed lengths of the lists at the
  -- expression's leaves"; a place never passes its list's end, and is 0 at operators and unused nodes. The steps are those
  -- of 01 as request Five changed them, and `summed` is what it left of 01's "Moves are the sum of the places": they are
  -- never above it
  pub record SoundRun (s : Source) (start : Start) (codes ds lent : List ℕ) (r : Result) : Type 0 where
    pub accepts : run_of l expression start codes ds (length lent) ≡ accepted r
    pub sends : run_call l expression start codes ds lent ≡ ran_all r lent
    pub by_the_steps : r ≡ run s.lists s.tree start (calls codes ds)
    pub bounded : r.moves ≤ sum (lengths (map length s.lists) s.tree)
    pub summed : r.moves ≤ sum r.places
    pub places : length r.places ≡ 48
    pub inside : (i : ℕ) → get_or r.places i 0 ≤ get_or (lengths (map length s.lists) s.tree) i 0

  -- "Next calls from that bookmark then hand out every member at or above it, ascending, exactly once, and after that
  -- reply finished": n nexts, for every n
  pub record Drawn (s : Source) (start : Start) : Type 0 where
    pub members : List ℕ
    pub ascend : ascending members ≡ true
    pub every : (x : ℕ) → among x members ≡ leb start.bookmark x && member s.lists s.tree x
    pub result : ℕ → Result
    pub ran : (n : ℕ) (ds : List ℕ) → length ds ≡ n → (lent : List ℕ) → n ≤ length lent → SoundRun s start (replicate n 0) ds lent (result n)
    pub replies : (n : ℕ) → (result n).replies ≡ map Member (take n members) ++ replicate (n - length members) Finished

  -- "Wherever between its calls, or at either end, such a list is broken off, the rest is taken up from the bookmark
  -- handed back; both parts' replies, one after the other, and the last bookmark equal those of the list unbroken": after
  -- k calls, each part into a reply row of its own
  pub record Broken (s : Source) (start : Start) (codes ds : List ℕ) (r : Result) (k : ℕ) : Type 0 where
    pub first : Result
    pub first_ran : (lent : List ℕ) → length (take k codes) ≤ length lent → SoundRun s start (take k codes) (take k ds) lent first
    pub second : Result
    pub second_ran : (lent : List ℕ) → length (drop k codes) ≤ length lent → SoundRun s first.last (drop k codes) (drop k ds) lent second
    pub replies : r.replies ≡ first.replies ++ second.replies
    pub last : r.last ≡ second.last

  -- demand 3 of one list of calls: it is accepted into every reply row that is long enough, "after it the replies, in
  -- order, and the bookmark are exactly those of document 01's plain machine", and the rest
  pub record DemandThree (s : Source) (start : Start) (codes ds : List ℕ) : Type 0 where
    pub result : Result
    pub ran : (lent : List ℕ) → length codes ≤ length lent → SoundRun s start codes ds lent result
    pub plain : (result.replies, result.last.bookmark) ≡ machine (members s.lists s.tree) start.bookmark (calls codes ds)
    pub drawn : Drawn s result.last
    pub broken : (k : ℕ) → Broken s start codes ds result k

  -- demand 3 of what one call has sent back: that is the result of which the demand speaks, over the row that it was lent
  pub record MeetsThird (s : Source) (start : Start) (codes ds lent : List ℕ) (back : Sent) : Type 0 where
    pub demand : DemandThree s start codes ds
    pub is_result : back ≡ ran_all demand.result lent

-- the demand: "For every list of next, at-or-past, past and check calls, unknown codes included, from any accepted
-- bookmark and over any accepted lists and expression". 32-bit rows hold numbers; lists, expression and bookmark are
-- accepted by the tests ahead of 13; 13 asks for as many numbers as codes
abbrev pub ThirdDemand : Type 0
ThirdDemand = (l : Lent) (expression : List ℕ) → Numbers l.numbers → (s : Source) → source_of l expression ≡ accepted s
    → (start : Start) → Low start → (codes ds : List ℕ) → Numbers ds → length codes ≡ length ds → DemandThree l expression s start codes ds

-- the demand of one call, for its contract: if the tests ahead of 13 accept what it was given, and 13 as well, then it has
-- sent back the result that the demand asks for
abbrev pub ThirdDemandMet : Lent → List ℕ → Start → List ℕ → List ℕ → List ℕ → Sent → Type 0
ThirdDemandMet l expression start codes ds lent back = (s : Source) → source_of l expression ≡ accepted s → Low start
    → length codes ≡ length ds → length codes ≤ length lent → MeetsThird l expression s start codes ds lent back

-- ---- the program: every member of the delivered lists' expression, ascending, and the moves of "one run from bookmark
-- 0, whose only finished is its last reply", a next for each member and one more, over these lists laid out
pub record Listed (input : List ℕ) (l : Listing) : Type 0 where
  pub stored : List ℕ × List ℕ
  pub is_stored : halves input ≡ accepted stored
  pub source : Source
  pub supplied : List Supplied
  pub is_supplied : read_delivery 4096 32 stored.1 ≡ accepted supplied
  pub is_lists : source.lists ≡ map supplied_numbers supplied
  pub is_tree : read_packed (named_in (laid_out supplied)) stored.0 ≡ accepted source.tree
  pub ascend : ascending l.members ≡ true
  pub every : (x : ℕ) → among x l.members ≡ member source.lists source.tree x
  pub result : Result
  pub ran : (ds : List ℕ) → length ds ≡ suc (length l.members) → (lent : List ℕ) → length ds ≤ length lent
      → SoundRun (laid_out supplied) stored.0 source (starting 0) (replicate (length ds) 0) ds lent result
  pub replies : result.replies ≡ map Member l.members ++ (Finished ∷ [])
  pub moved : result.moves ≡ l.moves
