-- Request Six's promise, "Full and daily delivery made one", about what the calls send back.
use Rattle.std.specs.Prelude.{◌≡◌, Bool, true, false, ◌&&◌, ◌||◌, List, [], ◌∷◌, ℕ, ◌≤◌, ◌<◌, length}
use Rattle.model.specs.Outcome.{refused, accepted}
use Rattle.model.specs.Lists.{Numbers, ascending, delivered, Lent, lists_of, part_of}
use Rattle.model.specs.Expression.{Tree, leaf, difference, union, intersection, Members, one, more}
use Rattle.model.specs.Sets.{among, member}
use Rattle.model.specs.Run.{Start, Source, source_of}
use Rattle.model.specs.Fields.{Bytes}
use Rattle.model.specs.Delivery.{Supplied, by_bit, read_stored}
use Rattle.model.specs.Calls.{decode_delivery, encode_delivery, run_call}
use Rattle.model.specs.Demands.{wrote, left_lent, wrote_all}
use Rattle.model.specs.RequestTwo.{refused_by}
use Rattle.model.specs.Joined.{join_deliveries}

-- a delivery that decoding reads, into some rows, as these lists with their word
pub record ReadsAs (bytes : List ℕ) (l : Lent) : Type 0 where
  pub lent_numbers : List ℕ
  pub lent_ends : List ℕ
  pub accepts : (decode_delivery bytes lent_numbers lent_ends).number ≡ 0
  pub leaves : left_lent (decode_delivery bytes lent_numbers lent_ends) ≡ l

-- the union of two lists: the numbers of either, ascending, so each once
pub record Union (a b l : List ℕ) : Type 0 where
  pub ascends : ascending l ≡ true
  pub either : (x : ℕ) → among x l ≡ among x a || among x b

-- the lists of the request, j, of a full delivery's and a daily one's, equally many: "list k of the outcome is the union of both
-- lists k; a list that came in one only is taken from that one; one that came in neither is undelivered"; its word has a 1 where either has
pub record Join (f d j : Lent) : Type 0 where
  pub lists : List (List ℕ)
  pub accepts : lists_of j ≡ accepted lists
  pub as_full : length j.ends ≡ length f.ends
  pub as_daily : length j.ends ≡ length d.ends
  pub unions : (k : ℕ) → Union (part_of f k) (part_of d k) (part_of j k)
  pub word : (k : ℕ) → k < length j.ends → delivered j.word k ≡ delivered f.word k || delivered d.word k
  pub full_only : (k : ℕ) → delivered d.word k ≡ false → part_of j k ≡ part_of f k
  pub daily_only : (k : ℕ) → delivered f.word k ≡ false → part_of j k ≡ part_of d k
  pub neither : (k : ℕ) → k < length j.ends → delivered f.word k ≡ false → delivered d.word k ≡ false → (delivered j.word k ≡ false) × (part_of j k ≡ [])

-- a list of which the union is over 65,535, by its own length
pub record TooLong (f d : Lent) : Type 0 where
  pub list : ℕ
  pub joined : List ℕ
  pub is_union : Union (part_of f list) (part_of d list) joined
  pub long : 65535 < length joined

-- "An expression without a difference"
unfoldable mutual
  pub no_difference : Tree → Bool
  no_difference (leaf k) = true
  no_difference (difference s t) = false
  no_difference (union ts) = no_differences ts
  no_difference (intersection ts) = no_differences ts

  pub no_differences : Members → Bool
  no_differences (one t) = no_difference t
  no_differences (more t ts) = no_difference t && no_differences ts

-- over the outcome's lists j it is accepted as over an input's i, in every run, and every member there is a member here
pub record AtLeast (i j : Lent) (expression : List ℕ) (s : Source) : Type 0 where
  pub lists : List (List ℕ)
  pub accepts : source_of j expression ≡ accepted (record { lists = lists; tree = s.tree })
  pub runs : (start : Start) (codes ds lent : List ℕ) → (run_call i expression start codes ds lent).number ≡ 0 → (run_call j expression start codes ds lent).number ≡ 0
  pub members : (x : ℕ) → member s.lists s.tree x ≡ true → member lists s.tree x ≡ true

abbrev pub NothingLost : Lent → Lent → Type 0
NothingLost i j = (expression : List ℕ) (s : Source) → source_of i expression ≡ accepted s → no_difference s.tree ≡ true → AtLeast i j expression s

-- two deliveries that are read as lists f and d
module _ (full daily : List ℕ) (f d : Lent) where
  pub record Joins : Type 0 where
    -- "The outcome is written in Two's form and reads back as exactly those lists": always, into rows of 32 ends and 32 times 65,535
    -- numbers
    pub accepted_always : (lent lent_numbers lent_ends : List ℕ) → let made = join_deliveries full daily lent in made.number ≡ 0 → 2097120 ≤ length lent_numbers → 32 ≤ length lent_ends
        → (decode_delivery (wrote made) lent_numbers lent_ends).number ≡ 0
    pub reads_back : (lent : List ℕ) (j : Lent) → let made = join_deliveries full daily lent in made.number ≡ 0 → ReadsAs (wrote made) j → Join f d j
    -- the one byte string of those lists: what encoding them sends back, 6 where that says so
    pub one_string : (j : Lent) (lent : List ℕ) → Numbers j.numbers → Join f d j → join_deliveries full daily lent ≡ encode_delivery j lent
    -- "An expression without a difference, accepted over either input, denotes over the outcome at least what it denotes there"
    pub of_full : (lent : List ℕ) (j : Lent) → let made = join_deliveries full daily lent in made.number ≡ 0 → ReadsAs (wrote made) j → NothingLost f j
    pub of_daily : (lent : List ℕ) (j : Lent) → let made = join_deliveries full daily lent in made.number ≡ 0 → ReadsAs (wrote made) j → NothingLost d j
    -- "(20 differing numbers of lists; 21 a joined list over 65,535; both before 6.)": there, and only there
    pub refused_20 : (lent : List ℕ) → (length f.ends ≡ length d.ends → ⊥) → join_deliveries full daily lent ≡ refused_by 20 1 (lent ∷ [])
    pub only_20 : (lent : List ℕ) → (join_deliveries full daily lent).number ≡ 20 → length f.ends ≡ length d.ends → ⊥
    pub refused_21 : (lent : List ℕ) → length f.ends ≡ length d.ends → TooLong f d → join_deliveries full daily lent ≡ refused_by 21 1 (lent ∷ [])
    pub only_21 : (lent : List ℕ) → (join_deliveries full daily lent).number ≡ 21 → TooLong f d
    -- 6 where the outcome is longer than the lent bytes, which is written whole into any that suffice; and no other number
    pub only_6 : (lent wide : List ℕ) → (join_deliveries full daily lent).number ≡ 6 → (join_deliveries full daily wide).number ≡ 0 → length lent < length (wrote (join_deliveries full daily wide))
    pub refused_6 : (lent wide : List ℕ) → let made = join_deliveries full daily wide in made.number ≡ 0 → length lent < length (wrote made) → join_deliveries full daily lent ≡ refused_by 6 1 (lent ∷ [])
    pub past_6 : (lent wide : List ℕ) → let made = join_deliveries full daily wide in made.number ≡ 0 → length (wrote made) ≤ length lent → join_deliveries full daily lent ≡ wrote_all (wrote made) lent
    pub no_other : (lent : List ℕ) → length f.ends ≡ length d.ends → (TooLong f d → ⊥) → 8388569 ≤ length lent → (join_deliveries full daily lent).number ≡ 0
    -- joined either way round they are the same
    pub either_way : (lent : List ℕ) → join_deliveries full daily lent ≡ join_deliveries daily full lent

pub record RequestSix : Type 0 where
  pub joins : (full daily : List ℕ) (f d : Lent) → ReadsAs full f → ReadsAs daily d → Joins full daily f d
  -- "pass the reading's tests but 6 first, the full one first"
  pub refused_full : (full daily lent : List ℕ) (n : ℕ) → read_stored by_bit full ≡ refused n → join_deliveries full daily lent ≡ refused_by n 1 (lent ∷ [])
  pub refused_daily : (full daily lent : List ℕ) (ss : List Supplied) (n : ℕ) → read_stored by_bit full ≡ accepted ss → read_stored by_bit daily ≡ refused n
      → join_deliveries full daily lent ≡ refused_by n 1 (lent ∷ [])
  pub never_6 : (bytes : List ℕ) → read_stored by_bit bytes ≡ refused 6 → ⊥
  -- a delivery joined with itself is the bytes that it was
  pub with_itself : (full : List ℕ) (f : Lent) → Bytes full → ReadsAs full f → (lent : List ℕ) → length full ≤ length lent → join_deliveries full full lent ≡ wrote_all full lent
