-- Lists of a delivery that are drawn from number by number: what is left of them. All of it has been walked through, so what each
-- definition says where something does not read is never asked for.
use Rattle.std.specs.Prelude.{◌≡◌, Bool, true, false, ◌||◌, List, [], ◌∷◌, ℕ, ◌+◌, ◌*◌, ◌^◌, ◌≤◌, ◌<◌, ltb}
use Rattle.std.proofs.Math.Option.{none}
use Rattle.model.specs.Outcome.{Outcome, refused, accepted}
use Rattle.model.specs.Lists.{top}
use Rattle.model.specs.Delivery.{Supplied, undelivered, supplied_numbers, is_delivered, by_bit, read_gaps, read_list}
use Rattle.model.specs.Joined.{list_union, join_list}
use Rattle.fields.specs.Positions.{take_at}
use Rattle.walk.specs.Answers.{only}
use Rattle.join.specs.declared.Stream.{Stream}
use Rattle.join.specs.declared.Opened.{Opened}
use Rattle.join.specs.declared.Pair.{Pair}
use Rattle.join.specs.declared.Places.{Places}
use Rattle.join.specs.declared.Both.{Both}
use Rattle.join.specs.declared.Drawn.{Drawn}

-- what a reading gives, and the position behind it, where it reads
unfoldable pub value_read : {A : Type 0} → A → Outcome (A × ℕ) → A
value_read other (refused n) = other
value_read other (accepted r) = r.0

unfoldable pub end_read : {A : Type 0} → Outcome (A × ℕ) → ℕ
end_read (refused n) = 0
end_read (accepted r) = r.1

abbrev pub Reads : {A : Type 0} → A → Outcome (A × ℕ) → Type 0
Reads other o = o ≡ accepted (value_read other o, end_read o)

-- ---- one stream

-- a stream that has no number left
abbrev pub ended_at : ℕ → Stream
ended_at at = record { number = top; left = 0; width = 0; next = at }

-- the numbers that are still to be drawn: its number, if it has one, and those behind it
unfoldable pub coming : List ℕ → Stream → Outcome (List ℕ × ℕ)
coming s st = elim (ltb st.number top) [ true ↦ only (λ xs. st.number ∷ xs) (read_gaps (take_at s) st.width st.left st.number st.next) | false ↦ accepted ([], st.next) ]

abbrev pub left_of : List ℕ → Stream → List ℕ
left_of s st = value_read [] (coming s st)

abbrev pub end_of : List ℕ → Stream → ℕ
end_of s st = end_read (coming s st)

-- they read, and positions stay small
pub record Draws (s : List ℕ) (st : Stream) : Type 0 where
  pub reads : Reads [] (coming s st)
  pub wide : 0 < st.left → (1 ≤ st.width) × (st.width ≤ 32)
  pub few : st.left < 65535
  pub low : st.next + 32 * st.left < 2 ^ 50

-- a stream behind its number
pub record Advances (s : List ℕ) (from to : Stream) : Type 0 where
  pub draws : Draws s to
  pub numbers : left_of s from ≡ from.number ∷ left_of s to
  pub end : end_of s to ≡ end_of s from

-- a stream behind x, if that is its number
pub record Passes (s : List ℕ) (from : Stream) (x : ℕ) (to : Stream) : Type 0 where
  pub drawn : from.number ≡ x → Advances s from to
  pub other : (from.number ≡ x → ⊥) → to ≡ from

-- ---- one list of a delivery

-- the list at a position
abbrev pub list_from : List ℕ → ℕ → Outcome (Supplied × ℕ)
list_from s at = read_list (take_at s) by_bit none at

abbrev pub list_at : List ℕ → ℕ → Supplied
list_at s at = value_read undelivered (list_from s at)

abbrev pub list_end : List ℕ → ℕ → ℕ
list_end s at = end_read (list_from s at)

abbrev pub ListReads : List ℕ → ℕ → Type 0
ListReads s at = Reads undelivered (list_from s at)

-- whether it came, and a stream of its numbers
pub record Opens (s : List ℕ) (at : ℕ) (r : Opened) : Type 0 where
  pub came : r.came ≡ is_delivered (list_at s at)
  pub draws : Draws s r.stream
  pub numbers : left_of s r.stream ≡ supplied_numbers (list_at s at)
  pub end : end_of s r.stream ≡ list_end s at

-- ---- the same list of both deliveries

unfoldable pub some_left : Pair → Bool
some_left pair = ltb pair.full.number top || ltb pair.daily.number top

-- where both stand
abbrev pub places_of : Pair → Places
places_of pair = record { full = pair.full.next; daily = pair.daily.next }

module _ (full daily : List ℕ) where
  -- the numbers of the union that are still to be drawn
  abbrev pub union_left : Pair → List ℕ
  union_left pair = list_union (left_of full pair.full) (left_of daily pair.daily)

  pub record PairDraws (pair : Pair) : Type 0 where
    pub of_full : Draws full pair.full
    pub of_daily : Draws daily pair.daily

  -- the next number of the union, and both streams behind it
  pub record NextDrawn (pair : Pair) (r : Drawn) : Type 0 where
    pub draws : PairDraws r.pair
    pub numbers : union_left pair ≡ r.number ∷ union_left r.pair
    pub full_end : end_of full r.pair.full ≡ end_of full pair.full
    pub daily_end : end_of daily r.pair.daily ≡ end_of daily pair.daily

  -- the list that the lists at two positions make
  abbrev pub joined_at : ℕ → ℕ → Supplied
  joined_at at beside = join_list (list_at full at) (list_at daily beside)

  -- whether it came, and streams of its numbers
  pub record PairOpens (at beside : ℕ) (r : Both) : Type 0 where
    pub came : r.came ≡ is_delivered (joined_at at beside)
    pub draws : PairDraws r.pair
    pub numbers : union_left r.pair ≡ supplied_numbers (joined_at at beside)
    pub full_end : end_of full r.pair.full ≡ list_end full at
    pub daily_end : end_of daily r.pair.daily ≡ list_end daily beside
