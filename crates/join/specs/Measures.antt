-- What is known of both deliveries, and of the outcome, before its first bit is written.
use Rattle.std.specs.Prelude.{◌≡◌, List, [], map, ℕ, ◌≤◌, length, replicate, Result, Ok, Err}
use Rattle.std.proofs.Math.Option.{none}
use Rattle.model.specs.Outcome.{Outcome, refused, accepted, ◌>>◌, require}
use Rattle.model.specs.Delivery.{largest_gap, Supplied, supplied_numbers, is_delivered, by_bit, read_lists, read_stored}
use Rattle.model.specs.Joined.{join_lists, lengths_hold}
use Rattle.refusals.specs.declared.Refusal.{Refusal}
use Rattle.refusals.specs.Numbers.{number}
use Rattle.fields.specs.Rows.{lay}
use Rattle.fields.specs.Positions.{take_at}
use Rattle.encode.specs.Measures.{lists_bits, gap_width}
use Rattle.join.specs.declared.Pair.{Pair}
use Rattle.join.specs.declared.Tally.{Tally}
use Rattle.join.specs.declared.Size.{Size}
use Rattle.join.specs.declared.Shape.{Shape}
use Rattle.join.specs.declared.Measure.{Measure}
use Rattle.join.specs.Streams.{value_read, Reads, end_of, list_end, union_left, joined_at}

-- n lists behind the number of lists
abbrev pub lists_from : List ℕ → ℕ → ℕ → Outcome (List Supplied × ℕ)
lists_from s n at = read_lists (take_at s) by_bit n none at

abbrev pub lists_at : List ℕ → ℕ → List Supplied
lists_at s n = value_read [] (lists_from s n 6)

abbrev pub ListsRead : List ℕ → ℕ → Type 0
ListsRead s n = Reads [] (lists_from s n 6)

-- the tests of reading, without 6: the paper's number, or how many lists there are
abbrev pub Tests : List ℕ → Result ℕ Refusal → Type 0
Tests s (Ok n) = (n ≤ 32) × ListsRead s n × (length (lists_at s n) ≡ n) × (read_stored by_bit s ≡ accepted (lists_at s n))
Tests s (Err r) = read_stored by_bit s ≡ refused (number r)

module _ (full daily : List ℕ) where
  -- the numbers of the union behind `last`, drawn
  pub record Surveyed (start : Pair) (last : ℕ) (r : Tally) : Type 0 where
    pub count : r.count ≡ length (union_left full daily start)
    pub largest : r.largest ≡ largest_gap last (union_left full daily start)
    pub full_end : r.behind.full ≡ end_of full start.full
    pub daily_end : r.behind.daily ≡ end_of daily start.daily

  -- the list that the lists at two positions make
  pub record Sized (at beside : ℕ) (r : Size) : Type 0 where
    pub came : r.came ≡ is_delivered (joined_at full daily at beside)
    pub count : r.count ≡ length (supplied_numbers (joined_at full daily at beside))
    pub width : r.width ≡ gap_width (supplied_numbers (joined_at full daily at beside))
    pub narrow : r.width ≤ 32
    pub full_end : r.behind.full ≡ list_end full at
    pub daily_end : r.behind.daily ≡ list_end daily beside

  -- the n lists that both make
  abbrev pub joined : ℕ → List Supplied
  joined n = join_lists (lists_at full n) (lists_at daily n)

-- how many numbers a list has, and the width of its gaps
abbrev pub count_of : Supplied → ℕ
count_of a = length (supplied_numbers a)

abbrev pub width_of : Supplied → ℕ
width_of a = gap_width (supplied_numbers a)

abbrev pub shape_of : Supplied → Shape
shape_of a = record { count = count_of a; width = width_of a }

-- an array of no shapes, yet
abbrev pub no_shapes : List Shape
no_shapes = replicate 32 (record { count = 0; width = 0 })

-- the bits of all lists, and the shape of each, or 21
unfoldable pub measured : List Supplied → Outcome Measure
measured ss = do
  require 21 (lengths_hold ss)
  accepted (record { bits = length (lists_bits ss); shapes = lay no_shapes 0 (map shape_of ss) })
