-- What is asked before bits are put (that they have room, that positions stay small, that every gap has the width of its field), and what
-- is then put.
use Rattle.std.specs.Prelude.{◌≡◌, true, List, map, ℕ, ◌+◌, ◌*◌, ◌^◌, ◌≤◌, ◌<◌, length}
use Rattle.model.specs.Lists.{rises}
use Rattle.model.specs.Delivery.{largest_gap, gap_bits, came}
use Rattle.model.specs.Joined.{lengths_hold}
use Rattle.fields.specs.Positions.{put_bits}
use Rattle.encode.specs.Measures.{list_bits, lists_bits, gap_width}
use Rattle.join.specs.declared.Pair.{Pair}
use Rattle.join.specs.declared.Ends.{Ends}
use Rattle.join.specs.declared.Shape.{Shape}
use Rattle.join.specs.Streams.{end_of, list_end, ListReads, union_left, PairDraws, joined_at}
use Rattle.join.specs.Measures.{ListsRead, joined, shape_of}

module _ (full daily : List ℕ) where
  -- the numbers of the union behind `last`, as gaps of w bits
  pub record GapsFit (start : Pair) (last : ℕ) (s : List ℕ) (at w : ℕ) : Type 0 where
    pub draws : PairDraws full daily start
    pub rise : rises last (union_left full daily start) ≡ true
    pub most : w ≤ 32
    pub low : at < 2 ^ 40
    pub room : at + w * length (union_left full daily start) ≤ 8 * length s
    pub hold : largest_gap last (union_left full daily start) < 2 ^ w

  pub record GapsPut (start : Pair) (last : ℕ) (s : List ℕ) (at w : ℕ) (after : List ℕ) (r : Ends) : Type 0 where
    pub full_end : r.read.full ≡ end_of full start.full
    pub daily_end : r.read.daily ≡ end_of daily start.daily
    pub next : r.joined ≡ at + w * length (union_left full daily start)
    pub put : after ≡ put_bits s at (gap_bits w last (union_left full daily start))

  -- a list that came, of a shape
  pub record CameFits (pair : Pair) (s : List ℕ) (at : ℕ) (shape : Shape) : Type 0 where
    pub draws : PairDraws full daily pair
    pub few : shape.count ≤ 65535
    pub many : shape.count ≡ length (union_left full daily pair)
    pub wide : shape.width ≡ gap_width (union_left full daily pair)
    pub low : at < 2 ^ 39
    pub room : at + length (list_bits (came (union_left full daily pair))) ≤ 8 * length s

  pub record CamePut (pair : Pair) (s : List ℕ) (at : ℕ) (after : List ℕ) (r : Ends) : Type 0 where
    pub full_end : r.read.full ≡ end_of full pair.full
    pub daily_end : r.read.daily ≡ end_of daily pair.daily
    pub next : r.joined ≡ at + length (list_bits (came (union_left full daily pair)))
    pub put : after ≡ put_bits s at (list_bits (came (union_left full daily pair)))

  -- the list that the lists at two positions make
  pub record ListFits (from : Ends) (s : List ℕ) (shape : Shape) : Type 0 where
    pub full_low : from.read.full < 2 ^ 40
    pub full_reads : ListReads full from.read.full
    pub daily_low : from.read.daily < 2 ^ 40
    pub daily_reads : ListReads daily from.read.daily
    pub few : shape.count ≤ 65535
    pub is : shape ≡ shape_of (joined_at full daily from.read.full from.read.daily)
    pub low : from.joined < 2 ^ 39
    pub room : from.joined + length (list_bits (joined_at full daily from.read.full from.read.daily)) ≤ 8 * length s

  pub record ListPut (from : Ends) (s after : List ℕ) (r : Ends) : Type 0 where
    pub full_end : r.read.full ≡ list_end full from.read.full
    pub daily_end : r.read.daily ≡ list_end daily from.read.daily
    pub next : r.joined ≡ from.joined + length (list_bits (joined_at full daily from.read.full from.read.daily))
    pub put : after ≡ put_bits s from.joined (list_bits (joined_at full daily from.read.full from.read.daily))

  -- all lists, behind the number of lists
  pub record ListsFit (n : ℕ) (s : List ℕ) (shapes : List Shape) : Type 0 where
    pub few : n ≤ 32
    pub full_reads : ListsRead full n
    pub daily_reads : ListsRead daily n
    pub hold : lengths_hold (joined full daily n) ≡ true
    pub are : shapes ≡ map shape_of (joined full daily n)
    pub low : length (lists_bits (joined full daily n)) ≤ 134217728
    pub room : 6 + length (lists_bits (joined full daily n)) ≤ 8 * length s

  pub record ListsPut (n : ℕ) (s after : List ℕ) (next : ℕ) : Type 0 where
    pub end : next ≡ 6 + length (lists_bits (joined full daily n))
    pub put : after ≡ put_bits s 6 (lists_bits (joined full daily n))
