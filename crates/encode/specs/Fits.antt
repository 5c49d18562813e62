-- What is asked before bits are put: that they have room, that positions stay small, and that every gap has the width of its
-- field.
use Rattle.std.specs.Prelude.{◌≡◌, Bool, true, List, map, ℕ, ◌+◌, ◌-◌, ◌*◌, ◌^◌, ◌≤◌, ◌<◌, length, get_or, drop, replicate}
use Rattle.model.specs.Lists.{rises, ascending, all_ascending, lists_from, ends_hold}
use Rattle.model.specs.Delivery.{largest_gap, supplied}
use Rattle.fields.specs.Rows.{lay}
use Rattle.encode.specs.Measures.{as_supplied, list_bits, lists_bits, gap_width}

-- the numbers of a list behind its first, as gaps of w bits
pub record GapsFit (s : List ℕ) (at w : ℕ) (list : List ℕ) : Type 0 where
  pub some : 1 ≤ length list
  pub few : length list ≤ 65535
  pub most : w ≤ 32
  pub low : at < 2 ^ 40
  pub room : at + w * (length list - 1) ≤ 8 * length s
  pub rise : rises (get_or list 0 0) (drop 1 list) ≡ true
  pub hold : largest_gap (get_or list 0 0) (drop 1 list) < 2 ^ w

-- a list that came or did not, whose gaps have w bits
pub record ListFits (s : List ℕ) (at : ℕ) (delivered : Bool) (list : List ℕ) (w : ℕ) : Type 0 where
  pub few : length list ≤ 65535
  pub low : at < 2 ^ 39
  pub room : at + length (list_bits (as_supplied delivered list)) ≤ 8 * length s
  pub ascends : ascending list ≡ true
  pub wide : w ≡ gap_width list

-- all lists, whose gaps have these widths, behind the number of lists
pub record ListsFit (s numbers ends : List ℕ) (word : ℕ) (widths : List ℕ) : Type 0 where
  pub hold : ends_hold (length numbers) 0 ends ≡ true
  pub few : length ends ≤ 32
  pub ascend : all_ascending (lists_from numbers 0 ends) ≡ true
  pub wide : widths ≡ lay (replicate 32 0) 0 (map gap_width (lists_from numbers 0 ends))
  pub room : 6 + length (lists_bits (supplied word (lists_from numbers 0 ends))) ≤ 8 * length s
