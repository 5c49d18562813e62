-- What is known of a delivery before its first bit is written.
use Rattle.std.specs.Prelude.{Bool, cond, ℕ, length, replicate}
use mathlib.Core.List.{List, map, flat_map}
use Rattle.model.specs.Outcome.{Outcome, accepted, ◌>>◌, require}
use Rattle.model.specs.Lists.{all_ascending}
use Rattle.model.specs.Delivery
use Rattle.model.specs.Delivery.{width, Supplied, undelivered, came, by_bit, supplied}
use Rattle.lists.specs.Rise.{largest}
use Rattle.fields.specs.Rows.{lay}
use Rattle.encode.specs.declared.Measure.{Measure}

-- a list as it is supplied, by whether it was delivered
abbrev pub as_supplied : Bool → List ℕ → Supplied
as_supplied b l = cond b (came l) undelivered

-- the form of the delivery that is written here: a list, and lists one behind the other
abbrev pub list_bits : Supplied → List Bool
list_bits a = Delivery.list_bits by_bit a

abbrev pub lists_bits : List Supplied → List Bool
lists_bits ss = flat_map list_bits ss

-- the width of a list's gaps; a list of fewer than two numbers has none, and its width is not written
unfoldable pub gap_width : List ℕ → ℕ
gap_width l = width (largest l)

-- the bits of all lists and the width of each list's gaps, or 11
unfoldable pub measured : ℕ → List (List ℕ) → Outcome Measure
measured word ls = do
  require 11 (all_ascending ls)
  accepted (record { bits = length (lists_bits (supplied word ls)); widths = lay (replicate 32 0) 0 (map gap_width ls) })
