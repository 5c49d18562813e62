-- `encode::survey` meets its contract. The loop's invariant: whether all lists ascend, their bits and their widths are what was
-- found and what those that are left have. Assumes nothing.
use mathlib.Core.Path.{◌≡◌}
use mathlib.Core.Bool.{true}
use mathlib.Core.List.{map}
use Prim.Native.Nat.{◌+◌, ◌*◌, ◌≤◌}
use lib.ListN.{length, drop, replicate}
use Rattle.model.specs.Lists.{all_ascending, lists_from, ends_hold}
use Rattle.model.specs.Delivery.{supplied_from, supplied}
use Rattle.fields.specs.Rows.{lay}
use Rattle.encode.specs.Measures.{lists_bits, gap_width}
use Rattle.encode.proofs.survey.Given as goal

abbrev pub invariant-loop-k : goal.invariant-loop-k
invariant-loop-k l =
    (length l.widths ≡ 32) × (l.bits ≤ 4194304 * l.k) × (ends_hold (length l.numbers) l.start (drop l.k l.ends) ≡ true)
    × (all_ascending (lists_from l.numbers 0 l.ends) ≡ all_ascending (lists_from l.numbers l.start (drop l.k l.ends)))
    × (length (lists_bits (supplied l.word (lists_from l.numbers 0 l.ends))) ≡ l.bits + length (lists_bits (supplied_from l.word l.k (lists_from l.numbers l.start (drop l.k l.ends)))))
    × (lay (replicate 32 0) 0 (map gap_width (lists_from l.numbers 0 l.ends)) ≡ lay l.widths l.k (map gap_width (lists_from l.numbers l.start (drop l.k l.ends))))
