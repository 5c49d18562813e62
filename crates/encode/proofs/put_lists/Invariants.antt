-- `encode::put_lists` meets its contract. The loop's invariant, said backwards: what is to be put from the start is what is still
-- to be put from here on, and the widths from here on are those of the lists that are left. Assumes nothing.
use mathlib.Core.Path.{◌≡◌}
use mathlib.Core.Bool.{true}
use mathlib.Core.List.{map}
use Prim.Native.Nat.{◌+◌, ◌*◌, ◌≤◌}
use lib.ListN.{length, drop}
use Rattle.model.specs.Lists.{all_ascending, lists_from, ends_hold}
use Rattle.model.specs.Fields.{Bytes}
use Rattle.model.specs.Delivery.{supplied_from, supplied}
use Rattle.fields.specs.Rows.{lay}
use Rattle.fields.specs.Positions.{put_bits}
use Rattle.encode.specs.Measures.{lists_bits, gap_width}
use Rattle.encode.proofs.put_lists.Given as goal

abbrev pub invariant-loop-k : goal.invariant-loop-k
invariant-loop-k l =
    (l.next ≤ 6 + 4194304 * l.k) × (length l.s ≡ length l.initial.s) × Bytes l.s × (ends_hold (length l.numbers) l.start (drop l.k l.ends) ≡ true)
    × (all_ascending (lists_from l.numbers l.start (drop l.k l.ends)) ≡ true) × (l.widths ≡ lay l.widths l.k (map gap_width (lists_from l.numbers l.start (drop l.k l.ends))))
    × (6 + length (lists_bits (supplied l.word (lists_from l.numbers 0 l.ends))) ≡ l.next + length (lists_bits (supplied_from l.word l.k (lists_from l.numbers l.start (drop l.k l.ends)))))
    × (put_bits l.initial.s 6 (lists_bits (supplied l.word (lists_from l.numbers 0 l.ends))) ≡ put_bits l.s l.next (lists_bits (supplied_from l.word l.k (lists_from l.numbers l.start (drop l.k l.ends)))))
