-- `forms::put_nodes` meets its contract. The loop's invariant: putting the bits of the bytes that are left from here on is
-- putting those of the whole row from the start (`put-append`), and there is room for them. The measure is how many bytes
-- are left. Assumes nothing.
use mathlib.Core.Path.{◌≡◌}
use Prim.Native.Nat.{◌+◌, ◌*◌, ◌≤◌}
use lib.ListN.{length, drop}
use Rattle.model.specs.Fields.{Bytes}
use Rattle.fields.specs.Positions.{put_bits}
use Rattle.forms.specs.Packing.{row_bits}
use Rattle.forms.proofs.put_nodes.Given as goal

abbrev pub invariant-loop-b : goal.invariant-loop-b
invariant-loop-b l =
    (l.at ≤ 7 * l.b-index) × (length l.s ≡ length l.initial.s) × (l.at + length (row_bits (drop l.b-index l.row)) ≤ 8 * length l.initial.s) × Bytes l.s
    × (put_bits l.s l.at (row_bits (drop l.b-index l.row)) ≡ put_bits l.initial.s 0 (row_bits l.row))
