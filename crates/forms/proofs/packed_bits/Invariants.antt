-- `forms::packed_bits` meets its contract. The loop's invariant: the bits counted and those of the bytes that are left are as
-- many as those of the row.. Assumes nothing.
use mathlib.Core.Path.{◌≡◌}
use Prim.Native.Nat.{◌+◌, ◌*◌, ◌≤◌}
use lib.ListN.{length, drop}
use Rattle.forms.specs.Packing.{row_bits}
use Rattle.forms.proofs.packed_bits.Given as goal

abbrev pub invariant-loop-b : goal.invariant-loop-b
invariant-loop-b l = (l.n ≤ 7 * l.b-index) × (l.n + length (row_bits (drop l.b-index l.row)) ≡ length (row_bits l.row))
