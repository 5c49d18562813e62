-- `forms::packed_bits` meets its contract. The loop's invariant: the bits counted and those of the bytes that are left are as
-- many as those of the row.. Assumes nothing.
use mathlib.Core.Path.{◌≡◌, ap, ◌∙◌}
use mathlib.Core.List.{List}
use Prim.Native.Nat.{ℕ, ◌+◌}
use native.Mathlib.Omega.{arith}
use lib.ListN.{length, get_or, drop, length-append}
use Rattle.forms.specs.Packing.{byte_bits, row_bits}
use Rattle.forms.proofs.Nodes.{packed_as, row_next, row-end}
use Rattle.forms.proofs.packed_bits.Goals as goal

pub overflow_add-n : goal.overflow_add-n
overflow_add-n c = omega (arith, (packed_as c.bits_of-n.ensures).few)

pub loop-b-preserved : goal.loop-b-preserved
loop-b-preserved c =
    let i : ℕ = c.loop-b.b-index in
    let row : List ℕ = c.args.row.now in
    let a = packed_as c.bits_of-n.ensures in
    let rest : length (row_bits (drop i row)) ≡ c.bits_of-n.result.width + length (row_bits (drop (i + 1) row)) =
    ap length (row_next row i c.loop-b-test.true) ∙ omega (arith, length-append (byte_bits (get_or row i 0)) (row_bits (drop (i + 1) row)), a.long) in
    (omega (arith, a.few), omega arith)

pub returns : goal.returns
returns c = omega (arith, ap length (row-end c.args.row.now c.loop-b.b-index c.loop-b-test.false))
