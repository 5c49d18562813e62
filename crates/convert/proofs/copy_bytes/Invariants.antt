-- `convert::copy_bytes` meets its contract. The loop's invariant: the first i times eight bits are copied. Assumes nothing.
use mathlib.Core.Path.{◌≡◌}
use Prim.Native.Nat.{◌*◌}
use lib.ListN.{length}
use Rattle.convert.specs.Copies.{copied}
use Rattle.convert.proofs.copy_bytes.Given as goal

abbrev pub invariant-loop-i : goal.invariant-loop-i
invariant-loop-i l =
    (length l.to ≡ length l.initial.to) × (l.to ≡ copied l.from l.at l.initial.to (8 * l.first) (8 * l.i))
