-- `fields::bytes_at` meets its contract. The loop's invariant: x is the number that the bits of the bytes so far write.
use mathlib.Core.Path.{◌≡◌}
use lib.ListN.{take}
use Rattle.model.specs.Fields.{bits, value}
use Rattle.fields.proofs.bytes_at.Given as goal

abbrev pub invariant-loop-b : goal.invariant-loop-b
invariant-loop-b l = l.x ≡ value (bits (take l.b-index l.b-items))
