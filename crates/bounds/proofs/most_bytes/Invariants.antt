-- `most_bytes` meets its contract: the bits so far and those of the lists that are left come to all. Assumes nothing.
use mathlib.Core.Path.{◌≡◌}
use Prim.Native.Nat.{◌+◌}
use lib.ListN.{drop}
use Rattle.model.specs.Bounds.{lengths_from, most_bits}
use Rattle.bounds.proofs.most_bytes.Given as goal

abbrev pub invariant-loop-k : goal.invariant-loop-k
invariant-loop-k l = l.bits + most_bits (drop l.k (lengths_from 0 l.ends)) ≡ 6 + most_bits (lengths_from 0 l.ends)
