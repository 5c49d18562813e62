-- `hop` meets its contract: at each turn, so many hops were made, each where the reader hops. The measure is what is left of the list.
-- Assumes nothing.
use mathlib.Core.Path.{◌≡◌}
use mathlib.Core.Bool.{true}
use Prim.Native.Nat.{ℕ, ◌+◌, ◌-◌, ◌*◌, ◌≤◌, ◌<◌}
use lib.ListN.{length, drop}
use Rattle.model.specs.Steps.{hops}
use Rattle.reader.proofs.hop.Given as goal

abbrev pub invariant-loop-at : goal.invariant-loop-at
invariant-loop-at l = (n : ℕ) × (l.at ≡ l.place + 64 * n) × (l.at ≤ 65535) × ((k : ℕ) → k < n → hops (drop (l.place + 64 * k) l.list) l.to ≡ true)

abbrev pub decreases-loop-at : goal.decreases-loop-at
decreases-loop-at l = length l.list - l.at
