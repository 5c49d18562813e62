-- `join::Deliveries::survey` meets its contract. The loop's invariant: whether no joined list is too long, their bits and their shapes
-- are what was found and what those that are left have. Assumes nothing.
use mathlib.Core.Path.{◌≡◌}
use mathlib.Core.List.{List, map}
use Prim.Native.Nat.{ℕ, ◌+◌, ◌-◌, ◌*◌, ◌≤◌}
use lib.ListN.{length}
use Rattle.model.specs.Delivery.{Supplied}
use Rattle.model.specs.Joined.{lengths_hold}
use Rattle.fields.specs.Rows.{lay}
use Rattle.encode.specs.Measures.{lists_bits}
use Rattle.join.specs.Measures.{joined, shape_of, no_shapes}
use Rattle.join.specs.declared.Shape.{Shape}
use Rattle.join.proofs.Lists.{BothRead, joined_on}
use Rattle.join.proofs.Deliveries.survey.Given as goal

-- what all lists have, from what was found and from what the rest has
pub record Left (all rest : List Supplied) (shapes : List Shape) (bits k : ℕ) : Type 0 where
  pub hold : lengths_hold all ≡ lengths_hold rest
  pub long : length (lists_bits all) ≡ bits + length (lists_bits rest)
  pub are : lay no_shapes 0 (map shape_of all) ≡ lay shapes k (map shape_of rest)

abbrev pub invariant-loop-k : goal.invariant-loop-k
invariant-loop-k l =
    (length l.shapes ≡ 32) × (l.bits ≤ 4194304 * l.k) × (l.at.full ≤ 6 + 4194304 * l.k) × (l.at.daily ≤ 6 + 4194304 * l.k)
    × BothRead l.self.full.now l.self.daily.now (l.n - l.k) l.at.full l.at.daily × Left (joined l.self.full.now l.self.daily.now l.n) (joined_on l.self.full.now l.self.daily.now (l.n - l.k) l.at.full l.at.daily) l.shapes l.bits l.k
