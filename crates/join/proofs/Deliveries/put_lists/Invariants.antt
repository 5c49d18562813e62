-- `join::Deliveries::put_lists` meets its contract. The loop's invariant, said backwards: what is to be put from the start is what is still
-- to be put from here on, and the shapes from here on are those of the lists that are left. Assumes nothing.
use mathlib.Core.Path.{◌≡◌}
use mathlib.Core.Bool.{true}
use mathlib.Core.List.{List, map}
use Prim.Native.Nat.{ℕ, ◌+◌, ◌-◌, ◌*◌, ◌≤◌}
use lib.ListN.{length, drop}
use Rattle.model.specs.Fields.{Bytes}
use Rattle.model.specs.Delivery.{Supplied}
use Rattle.model.specs.Joined.{lengths_hold}
use Rattle.fields.specs.Positions.{put_bits}
use Rattle.encode.specs.Measures.{lists_bits}
use Rattle.join.specs.declared.Shape.{Shape}
use Rattle.join.specs.Measures.{joined, shape_of}
use Rattle.join.proofs.Lists.{BothRead, joined_on}
use Rattle.join.proofs.Deliveries.put_lists.Given as goal

-- what is to be put of all lists into a row, from what is left
pub record Left (s₀ : List ℕ) (all rest : List Supplied) (s : List ℕ) (shapes : List Shape) (next : ℕ) : Type 0 where
  pub hold : lengths_hold rest ≡ true
  pub are : shapes ≡ map shape_of rest
  pub long : 6 + length (lists_bits all) ≡ next + length (lists_bits rest)
  pub put : put_bits s₀ 6 (lists_bits all) ≡ put_bits s next (lists_bits rest)

abbrev pub invariant-loop-shape : goal.invariant-loop-shape
invariant-loop-shape l =
    let full : List ℕ = l.self.full.now in
    let daily : List ℕ = l.self.daily.now in
    let k : ℕ = l.shape-index in
    let n : ℕ = length l.shapes in
    (l.ends.read.full ≤ 6 + 4194304 * k) × (l.ends.read.daily ≤ 6 + 4194304 * k) × (length l.s ≡ length l.initial.s) × Bytes l.s
    × BothRead full daily (n - k) l.ends.read.full l.ends.read.daily × Left l.initial.s (joined full daily n) (joined_on full daily (n - k) l.ends.read.full l.ends.read.daily) l.s (drop k l.shapes) l.ends.joined
