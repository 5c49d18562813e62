-- What the loops keep. A difference's increment keeps that it goes on from here as from what A3(2)(a) and (b) came to; an intersection
-- keeps that the seek from here is the seek from the start; a union keeps that what the trees that are left come to is what the seek
-- comes to. Assumes nothing.
use mathlib.Core.Path.{◌≡◌, sym, ◌∙◌}
use mathlib.Core.Logic.{◌⊎◌}
use mathlib.Core.List.{List}
use Prim.Native.Nat.{ℕ, ◌+◌, ◌≤◌, ◌<◌}
use native.Mathlib.Omega.{arith}
use lib.ListN.{length}
use Rattle.model.specs.Lists.{top, lists_from}
use Rattle.model.specs.Expression.{Tree}
use Rattle.model.specs.Steps.{Readers, Found, seek as seek_tree}
use Rattle.reader.specs.Rows.{Stands, StandingEach}
use Rattle.reader.specs.Sought.{found}
use Rattle.reader.proofs.Moves.{AreTallied}
use Rattle.reader.proofs.Members.{Comes}
use Rattle.seeks.proofs.Turns.{holding, holding-turn, going}
use Rattle.seeks.proofs.Nodes.{uniting, following}
use Rattle.seeks.proofs.Stepping.{Holds, HoldsTallied}

-- the increment of a difference goes on from here as from where it began
abbrev pub Increments : (numbers ends nodes : List ℕ) → ℕ → Readers → ℕ → ℕ → Readers → ℕ → ℕ → Type 0
Increments numbers ends nodes node readers₀ x₀ y₀ readers x y =
    Holds numbers ends nodes node x₀ (λ u. holding (seek_tree (lists_from numbers 0 ends) u node) x₀ y₀ readers₀) x y readers

-- and its readers are tallied
abbrev pub IncrementsTallied : (numbers ends nodes : List ℕ) → ℕ → Readers → ℕ → ℕ → Readers → ℕ → ℕ → Type 0
IncrementsTallied numbers ends nodes node readers₀ x₀ y₀ readers x y =
    HoldsTallied numbers ends nodes node x₀ (λ u. holding (seek_tree (lists_from numbers 0 ends) u node) x₀ y₀ readers₀) x y readers

-- the seek of any tree that stands at the node, from here, is what it was from the start
abbrev pub Same : (numbers ends nodes : List ℕ) → ℕ → ℕ → Readers → ℕ → Readers → Type 0
Same numbers ends nodes node from start to here =
    (u : Tree) → Stands (length ends) nodes u node → seek_tree (lists_from numbers 0 ends) u node to here ≡ seek_tree (lists_from numbers 0 ends) u node from start

-- an intersection begins at its first member node; or is within the others, and goes on from what those that are left come to; or
-- has ended
pub record Begins (numbers ends nodes : List ℕ) (node count from first : ℕ) (start : Readers) (candidate at left : ℕ) (here : Readers) : Type 0 where
  pub first_now : at ≡ first
  pub all_left : left ≡ count
  pub same : Same numbers ends nodes node from start candidate here

pub record Within (numbers ends nodes : List ℕ) (node from first : ℕ) (start : Readers) (candidate at left : ℕ) (here : Readers) : Type 0 where
  pub behind_first : first < at
  pub low : candidate < top
  pub stand : StandingEach (length ends) nodes at left
  pub same : (f : Found) → Comes (length ends) nodes (following (lists_from numbers 0 ends) candidate) at left here f
      → (u : Tree) → Stands (length ends) nodes u node
      → going (seek_tree (lists_from numbers 0 ends) u node) candidate f ≡ seek_tree (lists_from numbers 0 ends) u node from start

pub record Ended (numbers ends nodes : List ℕ) (node from : ℕ) (start : Readers) (candidate left : ℕ) (here : Readers) : Type 0 where
  pub none_left : left ≡ 0
  pub same : (u : Tree) → Stands (length ends) nodes u node → found candidate here ≡ seek_tree (lists_from numbers 0 ends) u node from start

pub record Intersects (numbers ends nodes : List ℕ) (node count from first : ℕ) (start here : Readers) (candidate at left : ℕ) : Type 0 where
  pub above : from ≤ candidate
  pub low : candidate ≤ top
  pub tallied : AreTallied here
  pub stage : Begins numbers ends nodes node count from first start candidate at left here
      ⊎ (Within numbers ends nodes node from first start candidate at left here
      ⊎ Ended numbers ends nodes node from start candidate left here)

-- a union has the least answer so far, and goes on from what those that are left come to
pub record Unites (numbers ends nodes : List ℕ) (node to : ℕ) (start here : Readers) (least at left : ℕ) : Type 0 where
  pub behind_node : node < at
  pub above : to ≤ least
  pub low : least ≤ top
  pub tallied : AreTallied here
  pub stand : StandingEach (length ends) nodes at left
  pub same : (f : Found) → Comes (length ends) nodes (uniting (lists_from numbers 0 ends) to) at left (least, here) f
      → (u : Tree) → Stands (length ends) nodes u node → f ≡ seek_tree (lists_from numbers 0 ends) u node to start

-- a difference's first answer, past which the first is sought next, is a number
pub next_low : {numbers ends nodes : List ℕ} {node e : ℕ} {f : Tree → Found} {x y : ℕ} {after : Readers} → Holds numbers ends nodes node e f x y after → y ≡ x → x + 1 ≤ top
next_low h same = let low = h.not_finished same in omega (arith, low)

-- where both answers are equal, a difference goes on from the next two as from these
pub increments : (numbers ends nodes : List ℕ) (node : ℕ) (readers₀ : Readers) (x₀ y₀ : ℕ) (readers : Readers) (x y : ℕ) → Increments numbers ends nodes node readers₀ x₀ y₀ readers x y → y ≡ x
    → (next y' : ℕ) (last : Readers) → Holds numbers ends nodes node (x + 1) (λ u. seek_tree (lists_from numbers 0 ends) u node (x + 1) readers) next y' last
    → Increments numbers ends nodes node readers₀ x₀ y₀ last next y'
increments numbers ends nodes node readers₀ x₀ y₀ readers x y inv same next y' last h = record {
  above = omega (arith, inv.above, h.above);
  low = h.low;
  not_finished = h.not_finished;
  goes_on = λ u s. h.goes_on u s ∙ sym (holding-turn _ _ _ _ same) ∙ inv.goes_on u s;
}

-- and the readers stay tallied
pub increments_tallied : (numbers ends nodes : List ℕ) (node : ℕ) (readers₀ : Readers) (x₀ y₀ : ℕ) (readers : Readers) (x y : ℕ) → IncrementsTallied numbers ends nodes node readers₀ x₀ y₀ readers x y → y ≡ x
    → (next y' : ℕ) (last : Readers) → HoldsTallied numbers ends nodes node (x + 1) (λ u. seek_tree (lists_from numbers 0 ends) u node (x + 1) readers) next y' last
    → IncrementsTallied numbers ends nodes node readers₀ x₀ y₀ last next y'
increments_tallied numbers ends nodes node readers₀ x₀ y₀ readers x y inv same next y' last h =
    record { holds = increments numbers ends nodes node readers₀ x₀ y₀ readers x y inv.holds same next y' last h.holds; tallied = h.tallied }
