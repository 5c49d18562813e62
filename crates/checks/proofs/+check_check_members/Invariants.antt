-- What falls in `check` and `check_members`: twice the remaining nodes. The loop keeps: what the checks of the member nodes left say,
-- the checks of all say; or the reply stands.
use mathlib.Core.Path.{◌≡◌}
use mathlib.Core.Bool.{Bool, true, false, beq}
use mathlib.Core.Logic.{◌⊎◌}
use mathlib.Core.List.{List}
use Prim.Native.Nat.{ℕ, ◌+◌, ◌-◌, ◌*◌, ◌≤◌}
use lib.ListN.{length}
use Rattle.model.specs.Steps as model
use Rattle.model.specs.Steps.{Checked, says}
use Rattle.reader.specs.Rows.{StandingEach}
use Rattle.reader.proofs.Moves.{apart, AreTallied}
use Rattle.checks.proofs.Until.{Say}
use Rattle.checks.proofs.+check_check_members.Given as goal

-- ---- the measures, by the node, or the first member node

abbrev pub decreases-check : goal.decreases-check
decreases-check l = 2 * (48 - l.node)

abbrev pub decreases-check_members : goal.decreases-check_members
decreases-check_members l = 2 * (48 - l.first) + 1

-- ---- the checks of member nodes

-- no one has said so yet, and the member nodes left decide; or one has, and its reply stands
pub record Going (numbers ends nodes : List ℕ) (first count : ℕ) (until turned : Bool) (d : ℕ) (from here : model.Readers) (last : Bool) (at left : ℕ) : Type 0 where
  pub not_so : beq last until ≡ false
  pub stand : StandingEach (length ends) nodes at left
  pub later : first ≤ at
  pub all_say : (c : Checked) → Say numbers ends nodes d until turned at left here c → Say numbers ends nodes d until turned first count from c

pub record Done (numbers ends nodes : List ℕ) (first count : ℕ) (until turned : Bool) (d : ℕ) (from here : model.Readers) (last : Bool) : Type 0 where
  pub so : beq last until ≡ true
  pub say : Say numbers ends nodes d until turned first count from (says last here)

abbrev pub invariant-check_members-loop-left : goal.invariant-check_members-loop-left
invariant-check_members-loop-left l =
    let g = l.generator in
    AreTallied (apart l.readers)
    × (Going g.numbers.now g.ends.now g.nodes.now l.first l.count l.until l.turned l.d (apart l.initial.readers) (apart l.readers) l.yes l.at l.left
    ⊎ Done g.numbers.now g.ends.now g.nodes.now l.first l.count l.until l.turned l.d (apart l.initial.readers) (apart l.readers) l.yes)
