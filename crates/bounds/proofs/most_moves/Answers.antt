-- `most_moves` meets its contract: what is summed up and the leaves that are left come to all leaves. Assumes nothing.
use mathlib.Core.Path.{◌≡◌, sym, ◌∙◌}
use Prim.Native.Nat.{ℕ, ◌+◌, ◌≤◌}
use native.Mathlib.Omega.{arith}
use lib.ListN.{get_or, drop}
use Rattle.model.specs.Bounds.{lengths_from}
use Rattle.capacity.proofs.Lengths.{lengths-many, lengths-few}
use Rattle.bounds.specs.Backwards.{leaf_lengths}
use Rattle.bounds.proofs.Sums.{leaves-within, leaves-end}
use Rattle.bounds.proofs.Turns.{Turn, turn, fed-leaf}
use Rattle.bounds.proofs.most_moves.Goals as goal
use Rattle.bounds.proofs.most_moves.Goals.{After-known, After-leaf_length-moves, At-loop-b}

few : (c : At-loop-b) → (k : ℕ) → get_or (lengths_from 0 c.args.ends.now) k 0 ≤ 65535
few c = lengths-few 0 c.args.ends.now c.requires.ends_value.0

-- the node of this turn
here : (c : After-known) → Turn (lengths_from 0 c.args.ends.now) c.args.nodes.now c.loop-b.b-index
here c = turn (lengths_from 0 c.args.ends.now) c.args.nodes.now c.loop-b.b-index c.requires.whole (omega arith)

-- its length, in front of those that are left
left : (c : After-leaf_length-moves) → Turn (lengths_from 0 c.args.ends.now) c.args.nodes.now c.loop-b.b-index → leaf_lengths (lengths_from 0 c.args.ends.now) (drop c.loop-b.b-index c.args.nodes.now) ≡ c.leaf_length-moves.result + leaf_lengths (lengths_from 0 c.args.ends.now) (drop (c.loop-b.b-index + 1) c.args.nodes.now)
left c h = rw (c.leaf_length-moves.ensures, c.known.ensures h.node h.is) h.leaves

within : (c : At-loop-b) → leaf_lengths (lengths_from 0 c.args.ends.now) c.args.nodes.now ≤ 3145680
within c = omega (arith, leaves-within (lengths_from 0 c.args.ends.now) (few c) c.args.nodes.now, c.requires.ends_value.1)

pub leaf_length-moves-requires : goal.leaf_length-moves-requires
leaf_length-moves-requires c =
    let h = here (goal.at.leaf_length-moves-requires c).After-known in
    record {
      ends_value = c.requires.ends_value.0;
      by_index = λ k e. omega (arith, fed-leaf _ _ h.node h.fed k (sym (c.known.ensures h.node h.is) ∙ e), lengths-many 0 c.args.ends.now);
    }

pub overflow_add-moves : goal.overflow_add-moves
overflow_add-moves c = omega (arith, left (goal.at.overflow_add-moves c).After-leaf_length-moves (here (goal.at.overflow_add-moves c).After-known), within (goal.at.overflow_add-moves c).At-loop-b, c.loop-b.invariant)

pub loop-b-preserved : goal.loop-b-preserved
loop-b-preserved c = omega (arith, left (goal.at.loop-b-preserved c).After-leaf_length-moves (here (goal.at.loop-b-preserved c).After-known), c.loop-b.invariant)

pub returns : goal.returns
returns c = omega (arith, c.loop-b.invariant, leaves-end (lengths_from 0 c.args.ends.now) c.args.nodes.now c.loop-b.b-index (omega arith))
