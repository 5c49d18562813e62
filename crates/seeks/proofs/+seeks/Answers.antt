-- The seek of a node, and the seeks over its member nodes, meet their contracts: what a node's reader does is its step, and what a
-- member node's seek leaves is what the loops of `Kept` go on from. Assumes nothing.
use mathlib.Core.Path.{◌≡◌, refl, sym, ap, subst, ◌∙◌}
use mathlib.Core.Logic.{inl, inr, ⊎_elim}
use mathlib.Core.List.{List}
use Prim.Native.Nat.{ℕ, ◌+◌, ◌-◌, ◌≤◌, ◌<◌, min}
use native.Mathlib.Omega.{arith}
use lib.Arith.{lt_of_le-ne}
use lib.ListN.{length, get_or}
use Rattle.model.specs.declared.Node.TheVariants.{Difference}
use Rattle.model.specs.Outcome.{accepted}
use Rattle.model.specs.Lists.{top, lists_from}
use Rattle.model.specs.Forms.{node_of}
use Rattle.model.specs.Steps.{Readers, seek as seek_tree}
use Rattle.reader.specs.Rows.{Standing, Ready}
use Rattle.reader.specs.Sought.{readers_of, found, Read, Named}
use Rattle.reader.proofs.Moves.{apart, stepped_tallied, stepped-fits}
use Rattle.reader.proofs.Members.{not_unknown, list-there, first_stands, second_stands, members_stand, inside, goes_on, member_stands, others_stand, Comes}
use Rattle.seeks.proofs.Turns.{holding_stop, going-none, going_stop, going-turn, again_above, again_else}
use Rattle.seeks.proofs.Nodes.{following, every, every-ended, every-begun, unite, unites_last, unites_on, follows_last, follows_stop, follows_on}
use Rattle.seeks.proofs.Stepping.{LeavesTallied, still_tallied, moves_tallied, left_by_tallied, HoldsTallied, holds_ended_tallied, holds_both_tallied}
use Rattle.seeks.proofs.Kept.{IncrementsTallied, next_low, increments_tallied, Within}
use Rattle.seeks.proofs.+seeks.Goals as goal
use Rattle.seeks.proofs.+seeks.Goals.{seek-After-read_list-r}
use Rattle.seeks.proofs.+seeks.Goals.{seek_difference-Joined-member, seek_difference-in-Still, seek_difference-in-Moved, seek_difference-in-Operator}
use Rattle.seeks.proofs.+seeks.Goals.{seek_difference-Joined-x-ne-FINISHED, seek_difference-then-x-ne-FINISHED+in-Still-member, seek_difference-then-x-ne-FINISHED+in-Moved-member, seek_difference-then-x-ne-FINISHED+in-Operator-member, seek_difference-else-x-ne-FINISHED}
use Rattle.seeks.proofs.+seeks.Goals.{seek_difference-Joined-member-3, seek_difference-in-Still-member-2, seek_difference-in-Moved-member-2, seek_difference-in-Operator-member-2}
use Rattle.seeks.proofs.+seeks.Goals.{seek_intersection-In-loop-left, seek_intersection-Joined-member, seek_intersection-in-Still, seek_intersection-in-Moved, seek_intersection-in-Operator}
use Rattle.seeks.proofs.+seeks.Goals.{seek_union-In-loop, seek_union-Joined-member, seek_union-in-Still, seek_union-in-Moved, seek_union-in-Operator, seek_union-then-x-least, seek_union-else-x-least}

-- ---- a node

module _ (t : ℕ) where
  -- the list that the code has read
  node_list : (c : seek-After-read_list-r t) → let g = c.args.generator.now in
      Named g.numbers.now g.ends.now (get_or g.nodes.now c.args.node 0) (λ l. Read l (get_or c.args.start.places c.args.node 0) c.args.to c.read_list-r.result)
  node_list c = record { list = c.in-Leaf.k; named = sym c.in-Ok.ensures ∙ ap accepted c.in-Leaf.is; of = c.read_list-r.ensures }

pub seek-bounds-generator-node : goal.seek-bounds-generator-node
seek-bounds-generator-node t c = inside c.args.generator.now.ready _ c.requires.standing

pub seek-returns-in_default-clause-finds : goal.seek-returns-in_default-clause-finds
seek-returns-in_default-clause-finds t c =
    absurd (not_unknown c.args.generator.now.ready _ _ (sym c.in_default.ensures) c.requires.standing)

pub seek-offset_bounds-readers-node : goal.seek-offset_bounds-readers-node
seek-offset_bounds-readers-node t c = omega (arith, inside c.args.generator.now.ready _ c.requires.standing)

pub seek-bounds-readers-node : goal.seek-bounds-readers-node
seek-bounds-readers-node t c = inside c.args.generator.now.ready _ c.requires.standing

pub seek-read_list-r-requires-clause-k_in_bounds : goal.seek-read_list-r-requires-clause-k_in_bounds
seek-read_list-r-requires-clause-k_in_bounds t c =
    (omega (arith, list-there c.args.generator.now.ready _ c.in-Leaf.k (sym c.in-Ok.ensures ∙ ap accepted c.in-Leaf.is) c.requires.standing), c.requires.to_le_top)

pub seek-offset_bounds-readers-node-in-Leaf : goal.seek-offset_bounds-readers-node-in-Leaf
seek-offset_bounds-readers-node-in-Leaf t c = omega (arith, inside c.args.generator.now.ready _ c.requires.standing)

pub seek-bounds-readers-node-in-Leaf : goal.seek-bounds-readers-node-in-Leaf
seek-bounds-readers-node-in-Leaf t c = inside c.args.generator.now.ready _ c.requires.standing

pub seek-overflow_add-readers : goal.seek-overflow_add-readers
seek-overflow_add-readers t c =
    omega (arith, stepped-fits (readers_of c.args.start) _ (node_list t (goal.at.seek-overflow_add-readers t c).After-read_list-r).of (inside c.args.generator.now.ready _ c.requires.standing) c.args.start.tallied)

pub seek-invariant_of-readers : goal.seek-invariant_of-readers
seek-invariant_of-readers t c =
    record { tallied = stepped_tallied (readers_of c.args.start) _ (node_list t (goal.at.seek-invariant_of-readers t c).After-read_list-r).of (inside c.args.generator.now.ready _ c.requires.standing) c.args.start.tallied }

pub seek-returns-in-Leaf-clause-finds : goal.seek-returns-in-Leaf-clause-finds
seek-returns-in-Leaf-clause-finds t c =
    (moves_tallied _ _ _ _ _ (readers_of c.args.start) c.args.start.tallied _ (inside c.args.generator.now.ready _ c.requires.standing) (node_list t (goal.at.seek-returns-in-Leaf-clause-finds t c).After-read_list-r)).leaves.finds

-- ---- a difference

module _ {numbers ends nodes behind : List ℕ} (ready : Ready numbers ends nodes behind) (node : ℕ) (kind : node_of (get_or nodes node 0) ≡ accepted Difference) (s : Standing (length ends) nodes node) where
  first_inside : node + 1 < 48
  first_inside = inside ready _ (first_stands ready _ kind s)

  second_inside : get_or behind (node + 1) 0 < 48
  second_inside = inside ready _ (second_stands ready _ kind s)

module _ (t : ℕ) where
  -- A3(2)(a): the first has been sought to E
  first_sought : (c : seek_difference-Joined-member t) → let g = c.args.generator.now in
      LeavesTallied g.numbers.now g.ends.now g.nodes.now (c.args.node + 1) c.args.from (readers_of c.args.start) c.match-member.x (apart c.match-member.readers)
  first_sought c = elim c.match-member.branch [
    | seek_difference-in-Still w ↦ rw (w.x-is, w.readers-is) (still_tallied _ _ _ _ _ _ c.args.start.tallied _ w.in-Still.ensures)
    | seek_difference-in-Moved w ↦ rw (w.x-is, w.readers-is) (moves_tallied _ _ _ _ _ _ c.args.start.tallied _ (first_inside c.args.generator.now.ready _ c.requires.node_value c.requires.standing) w.in-Moved.ensures.1)
    | seek_difference-in-Operator w ↦ rw (w.x-is, w.readers-is) (left_by_tallied w.seek-s.ensures.sound w.seek-s.ensures.finds)
  ]

  -- A3(2)(b): and the second to that answer
  both_sought : (c : seek_difference-Joined-x-ne-FINISHED t) → let g = c.args.generator.now in
      LeavesTallied g.numbers.now g.ends.now g.nodes.now (c.args.node + 1) c.args.from (readers_of c.args.start) c.match-member.x (apart c.match-member.readers) →
      HoldsTallied g.numbers.now g.ends.now g.nodes.now c.args.node c.args.from (λ u. seek_tree (lists_from g.numbers.now 0 g.ends.now) u c.args.node c.args.from (readers_of c.args.start)) c.match-member.x c.if-x-ne-FINISHED.y (apart c.if-x-ne-FINISHED.readers)
  both_sought c f =
      let g = c.args.generator.now in
      let ended = holds_ended_tallied _ _ _ _ g.fit g.ready c.args.node c.requires.node_value c.args.from c.requires.from_le_top (readers_of c.args.start) c.args.start.tallied _ _ f in
      let both = holds_both_tallied _ _ _ _ g.fit g.ready c.args.node c.requires.node_value c.args.from c.requires.from_le_top (readers_of c.args.start) c.args.start.tallied _ _ f in
      elim c.if-x-ne-FINISHED.branch [
        | seek_difference-then-x-ne-FINISHED+in-Still-member w ↦ rw (w.y-is, w.readers-is) (both (omega (arith, f.leaves.low, w.if-x-ne-FINISHED.true)) _ _ (still_tallied _ _ _ _ _ _ f.tallied _ w.in-Still-member.ensures))
        | seek_difference-then-x-ne-FINISHED+in-Moved-member w ↦ rw (w.y-is, w.readers-is) (both (omega (arith, f.leaves.low, w.if-x-ne-FINISHED.true)) _ _ (moves_tallied _ _ _ _ _ _ f.tallied _ (second_inside c.args.generator.now.ready _ c.requires.node_value c.requires.standing) w.in-Moved-member.ensures.1))
        | seek_difference-then-x-ne-FINISHED+in-Operator-member w ↦ rw (w.y-is, w.readers-is) (both (omega (arith, f.leaves.low, w.if-x-ne-FINISHED.true)) _ _ (left_by_tallied w.seek-s-in-Operator-member.ensures.sound w.seek-s-in-Operator-member.ensures.finds))
        | seek_difference-else-x-ne-FINISHED w ↦ rw (w.y-is, w.readers-is) (ended _ (omega (arith, w.if-x-ne-FINISHED.false)) (omega (arith, w.if-x-ne-FINISHED.false)))
      ]

  -- A2(2)(a): the first has been sought past its answer
  next_sought : (c : seek_difference-Joined-member-3 t) → let g = c.args.generator.now in
      LeavesTallied g.numbers.now g.ends.now g.nodes.now (c.args.node + 1) (c.loop-y.x + 1) (apart c.loop-y.readers) c.match-member-3.next (apart c.match-member-3.readers)
  next_sought c = elim c.match-member-3.branch [
    | seek_difference-in-Still-member-2 w ↦ rw (w.next-is, w.readers-is) (still_tallied _ _ _ _ _ _ c.loop-y.invariant.tallied _ w.in-Still-member-2.ensures)
    | seek_difference-in-Moved-member-2 w ↦ rw (w.next-is, w.readers-is) (moves_tallied _ _ _ _ _ _ c.loop-y.invariant.tallied _ (first_inside c.args.generator.now.ready _ c.requires.node_value c.requires.standing) w.in-Moved-member-2.ensures.1)
    | seek_difference-in-Operator-member-2 w ↦ rw (w.next-is, w.readers-is) (left_by_tallied w.seek-s-in-Operator-member-2.ensures.sound w.seek-s-in-Operator-member-2.ensures.finds)
  ]

  -- A2(2)(b): and the second to that, where the first has not finished, or is not asked
  module _ (c : seek_difference-Joined-member-3 t) where
    again_sought : (y : ℕ) (last : Readers)
        → LeavesTallied c.args.generator.now.numbers.now c.args.generator.now.ends.now c.args.generator.now.nodes.now (get_or c.args.generator.now.behind.now (c.args.node + 1) 0) c.match-member-3.next (apart c.match-member-3.readers) y last
        → c.match-member-3.next < top
        → IncrementsTallied c.args.generator.now.numbers.now c.args.generator.now.ends.now c.args.generator.now.nodes.now c.args.node (apart c.if-x-ne-FINISHED.readers) c.match-member.x c.if-x-ne-FINISHED.y last c.match-member-3.next y
    again_sought y last second low =
        let g = c.args.generator.now in
        increments_tallied _ _ _ _ _ _ _ _ _ _ c.loop-y.invariant c.loop-y-test.true _ _ _
        (holds_both_tallied _ _ _ _ g.fit g.ready c.args.node c.requires.node_value (c.loop-y.x + 1) (next_low c.loop-y.invariant.holds c.loop-y-test.true) _ c.loop-y.invariant.tallied _ _ (next_sought c) low y last second)

pub seek_difference-overflow_add-first : goal.seek_difference-overflow_add-first
seek_difference-overflow_add-first t c = omega (arith, inside c.args.generator.now.ready _ c.requires.standing)

pub seek_difference-offset_bounds-generator-first : goal.seek_difference-offset_bounds-generator-first
seek_difference-offset_bounds-generator-first t c = omega (arith, first_inside c.args.generator.now.ready _ c.requires.node_value c.requires.standing)

pub seek_difference-bounds-generator-first : goal.seek_difference-bounds-generator-first
seek_difference-bounds-generator-first t c = first_inside c.args.generator.now.ready _ c.requires.node_value c.requires.standing

pub seek_difference-offset_bounds-readers-first : goal.seek_difference-offset_bounds-readers-first
seek_difference-offset_bounds-readers-first t c = omega (arith, first_inside c.args.generator.now.ready _ c.requires.node_value c.requires.standing)

pub seek_difference-bounds-readers-first : goal.seek_difference-bounds-readers-first
seek_difference-bounds-readers-first t c = first_inside c.args.generator.now.ready _ c.requires.node_value c.requires.standing

pub seek_difference-read_member-member-requires-clause-standing : goal.seek_difference-read_member-member-requires-clause-standing
seek_difference-read_member-member-requires-clause-standing t c = first_stands c.args.generator.now.ready _ c.requires.node_value c.requires.standing

pub seek_difference-offset_bounds-readers-first-in-Moved : goal.seek_difference-offset_bounds-readers-first-in-Moved
seek_difference-offset_bounds-readers-first-in-Moved t c = omega (arith, first_inside c.args.generator.now.ready _ c.requires.node_value c.requires.standing)

pub seek_difference-bounds-readers-first-in-Moved : goal.seek_difference-bounds-readers-first-in-Moved
seek_difference-bounds-readers-first-in-Moved t c = first_inside c.args.generator.now.ready _ c.requires.node_value c.requires.standing

pub seek_difference-overflow_add-readers : goal.seek_difference-overflow_add-readers
seek_difference-overflow_add-readers t c = omega (arith, stepped-fits (readers_of c.args.start) _ c.in-Moved.ensures.1.of (first_inside c.args.generator.now.ready _ c.requires.node_value c.requires.standing) c.args.start.tallied)

pub seek_difference-seek-s-requires : goal.seek_difference-seek-s-requires
seek_difference-seek-s-requires t c =
    (omega (arith, first_inside c.args.generator.now.ready _ c.requires.node_value c.requires.standing), (first_stands c.args.generator.now.ready _ c.requires.node_value c.requires.standing, c.requires.from_le_top))

pub seek_difference-offset_bounds-readers-second : goal.seek_difference-offset_bounds-readers-second
seek_difference-offset_bounds-readers-second t c = omega (arith, second_inside c.args.generator.now.ready _ c.requires.node_value c.requires.standing)

pub seek_difference-bounds-readers-second : goal.seek_difference-bounds-readers-second
seek_difference-bounds-readers-second t c = second_inside c.args.generator.now.ready _ c.requires.node_value c.requires.standing

pub seek_difference-read_member-member-requires-then-x-ne-FINISHED-clause-standing : goal.seek_difference-read_member-member-requires-then-x-ne-FINISHED-clause-standing
seek_difference-read_member-member-requires-then-x-ne-FINISHED-clause-standing t c = second_stands c.args.generator.now.ready _ c.requires.node_value c.requires.standing

pub seek_difference-offset_bounds-readers-second-in-Moved-member : goal.seek_difference-offset_bounds-readers-second-in-Moved-member
seek_difference-offset_bounds-readers-second-in-Moved-member t c = omega (arith, second_inside c.args.generator.now.ready _ c.requires.node_value c.requires.standing)

pub seek_difference-bounds-readers-second-in-Moved-member : goal.seek_difference-bounds-readers-second-in-Moved-member
seek_difference-bounds-readers-second-in-Moved-member t c = second_inside c.args.generator.now.ready _ c.requires.node_value c.requires.standing

pub seek_difference-overflow_add-readers-in-Moved-member : goal.seek_difference-overflow_add-readers-in-Moved-member
seek_difference-overflow_add-readers-in-Moved-member t c =
    omega (arith, stepped-fits (apart c.match-member.readers) _ c.in-Moved-member.ensures.1.of (second_inside c.args.generator.now.ready _ c.requires.node_value c.requires.standing) (first_sought t (goal.at.seek_difference-overflow_add-readers-in-Moved-member t c).Joined-member).tallied)

pub seek_difference-invariant_of-readers-in-Operator-member : goal.seek_difference-invariant_of-readers-in-Operator-member
seek_difference-invariant_of-readers-in-Operator-member t c = record { tallied = (first_sought t (goal.at.seek_difference-invariant_of-readers-in-Operator-member t c).Joined-member).tallied }

pub seek_difference-seek-s-requires-in-Operator-member : goal.seek_difference-seek-s-requires-in-Operator-member
seek_difference-seek-s-requires-in-Operator-member t c = (
  omega (arith, second_inside c.args.generator.now.ready _ c.requires.node_value c.requires.standing, goes_on c.args.generator.now.ready _ (first_stands c.args.generator.now.ready _ c.requires.node_value c.requires.standing)),
  (second_stands c.args.generator.now.ready _ c.requires.node_value c.requires.standing, (first_sought t (goal.at.seek_difference-seek-s-requires-in-Operator-member t c).Joined-member).leaves.low),
)

pub seek_difference-loop-y-init : goal.seek_difference-loop-y-init
seek_difference-loop-y-init t c =
    let w = goal.at.seek_difference-loop-y-init t c in
    let h = both_sought t w.Joined-x-ne-FINISHED (first_sought t w.Joined-member) in
    record { holds = record { above = omega arith; low = h.holds.low; not_finished = h.holds.not_finished; goes_on = λ u s. refl }; tallied = h.tallied }

pub seek_difference-offset_bounds-readers-first-in-loop-y : goal.seek_difference-offset_bounds-readers-first-in-loop-y
seek_difference-offset_bounds-readers-first-in-loop-y t c = omega (arith, first_inside c.args.generator.now.ready _ c.requires.node_value c.requires.standing)

pub seek_difference-bounds-readers-first-in-loop-y : goal.seek_difference-bounds-readers-first-in-loop-y
seek_difference-bounds-readers-first-in-loop-y t c = first_inside c.args.generator.now.ready _ c.requires.node_value c.requires.standing

pub seek_difference-read_member-member-requires-in-loop-y-clause-standing : goal.seek_difference-read_member-member-requires-in-loop-y-clause-standing
seek_difference-read_member-member-requires-in-loop-y-clause-standing t c = first_stands c.args.generator.now.ready _ c.requires.node_value c.requires.standing

pub seek_difference-offset_bounds-readers-first-in-Moved-member-2 : goal.seek_difference-offset_bounds-readers-first-in-Moved-member-2
seek_difference-offset_bounds-readers-first-in-Moved-member-2 t c = omega (arith, first_inside c.args.generator.now.ready _ c.requires.node_value c.requires.standing)

pub seek_difference-bounds-readers-first-in-Moved-member-2 : goal.seek_difference-bounds-readers-first-in-Moved-member-2
seek_difference-bounds-readers-first-in-Moved-member-2 t c = first_inside c.args.generator.now.ready _ c.requires.node_value c.requires.standing

pub seek_difference-overflow_add-readers-in-Moved-member-2 : goal.seek_difference-overflow_add-readers-in-Moved-member-2
seek_difference-overflow_add-readers-in-Moved-member-2 t c = omega (arith, stepped-fits (apart c.loop-y.readers) _ c.in-Moved-member-2.ensures.1.of (first_inside c.args.generator.now.ready _ c.requires.node_value c.requires.standing) c.loop-y.invariant.tallied)

pub seek_difference-seek-s-requires-in-Operator-member-2 : goal.seek_difference-seek-s-requires-in-Operator-member-2
seek_difference-seek-s-requires-in-Operator-member-2 t c =
    (omega (arith, first_inside c.args.generator.now.ready _ c.requires.node_value c.requires.standing), (first_stands c.args.generator.now.ready _ c.requires.node_value c.requires.standing, next_low c.loop-y.invariant.holds c.loop-y-test.true))

pub seek_difference-offset_bounds-readers-second-then-next-ne-FINISHED : goal.seek_difference-offset_bounds-readers-second-then-next-ne-FINISHED
seek_difference-offset_bounds-readers-second-then-next-ne-FINISHED t c = omega (arith, second_inside c.args.generator.now.ready _ c.requires.node_value c.requires.standing)

pub seek_difference-bounds-readers-second-then-next-ne-FINISHED : goal.seek_difference-bounds-readers-second-then-next-ne-FINISHED
seek_difference-bounds-readers-second-then-next-ne-FINISHED t c = second_inside c.args.generator.now.ready _ c.requires.node_value c.requires.standing

pub seek_difference-read_member-member-requires-then-next-ne-FINISHED : goal.seek_difference-read_member-member-requires-then-next-ne-FINISHED
seek_difference-read_member-member-requires-then-next-ne-FINISHED t c = record {
  standing = second_stands c.args.generator.now.ready _ c.requires.node_value c.requires.standing;
  to_le_top = (next_sought t (goal.at.seek_difference-read_member-member-requires-then-next-ne-FINISHED t c).Joined-member-3).leaves.low;
}

pub seek_difference-offset_bounds-readers-second-in-Moved-member-3 : goal.seek_difference-offset_bounds-readers-second-in-Moved-member-3
seek_difference-offset_bounds-readers-second-in-Moved-member-3 t c = omega (arith, second_inside c.args.generator.now.ready _ c.requires.node_value c.requires.standing)

pub seek_difference-bounds-readers-second-in-Moved-member-3 : goal.seek_difference-bounds-readers-second-in-Moved-member-3
seek_difference-bounds-readers-second-in-Moved-member-3 t c = second_inside c.args.generator.now.ready _ c.requires.node_value c.requires.standing

pub seek_difference-overflow_add-readers-in-Moved-member-3 : goal.seek_difference-overflow_add-readers-in-Moved-member-3
seek_difference-overflow_add-readers-in-Moved-member-3 t c =
    omega (arith, stepped-fits (apart c.match-member-3.readers) _ c.in-Moved-member-3.ensures.1.of (second_inside c.args.generator.now.ready _ c.requires.node_value c.requires.standing) (next_sought t (goal.at.seek_difference-overflow_add-readers-in-Moved-member-3 t c).Joined-member-3).tallied)

pub seek_difference-invariant_of-readers-in-Operator-member-3 : goal.seek_difference-invariant_of-readers-in-Operator-member-3
seek_difference-invariant_of-readers-in-Operator-member-3 t c = record { tallied = (next_sought t (goal.at.seek_difference-invariant_of-readers-in-Operator-member-3 t c).Joined-member-3).tallied }

pub seek_difference-seek-s-requires-in-Operator-member-3 : goal.seek_difference-seek-s-requires-in-Operator-member-3
seek_difference-seek-s-requires-in-Operator-member-3 t c = (
  omega (arith, second_inside c.args.generator.now.ready _ c.requires.node_value c.requires.standing, goes_on c.args.generator.now.ready _ (first_stands c.args.generator.now.ready _ c.requires.node_value c.requires.standing)),
  (second_stands c.args.generator.now.ready _ c.requires.node_value c.requires.standing, (next_sought t (goal.at.seek_difference-seek-s-requires-in-Operator-member-3 t c).Joined-member-3).leaves.low),
)

pub seek_difference-loop-y-preserved-in-Still-member-3 : goal.seek_difference-loop-y-preserved-in-Still-member-3
seek_difference-loop-y-preserved-in-Still-member-3 t c =
    let w = (goal.at.seek_difference-loop-y-preserved-in-Still-member-3 t c).Joined-member-3 in
    again_sought t w _ _ (still_tallied _ _ _ _ _ _ (next_sought t w).tallied _ c.in-Still-member-3.ensures) (omega (arith, (next_sought t w).leaves.low, c.if-next-ne-FINISHED.true))

pub seek_difference-loop-y-preserved-in-Moved-member-3 : goal.seek_difference-loop-y-preserved-in-Moved-member-3
seek_difference-loop-y-preserved-in-Moved-member-3 t c =
    let w = (goal.at.seek_difference-loop-y-preserved-in-Moved-member-3 t c).Joined-member-3 in
    again_sought t w _ _ (moves_tallied _ _ _ _ _ _ (next_sought t w).tallied _ (second_inside c.args.generator.now.ready _ c.requires.node_value c.requires.standing) c.in-Moved-member-3.ensures.1) (omega (arith, (next_sought t w).leaves.low, c.if-next-ne-FINISHED.true))

pub seek_difference-loop-y-preserved-in-Operator-member-3 : goal.seek_difference-loop-y-preserved-in-Operator-member-3
seek_difference-loop-y-preserved-in-Operator-member-3 t c =
    let w = (goal.at.seek_difference-loop-y-preserved-in-Operator-member-3 t c).Joined-member-3 in
    again_sought t w _ _ (left_by_tallied c.seek-s-in-Operator-member-3.ensures.sound c.seek-s-in-Operator-member-3.ensures.finds) (omega (arith, (next_sought t w).leaves.low, c.if-next-ne-FINISHED.true))

pub seek_difference-loop-y-preserved : goal.seek_difference-loop-y-preserved
seek_difference-loop-y-preserved t c =
    let g = c.args.generator.now in
    let low : c.loop-y.x + 1 ≤ top = next_low c.loop-y.invariant.holds c.loop-y-test.true in
    let w = (goal.at.seek_difference-loop-y-preserved t c).Joined-member-3 in
    increments_tallied _ _ _ _ _ _ _ _ _ _ c.loop-y.invariant c.loop-y-test.true _ _ _
    (holds_ended_tallied _ _ _ _ g.fit g.ready c.args.node c.requires.node_value (c.loop-y.x + 1) low _ c.loop-y.invariant.tallied _ _ (next_sought t w) _ (omega (arith, c.if-next-ne-FINISHED.false)) (omega (arith, c.if-next-ne-FINISHED.false, c.loop-y-test.true, low)))

pub seek_difference-returns-clause-finds : goal.seek_difference-returns-clause-finds
seek_difference-returns-clause-finds t c =
    let w = goal.at.seek_difference-returns-clause-finds t c in
    let h = both_sought t w.Joined-x-ne-FINISHED (first_sought t w.Joined-member) in
    λ u s. sym (holding_stop _ _ _ _ (λ same. omega (arith, same, c.loop-y-test.false))) ∙ c.loop-y.invariant.holds.goes_on u s ∙ h.holds.goes_on u s

-- ---- a union

module _ (t : ℕ) where
  this_tree : (c : seek_union-In-loop t) → Standing (length c.args.generator.now.ends.now) c.args.generator.now.nodes.now c.loop.at
  this_tree c = member_stands c.args.generator.now.ready _ (c.args.count - c.loop.counter) (omega (arith, c.loop-test.true)) c.loop.invariant.stand

  member_sought : (c : seek_union-Joined-member t) → c.loop.at < 48 → let g = c.args.generator.now in
      LeavesTallied g.numbers.now g.ends.now g.nodes.now c.loop.at c.args.to (apart c.loop.readers) c.match-member.x (apart c.match-member.readers)
  member_sought c here = elim c.match-member.branch [
    | seek_union-in-Still w ↦ rw (w.x-is, w.readers-is) (still_tallied _ _ _ _ _ _ c.loop.invariant.tallied _ w.in-Still.ensures)
    | seek_union-in-Moved w ↦ rw (w.x-is, w.readers-is) (moves_tallied _ _ _ _ _ _ c.loop.invariant.tallied _ here w.in-Moved.ensures.1)
    | seek_union-in-Operator w ↦ rw (w.x-is, w.readers-is) (left_by_tallied w.seek-s.ensures.sound w.seek-s.ensures.finds)
  ]

pub seek_union-overflow_add-at : goal.seek_union-overflow_add-at
seek_union-overflow_add-at t c = omega (arith, inside c.args.generator.now.ready _ c.requires.standing)

pub seek_union-loop-init : goal.seek_union-loop-init
seek_union-loop-init t c =
    let all : c.args.count - 0 ≡ c.args.count = omega arith in
    rw all (record {
      behind_node = omega arith;
      above = c.requires.to_le_top;
      low = omega arith;
      tallied = c.args.start.tallied;
      stand = members_stand c.args.generator.now.ready _ _ c.requires.node_value c.requires.standing;
      same = λ f on u s. unite _ _ _ _ c.args.generator.now.fit c.args.generator.now.ready _ _ c.requires.node_value u s _ _ c.requires.to_le_top c.args.start.tallied.many f on;
    })

pub seek_union-offset_bounds-readers-at : goal.seek_union-offset_bounds-readers-at
seek_union-offset_bounds-readers-at t c = omega (arith, inside c.args.generator.now.ready _ (this_tree t (goal.at.seek_union-offset_bounds-readers-at t c).In-loop))

pub seek_union-bounds-readers-at : goal.seek_union-bounds-readers-at
seek_union-bounds-readers-at t c = inside c.args.generator.now.ready _ (this_tree t (goal.at.seek_union-bounds-readers-at t c).In-loop)

pub seek_union-read_member-member-requires-clause-standing : goal.seek_union-read_member-member-requires-clause-standing
seek_union-read_member-member-requires-clause-standing t c = this_tree t (goal.at.seek_union-read_member-member-requires-clause-standing t c).In-loop

pub seek_union-offset_bounds-readers-at-in-Moved : goal.seek_union-offset_bounds-readers-at-in-Moved
seek_union-offset_bounds-readers-at-in-Moved t c = omega (arith, inside c.args.generator.now.ready _ (this_tree t (goal.at.seek_union-offset_bounds-readers-at-in-Moved t c).In-loop))

pub seek_union-bounds-readers-at-in-Moved : goal.seek_union-bounds-readers-at-in-Moved
seek_union-bounds-readers-at-in-Moved t c = inside c.args.generator.now.ready _ (this_tree t (goal.at.seek_union-bounds-readers-at-in-Moved t c).In-loop)

pub seek_union-overflow_add-readers : goal.seek_union-overflow_add-readers
seek_union-overflow_add-readers t c =
    omega (arith, stepped-fits (apart c.loop.readers) _ c.in-Moved.ensures.1.of (inside c.args.generator.now.ready _ (this_tree t (goal.at.seek_union-overflow_add-readers t c).In-loop)) c.loop.invariant.tallied)

pub seek_union-seek-s-requires : goal.seek_union-seek-s-requires
seek_union-seek-s-requires t c =
    let s = this_tree t (goal.at.seek_union-seek-s-requires t c).In-loop in
    (omega (arith, c.loop.invariant.behind_node, inside c.args.generator.now.ready _ s), (s, c.requires.to_le_top))

pub seek_union-offset_bounds-generator-at : goal.seek_union-offset_bounds-generator-at
seek_union-offset_bounds-generator-at t c = omega (arith, inside c.args.generator.now.ready _ (this_tree t (goal.at.seek_union-offset_bounds-generator-at t c).In-loop))

pub seek_union-bounds-generator-at : goal.seek_union-bounds-generator-at
seek_union-bounds-generator-at t c = inside c.args.generator.now.ready _ (this_tree t (goal.at.seek_union-bounds-generator-at t c).In-loop)

pub seek_union-loop-preserved : goal.seek_union-loop-preserved
seek_union-loop-preserved t c =
    let g = c.args.generator.now in
    let i = c.loop.invariant in
    let s = this_tree t (goal.at.seek_union-loop-preserved t c).In-loop in
    let e = member_sought t (goal.at.seek_union-loop-preserved t c).Joined-member (inside g.ready _ s) in
    let left : ℕ = c.args.count - c.loop.counter in
    let some : 0 < left = omega (arith, c.loop-test.true) in
    let fewer : c.args.count - (c.loop.counter + 1) ≡ left - 1 = omega arith in
    let least : c.if-x-least.least ≡ min c.loop.least c.match-member.x = elim c.if-x-least.branch [
      | seek_union-then-x-least w ↦ omega (arith, w.if-x-least.true, w.least-is)
      | seek_union-else-x-least w ↦ omega (arith, w.if-x-least.false, w.least-is)
    ] in
    rw fewer (record {
      behind_node = omega (arith, i.behind_node, goes_on g.ready _ s);
      above = omega (arith, least, i.above, e.leaves.above);
      low = omega (arith, least, i.low);
      tallied = e.tallied;
      stand = others_stand g.ready _ left some i.stand;
      same = λ f on. i.same f (unites_on _ _ _ g.behind.now g.ready.table _ _ left _ some _ _ e.leaves.finds _ _ f i.low e.leaves.low least on);
    })

pub seek_union-returns-clause-finds : goal.seek_union-returns-clause-finds
seek_union-returns-clause-finds t c = c.loop.invariant.same _ (unites_last _ _ _ _ _ _ _ (omega (arith, c.loop-test.false)) _)

-- ---- an intersection

module _ (t : ℕ) where
  -- the node that it has come to: the first member node, or a later one
  this_node : (c : seek_intersection-In-loop-left t) → let g = c.args.generator.now in Standing (length g.ends.now) g.nodes.now c.loop-left.at × (c.args.node < c.loop-left.at)
  this_node c =
      let g = c.args.generator.now in
      let v = every _ _ _ _ g.fit g.ready c.args.node c.args.count c.requires.node_value _ c.requires.standing.stands in
      ⊎_elim
      (λ w. (subst (Standing (length g.ends.now) g.nodes.now) (sym w.first_now) (record { tree = v.first; stands = v.split_at.first_at }), omega (arith, w.first_now)))
      (⊎_elim
      (λ w. (member_stands g.ready _ _ c.loop-left-test.true w.stand, omega (arith, w.behind_first)))
      (λ w. absurd (omega (arith, w.none_left, c.loop-left-test.true))))
      c.loop-left.invariant.stage

  node_sought : (c : seek_intersection-Joined-member t) → c.loop-left.at < 48 → let g = c.args.generator.now in
      LeavesTallied g.numbers.now g.ends.now g.nodes.now c.loop-left.at c.loop-left.candidate (apart c.loop-left.readers) c.match-member.x (apart c.match-member.readers)
  node_sought c here = elim c.match-member.branch [
    | seek_intersection-in-Still w ↦ rw (w.x-is, w.readers-is) (still_tallied _ _ _ _ _ _ c.loop-left.invariant.tallied _ w.in-Still.ensures)
    | seek_intersection-in-Moved w ↦ rw (w.x-is, w.readers-is) (moves_tallied _ _ _ _ _ _ c.loop-left.invariant.tallied _ here w.in-Moved.ensures.1)
    | seek_intersection-in-Operator w ↦ rw (w.x-is, w.readers-is) (left_by_tallied w.seek-s.ensures.sound w.seek-s.ensures.finds)
  ]

  -- where it is the first member node
  first_node_sought : (c : seek_intersection-Joined-member t) → c.loop-left.at < 48 → c.loop-left.at ≡ c.args.node + 1 → let g = c.args.generator.now in
      LeavesTallied g.numbers.now g.ends.now g.nodes.now (c.args.node + 1) c.loop-left.candidate (apart c.loop-left.readers) c.match-member.x (apart c.match-member.readers)
  first_node_sought c here h =
      let g = c.args.generator.now in
      subst (λ (i : ℕ). LeavesTallied g.numbers.now g.ends.now g.nodes.now i c.loop-left.candidate (apart c.loop-left.readers) c.match-member.x (apart c.match-member.readers)) h (node_sought c here)

  -- a higher answer is what the node and those behind it come to
  higher_answer : (c : seek_intersection-Joined-member t) → c.loop-left.at < 48 → c.loop-left.candidate < c.match-member.x → let g = c.args.generator.now in
      Comes (length g.ends.now) g.nodes.now (following (lists_from g.numbers.now 0 g.ends.now) c.loop-left.candidate) c.loop-left.at c.loop-left.left (apart c.loop-left.readers) (found c.match-member.x (apart c.match-member.readers))
  higher_answer c here higher = follows_stop _ _ _ c.args.generator.now.behind.now c.args.generator.now.ready.table _ _ _ _ c.loop-left-test.true _ _ (node_sought c here).leaves.finds higher

pub seek_intersection-overflow_add-first : goal.seek_intersection-overflow_add-first
seek_intersection-overflow_add-first t c = omega (arith, inside c.args.generator.now.ready _ c.requires.standing)

pub seek_intersection-offset_bounds-readers-at : goal.seek_intersection-offset_bounds-readers-at
seek_intersection-offset_bounds-readers-at t c = omega (arith, inside c.args.generator.now.ready _ (this_node t (goal.at.seek_intersection-offset_bounds-readers-at t c).In-loop-left).0)

pub seek_intersection-bounds-readers-at : goal.seek_intersection-bounds-readers-at
seek_intersection-bounds-readers-at t c = inside c.args.generator.now.ready _ (this_node t (goal.at.seek_intersection-bounds-readers-at t c).In-loop-left).0

pub seek_intersection-read_member-member-requires-clause-standing : goal.seek_intersection-read_member-member-requires-clause-standing
seek_intersection-read_member-member-requires-clause-standing t c = (this_node t (goal.at.seek_intersection-read_member-member-requires-clause-standing t c).In-loop-left).0

pub seek_intersection-offset_bounds-readers-at-in-Moved : goal.seek_intersection-offset_bounds-readers-at-in-Moved
seek_intersection-offset_bounds-readers-at-in-Moved t c = omega (arith, inside c.args.generator.now.ready _ (this_node t (goal.at.seek_intersection-offset_bounds-readers-at-in-Moved t c).In-loop-left).0)

pub seek_intersection-bounds-readers-at-in-Moved : goal.seek_intersection-bounds-readers-at-in-Moved
seek_intersection-bounds-readers-at-in-Moved t c = inside c.args.generator.now.ready _ (this_node t (goal.at.seek_intersection-bounds-readers-at-in-Moved t c).In-loop-left).0

pub seek_intersection-overflow_add-readers : goal.seek_intersection-overflow_add-readers
seek_intersection-overflow_add-readers t c =
    omega (arith, stepped-fits (apart c.loop-left.readers) _ c.in-Moved.ensures.1.of (inside c.args.generator.now.ready _ (this_node t (goal.at.seek_intersection-overflow_add-readers t c).In-loop-left).0) c.loop-left.invariant.tallied)

pub seek_intersection-seek-s-requires : goal.seek_intersection-seek-s-requires
seek_intersection-seek-s-requires t c =
    let at = this_node t (goal.at.seek_intersection-seek-s-requires t c).In-loop-left in
    (omega (arith, inside c.args.generator.now.ready _ at.0, at.1), (at.0, c.loop-left.invariant.low))

pub seek_intersection-offset_bounds-generator-at : goal.seek_intersection-offset_bounds-generator-at
seek_intersection-offset_bounds-generator-at t c = omega (arith, inside c.args.generator.now.ready _ (this_node t (goal.at.seek_intersection-offset_bounds-generator-at t c).In-loop-left).0)

pub seek_intersection-bounds-generator-at : goal.seek_intersection-bounds-generator-at
seek_intersection-bounds-generator-at t c = inside c.args.generator.now.ready _ (this_node t (goal.at.seek_intersection-bounds-generator-at t c).In-loop-left).0

pub seek_intersection-loop-left-preserved-then-x-eq-FINISHED : goal.seek_intersection-loop-left-preserved-then-x-eq-FINISHED
seek_intersection-loop-left-preserved-then-x-eq-FINISHED t c =
    let g = c.args.generator.now in
    let w = (goal.at.seek_intersection-loop-left-preserved-then-x-eq-FINISHED t c).Joined-member in
    let here = inside c.args.generator.now.ready _ (this_node t (goal.at.seek_intersection-loop-left-preserved-then-x-eq-FINISHED t c).In-loop-left).0 in
    let e = node_sought t w here in
    let i = c.loop-left.invariant in
    let ends = c.if-x-eq-FINISHED.true in
    record {
      above = omega (arith, i.above, e.leaves.above);
      low = e.leaves.low;
      tallied = e.tallied;
      stage = inr (inr (record {
        none_left = refl;
        same = λ u s. ⊎_elim
            (λ b.
            let v = every _ _ _ _ g.fit g.ready c.args.node c.args.count c.requires.node_value u s in
            every-ended _ _ _ _ _ _ _ _ u v _ _ i.low i.tallied.many _ _ ((first_node_sought t w here b.first_now).leaves.finds v.first v.split_at.first_at) (omega (arith, ends)) ∙ b.same u s)
            (⊎_elim
            (λ b. sym (going-none _ _ _ _ (omega (arith, ends))) ∙ b.same _ (higher_answer t w here (omega (arith, ends, b.low))) u s)
            (λ b. absurd (omega (arith, b.none_left, c.loop-left-test.true))))
            i.stage;
      }));
    }

pub seek_intersection-loop-left-preserved-then-begins_again : goal.seek_intersection-loop-left-preserved-then-begins_again
seek_intersection-loop-left-preserved-then-begins_again t c =
    let w = (goal.at.seek_intersection-loop-left-preserved-then-begins_again t c).Joined-member in
    let here = inside c.args.generator.now.ready _ (this_node t (goal.at.seek_intersection-loop-left-preserved-then-begins_again t c).In-loop-left).0 in
    let e = node_sought t w here in
    let i = c.loop-left.invariant in
    let low = lt_of_le-ne e.leaves.low c.if-x-eq-FINISHED.false in
    let higher = again_above _ _ _ _ _ c.begins_again.ensures c.if-begins_again.true in
    record {
      above = omega (arith, i.above, e.leaves.above);
      low = e.leaves.low;
      tallied = e.tallied;
      stage = inl (record {
        first_now = refl;
        all_left = refl;
        same = λ u s. ⊎_elim
            (λ b. absurd (higher.1 b.first_now))
            (⊎_elim
            (λ b. sym (going-turn _ _ _ _ higher.0 low) ∙ b.same _ (higher_answer t w here higher.0) u s)
            (λ b. absurd (omega (arith, b.none_left, c.loop-left-test.true))))
            i.stage;
      });
    }

pub seek_intersection-loop-left-preserved : goal.seek_intersection-loop-left-preserved
seek_intersection-loop-left-preserved t c =
    let g = c.args.generator.now in
    let w = (goal.at.seek_intersection-loop-left-preserved t c).Joined-member in
    let at = this_node t (goal.at.seek_intersection-loop-left-preserved t c).In-loop-left in
    let here = inside g.ready _ at.0 in
    let e = node_sought t w here in
    let i = c.loop-left.invariant in
    let v = every _ _ _ _ g.fit g.ready c.args.node c.args.count c.requires.node_value _ c.requires.standing.stands in
    let low = lt_of_le-ne e.leaves.low c.if-x-eq-FINISHED.false in
    let later = goes_on g.ready _ at.0 in
    let within = Within g.numbers.now g.ends.now g.nodes.now c.args.node c.args.from (c.args.node + 1) (readers_of c.args.start) in
    record {
      above = omega (arith, i.above, e.leaves.above);
      low = e.leaves.low;
      tallied = e.tallied;
      stage = inr (inl (⊎_elim
          (λ b.
          let behind : ℕ → ℕ = λ i. get_or g.behind.now i 0 in
          subst (λ (i : ℕ). within c.match-member.x (behind i) (c.loop-left.left - 1) (apart c.match-member.readers)) (sym b.first_now)
          (subst (λ (n : ℕ). within c.match-member.x (behind (c.args.node + 1)) (n - 1) (apart c.match-member.readers)) (sym b.all_left) (record {
            behind_first = omega (arith, later, b.first_now, ap behind b.first_now);
            low = low;
            stand = record { trees = v.others; stand = v.split_at.others_at; many = omega (arith, v.many) };
            same = λ f on u s. let y = every _ _ _ _ g.fit g.ready c.args.node c.args.count c.requires.node_value u s in
                every-begun _ _ _ _ _ _ _ _ u y _ _ i.low i.tallied.many _ _ ((first_node_sought t w here b.first_now).leaves.finds y.first y.split_at.first_at) low f on ∙ b.same u s;
          })))
          (⊎_elim
          (λ b.
          let same : c.match-member.x ≡ c.loop-left.candidate = omega (arith, e.leaves.above, again_else c.loop-left.candidate c.match-member.x c.loop-left.at (c.args.node + 1) _ c.begins_again.ensures c.if-begins_again.false (λ first. omega (arith, first, b.behind_first))) in
          subst (λ (n : ℕ). within n (get_or g.behind.now c.loop-left.at 0) (c.loop-left.left - 1) (apart c.match-member.readers)) (sym same) (record {
            behind_first = omega (arith, later, b.behind_first);
            low = b.low;
            stand = others_stand g.ready _ _ c.loop-left-test.true b.stand;
            same = λ f on. b.same f (follows_on _ _ _ g.behind.now g.ready.table _ _ _ _ c.loop-left-test.true _ _ e.leaves.finds f b.low same on);
          }))
          (λ b. absurd (omega (arith, b.none_left, c.loop-left-test.true))))
          i.stage));
    }

pub seek_intersection-returns-clause-finds : goal.seek_intersection-returns-clause-finds
seek_intersection-returns-clause-finds t c =
    let g = c.args.generator.now in
    let v = every _ _ _ _ g.fit g.ready c.args.node c.args.count c.requires.node_value _ c.requires.standing.stands in
    λ u s. ⊎_elim
    (λ b. absurd (omega (arith, b.all_left, v.many, c.loop-left-test.false)))
    (⊎_elim
    (λ b. sym (going_stop _ _ _ _ refl b.low) ∙ b.same _ (follows_last _ _ _ _ _ _ _ c.loop-left-test.false b.low) u s)
    (λ b. b.same u s))
    c.loop-left.invariant.stage
