-- `checks::check` and `check_members` meet their contracts. Assumes nothing.
use mathlib.Core.Path.{◌≡◌, refl, sym, ap, ◌∙◌}
use mathlib.Core.Bool.{Bool, true, false, not, beq}
use mathlib.Core.Logic.{◌⊎◌, inl, inr, ⊎_elim}
use mathlib.Core.List.{List}
use Prim.Native.Nat.{ℕ, ◌-◌, ◌<◌}
use native.Mathlib.Omega.{arith}
use borrow.Author.Tests.{eq-eqb, ne_eqb}
use lib.Dec.{eqb}
use lib.ListN.{length, get_or}
use Rattle.model.specs.declared.Node.{Node}
use Rattle.model.specs.declared.Node.TheVariants.{Difference}
use Rattle.model.specs.Outcome.{accepted}
use Rattle.model.specs.Lists.{top}
use Rattle.model.specs.Forms.{node_of}
use Rattle.model.specs.Steps as model
use Rattle.model.specs.Steps.{Checked, says}
use Rattle.model.proofs.Order.{not_both}
use Rattle.expression.specs.Reading.{members}
use Rattle.reader.specs.Rows.{Standing, Ready}
use Rattle.reader.specs.Sought.{readers_of, has_read, Read, Named}
use Rattle.reader.proofs.Moves.{apart, AreTallied, stepped_tallied, stepped-fits}
use Rattle.reader.proofs.Members.{not_unknown, list-there, members_stand, inside, goes_on, member_stands, others_stand}
use Rattle.checks.proofs.Until.{said, Says, Say, none_left, sought, not_sought}
use Rattle.checks.proofs.Nodes.{joins, of_members, of_difference}
use Rattle.checks.proofs.Stepping.{still, moves}
use Rattle.checks.proofs.+check_check_members.Invariants.{Going, Done}
use Rattle.checks.proofs.+check_check_members.Goals as goal
use Rattle.checks.proofs.+check_check_members.Goals.{check-In-Ok, check-After-read_list-r, check-in-Difference, check-in-Union, check-in-Intersection}
use Rattle.checks.proofs.+check_check_members.Goals.{check_members-Else-yes-until, check_members-Joined-turned, check_members-in-Still, check_members-in-Moved, check_members-in-Operator, check_members-then-turned+then-left-eq0, check_members-then-turned+else-left-eq0, check_members-else-turned}
use Rattle.checks.proofs.+check_check_members.Goals.{check_members-else-loop-left-test, check_members-then-loop-left-test+then-yes-until}

-- the same by equal bounds
said_as : (numbers ends nodes : List ℕ) (d i : ℕ) (rs : model.Readers) (c : Checked) (b z b' z' : Bool) (n n' : ℕ) → b ≡ b' → z ≡ z' → n ≡ n'
    → Say numbers ends nodes d b z i n rs c → Say numbers ends nodes d b' z' i n' rs c
said_as numbers ends nodes d i rs c b z b' z' n n' p q r say = rw (← p, ← q, ← r) say

-- ---- the check of a node

module _ (t : ℕ) where
  -- the node that the code has read
  node-is : (c : check-In-Ok t) (n : Node) → c.in-Ok.known ≡ n → node_of (get_or c.args.generator.now.nodes.now c.args.node 0) ≡ accepted n
  node-is c n e = sym c.in-Ok.ensures ∙ ap accepted e

  -- the list that the code has read
  node_list : (c : check-After-read_list-r t) →
      Named c.args.generator.now.numbers.now c.args.generator.now.ends.now (get_or c.args.generator.now.nodes.now c.args.node 0) (λ l. Read l (get_or c.args.start.places c.args.node 0) c.args.d c.read_list-r.result)
  node_list c = record {
    list = c.in-Leaf.k;
    named = sym c.in-Ok.ensures ∙ ap accepted c.in-Leaf.is;
    of = rw c.from-to.ensures at c.read_list-r.ensures;
  }

  node_moves : (c : check-After-read_list-r t) → let g = c.args.generator.now in
      Says g.numbers.now g.ends.now g.nodes.now c.args.d c.args.node (readers_of c.args.start)
      (says (eqb c.read_list-r.result.answer c.args.d) (has_read c.args.node c.read_list-r.result (readers_of c.args.start)))
  node_moves c = moves c.args.generator.now.ready c.args.node c.args.d (omega (arith, c.ranges.d.fits)) _ _ (node_list c)

pub check-bounds-generator-node : goal.check-bounds-generator-node
check-bounds-generator-node t c = inside c.args.generator.now.ready _ c.requires

pub check-returns-in_default : goal.check-returns-in_default
check-returns-in_default t c =
    absurd (not_unknown c.args.generator.now.ready _ _ (sym c.in_default.ensures) c.requires)

pub check-offset_bounds-readers-node : goal.check-offset_bounds-readers-node
check-offset_bounds-readers-node t c = omega (arith, inside c.args.generator.now.ready _ c.requires)

pub check-bounds-readers-node : goal.check-bounds-readers-node
check-bounds-readers-node t c = inside c.args.generator.now.ready _ c.requires

pub check-read_list-r-requires-clause-k_in_bounds : goal.check-read_list-r-requires-clause-k_in_bounds
check-read_list-r-requires-clause-k_in_bounds t c = (
  omega (arith, list-there c.args.generator.now.ready _ c.in-Leaf.k (sym c.in-Ok.ensures ∙ ap accepted c.in-Leaf.is) c.requires),
  omega (arith, c.from-to.ensures, c.ranges.d.fits),
)

pub check-offset_bounds-readers-node-in-Leaf : goal.check-offset_bounds-readers-node-in-Leaf
check-offset_bounds-readers-node-in-Leaf t c = omega (arith, inside c.args.generator.now.ready _ c.requires)

pub check-bounds-readers-node-in-Leaf : goal.check-bounds-readers-node-in-Leaf
check-bounds-readers-node-in-Leaf t c = inside c.args.generator.now.ready _ c.requires

pub check-overflow_add-readers : goal.check-overflow_add-readers
check-overflow_add-readers t c =
    omega (arith, stepped-fits (readers_of c.args.start) _ (node_list t (goal.at.check-overflow_add-readers t c).After-read_list-r).of (inside c.args.generator.now.ready _ c.requires) c.args.start.tallied)

pub check-invariant_of-readers : goal.check-invariant_of-readers
check-invariant_of-readers t c =
    record { tallied = stepped_tallied (readers_of c.args.start) _ (node_list t (goal.at.check-invariant_of-readers t c).After-read_list-r).of (inside c.args.generator.now.ready _ c.requires) c.args.start.tallied }

pub check-returns-in-Leaf : goal.check-returns-in-Leaf
check-returns-in-Leaf t c =
    rw c.from-to.ensures (node_moves t (goal.at.check-returns-in-Leaf t c).After-read_list-r)

pub check-overflow_add-node : goal.check-overflow_add-node
check-overflow_add-node t c = omega (arith, inside c.args.generator.now.ready _ c.requires)

pub check-check_members-requires : goal.check-check_members-requires
check-check_members-requires t c = (
  omega (arith, c.decreases, inside c.args.generator.now.ready _ c.requires),
  rw c.members_of-count.ensures (members_stand c.args.generator.now.ready _ _ (sym c.in-Ok.ensures) c.requires),
)

pub check-returns : goal.check-returns
check-returns t c =
    let r = (goal.at.check-returns t c).In-Ok in
    let ready = c.args.generator.now.ready in
    let many = c.members_of-count.ensures in
    let e = c.check_members.ensures in
    elim c.match-known.branch [
      | check-in-Difference w ↦ of_difference ready _ _ _ _ (node-is t r Difference w.in-Difference.is) (said_as _ _ _ _ _ _ _ _ _ _ _ _ _ w.until-is w.turned-is (many ∙ ap members w.in-Difference.is) e)
      | check-in-Union w ↦ of_members ready _ _ _ true w.in-Union.field-0 _ (node-is t r (joins true w.in-Union.field-0) w.in-Union.is) (said_as _ _ _ _ _ _ _ _ _ _ _ _ _ w.until-is w.turned-is (many ∙ ap members w.in-Union.is) e)
      | check-in-Intersection w ↦ of_members ready _ _ _ false w.in-Intersection.field-0 _ (node-is t r (joins false w.in-Intersection.field-0) w.in-Intersection.is) (said_as _ _ _ _ _ _ _ _ _ _ _ _ _ w.until-is w.turned-is (many ∙ ap members w.in-Intersection.is) e)
    ]

-- ---- the checks of member nodes

none_yet : (b : Bool) → beq (not b) b ≡ false
none_yet true = refl
none_yet false = refl

other : (y b : Bool) → beq y b ≡ false → y ≡ not b
other true true h = cc h
other true false h = refl
other false true h = refl
other false false h = cc h

-- a member node has replied, and what it says decides or not
module _ {numbers ends nodes behind : List ℕ} (ready : Ready numbers ends nodes behind) (first count : ℕ) (until turned : Bool) (d : ℕ) (from here after : model.Readers) (last y : Bool) (at left : ℕ) where
  turns : 0 < left → Going numbers ends nodes first count until turned d from here last at left → Says numbers ends nodes d at here (says y after)
      → Going numbers ends nodes first count until turned d from after (said turned left y) (get_or behind at 0) (left - 1) ⊎ Done numbers ends nodes first count until turned d from after (said turned left y)
  turns h w a = go (beq (said turned left y) until) refl
    where
      go : (b : Bool) → beq (said turned left y) until ≡ b
          → Going numbers ends nodes first count until turned d from after (said turned left y) (get_or behind at 0) (left - 1) ⊎ Done numbers ends nodes first count until turned d from after (said turned left y)
      go true so = inr (record { so = so; say = w.all_say _ (sought numbers ends nodes d until turned at left _ y _ h a so) })
      go false not_so = inl (record {
        not_so = not_so;
        stand = others_stand ready at left h w.stand;
        later = omega (arith, w.later, goes_on ready at (member_stands ready at left h w.stand));
        all_say = λ r on. w.all_say r (not_sought numbers ends nodes d until turned at left _ y _ h a behind ready.table r not_so on);
      })

module _ (t : ℕ) where
  -- a turn: a member node is left, and no one has said so
  abbrev Turn : Type 0
  Turn = check_members-Else-yes-until t

  going : (c : Turn) → let g = c.args.generator.now in
      Going g.numbers.now g.ends.now g.nodes.now c.args.first c.args.count c.args.until c.args.turned c.args.d (readers_of c.args.start) (apart c.loop-left.readers) c.loop-left.yes c.loop-left.at c.loop-left.left
  going c = ⊎_elim (λ w. w) (λ w. absurd (not_both w.so c.if-yes-until.false)) c.loop-left.invariant.1

  this_tree : (c : Turn) → Standing (length c.args.generator.now.ends.now) c.args.generator.now.nodes.now c.loop-left.at
  this_tree c = member_stands c.args.generator.now.ready _ _ (omega (arith, c.loop-left-test.true)) (going c).stand

  node-there : (c : Turn) → c.loop-left.at < 48
  node-there c = inside c.args.generator.now.ready _ (this_tree c)

  -- the member node has replied: what its check leaves
  member_step : (c : check_members-Joined-turned t) → let g = c.args.generator.now in
      Says g.numbers.now g.ends.now g.nodes.now c.args.d c.loop-left.at (apart c.loop-left.readers) (says c.match-member.yes (apart c.match-member.readers))
  member_step c =
      let to = c.from-to.ensures in
      let low : c.args.d < top = omega (arith, c.ranges.d.fits) in
      let ready = c.args.generator.now.ready in
      elim c.match-member.branch [
        | check_members-in-Still w ↦ rw (w.readers-is, w.yes-is, to) (still ready _ _ low _ _ (rw to at w.in-Still.ensures))
        | check_members-in-Moved w ↦ rw (w.readers-is, w.yes-is, to) (moves ready _ _ low _ _ (rw to at w.in-Moved.ensures).1)
        | check_members-in-Operator w ↦ rw (w.readers-is, w.yes-is) w.check-s.ensures
      ]

  -- and the readers that it leaves are tallied
  member_tallied : (c : check_members-Joined-turned t) → c.loop-left.at < 48 → AreTallied (apart c.match-member.readers)
  member_tallied c here = elim c.match-member.branch [
    | check_members-in-Still w ↦ rw w.readers-is c.loop-left.invariant.0
    | check_members-in-Moved w ↦ rw w.readers-is (stepped_tallied (apart c.loop-left.readers) _ w.in-Moved.ensures.1.of here c.loop-left.invariant.0)
    | check_members-in-Operator w ↦ rw w.readers-is w.check-s.result.readers.tallied
  ]

  -- the reply is said turned round where it is the last of those that are
  said-is : (c : check_members-Joined-turned t) → c.if-turned.yes ≡ said c.args.turned c.loop-left.left c.match-member.yes
  said-is c = elim c.if-turned.branch [
    | check_members-then-turned+then-left-eq0 w ↦ rw (w.yes-is, said, w.if-turned.true, eq-eqb c.loop-left.left 1 (omega (arith, w.if-left-eq0.true))) refl
    | check_members-then-turned+else-left-eq0 w ↦ rw (w.yes-is, said, w.if-turned.true, ne_eqb c.loop-left.left 1 (λ e. w.if-left-eq0.false (omega arith))) refl
    | check_members-else-turned w ↦ rw (w.yes-is, said, w.if-turned.false) refl
  ]

pub check_members-loop-left-init : goal.check_members-loop-left-init
check_members-loop-left-init t c = (c.args.start.tallied, inl (record { not_so = none_yet c.args.until; stand = c.requires; later = omega arith; all_say = λ r on. on }))

pub check_members-offset_bounds-readers-at : goal.check_members-offset_bounds-readers-at
check_members-offset_bounds-readers-at t c = omega (arith, node-there t (goal.at.check_members-offset_bounds-readers-at t c).Else-yes-until)

pub check_members-bounds-readers-at : goal.check_members-bounds-readers-at
check_members-bounds-readers-at t c = node-there t (goal.at.check_members-bounds-readers-at t c).Else-yes-until

pub check_members-read_member-member-requires : goal.check_members-read_member-member-requires
check_members-read_member-member-requires t c =
    record { standing = this_tree t (goal.at.check_members-read_member-member-requires t c).Else-yes-until; to_le_top = omega (arith, c.from-to.ensures, c.ranges.d.fits) }

pub check_members-offset_bounds-readers-at-in-Moved : goal.check_members-offset_bounds-readers-at-in-Moved
check_members-offset_bounds-readers-at-in-Moved t c = omega (arith, node-there t (goal.at.check_members-offset_bounds-readers-at-in-Moved t c).Else-yes-until)

pub check_members-bounds-readers-at-in-Moved : goal.check_members-bounds-readers-at-in-Moved
check_members-bounds-readers-at-in-Moved t c = node-there t (goal.at.check_members-bounds-readers-at-in-Moved t c).Else-yes-until

pub check_members-overflow_add-readers : goal.check_members-overflow_add-readers
check_members-overflow_add-readers t c =
    omega (arith, stepped-fits (apart c.loop-left.readers) _ c.in-Moved.ensures.1.of (node-there t (goal.at.check_members-overflow_add-readers t c).Else-yes-until) c.loop-left.invariant.0)

pub check_members-check-s-requires : goal.check_members-check-s-requires
check_members-check-s-requires t c =
    let l = (goal.at.check_members-check-s-requires t c).Else-yes-until in
    (omega (arith, c.decreases, node-there t l, (going t l).later), this_tree t l)

pub check_members-offset_bounds-generator-at : goal.check_members-offset_bounds-generator-at
check_members-offset_bounds-generator-at t c = omega (arith, node-there t (goal.at.check_members-offset_bounds-generator-at t c).Else-yes-until)

pub check_members-bounds-generator-at : goal.check_members-bounds-generator-at
check_members-bounds-generator-at t c = node-there t (goal.at.check_members-bounds-generator-at t c).Else-yes-until

pub check_members-loop-left-preserved : goal.check_members-loop-left-preserved
check_members-loop-left-preserved t c =
    let l = (goal.at.check_members-loop-left-preserved t c).Else-yes-until in
    let j = (goal.at.check_members-loop-left-preserved t c).Joined-turned in
    (member_tallied t j (node-there t l), rw (said-is t j) (turns c.args.generator.now.ready _ _ _ _ _ _ _ _ _ _ _ _ (omega (arith, c.loop-left-test.true)) (going t l) (member_step t j)))

pub check_members-returns : goal.check_members-returns
check_members-returns t c = elim c.loop-left-test.branch [
  | check_members-else-loop-left-test w ↦ ⊎_elim
      (λ g. rw (other c.loop-left.yes c.args.until g.not_so) (g.all_say _ (none_left _ _ _ _ _ _ _ _ _ (omega (arith, w.loop-left-test.false)))))
      (λ g. g.say)
      c.loop-left.invariant.1
  | check_members-then-loop-left-test+then-yes-until w ↦ ⊎_elim (λ g. absurd (not_both w.if-yes-until.true g.not_so)) (λ g. g.say) c.loop-left.invariant.1
]
