-- `read_member` meets its contract: up to 31 the byte is a list's, whose reader's step it is. Assumes nothing.
use borrow.Author.Tests.{le-leb, lt-leb}
use denote.Enum.Declared.{tag_of}
use mathlib.Core.Path.{◌≡◌, sym, ap}
use mathlib.Core.Bool.{Bool, true, false, ◌&&◌, cond}
use Prim.Native.Nat.{ℕ, ◌-◌, ◌≤◌, ◌<◌}
use native.Mathlib.Omega.{arith}
use lib.Arith.{lt_of_le-ne}
use lib.Dec.{leb, eqb}
use Rattle.model.specs.declared.Node.{Node}
use Rattle.model.specs.declared.Node.TheVariants.{Leaf, Difference, Union, Intersection}
use Rattle.model.specs.contracts.Node.{the_type}
use Rattle.model.specs.Outcome.{refused, accepted}
use Rattle.model.specs.Forms.{node_of}
use Rattle.model.proofs.Accepted.{accepted-same, never_accepted}
use Rattle.reader.specs.Sought.{Read, Named}
use Rattle.reader.proofs.Moves.{stays}
use Rattle.reader.proofs.read_member.Goals as goal
use Rattle.reader.proofs.read_member.Goals.{After-read_list-r}

-- "0 to 31 a list"
a_list : (b : ℕ) → b ≤ 31 → node_of b ≡ accepted (Leaf b)
unfolding node_of
a_list b h = rw (le-leb b 31 h)

-- any other byte is none
no_list : (b : ℕ) → 31 < b → (k : ℕ) → node_of b ≡ accepted (Leaf k) → ⊥
unfolding node_of
no_list b h k e = go (eqb b 64) (leb 129 b && leb b 136) (leb 193 b && leb b 200) (rw (lt-leb b 31 h) at e)
  where
    apart : (n : Node) → accepted n ≡ accepted (Leaf k) → tag_of the_type n ≡ 0
    apart n q = ap (tag_of the_type) (accepted-same q)

    go : (p q r : Bool) → cond p (accepted Difference) (cond q (accepted (Union (b - 128))) (cond r (accepted (Intersection (b - 192))) (refused 14))) ≡ accepted (Leaf k) → ⊥
    go true q r e = omega (arith, apart Difference e)
    go false true r e = omega (arith, apart (Union (b - 128)) e)
    go false false true e = omega (arith, apart (Intersection (b - 192)) e)
    go false false false e = never_accepted e

-- the reader's step over the list that the byte names
list_read : (q : After-read_list-r) → let args = q.args in
    Named args.numbers.now args.ends.now args.byte (λ l. Read l args.place args.to q.read_list-r.result)
list_read q = let args = q.args in
    record { list = args.byte; named = a_list args.byte (omega arith); of = q.read_list-r.ensures }

pub read_list-r-requires : goal.read_list-r-requires
read_list-r-requires c =
    record {
      readable = c.requires.readable;
      k_in_bounds = (omega (arith, c.requires.by_index.0 c.args.byte (a_list c.args.byte (omega arith))), c.requires.by_index.1);
    }

pub returns-then-r-eq0 : goal.returns-then-r-eq0
returns-then-r-eq0 c =
    let r = list_read (goal.at.returns-then-r-eq0 c).After-read_list-r in
    record { list = r.list; named = r.named; of = stays _ _ _ _ r.of c.if-r-eq0.true }

pub returns-else-r-eq0 : goal.returns-else-r-eq0
returns-else-r-eq0 c = (lt_of_le-ne (omega arith) (λ z. c.if-r-eq0.false (sym z)), list_read (goal.at.returns-else-r-eq0 c).After-read_list-r)

pub returns-in_default : goal.returns-in_default
returns-in_default c = no_list c.args.byte (omega arith)
