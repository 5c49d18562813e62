-- `most_members` meets its contract: behind `at` stand the bounds of the trees from node i on. Assumes nothing.
use mathlib.Core.Path.{◌≡◌, refl, sym, ap, ◌∙◌}
use mathlib.Core.List.{List, [], ◌∷◌, ◌++◌, reverse}
use Prim.Native.Nat.{ℕ, ◌-◌, ◌<◌}
use native.Mathlib.Omega.{arith}
use lib.ListN.{length, get_or, drop, length-set, length-append, drop_of_length-le}
use Rattle.std.proofs.lemmas.Grind.{get_or_default_zero}
use Rattle.std.proofs.lemmas.List.{get_or-reverse, length-reverse}
use Rattle.std.proofs.lemmas.Iterator.Adapters.{YieldsList-from_rev_slice}
use Rattle.std.proofs.lemmas.Iterator.Consumers.{YieldsList-turn}
use Rattle.model.specs.Bounds.{lengths_from}
use Rattle.capacity.proofs.Lengths.{lengths-many, lengths-few}
use Rattle.bounds.specs.Backwards.{trees}
use Rattle.bounds.proofs.Turns.{Puts, puts}
use Rattle.bounds.proofs.most_members.Goals as goal
use Rattle.bounds.proofs.most_members.Goals.{After-members_of}

-- the byte that comes after so many from the end
from_end : (nodes : List ℕ) (m b : ℕ) → (m < length (reverse nodes)) × (b ≡ get_or (reverse nodes) m b) → (m < length nodes) × (b ≡ get_or nodes (length nodes - m - 1) 0)
from_end nodes m b t =
    let here : m < length nodes = omega (arith, length-reverse nodes) in
    let at : length nodes - 1 - m ≡ length nodes - m - 1 = omega arith in
    (here, t.1 ∙ get_or-reverse nodes m b here ∙ get_or_default_zero nodes (length nodes - 1 - m) b (omega arith) ∙ ap (λ (k : ℕ). get_or nodes k 0) at)

this : (c : After-members_of) → let l = c.loop-b in let nodes = c.args.nodes.now in Puts (lengths_from 0 c.args.ends.now) nodes l.bounds l.at (length nodes - length l.yielded) c.known-node.result c.members_of.result
this c =
    let l = c.loop-b in
    let nodes : List ℕ = c.args.nodes.now in
    let t = from_end nodes (length l.yielded) c.in-Some.field-0.now (YieldsList-turn (YieldsList-from_rev_slice nodes cc) l.yielded l.b-iterator l.yielded_by c.next.result c.next.new.self c.in-Some.field-0 c.in-Some.is c.next.ensures.steps) in
    puts _ nodes l.bounds l.at (length nodes - length l.yielded) (lengths-few 0 c.args.ends.now c.requires.ends_value.0) c.requires.whole.0 c.requires.ends_value.1 (omega arith)
    (record { inside = omega arith; low = l.invariant.0; long = l.invariant.1.0; stand = l.invariant.1.1 }) c.known-node.result (rw t.1 at c.known-node.ensures) c.members_of.result c.members_of.ensures

pub loop-b-init : goal.loop-b-init
unfolding trees
loop-b-init c = (omega arith, (refl, sym (ap (trees (lengths_from 0 c.args.ends.now)) (drop_of_length-le c.args.nodes.now {i = length c.args.nodes.now - 0} (omega arith)))))

pub slice_bounds-bound_of-end : goal.slice_bounds-bound_of-end
slice_bounds-bound_of-end c = omega (arith, (this (goal.at.slice_bounds-bound_of-end c).After-members_of).room, c.loop-b.invariant.1.0)

pub bound_of-bound-requires : goal.bound_of-bound-requires
bound_of-bound-requires c =
    let p = this (goal.at.bound_of-bound-requires c).After-members_of in
    record { ends_value = (c.requires.ends_value.0, p.small); parts_len = (p.many, rw (lengths-many 0 c.args.ends.now) at p.fed) }

pub overflow_sub-at : goal.overflow_sub-at
overflow_sub-at c = (this (goal.at.overflow_sub-at c).After-members_of).place

pub loop-b-preserved : goal.loop-b-preserved
loop-b-preserved c =
    let l = c.loop-b in
    let nodes : List ℕ = c.args.nodes.now in
    let p = this (goal.at.loop-b-preserved c).After-members_of in
    let one : length nodes - length l.yielded - 1 ≡ length nodes - length (l.yielded ++ (c.in-Some.field-0 ∷ [])) = rw length-append (omega arith) in
    (omega (arith, p.room), (length-set l.bounds _ c.bound_of-bound.result ∙ l.invariant.1.0, p.then c.bound_of-bound.result c.bound_of-bound.ensures ∙ ap (λ (i : ℕ). trees (lengths_from 0 c.args.ends.now) (drop i nodes)) one))
