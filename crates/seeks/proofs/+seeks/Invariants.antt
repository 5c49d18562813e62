-- The seek of a node calls that of its kind, which calls the seeks of nodes further on: twice the remaining nodes fall, and one more
-- for the first of these. Difference and intersection repeat at a higher number. Assumes nothing.
use Rattle.std.proofs.Common.{ℕ, ◌+◌, ◌-◌, ◌*◌}
use Rattle.model.specs.Lists.{top}
use Rattle.reader.proofs.Moves.{apart}
use Rattle.seeks.proofs.Kept.{IncrementsTallied, Intersects, Unites}
use Rattle.seeks.proofs.+seeks.Given as goal

abbrev left_from : ℕ → ℕ
left_from node = (48 - node) + (48 - node)

abbrev pub decreases-seek : goal.decreases-seek
decreases-seek l = left_from l.node + 1

abbrev pub decreases-seek_difference : goal.decreases-seek_difference
decreases-seek_difference l = left_from l.node

abbrev pub decreases-seek_intersection : goal.decreases-seek_intersection
decreases-seek_intersection l = left_from l.node

abbrev pub decreases-seek_union : goal.decreases-seek_union
decreases-seek_union l = left_from l.node

abbrev pub invariant-seek_difference-loop-y : goal.invariant-seek_difference-loop-y
invariant-seek_difference-loop-y l =
    let g = l.generator in
    IncrementsTallied g.numbers.now g.ends.now g.nodes.now l.node (apart l.initial.readers) l.initial.x l.initial.y (apart l.readers) l.x l.y

abbrev pub decreases-seek_difference-loop-y : goal.decreases-seek_difference-loop-y
decreases-seek_difference-loop-y l = top - l.x

abbrev pub invariant-seek_intersection-loop-left : goal.invariant-seek_intersection-loop-left
invariant-seek_intersection-loop-left l =
    let g = l.generator in
    Intersects g.numbers.now g.ends.now g.nodes.now l.node l.count l.from l.first (apart l.initial.readers) (apart l.readers) l.candidate l.at l.left

abbrev pub decreases-seek_intersection-loop-left : goal.decreases-seek_intersection-loop-left
decreases-seek_intersection-loop-left l = (top - l.candidate) * 256 + l.left

abbrev pub invariant-seek_union-loop : goal.invariant-seek_union-loop
invariant-seek_union-loop l =
    let g = l.generator in
    Unites g.numbers.now g.ends.now g.nodes.now l.node l.to (apart l.initial.readers) (apart l.readers) l.least l.at (l.count - l.counter)
