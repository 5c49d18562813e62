-- A node takes at most 7 bits.
use Rattle.std.proofs.Common.{◌*◌, ◌≤◌}
use Rattle.evaluator.proofs.tokens.nodes_of.Given as goal

abbrev pub invariant-loop-last : goal.invariant-loop-last
invariant-loop-last l = l.bits.at ≤ 7 * l.last
