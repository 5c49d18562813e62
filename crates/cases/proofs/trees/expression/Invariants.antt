-- Ending: the places still free grow fewer.
use Rattle.std.proofs.Common.{◌-◌}
use Rattle.cases.proofs.trees.expression.Given as goal

abbrev pub decreases-loop-g : goal.decreases-loop-g
decreases-loop-g l = 48 - l.g.count
