-- So many bits make a number below that power of two.
use Rattle.std.proofs.Common.{◌<◌, ◌^◌}
use Rattle.evaluator.proofs.tokens.Bits.field.Given as goal

abbrev pub invariant-loop-i : goal.invariant-loop-i
invariant-loop-i l = l.read < 2 ^ l.i
