-- `Readers::take` keeps what readers keep, and so the moves fit. Assumes nothing.
use native.Mathlib.Omega.{arith}
use Rattle.reader.proofs.Moves.{moves-few, moved_tallied}
use Rattle.reader.proofs.readers.Readers.take.Goals as goal

pub overflow_add-self : goal.overflow_add-self
overflow_add-self c = omega (arith, moves-few _ _ (moved_tallied _ _ _ _ c.args.read.moves c.args.self.now.tallied c.requires.node_in_bounds (omega arith) c.requires.within))

pub invariant_of-self : goal.invariant_of-self
invariant_of-self c = record { tallied = moved_tallied _ _ _ _ _ c.args.self.now.tallied c.requires.node_in_bounds (omega arith) c.requires.within }
