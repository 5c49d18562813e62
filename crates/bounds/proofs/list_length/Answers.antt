-- `list_length` meets its contract. Assumes nothing.
use mathlib.Core.Path.{sym, ◌∙◌}
use native.Mathlib.Omega.{arith}
use Rattle.capacity.proofs.Lengths.{rises_at, length_at}
use Rattle.bounds.proofs.list_length.Goals as goal

pub length_of-requires : goal.length_of-requires
length_of-requires c = (c.requires.1, (rises_at 0 c.args.ends.now c.requires.0 c.args.k c.requires.1).0)

pub overflow_cast-result : goal.overflow_cast-result
overflow_cast-result c = omega (arith, c.length_of.ensures, (rises_at 0 c.args.ends.now c.requires.0 c.args.k c.requires.1).1)

pub returns : goal.returns
returns c = c.length_of.ensures ∙ sym (length_at 0 c.args.ends.now c.args.k c.requires.1)
