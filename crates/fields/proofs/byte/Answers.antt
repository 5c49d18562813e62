-- `fields::byte` meets its contract: the mask 255 is the remainder by 256. Assumes nothing.
use lib.Bits.{and_mask, mask_lt}
use native.Mathlib.Omega.{arith}
use Rattle.fields.proofs.byte.Goals as goal

pub overflow_cast-result : goal.overflow_cast-result
overflow_cast-result c = omega (arith, mask_lt c.args.x 8)

pub returns : goal.returns
returns c = and_mask c.args.x 8
