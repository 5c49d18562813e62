-- `fields::bit_of` meets its contract: the mask 7 is the remainder by 8. Assumes nothing.
use lib.Bits.{and_mask}
use Rattle.fields.proofs.bit_of.Goals as goal

pub returns : goal.returns
returns c = and_mask c.args.p 3
