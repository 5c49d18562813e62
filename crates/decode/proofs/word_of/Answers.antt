-- `decode::word_of` meets its contract: the shifted bits fit. Assumes nothing.
use native.Mathlib.Omega.{arith}
use lib.Pow.{shl_exact}
use Rattle.decode.proofs.word_of.Goals as goal

pub returns : goal.returns
returns c = shl_exact c.args.n _ 32 c.requires.2 (omega (arith, c.requires))
