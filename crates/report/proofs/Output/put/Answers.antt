-- `Output::put` meets its contract: a part written over whole is laid. Assumes nothing.
use native.Mathlib.Omega.{arith}
use Rattle.report.proofs.Text.{laid_mid}
use Rattle.report.proofs.Output.put.Goals as goal

pub returns-clause-row : goal.returns-clause-row
returns-clause-row c = laid_mid _ _ _ c.args.self.now.len _ c.copy_from_slice.ensures.after (omega arith)
