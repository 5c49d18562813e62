-- `convert::upgrade_delivery` meets its contract (`is_upgrade`). Assumes nothing.
use mathlib.Core.Path.{ap, ◌∙◌}
use Rattle.model.specs.declared.WriteResult.{WriteResult}
use Rattle.model.specs.Calls.{written}
use Rattle.convert.proofs.Whole.{is_upgrade}
use Rattle.convert.proofs.upgrade_delivery.Goals as goal

pub returns : goal.returns
returns c = let args = c.args in ap (λ (r : WriteResult). written r c.move_delivery.new.to) c.written.ensures ∙ c.move_delivery.ensures ∙ is_upgrade args.old.now args.bytes.now
