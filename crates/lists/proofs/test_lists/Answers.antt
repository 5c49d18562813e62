-- `test_lists` meets its contract: it hands back the number of `try_lists`' answer. Assumes nothing.
use mathlib.Core.Path.{◌∙◌}
use Rattle.model.specs.Outcome.{number_of}
use Rattle.lists.proofs.test_lists.Goals as goal

pub returns-in-Ok : goal.returns-in-Ok
unfolding number_of
returns-in-Ok c = c.in-Ok.ensures

pub returns-in-Err : goal.returns-in-Err
unfolding number_of
returns-in-Err c = c.from.ensures ∙ c.in-Err.ensures
