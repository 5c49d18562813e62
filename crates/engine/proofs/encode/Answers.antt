-- `encode` meets its contract: variant by variant. Assumes nothing.
use borrow.Author.Rules.{rules}
use Rattle.model.specs.Machine.{encode}
use Rattle.engine.proofs.encode.Goals as goal

pub returns-in-Member : goal.returns-in-Member
unfolding encode
returns-in-Member c = search rules

pub returns-in-Finished : goal.returns-in-Finished
unfolding encode
returns-in-Finished c = search rules

pub returns-in-Yes : goal.returns-in-Yes
unfolding encode
returns-in-Yes c = search rules

pub returns-in-No : goal.returns-in-No
unfolding encode
returns-in-No c = search rules

pub returns-in-Unknown : goal.returns-in-Unknown
unfolding encode
returns-in-Unknown c = search rules
