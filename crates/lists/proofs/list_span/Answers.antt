-- `list_span` meets its contract. Where a test refuses, or no list k is there, the definition has the empty part at the start
-- too; else list k runs from the end before it to its own, which 10 keeps in order. Assumes nothing.
use mathlib.Core.Path.{sym}
use native.Mathlib.Omega.{arith}
use Rattle.model.specs.Lists.{lend}
use Rattle.lists.specs.Span.{span_says}
use Rattle.lists.proofs.Spans.{There, span-refused, span-missing, span_there}
use Rattle.lists.proofs.Tested.{accepts, refuses}
use Rattle.lists.proofs.list_span.Goals as goal
use Rattle.lists.proofs.list_span.Goals.{After-start_of}

pub returns-in_default-2 : goal.returns-in_default-2
unfolding span_says
returns-in_default-2 c =
    let args = c.args in
    sym (span-refused (lend args.numbers.now args.ends.now args.word) args.k (refuses _ c.try_lists.ensures c.in_default.is))

pub returns-in_default : goal.returns-in_default
unfolding span_says
returns-in_default c =
    let args = c.args in
    sym (span-missing (lend args.numbers.now args.ends.now args.word) args.k (accepts _ c.try_lists.ensures c.in-Ok.is) (omega arith))

-- list k is there
there : (c : After-start_of) → let args = c.args in There (lend args.numbers.now args.ends.now args.word) args.k
there c =
    let args = c.args in
    span_there (lend args.numbers.now args.ends.now args.word) args.k (accepts _ c.try_lists.ensures c.in-Ok.is) (omega arith)

pub length_of-requires : goal.length_of-requires
length_of-requires c = (omega arith, (there (goal.at.length_of-requires c).After-start_of).order)

pub returns-in-Ok : goal.returns-in-Ok
unfolding span_says
returns-in-Ok c = rw (c.start_of.ensures, c.length_of.ensures) (sym (there (goal.at.returns-in-Ok c).After-start_of).is)
