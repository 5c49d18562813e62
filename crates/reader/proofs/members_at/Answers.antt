-- `members_at` meets its contract: what the byte says is `node_of`'s, and how many members `members_of`'s. Assumes nothing.
use mathlib.Core.Path.{◌≡◌, sym, ap, ◌∙◌}
use Rattle.model.specs.Outcome.{accepted}
use Rattle.model.specs.Forms.{node_of}
use Rattle.model.proofs.Accepted.{accepted-same, never_accepted}
use Rattle.expression.specs.Reading.{members}
use Rattle.reader.proofs.members_at.Goals as goal

pub returns-in_default : goal.returns-in_default
returns-in_default c n e =
    never_accepted (c.in_default.ensures ∙ e)

pub returns : goal.returns
returns c n e =
    let known : node_of c.args.b ≡ accepted c.in-Ok.node = sym c.in-Ok.ensures in
    c.members_of.ensures ∙ ap members (accepted-same (sym known ∙ e))
