-- `join::open` meets its contract: all of it has been walked through, so there is a count and a header. Assumes nothing.
use mathlib.Core.Path.{◌≡◌, sym, subst}
use native.Mathlib.Omega.{arith}
use lib.Dec.{eqb}
use Rattle.model.specs.Outcome.{accepted}
use Rattle.fields.specs.Positions.{take_at}
use Rattle.walk.specs.Heads.{header}
use Rattle.walk.specs.Counts.{list_head}
use Rattle.walk.proofs.Bounds.{head_next}
use Rattle.join.specs.declared.Stream.{Stream}
use Rattle.join.specs.Streams.{Opens}
use Rattle.join.proofs.Opening.{never_short, never_headless, opens_none, opens_some}
use Rattle.join.proofs.open.Goals as goal
use Rattle.join.proofs.open.Goals.{In-Ok, In-Ok-read_head}

-- what was read ahead of the numbers
counted : (c : In-Ok) → let args = c.args in list_head (take_at args.s.now) 65535 args.at ≡ accepted ((c.in-Ok.head.bits, c.in-Ok.head.count), c.in-Ok.next)
counted c = sym c.in-Ok.ensures

headed : (c : In-Ok-read_head) → let args = c.args in header (take_at args.s.now) c.in-Ok.head.count c.in-Ok.next ≡ accepted (c.in-Ok-read_head.header, c.in-Ok-read_head.behind)
headed c = sym c.in-Ok-read_head.ensures

pub returns-in_default : goal.returns-in_default
returns-in_default d = never_short d.args.s.now d.args.at d.requires.1 (sym d.in_default.ensures)

pub read_head-requires : goal.read_head-requires
read_head-requires c = let args = c.args in omega (arith, (head_next args.s.now 65535 args.at _ (counted c)).near)

pub returns-in_default-read_head : goal.returns-in_default-read_head
returns-in_default-read_head d =
    never_headless d.args.s.now d.args.at d.requires.1 (counted (goal.at.returns-in_default-read_head d).In-Ok) (sym d.in_default-read_head.ensures)

pub returns-then-head-eq0 : goal.returns-then-head-eq0
returns-then-head-eq0 c =
    subst (λ (st : Stream). Opens c.args.s.now c.args.at (record { came = eqb c.in-Ok.head.bits 1; stream = st })) (sym c.ended-then-head-eq0.ensures)
    (opens_none c.args.s.now c.args.at c.requires.1 (counted (goal.at.returns-then-head-eq0 c).In-Ok) (headed (goal.at.returns-then-head-eq0 c).In-Ok-read_head) c.requires.0 c.if-head-eq0.true)

pub returns : goal.returns
returns c =
    opens_some c.args.s.now c.args.at c.requires.1 (counted (goal.at.returns c).In-Ok) (headed (goal.at.returns c).In-Ok-read_head) c.requires.0 (omega (arith, c.if-head-eq0.false)) (omega arith)
