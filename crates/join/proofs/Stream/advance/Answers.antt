-- `join::Stream::advance` meets its contract: its bits are there, and the number behind is a number, since all of it has been walked through.
-- Assumes nothing.
use native.Mathlib.Omega.{arith}
use Rattle.join.proofs.Streams.{advance_last, advance_more}
use Rattle.join.proofs.Stream.advance.Goals as goal

pub returns-then-self-eq0 : goal.returns-then-self-eq0
returns-then-self-eq0 c = rw c.ended.ensures (advance_last c.args.s.now c.args.self c.requires.0 c.requires.1 (omega arith))

pub next_field-less-requires : goal.next_field-less-requires
next_field-less-requires c =
    let b = advance_more c.args.s.now c.args.self c.requires.0 c.requires.1 (omega arith) in
    (omega (arith, c.requires.0.wide (omega arith)), omega (arith, b.room))

pub returns : goal.returns
returns c = rw c.next_field-less.ensures (advance_more c.args.s.now c.args.self c.requires.0 c.requires.1 (omega arith)).advances
