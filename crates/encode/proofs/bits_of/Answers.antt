-- `encode::bits_of` meets its contract, case by case. Assumes nothing.
use mathlib.Core.Path.{◌≡◌, sym}
use mathlib.Core.Bool.{true}
use native.Mathlib.Omega.{arith}
use Rattle.model.proofs.Sizes.{size_none, size-one, size-more}
use Rattle.encode.proofs.bits_of.Goals as goal
use Rattle.encode.proofs.bits_of.Goals.{Else-not-delivered}

here : (c : Else-not-delivered) → c.args.delivered ≡ true
here c = c.if-not-delivered.false

pub returns-then-count-eq0 : goal.returns-then-count-eq0
returns-then-count-eq0 c = rw (here (goal.at.returns-then-count-eq0 c).Else-not-delivered, c.if-count-eq0.true) (sym (size_none 17 c.args.w))

pub returns-then-count-eq1 : goal.returns-then-count-eq1
returns-then-count-eq1 c = rw (here (goal.at.returns-then-count-eq1 c).Else-not-delivered, c.if-count-eq1.true) (sym (size-one 17 c.args.w))

pub returns : goal.returns
returns c = let args = c.args in rw (here (goal.at.returns c).Else-not-delivered) (sym (size-more 17 args.count args.w (omega (arith, c.if-count-eq1.false, c.if-count-eq0.false))))
