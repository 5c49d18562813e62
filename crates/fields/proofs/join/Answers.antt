-- `fields::join` meets its contract: what is shifted leaves room for what is or-ed. Assumes nothing.
use mathlib.Core.Path.{ap, ◌∙◌}
use Prim.Native.Nat.{ℕ}
use native.Mathlib.Nat.{mod-eq_of_lt}
use lib.Bits.{bit_or, or_shifted}
use Rattle.fields.proofs.join.Goals as goal

pub returns : goal.returns
returns c = ap (λ (n : ℕ). bit_or n c.args.y) (mod-eq_of_lt c.requires.1) ∙ or_shifted c.args.x c.args.k c.args.y c.requires.2
