-- `fields::low_bits` meets its contract: the mask of k ones is the remainder by 2 ^ k. Assumes nothing.
use mathlib.Core.Path.{◌≡◌, ap, ◌∙◌}
use Prim.Native.Nat.{ℕ, ◌-◌, ◌*◌, ◌%◌, ◌^◌, ◌<◌}
use native.Mathlib.Nat.{one-mul}
use native.Mathlib.Omega.{arith}
use lib.Bits.{bit_and, and_mask}
use lib.Dec.{lit<}
use lib.Pow.{pow_pos, shl_exact}
use Rattle.fields.proofs.low_bits.Goals as goal

-- `1 << k`
one_shl : (k : ℕ) → k < 64 → (1 * 2 ^ k) % 2 ^ 64 ≡ 2 ^ k
one_shl k h = shl_exact {a = 1} 1 k 64 (lit< tt) (omega arith) ∙ one-mul (2 ^ k)

pub overflow_sub-result : goal.overflow_sub-result
overflow_sub-result c = rw (one_shl c.args.k c.requires) (pow_pos c.args.k)

pub returns : goal.returns
returns c = ap (λ (m : ℕ). bit_and c.args.x (m - 1)) (one_shl c.args.k c.requires) ∙ and_mask c.args.x c.args.k
