-- `fields::width_of` meets its contract: 32 less the leading zeros of m is its length in bits, so it is the least width that
-- holds m, and two least widths are equal. Assumes nothing.
use mathlib.Core.Path.{◌≡◌}
use Prim.Native.Nat.{ℕ, suc, ◌+◌, ◌-◌, ◌*◌, ◌^◌, ◌≤◌, ◌<◌}
use native.Mathlib.Nat.{pow-suc, lt_of_lt_of_le}
use native.Mathlib.Decide.{dec_le}
use native.Mathlib.Omega.{arith}
use lib.Pow.{pow_mono}
use lib.Count.{count_leading_zeros, leading_le, leading_length}
use Rattle.model.specs.Lists.{top}
use Rattle.model.specs.Delivery.{width}
use Rattle.model.proofs.Deliveries.{LeastWidth, width_is}
use Rattle.fields.proofs.width_of.Goals as goal

len : (m : ℕ) → m < 2 ^ 32 → (m < 2 ^ (32 - count_leading_zeros 32 m)) × (2 ^ (32 - count_leading_zeros 32 m) ≤ 2 * m + 1)
len m h =
    let s = leading_length 32 m h in
    let e : 32 - count_leading_zeros 32 m ≡ s.0 = omega (arith, s.1) in
    rw e (s.2, s.3)

-- no smaller width holds m
least : (m n k : ℕ) → 2 ^ n ≤ 2 * m + 1 → m < 2 ^ k → n ≤ k
least m n k le lt = elim (dec_le n k) [ yes h ↦ h | no h ↦ absurd (bad h) ]
  where
    bad : ¬ (n ≤ k) → ⊥
    bad h = let more : 2 ^ suc k ≤ 2 ^ n = pow_mono (omega arith) in omega (arith, pow-suc 2 k)

same : (m n : ℕ) → m < top → LeastWidth m n → n ≡ width m
same m n h w = let v = width_is m h in omega (arith, w.least (width m) v.one v.holds, v.least n w.one w.holds)

pub overflow_sub-m : goal.overflow_sub-m
overflow_sub-m c = leading_le 32 c.args.m

pub returns : goal.returns
returns c =
    let m : ℕ = c.args.m in
    let l = len m c.ranges.m.fits in
    let n : ℕ = 32 - count_leading_zeros 32 m in
    same m c.max.result c.ranges.m.fits (record { one = omega arith; holds = lt_of_lt_of_le l.0 (pow_mono (omega arith)); least = λ k one h. omega (arith, least m n k l.1 h) })
