-- `fields::word_bit` meets its contract: bit k of a field of w bits stands w - 1 - k places from its end. Assumes nothing.
use mathlib.Core.Path.{◌≡◌, refl, sym, ap, ◌∙◌}
use mathlib.Core.Bool.{false}
use Prim.Native.Nat.{ℕ, zero, suc, ◌-◌, ◌/◌, ◌%◌, ◌^◌, ◌≤◌, ◌<◌}
use native.Mathlib.Omega.{arith}
use lib.Dec.{eqb}
use lib.ListN.{get_or}
use Rattle.model.specs.Lists.{delivered}
use Rattle.model.specs.Fields.{field}
use Rattle.fields.proofs.word_bit.Goals as goal

stands : (w n k : ℕ) → k < w → get_or (field w n) k false ≡ eqb (n / 2 ^ (w - 1 - k) % 2) 1
unfolding field
stands zero n k h = absurd (omega arith)
stands (suc w) n zero h = ap (λ (e : ℕ). eqb (n / 2 ^ e % 2) 1) {x = w} {y = suc w - 1 - 0} (omega arith)
stands (suc w) n (suc k) h = stands w n k (omega arith) ∙ ap (λ (e : ℕ). eqb (n / 2 ^ e % 2) 1) {x = w - 1 - k} {y = suc w - 1 - suc k} (omega arith)

beyond : (w n k : ℕ) → w ≤ k → get_or (field w n) k false ≡ false
unfolding field
beyond zero n k h = refl
beyond (suc w) n zero h = absurd (omega arith)
beyond (suc w) n (suc k) h = beyond w n k (omega arith)

pub returns-then-k-gt31 : goal.returns-then-k-gt31
unfolding delivered
returns-then-k-gt31 c = sym (beyond 32 c.args.word c.args.k (omega arith))

pub returns : goal.returns
unfolding delivered
returns c =
    let args = c.args in
    ap (λ (x : ℕ). eqb x 1) (c.low_bits.ensures ∙ ap (λ (x : ℕ). x % 2) c.high_bits.ensures) ∙ sym (stands 32 args.word args.k (omega arith))
