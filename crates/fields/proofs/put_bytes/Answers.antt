-- `fields::put_bytes` meets its contract. The loop's invariant, said backwards: what is to be put from the start is what is
-- still to be put from here on, so a turn is one store (`put-turn`). Assumes nothing.
use mathlib.Core.Path.{◌≡◌, refl, sym, ap, ap₂, ◌∙◌}
use Prim.Native.Nat.{ℕ, suc, ◌+◌, ◌-◌, ◌*◌, ◌/◌, ◌%◌, ◌^◌, ◌<◌}
use native.Mathlib.Nat.{mod-lt, zero-lt-suc}
use native.Mathlib.Omega.{arith}
use lib.ListN.{set, length-set}
use borrow.Author.Rules.{rules}
use Rattle.model.specs.Fields.{field}
use Rattle.fields.specs.Positions.{put_bits}
use Rattle.fields.proofs.Puts.{set_small, put-nil, put-turn}
use Rattle.fields.proofs.put_bytes.Goals as goal

pub loop-i-init : goal.loop-i-init
loop-i-init c =
    let here : c.args.first ≡ c.args.first + 0 = omega arith in
    let all : c.args.n ≡ c.args.n - 0 = omega arith in
    (search rules, refl, λ i. (c.slice_known-1.given i).fits, ap₂ (λ (k n : ℕ). put_bits c.args.s.now (8 * k) (field (8 * n) c.args.x)) here all)

pub loop-i-preserved : goal.loop-i-preserved
loop-i-preserved c =
    let l = c.loop-i in
    let args = c.args in
    let j : ℕ = args.first + l.i in
    let m : ℕ = args.n - 1 - l.i in
    let more : args.n - l.i ≡ suc m = omega arith in
    let rest : m ≡ args.n - (l.i + 1) = omega arith in
    let next : suc j ≡ args.first + (l.i + 1) = omega arith in
    let stored : c.byte.result ≡ args.x / 2 ^ (8 * m) % 256 = c.byte.ensures ∙ ap (λ (k : ℕ). k % 256) c.high_bits.ensures in
    let small : c.byte.result < 256 = rw c.byte.ensures (mod-lt _ (zero-lt-suc 255)) in (
      omega arith,
      length-set l.s j c.byte.result ∙ l.invariant.1,
      set_small l.s j c.byte.result l.invariant.2 small,
      l.invariant.3 ∙ ap (λ (k : ℕ). put_bits l.s (8 * j) (field (8 * k) args.x)) more
          ∙ put-turn l.s j m args.x l.invariant.2 (omega arith)
          ∙ ap (λ (b : ℕ). put_bits (set l.s j b) (8 * suc j) (field (8 * m) args.x)) (sym stored)
          ∙ ap₂ (λ (p k : ℕ). put_bits (set l.s j c.byte.result) (8 * p) (field (8 * k) args.x)) next rest,
    )

pub returns : goal.returns
unfolding field
returns c =
    let l = c.loop-i in
    let args = c.args in
    let none : 8 * (args.n - l.i) ≡ 0 = omega arith in
    sym (l.invariant.3 ∙ ap (λ (k : ℕ). put_bits l.s (8 * (args.first + l.i)) (field k args.x)) none ∙ put-nil l.s (8 * (args.first + l.i)) l.invariant.2)
