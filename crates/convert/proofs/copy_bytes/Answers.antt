-- `convert::copy_bytes` meets its contract. The loop's invariant: the first i times eight bits are copied. Assumes nothing.
use mathlib.Core.Path.{◌≡◌, refl, sym, ap, ap₂, ◌∙◌, subst}
use mathlib.Core.List.{List}
use Prim.Native.Nat.{ℕ, ◌+◌, ◌-◌, ◌*◌, ◌/◌, ◌%◌, ◌^◌}
use native.Mathlib.Omega.{arith}
use lib.ListN.{get_or, take, drop, length-set}
use Rattle.model.specs.Fields.{Bytes, bits, value}
use Rattle.fields.proofs.Puts.{put-nil, put_small}
use Rattle.convert.specs.Copies.{copied}
use Rattle.convert.proofs.Copies.{copied_more, eight, copied_byte}
use Rattle.convert.proofs.copy_bytes.Goals as goal

pub loop-i-init : goal.loop-i-init
unfolding copied
loop-i-init c =
    let args = c.args in
    (refl, sym (put-nil args.to.now (8 * args.first) (λ i. (c.type_inv.to i).fits)))

pub loop-i-preserved : goal.loop-i-preserved
unfolding copied
loop-i-preserved c =
    let l = c.loop-i in
    let args = c.args in
    let from : List ℕ = args.from.now in
    let to : List ℕ = args.to.now in
    let q : ℕ = args.at + 8 * l.i in
    let j : ℕ = args.first + l.i in
    let byte : args.at / 8 + l.i ≡ q / 8 = omega arith in
    let off : 8 - args.at % 8 ≡ 8 - q % 8 = omega arith in
    let is : c.middle.result ≡ value (take 8 (drop q (bits from))) =
    c.middle.ensures ∙ ap₂ (λ (k m : ℕ). (get_or from k 0 * 256 + get_or from (k + 1) 0) / 2 ^ m % 256) byte off
    ∙ eight from q (λ i. (c.type_inv.from i).fits) (omega arith) in
    let here : 8 * j ≡ 8 * args.first + 8 * l.i = omega arith in
    let more : 8 * l.i + 8 ≡ 8 * (l.i + 1) = omega arith in
    let bytes : Bytes l.to = subst Bytes (sym l.invariant.1) (put_small to (8 * args.first) (take (8 * l.i) (drop args.at (bits from)))) in (
      length-set l.to j c.middle.result ∙ l.invariant.0,
      copied_byte from l.to q j c.middle.result bytes (omega arith) (omega arith) is
          ∙ ap₂ (λ (r : List ℕ) (p : ℕ). copied from q r p 8) l.invariant.1 here
          ∙ copied_more from to args.at (8 * args.first) (8 * l.i) 8 (omega arith) (omega arith)
          ∙ ap (copied from args.at to (8 * args.first)) more,
    )
