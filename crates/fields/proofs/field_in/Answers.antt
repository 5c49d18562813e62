-- `fields::field_in` meets its contract: the field is a shift and a mask of the number that its bytes write (`field_in`).
-- Assumes nothing.
use mathlib.Core.Path.{◌≡◌, ap, ap₂, ◌∙◌}
use mathlib.Core.List.{List}
use Prim.Native.Nat.{ℕ, ◌-◌, ◌*◌, ◌/◌, ◌%◌, ◌^◌, ◌≤◌, ◌<◌}
use native.Mathlib.Nat.{mod-lt, lt_of_lt_of_le}
use native.Mathlib.Omega.{arith}
use lib.Pow.{pow_pos, pow_mono}
use lib.ListN.{take, drop}
use Rattle.model.specs.Fields.{bits, value}
use Rattle.fields.proofs.Fields.{field_in}
use Rattle.fields.proofs.field_in.Goals as goal

pub overflow_cast-result : goal.overflow_cast-result
overflow_cast-result c =
    let w : ℕ = c.args.w in
    let few : w ≤ 32 = omega arith in
    let small : c.high_bits.result % 2 ^ w < 2 ^ 32 = lt_of_lt_of_le (mod-lt _ (pow_pos w)) (pow_mono few) in
    omega (arith, small, c.low_bits.ensures)

pub returns : goal.returns
returns c =
    let args = c.args in
    let e : ℕ = 8 * args.n - args.at % 8 - args.w in
    let s : List ℕ = args.s.now in
    let whole : c.bytes_at-x.result ≡ value (bits (take args.n (drop (args.at / 8) s))) =
    c.bytes_at-x.ensures ∙ ap (λ (f : ℕ). value (bits (take args.n (drop f s)))) c.byte_of.ensures in
    let left : 8 * args.n - c.bit_of-off.result - args.w ≡ e = omega arith in
    c.low_bits.ensures
    ∙ ap (λ (y : ℕ). y % 2 ^ args.w) (c.high_bits.ensures ∙ ap₂ (λ (y k : ℕ). y / 2 ^ k) whole left)
    ∙ field_in s args.at args.w e args.n (omega arith) (omega arith)
