-- `fields::put_field` meets its contract: in the bytes that hold the field, the bits before it and behind it stay
-- (`before_in`, `behind_in`), and storing those bytes is putting the field (`put-held`). Assumes nothing.
use mathlib.Core.Path.{◌≡◌, ap, ap₂, ◌∙◌}
use mathlib.Core.List.{List}
use Prim.Native.Nat.{ℕ, ◌+◌, ◌-◌, ◌*◌, ◌/◌, ◌%◌, ◌^◌, ◌<◌}
use native.Mathlib.Nat.{mod-lt, lt_of_lt_of_le}
use native.Mathlib.Omega.{arith}
use lib.Arith.{digits_lt}
use lib.Pow.{pow_pos, pow_mono, pow-add, shl_lt}
use lib.ListN.{take, drop}
use Rattle.model.specs.Fields.{bits, value, field}
use Rattle.fields.specs.Positions.{put_bits}
use Rattle.fields.proofs.Fields.{before, behind, before_in, behind_in, before-lt}
use Rattle.fields.proofs.Puts.{put-held}
use Rattle.fields.proofs.put_field.Goals as goal
use Rattle.fields.proofs.put_field.Goals.{After-high_bits, After-join-head, After-low_bits}

-- the bits behind the field in its last byte
abbrev rest : ℕ → ℕ → ℕ → ℕ
rest at w n = 8 * n - at % 8 - w

-- what the code finds in the bytes that hold the field: the bits before it,
head-is : (c : After-high_bits) → let args = c.args in c.high_bits.result ≡ value (before args.s.now args.at)
head-is c =
    let args = c.args in
    let n : ℕ = c.byte_of-n.result in
    let e : ℕ = rest args.at args.w n in
    let first = c.byte_of-first.ensures in
    let whole : c.bytes_at-x.result ≡ value (bits (take n (drop (args.at / 8) args.s.now))) =
    c.bytes_at-x.ensures ∙ ap (λ (f : ℕ). value (bits (take n (drop f args.s.now)))) first in
    let shift : args.w + (8 * n - c.bit_of-off.result - args.w) ≡ args.w + e = omega arith in
    c.high_bits.ensures ∙ ap₂ (λ (y k : ℕ). y / 2 ^ k) whole shift ∙ before_in args.s.now args.at args.w e n (omega arith) (omega arith)

-- and those behind it
tail_is : (c : After-low_bits) → let args = c.args in
    c.low_bits.result ≡ value (behind args.s.now args.at args.w (rest args.at args.w c.byte_of-n.result))
tail_is c =
    let args = c.args in
    let n : ℕ = c.byte_of-n.result in
    let e : ℕ = rest args.at args.w n in
    let first = c.byte_of-first.ensures in
    let whole : c.bytes_at-x.result ≡ value (bits (take n (drop (args.at / 8) args.s.now))) =
    c.bytes_at-x.ensures ∙ ap (λ (f : ℕ). value (bits (take n (drop f args.s.now)))) first in
    let shift : 8 * n - c.bit_of-off.result - args.w ≡ e = omega arith in
    c.low_bits.ensures ∙ ap₂ (λ (y k : ℕ). y % 2 ^ k) whole shift ∙ behind_in args.s.now args.at args.w e n (omega arith) (omega arith)

-- k bits behind a number of j
digits : (j k : ℕ) {a x y : ℕ} → a < 2 ^ j → x < 2 ^ k → y ≡ a * 2 ^ k + x → y < 2 ^ (j + k)
digits j k ha hx e = rw (e, pow-add) (digits_lt ha hx)

-- so the bits up to the field's end are few
joined-lt : (c : After-join-head) → let args = c.args in c.join-head.result < 2 ^ (args.at % 8 + args.w)
joined-lt c =
    let args = c.args in
    let n : ℕ = c.byte_of-n.result in
    let b = before-lt args.s.now args.at args.w (rest args.at args.w n) n (omega arith) (omega arith) in
    digits (args.at % 8) args.w (rw (head-is c.before) b) c.requires.1 c.join-head.ensures

pub join-head-requires : goal.join-head-requires
join-head-requires c =
    let args = c.args in
    let n : ℕ = c.byte_of-n.result in
    let b = before-lt args.s.now args.at args.w (rest args.at args.w n) n (omega arith) (omega arith) in
    (omega arith, rw (head-is c) (lt_of_lt_of_le (shl_lt (args.at % 8) args.w b) (pow_mono {j = 64} (omega arith))), c.requires.1)

pub join-requires : goal.join-requires
join-requires c =
    let args = c.args in
    let e : ℕ = 8 * c.byte_of-n.result - c.bit_of-off.result - args.w in (
      omega arith,
      lt_of_lt_of_le (shl_lt (args.at % 8 + args.w) e (joined-lt (goal.at.join-requires c).After-join-head)) (pow_mono {j = 64} (omega arith)),
      rw c.low_bits.ensures (mod-lt _ (pow_pos e)),
    )

pub returns : goal.returns
returns c =
    let args = c.args in
    let n : ℕ = c.byte_of-n.result in
    let e : ℕ = rest args.at args.w n in
    let s : List ℕ = args.s.now in
    let shift : 8 * n - c.bit_of-off.result - args.w ≡ e = omega arith in
    let whole : c.join.result ≡ (value (before s args.at) * 2 ^ args.w + args.v) * 2 ^ e + value (behind s args.at args.w e) =
    c.join.ensures
    ∙ ap₂ (λ (a k : ℕ). a * 2 ^ k + c.low_bits.result) (c.join-head.ensures ∙ ap (λ (a : ℕ). a * 2 ^ args.w + args.v) (head-is (goal.at.returns c).After-high_bits)) shift
    ∙ ap (λ (b : ℕ). (value (before s args.at) * 2 ^ args.w + args.v) * 2 ^ e + b) (tail_is (goal.at.returns c).After-low_bits) in
    c.put_bytes.ensures
    ∙ ap₂ (λ (f x : ℕ). put_bits s (8 * f) (field (8 * n) x)) c.byte_of-first.ensures whole
    ∙ put-held s args.at args.w e n args.v (omega arith) (omega arith) c.requires.1
