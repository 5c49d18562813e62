-- `fields::bytes_at` meets its contract. The loop's invariant: x is the number that the bytes so far write, so it has at most 8
-- bits for each of them.
use mathlib.Core.Path.{◌≡◌, refl, sym, ap, ◌∙◌}
use mathlib.Core.List.{List}
use Prim.Native.Nat.{ℕ, ◌+◌, ◌-◌, ◌*◌, ◌^◌, ◌≤◌, ◌<◌}
use native.Mathlib.Nat.{lt_of_lt_of_le}
use native.Mathlib.Numerals.{add-one}
use native.Mathlib.Omega.{arith}
use lib.Pow.{pow_mono}
use lib.ListN.{length, get_or, take, drop, length-take}
use lib.Seq.{take-suc, take_all}
use Rattle.model.specs.Fields.{bits, value}
use Rattle.model.proofs.Accepted.{value-lt}
use Rattle.model.proofs.Bits.{bits-length}
use Rattle.fields.proofs.Fields.{value-more}
use Rattle.fields.proofs.bytes_at.Goals as goal

-- what i bytes write has 8 * i bits
few : (l : List ℕ) (i : ℕ) → i ≤ 4 → value (bits (take i l)) < 2 ^ 32
few l i h =
    let len : length (bits (take i l)) ≤ 32 = omega (arith, bits-length (take i l), length-take i l) in
    lt_of_lt_of_le (value-lt (bits (take i l))) (pow_mono len)

-- one byte more
turn : (l : List ℕ) (i : ℕ) {x : ℕ} → i < length l → get_or l i 0 < 256 → x ≡ value (bits (take i l)) → x * 256 + get_or l i 0 ≡ value (bits (take (i + 1) l))
turn l i h small ex =
    ap (λ (y : ℕ). y * 256 + get_or l i 0) ex ∙ sym (value-more (take i l) (get_or l i 0) small)
    ∙ ap (λ (y : List ℕ). value (bits y)) (sym (ap (λ (n : ℕ). take n l) (add-one i) ∙ take-suc l i 0 h))

pub loop-b-init : goal.loop-b-init
unfolding bits value
loop-b-init c = refl

pub join-x-requires : goal.join-x-requires
join-x-requires c =
    let l = take (c.args.first + c.args.n - c.args.first) (drop c.args.first c.args.s.now) in
    let short = length-take (c.args.first + c.args.n - c.args.first) (drop c.args.first c.args.s.now) in
    let x = few l c.loop-b.b-index (omega arith) in
    let same : c.loop-b.x ≡ value (bits (take c.loop-b.b-index l)) = c.loop-b.invariant in
    (omega arith, omega arith, omega arith)

pub loop-b-preserved : goal.loop-b-preserved
loop-b-preserved c =
    let l = take (c.args.first + c.args.n - c.args.first) (drop c.args.first c.args.s.now) in
    c.join-x.ensures ∙ turn l c.loop-b.b-index c.loop-b-test.true (omega arith) c.loop-b.invariant

pub returns : goal.returns
returns c =
    let l = take (c.args.first + c.args.n - c.args.first) (drop c.args.first c.args.s.now) in
    let all : c.args.first + c.args.n - c.args.first ≡ c.args.n = omega arith in
    c.loop-b.invariant ∙ ap (λ (y : List ℕ). value (bits y)) (take_all c.loop-b.b-index l (omega arith)) ∙ ap (λ (n : ℕ). value (bits (take n (drop c.args.first c.args.s.now)))) all
