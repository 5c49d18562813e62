-- `fields::only_fill` meets its contract: fewer than eight bits are left if the position lies in the last byte, and they
-- are 0 if the number that they write is. Assumes nothing.
use mathlib.Core.Path.{◌≡◌, refl, sym, ap, ap₂, ◌∙◌}
use mathlib.Core.Bool.{Bool, true, false, ◌&&◌}
use mathlib.Core.List.{List, [], ◌∷◌}
use Prim.Native.Nat.{ℕ, ◌-◌, ◌*◌, ◌≤◌, ◌<◌}
use native.Mathlib.Omega.{arith}
use lib.Dec.{eqb}
use lib.ListN.{length, drop, length-drop}
use lib.Seq.{take_all}
use borrow.Author.Tests.{lt-ltb, le-ltb}
use Rattle.model.specs.Fields.{bits, value, zeros, only_fill}
use Rattle.model.proofs.Bits.{bits-length}
use Rattle.fields.proofs.Fields.{zeros-value}
use Rattle.fields.proofs.only_fill.Goals as goal

-- how many bits are left
left : (s : List ℕ) (at : ℕ) → length (drop at (bits s)) ≡ 8 * length s - at
left s at = length-drop at (bits s) ∙ ap (λ (n : ℕ). n - at) (bits-length s)

-- eight or more are no fill
many : (bs : List Bool) → 8 ≤ length bs → false ≡ only_fill bs
unfolding only_fill
many bs h = rw (le-ltb (length bs) 8 h)

none : (bs : List Bool) → length bs ≡ 0 → true ≡ only_fill bs
unfolding only_fill zeros
none [] h = refl
none (b ∷ bs) h = absurd (omega arith)

-- fewer are, if the number that they write is 0
few : (bs : List Bool) → length bs < 8 → eqb (value bs) 0 ≡ only_fill bs
unfolding only_fill
few bs h = sym (ap₂ (λ (a b : Bool). a && b) (lt-ltb (length bs) 8 h) (zeros-value bs))

pub returns-then-byte_of-s : goal.returns-then-byte_of-s
returns-then-byte_of-s c =
    let args = c.args in
    many (drop args.at (bits args.s.now)) (omega (arith, left args.s.now args.at))

pub returns-then-off-eq0 : goal.returns-then-off-eq0
returns-then-off-eq0 c =
    let args = c.args in
    none (drop args.at (bits args.s.now)) (omega (arith, left args.s.now args.at))

pub returns : goal.returns
returns c =
    let args = c.args in
    let bs : List Bool = drop args.at (bits args.s.now) in
    let l = left args.s.now args.at in
    ap (λ (v : ℕ). eqb v 0) (c.field_at.ensures ∙ ap value (take_all (8 - c.bit_of-off.result) bs (omega arith))) ∙ few bs (omega arith)
