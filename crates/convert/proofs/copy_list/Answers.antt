-- `convert::copy_list` meets its contract, in each form. Assumes nothing.
use mathlib.Core.Path.{refl, ◌≡◌, sym, ap, ap₂, ◌∙◌}
use mathlib.Core.Bool.{Bool}
use mathlib.Core.List.{List, ◌++◌}
use Prim.Native.Nat.{ℕ, ◌+◌, ◌-◌}
use native.Mathlib.Omega.{arith}
use lib.ListN.{length, take, drop}
use Rattle.model.specs.Fields.{field, bits}
use Rattle.model.proofs.Bits.{field-length, bits-length}
use Rattle.fields.specs.Positions.{put_bits}
use Rattle.fields.proofs.Puts.{put-append}
use Rattle.convert.specs.Pieces.{piece}
use Rattle.convert.proofs.Copies.{copied_is, as_copied}
use Rattle.convert.proofs.Pieces.{Sized, without_bit, with_bit}
use Rattle.convert.proofs.copy_list.Goals as goal
use Rattle.convert.proofs.copy_list.Goals.{Else-bit, Then-bit}

without : (c : Then-bit) → let args = c.args in
    Sized (piece args.bit (bits args.from.now) args.at args.end) (take (args.end - args.at - 1) (drop (args.at + 1) (bits args.from.now))) (args.end - args.at - 1)
without c = let args = c.args in without_bit (bits args.from.now) args.at args.end (omega arith) (omega (arith, bits-length args.from.now)) c.if-bit.true

with_one : (c : Else-bit) → let args = c.args in
    Sized (piece args.bit (bits args.from.now) args.at args.end) (field 1 1 ++ take (args.end - args.at) (drop args.at (bits args.from.now))) (1 + (args.end - args.at))
with_one c = let args = c.args in with_bit (bits args.from.now) args.at args.end (omega arith) (omega (arith, bits-length args.from.now)) c.if-bit.false

pub copy_bits-requires : goal.copy_bits-requires
copy_bits-requires c = let w = without (goal.at.copy_bits-requires c).Then-bit in (omega arith, omega (arith, w.long), omega arith, omega arith)

pub returns-then-bit : goal.returns-then-bit
returns-then-bit c =
    let args = c.args in
    let w = without (goal.at.returns-then-bit c).Then-bit in
    (omega (arith, w.long), as_copied args.from.now args.to.now (args.at + 1) args.put (args.end - args.at - 1) c.copy_bits.ensures (omega arith) refl (omega arith) ∙ copied_is args.from.now args.to.now (args.at + 1) args.put (args.end - args.at - 1) ∙ ap (put_bits args.to.now args.put) (sym w.is))

pub put_field-requires : goal.put_field-requires
put_field-requires c = let w = with_one (goal.at.put_field-requires c).Else-bit in (omega arith, omega arith, omega (arith, w.long))

pub copy_bits-requires-2 : goal.copy_bits-requires-2
copy_bits-requires-2 c = let w = with_one (goal.at.copy_bits-requires-2 c).Else-bit in (omega arith, omega (arith, w.long), omega arith, omega arith)

pub returns : goal.returns
returns c =
    let args = c.args in
    let w = with_one (goal.at.returns c).Else-bit in
    let bs : List Bool = take (args.end - args.at) (drop args.at (bits args.from.now)) in
    let wide : args.put + 1 ≡ args.put + length (field 1 1) = omega (arith, field-length 1 1) in (
      omega (arith, w.long),
      as_copied args.from.now _ args.at (args.put + 1) (args.end - args.at) c.copy_bits-2.ensures refl (omega arith) (omega arith) ∙ copied_is args.from.now _ args.at (args.put + 1) (args.end - args.at)
          ∙ ap₂ (λ (r : List ℕ) (q : ℕ). put_bits r q bs) c.put_field.ensures wide
          ∙ put-append args.to.now args.put (field 1 1) bs (omega (arith, w.long)) ∙ ap (put_bits args.to.now args.put) (sym w.is),
    )
