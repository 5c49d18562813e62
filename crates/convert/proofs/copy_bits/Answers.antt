-- `convert::copy_bits` meets its contract: what is copied up to a whole byte, as whole bytes and behind them are all the bits.
-- Assumes nothing.
use mathlib.Core.Path.{◌≡◌, refl, ap, ◌∙◌}
use mathlib.Core.List.{List}
use Prim.Native.Nat.{ℕ, ◌+◌, ◌-◌, ◌*◌, ◌/◌}
use native.Mathlib.Omega.{arith}
use Rattle.convert.specs.Copies.{copied}
use Rattle.convert.proofs.Copies.{as_copied, copied_more}
use Rattle.convert.proofs.copy_bits.Goals as goal

pub returns : goal.returns
returns c =
    let args = c.args in
    let from : List ℕ = args.from.now in
    let to : List ℕ = args.to.now in
    let head : ℕ = c.left_of_byte-head.result in
    let whole : ℕ = 8 * ((args.n - head) / 8 - 1) in
    let rest : ℕ = args.n - (head + whole) in
    let first = as_copied from to args.at args.put head c.copy_field-2.ensures refl refl (omega arith) in
    let second = as_copied from _ (args.at + head) (args.put + head) whole c.copy_bytes.ensures (omega arith) (omega arith) (omega arith)
    ∙ ap (λ (r : List ℕ). copied from (args.at + head) r (args.put + head) whole) first ∙ copied_more from to args.at args.put head whole (omega arith) (omega arith) in
    let third = as_copied from _ (args.at + (head + whole)) (args.put + (head + whole)) rest c.copy_field-3.ensures (omega arith) (omega arith) (omega arith)
    ∙ ap (λ (r : List ℕ). copied from (args.at + (head + whole)) r (args.put + (head + whole)) rest) second in
    let all : head + whole + rest ≡ args.n = omega arith in
    third ∙ copied_more from to args.at args.put (head + whole) rest (omega arith) (omega arith) ∙ ap (copied from args.at to args.put) all
