-- `forms::put_nodes` meets its contract. The loop's invariant: putting the bits of the bytes that are left from here on is
-- putting those of the whole row from the start (`put-append`), and there is room for them. The measure is how many bytes
-- are left. Assumes nothing.
use mathlib.Core.Path.{◌≡◌, sym, ap, ap₂, ◌∙◌}
use mathlib.Core.Bool.{Bool}
use mathlib.Core.List.{List}
use Prim.Native.Nat.{ℕ, ◌+◌, ◌*◌, ◌≤◌, ◌<◌}
use native.Mathlib.Omega.{arith}
use borrow.Author.Rules.{rules}
use lib.ListN.{length, get_or, drop, length-append}
use Rattle.fields.specs.Positions.{put_bits}
use Rattle.fields.proofs.Puts.{put-nil, put-append}
use Rattle.forms.specs.Packing.{byte_bits, row_bits}
use Rattle.forms.proofs.Nodes.{packed_as, row_next, row-end}
use Rattle.forms.proofs.put_nodes.Goals as goal

-- the bits from a byte on
left : (row : List ℕ) (i : ℕ) → i < length row → length (row_bits (drop i row)) ≡ length (byte_bits (get_or row i 0)) + length (row_bits (drop (i + 1) row))
left row i h = ap length (row_next row i h) ∙ length-append (byte_bits (get_or row i 0)) (row_bits (drop (i + 1) row))

pub put_field-requires : goal.put_field-requires
put_field-requires c =
    let a = packed_as c.bits_of-bits.ensures in
    (omega (arith, a.few), a.small, omega (arith, left c.args.row.now c.loop-b.b-index c.loop-b-test.true, a.long))

pub overflow_add-at : goal.overflow_add-at
overflow_add-at c = omega (arith, (packed_as c.bits_of-bits.ensures).few)

pub loop-b-preserved : goal.loop-b-preserved
loop-b-preserved c =
    let l = c.loop-b in
    let row : List ℕ = c.args.row.now in
    let i : ℕ = l.b-index in
    let a = packed_as c.bits_of-bits.ensures in
    let more : List Bool = row_bits (drop (i + 1) row) in
    let w : ℕ = c.bits_of-bits.result.width in
    let now : c.put_field.new.s ≡ put_bits l.s l.at (byte_bits (get_or row i 0)) = c.put_field.ensures ∙ ap (put_bits l.s l.at) a.are in
    let next : l.at + w ≡ l.at + length (byte_bits (get_or row i 0)) = ap (λ (k : ℕ). l.at + k) a.long in
    let rest = left row i c.loop-b-test.true in
    let room : l.at + length (byte_bits (get_or row i 0)) ≤ 8 * length l.s = omega (arith, rest) in (
      omega (arith, a.few),
      c.put_field.auto.s ∙ l.invariant.1,
      omega (arith, rest, a.long),
      search rules,
      ap₂ (λ (r : List ℕ) (p : ℕ). put_bits r p more) now next ∙ put-append l.s l.at (byte_bits (get_or row i 0)) more room
          ∙ ap (put_bits l.s l.at) (sym (row_next row i c.loop-b-test.true)) ∙ l.invariant.4,
    )

pub returns : goal.returns
returns c =
    let l = c.loop-b in
    sym (put-nil l.s l.at l.invariant.3) ∙ ap (put_bits l.s l.at) (sym (row-end c.args.row.now l.b-index c.loop-b-test.false)) ∙ l.invariant.4
