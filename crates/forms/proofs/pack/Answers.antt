-- `forms::pack` meets its contract: test by test, in the order of `Calls.pack_expression`; the bytes are written only once all of it
-- is known to read and to fit, and are those of the bits of the row that was read (`packed-of`, `put-filled`). Assumes nothing.
use mathlib.Core.Path.{◌≡◌, refl, sym, ap, ap₂, ◌∙◌}
use mathlib.Core.List.{List, ◌++◌}
use Prim.Native.Nat.{ℕ, ◌+◌, ◌-◌, ◌*◌, ◌/◌, ◌≤◌}
use native.Mathlib.Omega.{arith}
use borrow.Author.Rules.{rules}
use lib.ListN.{length, drop}
use lib.Seq.{length-take-le}
use Rattle.model.specs.declared.WriteResult.{WriteResult}
use Rattle.model.specs.Expression.{Tree}
use Rattle.model.specs.Fields.{field}
use Rattle.model.specs.Forms.{row, packed}
use Rattle.model.specs.Calls.{written}
use Rattle.refusals.proofs.Up.{up_written}
use Rattle.fields.specs.Positions.{put_bits}
use Rattle.expression.specs.declared.Form.TheVariants.{Row}
use Rattle.expression.proofs.Handed.{Handed, handed, refuses}
use Rattle.forms.specs.Packing.{row_bits}
use Rattle.forms.specs.Reading.{read_over}
use Rattle.forms.proofs.Whole.{reads_over, sends-refusal, sends-short, sends-all, pack_sends, Counted, counted, put-filled}
use Rattle.forms.proofs.pack.Goals as goal
use Rattle.forms.proofs.pack.Goals.{In_ok-count, After-packed_bits-at}

abbrev long : Tree → ℕ
long t = length (packed t)

-- what was read
got : (c : In_ok-count) → Handed (read_over Row c.args.lists c.args.word c.args.row.now) c.in_ok-count.field-0
got c = let args = c.args in handed _ (reads_over Row args.lists args.word args.row.now) c.in_ok-count.ensures

known : (c : After-packed_bits-at) → Counted (got (goal.at.After-packed_bits-at c).In_ok-count).tree c.packed_bits-at.result
known c = let args = c.args in counted Row args.lists args.word args.row.now (got (goal.at.After-packed_bits-at c).In_ok-count) c.packed_bits-at.ensures

pub returns-in_err-count : goal.returns-in_err-count
returns-in_err-count c =
    let args = c.args in
    ap (λ (r : WriteResult). written r args.bytes.now) (up_written _ _ c.from_residual.ensures.1)
    ∙ sends-refusal packed long args.bytes.now (refuses (read_over Row args.lists args.word args.row.now) c.in_err-count.ensures)
    ∙ pack_sends args.row.now args.lists args.word args.bytes.now

pub slice_bounds-nodes-end : goal.slice_bounds-nodes-end
slice_bounds-nodes-end c = let r = got (goal.at.slice_bounds-nodes-end c).In_ok-count in omega (arith, r.few, r.all)

pub slice_bounds-nodes-end-2 : goal.slice_bounds-nodes-end-2
slice_bounds-nodes-end-2 c = let r = got (goal.at.slice_bounds-nodes-end-2 c).In_ok-count in sym (length-take-le _ _ (omega (arith, r.few, r.all)))

pub overflow_add-size : goal.overflow_add-size
overflow_add-size c = omega (arith, (known (goal.at.overflow_add-size c).After-packed_bits-at).few)

pub returns-then-bytes-size : goal.returns-then-bytes-size
returns-then-bytes-size c =
    let args = c.args in
    let r = got (goal.at.returns-then-bytes-size c).In_ok-count in
    let k = known (goal.at.returns-then-bytes-size c).After-packed_bits-at in
    sends-short packed long args.bytes.now r.is (omega (arith, k.bytes-long, c.if-bytes-size.true))
    ∙ pack_sends args.row.now args.lists args.word args.bytes.now

pub overflow_mul-size : goal.overflow_mul-size
overflow_mul-size c = omega (arith, (known (goal.at.overflow_mul-size c).After-packed_bits-at).few)

pub returns : goal.returns
returns c =
    let args = c.args in
    let r = got (goal.at.returns c).In_ok-count in
    let k = known (goal.at.returns c).After-packed_bits-at in
    let lent : List ℕ = args.bytes.now in
    let bits = row_bits (row r.tree) in
    let size : ℕ = (c.packed_bits-at.result + 7) / 8 in
    let room : size ≤ length lent = c.if-bytes-size.false in
    let nodes : c.put_nodes.new.s ≡ put_bits lent 0 bits = c.put_nodes.ensures ∙ ap (λ (l : List ℕ). put_bits lent 0 (row_bits l)) r.nodes in
    ap₂ (λ (m : ℕ) (l : List ℕ). written (record { number = 0; count = m }) l) k.bytes-long
    (c.put_field.ensures ∙ ap₂ (λ (l : List ℕ) (p : ℕ). put_bits l p (field (8 * size - p) 0)) nodes k.bits-long
    ∙ put-filled lent bits size (search rules) (k.bytes-long ∙ ap length (sym k.are)) room
    ∙ ap₂ (λ (l : List ℕ) (m : ℕ). l ++ drop m lent) k.are k.bytes-long)
    ∙ sends-all packed long lent r.is refl (omega (arith, k.bytes-long, room))
    ∙ pack_sends args.row.now args.lists args.word lent
