-- `forms::unpack` meets its contract: test by test, in the order of `Calls.unpack_expression`; the row is written only once all of
-- it is known to read and to fit. Assumes nothing.
use mathlib.Core.Path.{sym, ap, ap₂, ◌∙◌}
use mathlib.Core.List.{List, ◌++◌}
use Prim.Native.Nat.{ℕ}
use native.Mathlib.Omega.{arith}
use lib.ListN.{drop}
use lib.Seq.{length-take-le}
use Rattle.model.specs.declared.WriteResult.{WriteResult}
use Rattle.model.specs.Expression.{size}
use Rattle.model.specs.Forms.{row}
use Rattle.model.specs.Calls.{written}
use Rattle.model.proofs.Shape.{row-long}
use Rattle.refusals.proofs.Up.{up_written}
use Rattle.expression.specs.declared.Form.TheVariants.{Packed}
use Rattle.expression.proofs.Handed.{Handed, handed, refuses}
use Rattle.forms.specs.Reading.{read_over}
use Rattle.forms.proofs.Whole.{reads_over, sends-refusal, sends-short, sends-all, unpack_sends}
use Rattle.forms.proofs.unpack.Goals as goal
use Rattle.forms.proofs.unpack.Goals.{In_ok-count}

-- what was read
got : (c : In_ok-count) → Handed (read_over Packed c.args.lists c.args.word c.args.bytes.now) c.in_ok-count.field-0
got c = let args = c.args in handed _ (reads_over Packed args.lists args.word args.bytes.now) c.in_ok-count.ensures

pub returns-in_err-count : goal.returns-in_err-count
returns-in_err-count c =
    let args = c.args in
    ap (λ (r : WriteResult). written r args.row.now) (up_written _ _ c.from_residual.ensures.1)
    ∙ sends-refusal row size args.row.now (refuses (read_over Packed args.lists args.word args.bytes.now) c.in_err-count.ensures)
    ∙ unpack_sends args.bytes.now args.lists args.word args.row.now

pub returns-then-row-count : goal.returns-then-row-count
returns-then-row-count c =
    let args = c.args in
    let r = got (goal.at.returns-then-row-count c).In_ok-count in
    sends-short row size args.row.now r.is (omega (arith, r.count, c.if-row-count.true))
    ∙ unpack_sends args.bytes.now args.lists args.word args.row.now

pub slice_bounds-nodes-end : goal.slice_bounds-nodes-end
slice_bounds-nodes-end c = let r = got (goal.at.slice_bounds-nodes-end c).In_ok-count in omega (arith, r.few, r.all)

pub slice_bounds-copy_from_slice-end-3 : goal.slice_bounds-copy_from_slice-end-3
slice_bounds-copy_from_slice-end-3 c = let r = got (goal.at.slice_bounds-copy_from_slice-end-3 c).In_ok-count in sym (length-take-le _ _ (omega (arith, r.few, r.all)))

pub copy_from_slice-requires : goal.copy_from_slice-requires
copy_from_slice-requires c =
    let r = got (goal.at.copy_from_slice-requires c).In_ok-count in
    length-take-le _ _ (omega arith) ∙ sym (length-take-le _ _ (omega (arith, r.few, r.all)))

pub returns : goal.returns
returns c =
    let args = c.args in
    let r = got (goal.at.returns c).In_ok-count in
    let lent : List ℕ = args.row.now in
    ap₂ (λ (n : ℕ) (l : List ℕ). written (record { number = 0; count = n }) (l ++ drop n lent)) r.count (c.copy_from_slice.ensures.after ∙ r.nodes)
    ∙ sends-all row size lent r.is (row-long r.tree) (omega (arith, r.count, c.if-row-count.false))
    ∙ unpack_sends args.bytes.now args.lists args.word lent
