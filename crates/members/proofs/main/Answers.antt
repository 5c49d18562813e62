-- `main` is safe and ends: the part of the row that it writes is the whole text and nothing behind it. Assumes nothing.
use Rattle.std.proofs.Common.{◌≡◌, ℕ, List, length, take, sym, ap, ◌∙◌, arith, length-take}
use Rattle.report.proofs.Text.{laid_front}
use Rattle.members.proofs.main.Goals as goal
use Rattle.members.proofs.main.Goals.{After-report-end}

-- so much of the row is the text
counts : (c : After-report-end) → length (take c.report-end.result c.report-end.new.out) ≡ c.report-end.result
counts c = ap (λ (k : List ℕ). length k) (laid_front _ c.report-end.new.out c.report-end.result _ c.report-end.ensures.value c.report-end.ensures.out_after) ∙ sym c.report-end.ensures.value

pub slice_bounds-text-end : goal.slice_bounds-text-end
slice_bounds-text-end c = omega (arith, length-take c.report-end.result c.report-end.new.out, counts (goal.at.slice_bounds-text-end c).After-report-end)

pub slice_bounds-write_all-end-2 : goal.slice_bounds-write_all-end-2
slice_bounds-write_all-end-2 c = sym (counts (goal.at.slice_bounds-write_all-end-2 c).After-report-end)
