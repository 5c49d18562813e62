-- `compare::rows::first_difference` meets its contract: before each turn both rows have had the same.
use Rattle.std.proofs.Common.{◌≡◌, ◌<◌, ℕ, true, slice_index_or}
use Rattle.compare.proofs.rows.first_difference.Given as goal

abbrev pub invariant-loop-at : goal.invariant-loop-at
invariant-loop-at g l = (k : ℕ) → (x : g.row.T.Denot) → k < l.at → g.T.PartialEq.eq (slice_index_or l.row k x) (slice_index_or l.other k x) ≡ true
