-- `Output::put_lines` meets its contract. The loop's invariant: laying the lines that are left from here on is laying all lines, and
-- they end where all end. Assumes nothing.
use mathlib.Core.Path.{◌≡◌}
use Prim.Native.Nat.{◌+◌}
use lib.ListN.{length, drop}
use Rattle.fields.specs.Rows.{lay}
use Rattle.report.specs.Text.{lines}
use Rattle.report.proofs.Output.put_lines.Given as goal

abbrev pub invariant-loop-m : goal.invariant-loop-m
invariant-loop-m l = record {
  same_row : l.self.row.ghost_name ≡ l.initial.self.row.ghost_name;
  many : length l.self.row.now ≡ length l.initial.self.row.now;
  len : l.self.len + length (lines (drop l.m-index l.members)) ≡ l.initial.self.len + length (lines l.members);
  row : lay l.self.row.now l.self.len (lines (drop l.m-index l.members)) ≡ lay l.initial.self.row.now l.initial.self.len (lines l.members);
}
