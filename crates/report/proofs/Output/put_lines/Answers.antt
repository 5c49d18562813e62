-- `Output::put_lines` meets its contract: one line more, and none left. Assumes nothing.
use mathlib.Core.Path.{refl, sym, ap, ◌∙◌}
use mathlib.Core.List.{List, []}
use Prim.Native.Nat.{ℕ, ◌+◌}
use native.Mathlib.Omega.{arith}
use lib.ListN.{length, get_or, drop}
use Rattle.fields.specs.Rows.{lay}
use Rattle.fields.proofs.Rows.{lay-nil}
use Rattle.report.specs.Text.{line, lines}
use Rattle.report.proofs.Text.{lay-then, laid_long, lines_from, lines_long, lines_done}
use Rattle.report.proofs.Output.put_lines.Goals as goal

pub put_line-requires : goal.put_line-requires
put_line-requires c = omega (arith, lines_long c.args.members.now c.loop-m.m-index (omega arith))

pub loop-m-preserved : goal.loop-m-preserved
loop-m-preserved c =
    let l = c.loop-m in
    let new = c.put_line.new.self in
    let p = c.put_line.ensures in
    let ms : List ℕ = c.args.members.now in
    let rest : List ℕ = lines (drop (l.m-index + 1) ms) in
    let long = lines_long ms l.m-index (omega arith) in record {
      same_row = p.same_row ∙ l.invariant.same_row;
      many = laid_long _ _ _ _ p.row (omega arith) ∙ l.invariant.many;
      len = omega arith;
      row = lay-then l.self.row.now new.row.now (lay new.row.now new.len rest) l.self.len new.len (line [] (get_or ms l.m-index 0)) rest _ (omega arith) p.row p.len refl (lines_from ms l.m-index (omega arith)) ∙ l.invariant.row;
    }

pub returns-clause-len : goal.returns-clause-len
returns-clause-len c =
    let l = c.loop-m in
    omega (arith, ap (λ (k : List ℕ). length k) (lines_done c.args.members.now l.m-index (omega arith)))

pub returns-clause-row : goal.returns-clause-row
returns-clause-row c =
    let l = c.loop-m in
    sym (ap (lay l.self.row.now l.self.len) (lines_done c.args.members.now l.m-index (omega arith)) ∙ lay-nil l.self.row.now l.self.len) ∙ l.invariant.row
