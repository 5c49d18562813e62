-- `report::report` meets its contract: what `listing::list_members` hands back taken apart (`Listed`), and its lines laid behind each
-- other; 4,096 lines of 11 bytes and one of 17 fill the row. Assumes nothing.
use mathlib.Core.Path.{sym, ap, ◌∙◌}
use mathlib.Core.List.{List}
use Prim.Native.Nat.{ℕ, ◌≤◌}
use native.Mathlib.Omega.{arith}
use lib.ListN.{length, take, length-append, length-take, length-replicate}
use Rattle.model.specs.Program.{listing}
use Rattle.fields.specs.Rows.{lay}
use Rattle.report.specs.Text.{line, lines, refused_word, moves_word, text}
use Rattle.report.proofs.Text.{lay-then, laid_long, line-few, lines-few}
use Rattle.report.proofs.Listed.{text-refused, AllListed, all_listed}
use Rattle.report.proofs.report.Goals as goal
use Rattle.report.proofs.report.Goals.{Else-r-ne0}

all : (c : Else-r-ne0) → AllListed c.args.input.now _ (length-replicate {A = ℕ} 4096 0) c.list_members-r.result c.list_members-r.new.members c.list_members-r.ensures
all c = all_listed c.args.input.now _ (length-replicate {A = ℕ} 4096 0) c.list_members-r.result c.list_members-r.new.members c.list_members-r.ensures c.if-r-ne0.false

pub put_line-requires : goal.put_line-requires
put_line-requires c =
    omega (arith, line-few refused_word c.list_members-r.result.number)

pub returns-then-r-ne0 : goal.returns-then-r-ne0
returns-then-r-ne0 c =
    let is = text-refused c.args.input.now _ (length-replicate {A = ℕ} 4096 0) c.list_members-r.result c.list_members-r.new.members c.list_members-r.ensures c.if-r-ne0.true in
    record { value = omega (arith, c.put_line.ensures.len, ap (λ (k : List ℕ). length k) is); out_after = c.put_line.ensures.row ∙ ap (lay c.args.out.now 0) (sym is) }

pub slice_bounds-members-end : goal.slice_bounds-members-end
slice_bounds-members-end c = (all (goal.at.slice_bounds-members-end c).Else-r-ne0).inside

pub slice_bounds-put_lines-end : goal.slice_bounds-put_lines-end
slice_bounds-put_lines-end c =
    let r = c.list_members-r in
    omega (arith, length-take r.result.count r.new.members, (all (goal.at.slice_bounds-put_lines-end c).Else-r-ne0).inside)

-- the members' lines leave 17 bytes
members_fit : (c : Else-r-ne0) → let r = c.list_members-r in length (lines (take r.result.count r.new.members)) ≤ 45056
members_fit c =
    let r = c.list_members-r in
    omega (arith, length-take r.result.count r.new.members, (all c).few, lines-few (take r.result.count r.new.members))

pub put_lines-requires : goal.put_lines-requires
put_lines-requires c = omega (arith, members_fit (goal.at.put_lines-requires c).Else-r-ne0)

pub put_line-requires-2 : goal.put_line-requires-2
put_line-requires-2 c =
    let fit = members_fit (goal.at.put_line-requires-2 c).Else-r-ne0 in
    omega (arith, laid_long _ _ _ _ c.put_lines.ensures.row (omega arith), line-few moves_word c.list_members-r.result.moves)

pub returns : goal.returns
returns c =
    let r = c.list_members-r in
    let p = c.put_lines in
    let ms : List ℕ = lines (take r.result.count r.new.members) in
    let last : List ℕ = line moves_word r.result.moves in
    let is = (all (goal.at.returns c).Else-r-ne0).text-is in record {
      value = omega (arith, c.put_line-2.ensures.len, p.ensures.len, ap (λ (k : List ℕ). length k) is, length-append ms last);
      out_after = lay-then c.args.out.now p.new.self.row.now c.put_line-2.new.self.row.now 0 p.new.self.len ms last (text (listing c.args.input.now)) (omega arith) p.ensures.row p.ensures.len c.put_line-2.ensures.row is;
    }
