-- `list_delivered` meets its contract: test by test, in the order of `Over.list_over`; the page of 4,097 places holds every member
-- and ends with finished. Assumes nothing.
use mathlib.Core.Path.{refl, sym, ap, ap₂, ◌∙◌}
use mathlib.Core.List.{List, ◌++◌}
use Prim.Native.Nat.{ℕ}
use native.Mathlib.Omega.{arith}
use lib.ListN.{length, replicate, drop}
use lib.Seq.{length-take-le}
use Rattle.model.specs.Lists.{lists_from, Lent, lend}
use Rattle.model.specs.Forms.{read_packed}
use Rattle.model.specs.Run.{begin, named_in}
use Rattle.model.specs.Sets.{members}
use Rattle.model.specs.Calls.{counted}
use Rattle.expression.proofs.Handed.{refuses}
use Rattle.reader.proofs.Laying.{ReadOver, read_over}
use Rattle.listing.proofs.Whole.{handed, moves_of, over-refuses, over-short, over-lists, AllDrawn, draws_all}
use Rattle.listing.proofs.list_delivered.Goals as goal
use Rattle.listing.proofs.list_delivered.Goals.{After-draw_page-page, In_ok-read}

-- a tree was read, and stands at the first node
read : (c : In_ok-read) → ReadOver (lend c.args.numbers.now c.args.ends.now c.args.word) c.args.packed.now c.in_ok-read.read
read c = read_over (lend c.args.numbers.now c.args.ends.now c.args.word) c.args.packed.now c.requires.many c.in_ok-read.ensures

pub returns-in_err-read : goal.returns-in_err-read
returns-in_err-read c =
    let args = c.args in
    let l : Lent = lend args.numbers.now args.ends.now args.word in
    handed args.members.now _ _ c.from_residual.ensures.1
    ∙ over-refuses args.numbers.now args.ends.now args.word _ _ _ (refuses (read_packed (named_in l) args.packed.now) c.in_err-read.ensures)

pub draw_page-page-requires : goal.draw_page-page-requires
draw_page-page-requires c =
    let r = read (goal.at.draw_page-page-requires c).In_ok-read in
    record { standing = record { tree = r.tree; stands = r.stands }; bookmark_le_top = omega arith }

-- every member stands in the page
drawn : (c : After-draw_page-page) (r : ReadOver (lend c.args.numbers.now c.args.ends.now c.args.word) c.args.packed.now c.in_ok-read.read)
    → AllDrawn (lists_from c.args.numbers.now 0 c.args.ends.now) r.tree c.draw_page-page.result c.draw_page-page.new.row
unfolding begin
drawn c r =
    draws_all c.args.numbers.now c.args.ends.now c.args.word c.args.packed.now c.args.members.now r.tree r.is
    (λ i. (c.type_inv.numbers i).fits) c.requires _ r.stands (replicate 4097 0) refl _ _ (rw c.first.ensures at (c.draw_page-page.ensures.pages_to r.tree r.stands))

pub returns-then-members-count : goal.returns-then-members-count
returns-then-members-count c =
    over-short _ _ _ _ _ _ (read (goal.at.returns-then-members-count c).In_ok-read).is (omega (arith, (drawn (goal.at.returns-then-members-count c).After-draw_page-page (read (goal.at.returns-then-members-count c).In_ok-read)).count, c.if-members-count.true))

pub slice_bounds-drawn-end : goal.slice_bounds-drawn-end
slice_bounds-drawn-end c = (drawn (goal.at.slice_bounds-drawn-end c).After-draw_page-page (read (goal.at.slice_bounds-drawn-end c).In_ok-read)).inside

pub slice_bounds-copy_from_slice-end-3 : goal.slice_bounds-copy_from_slice-end-3
slice_bounds-copy_from_slice-end-3 c = let all = drawn (goal.at.slice_bounds-copy_from_slice-end-3 c).After-draw_page-page (read (goal.at.slice_bounds-copy_from_slice-end-3 c).In_ok-read) in sym (length-take-le _ _ all.inside)

pub copy_from_slice-requires : goal.copy_from_slice-requires
copy_from_slice-requires c =
    let all = drawn (goal.at.copy_from_slice-requires c).After-draw_page-page (read (goal.at.copy_from_slice-requires c).In_ok-read) in
    length-take-le _ _ c.if-members-count.false ∙ sym (length-take-le _ _ all.inside)

pub returns : goal.returns
returns c =
    let args = c.args in
    let r = read (goal.at.returns c).In_ok-read in
    let all = drawn (goal.at.returns c).After-draw_page-page r in
    let ms : List ℕ = members (lists_from args.numbers.now 0 args.ends.now) r.tree in
    ap₂ (λ (n m : ℕ). counted (record { number = 0; count = n; moves = m }) (c.copy_from_slice.new.self ++ drop n args.members.now)) all.count all.moved
    ∙ ap (λ (l : List ℕ). counted (record { number = 0; count = length ms; moves = moves_of (lists_from args.numbers.now 0 args.ends.now) r.tree }) (l ++ drop (length ms) args.members.now)) (c.copy_from_slice.ensures.after ∙ all.holds)
    ∙ over-lists args.numbers.now args.ends.now args.word args.packed.now args.members.now _ r.is (omega (arith, all.count, c.if-members-count.false))
