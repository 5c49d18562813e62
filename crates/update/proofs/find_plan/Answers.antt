-- `find_plan` meets its contract: test by test, in the order of `Plans.placed_of`. Assumes nothing.
use mathlib.Core.Path.{◌≡◌, sym, ap, ◌∙◌}
use lib.ListN.{length}
use Rattle.model.specs.Outcome.{refused, accepted, number_of}
use Rattle.model.specs.Lists.{lists_from, lend, lists_of}
use Rattle.model.specs.Forms.{read_packed}
use Rattle.model.specs.Run.{named_in}
use Rattle.model.proofs.Accepted.{lists_accepted, there-is}
use Rattle.changes.proofs.Changes.{same-is}
use Rattle.model.proofs.Told.{refused_by}
use Rattle.expression.proofs.Handed.{refuses}
use Rattle.lists.proofs.Spans.{counts, readable, passed}
use Rattle.lists.proofs.Tested.{accepts as lists_accept, refuses as lists_refuse}
use Rattle.reader.proofs.Laying.{ReadOver, read_over}
use Rattle.update.proofs.Tests.{says-refused}
use Rattle.update.proofs.Whole.{shows-short, shows_same, whole-lists, whole-expression, whole-named, whole_17, whole_plan}
use Rattle.update.proofs.find_plan.Goals as goal
use Rattle.update.proofs.find_plan.Goals.{In_ok-try_lists, In_ok-read, In_ok-test_list}

-- the lists pass their tests
pass : (c : In_ok-try_lists) → lists_of (lend c.args.numbers.now c.args.ends.now c.args.word) ≡ accepted (lists_from c.args.numbers.now 0 c.args.ends.now)
pass c = passed (lend c.args.numbers.now c.args.ends.now c.args.word) (lists_accept _ c.try_lists.ensures c.in_ok-try_lists.was)

-- a tree was read, and stands at the first node
read : (c : In_ok-read) → lists_of (lend c.args.numbers.now c.args.ends.now c.args.word) ≡ accepted (lists_from c.args.numbers.now 0 c.args.ends.now) → ReadOver (lend c.args.numbers.now c.args.ends.now c.args.word) c.args.packed.now c.in_ok-read.read
read c p = read_over (lend c.args.numbers.now c.args.ends.now c.args.word) _ (counts _ (lists_accepted (lend c.args.numbers.now c.args.ends.now c.args.word) _ p).count).1 c.in_ok-read.ensures

-- 4 and 18 have passed
named : (c : In_ok-test_list) → named_in (lend c.args.numbers.now c.args.ends.now c.args.word) c.args.list ≡ accepted tt
named c = sym c.in_ok-test_list.ensures

pub returns-in_err-try_lists : goal.returns-in_err-try_lists
unfolding number_of
returns-in_err-try_lists c =
    let o = lists_of (lend c.args.numbers.now c.args.ends.now c.args.word) in
    says-refused _ _ c.from_residual.ensures.1 ∙ ap refused c.in_err-try_lists.ensures
    ∙ whole-lists _ _ _ _ _ _ (refused_by o (lists_refuse o c.try_lists.ensures c.in_err-try_lists.was))

pub returns-in_err-read : goal.returns-in_err-read
returns-in_err-read c =
    let l = lend c.args.numbers.now c.args.ends.now c.args.word in
    let p = pass (goal.at.returns-in_err-read c).In_ok-try_lists in
    says-refused _ _ c.from_residual-in_err-read.ensures.1
    ∙ whole-expression _ _ _ _ _ _ p _ (refuses (read_packed (named_in l) c.args.packed.now) c.in_err-read.ensures)

pub returns-in_err-test_list : goal.returns-in_err-test_list
returns-in_err-test_list c =
    let p = pass (goal.at.returns-in_err-test_list c).In_ok-try_lists in
    let r = read (goal.at.returns-in_err-test_list c).In_ok-read p in
    says-refused _ _ c.from_residual-in_err-test_list.ensures.1
    ∙ whole-named _ _ _ _ _ _ p _ r.is _ (sym c.in_err-test_list.ensures)

pub returns-then-members-count : goal.returns-then-members-count
returns-then-members-count c =
    let p = pass (goal.at.returns-then-members-count c).In_ok-try_lists in
    let r = read (goal.at.returns-then-members-count c).In_ok-read p in
    let n = named (goal.at.returns-then-members-count c).In_ok-test_list in
    whole_17 _ _ _ _ _ _ p _ r.is n (shows-short c.args.members.now c.args.count _ c.if-members-count.true)

pub invariant_of-generator : goal.invariant_of-generator
invariant_of-generator c = record {
  ready = record { lists = readable (lend c.args.numbers.now c.args.ends.now c.args.word) _ (pass (goal.at.invariant_of-generator c).In_ok-try_lists); table = c.node_ends-behind.ensures };
  fit = λ i. (c.shared_slice_known-1.given i).fits;
}

pub shows-requires : goal.shows-requires
shows-requires c =
    let r = read (goal.at.shows-requires c).In_ok-read (pass (goal.at.shows-requires c).In_ok-try_lists) in
    record { tree = r.tree; stands = r.stands }

pub returns-then-not-shows : goal.returns-then-not-shows
returns-then-not-shows c =
    let p = pass (goal.at.returns-then-not-shows c).In_ok-try_lists in
    let r = read (goal.at.returns-then-not-shows c).In_ok-read p in
    let n = named (goal.at.returns-then-not-shows c).In_ok-test_list in
    whole_17 _ _ _ _ _ _ p _ r.is n (shows_same c.args.members.now c.args.count _ c.if-members-count.false ∙ sym (c.shows.ensures r.tree r.stands) ∙ c.if-not-shows.true)

pub examine-requires : goal.examine-requires
examine-requires c =
    let p = pass (goal.at.examine-requires c).In_ok-try_lists in
    let r = read (goal.at.examine-requires c).In_ok-read p in
    let n = named (goal.at.examine-requires c).In_ok-test_list in
    let taken = lists_accepted (lend c.args.numbers.now c.args.ends.now c.args.word) _ p in
    record {
      standing = record { tree = r.tree; stands = r.stands };
      ends_value = (taken.hold, taken.count, there-is (length c.args.ends.now) c.args.word c.args.list n);
      kept = (c.if-members-count.false, λ t h. same-is _ _ (sym (c.shows.ensures t h) ∙ c.if-not-shows.false));
    }

pub returns : goal.returns
returns c =
    let p = pass (goal.at.returns c).In_ok-try_lists in
    let r = read (goal.at.returns c).In_ok-read p in
    let n = named (goal.at.returns c).In_ok-test_list in
    c.examine.ensures r.tree r.stands
    ∙ whole_plan _ _ _ _ _ _ p _ r.is n (shows_same c.args.members.now c.args.count _ c.if-members-count.false ∙ sym (c.shows.ensures r.tree r.stands) ∙ c.if-not-shows.false)
