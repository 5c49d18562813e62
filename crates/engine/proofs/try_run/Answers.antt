-- `try_run` meets its contract: test by test, in the order of `Run.run_of`; behind the last the tree that was read stands at the
-- row's first node, so that `answer` sends back what the definition does. Assumes nothing.
use mathlib.Core.Path.{◌≡◌, ap, ◌∙◌}
use mathlib.Core.List.{List}
use Prim.Native.Nat.{ℕ}
use Rattle.std.proofs.Common.{Result, Ok, Err}
use Rattle.std.specs.Result.{IsErrAnd}
use Rattle.model.specs.declared.RunResult.{RunResult}
use Rattle.model.specs.Outcome.{number_of}
use Rattle.model.specs.Lists.{Lent, lend, lists_of}
use Rattle.model.specs.Forms.{read_packed}
use Rattle.model.specs.Run.{named_in}
use Rattle.model.specs.Calls.{ran, ran_refused}
use Rattle.model.proofs.Told.{refused_by}
use Rattle.refusals.specs.declared.Refusal.{Refusal}
use Rattle.refusals.specs.Numbers.{number}
use Rattle.expression.proofs.Handed.{refuses}
use Rattle.lists.proofs.Tested.{accepts as lists_accept, refuses as lists_refuse}
use Rattle.lists.proofs.Spans.{readable, passed as lists_passed}
use Rattle.reader.proofs.Laying.{ReadOver, read_over}
use Rattle.engine.specs.Answers.{ran_as}
use Rattle.engine.proofs.Whole.{lists-few, refuses-lists, refuses-expression, refuses-bookmark, refuses_unpaired, refuses-short, accepts}
use Rattle.engine.proofs.try_run.Goals as goal
use Rattle.engine.proofs.try_run.Goals.{In_ok-try_lists, In_ok-read}

-- the lists pass their tests
pass : (c : In_ok-try_lists) → number_of (lists_of (lend c.args.numbers.now c.args.ends.now c.args.word)) ≡ 0
pass c = lists_accept _ c.try_lists.ensures c.in_ok-try_lists.was

-- a tree was read, and stands at the first node
read : (c : In_ok-read) → number_of (lists_of (lend c.args.numbers.now c.args.ends.now c.args.word)) ≡ 0
    → ReadOver (lend c.args.numbers.now c.args.ends.now c.args.word) c.args.packed.now c.in_ok-read.read
read c passed =
    let l : Lent = lend c.args.numbers.now c.args.ends.now c.args.word in
    read_over l _ (lists-few l passed) c.in_ok-read.ensures

-- a refusal that goes up by `?`, handed back
handed : (row : List ℕ) (r : Result RunResult Refusal) (e : Refusal) → IsErrAnd r (λ y. y ≡ e) → ran (ran_as r) row ≡ ran (ran_refused (number e)) row
handed row (Ok d) e h = absurd h
handed row (Err y) e h = ap (λ (x : Refusal). ran (ran_refused (number x)) row) h

pub returns-in_err-try_lists : goal.returns-in_err-try_lists
unfolding number_of
returns-in_err-try_lists c =
    let args = c.args in
    let o = lists_of (lend args.numbers.now args.ends.now args.word) in
    handed args.replies.now _ _ c.from_residual.ensures.1
    ∙ ap (λ (n : ℕ). ran (ran_refused n) args.replies.now) c.in_err-try_lists.ensures
    ∙ refuses-lists _ _ _ _ _ _ _ (refused_by o (lists_refuse o c.try_lists.ensures c.in_err-try_lists.was))

pub returns-in_err-read : goal.returns-in_err-read
returns-in_err-read c =
    let args = c.args in
    let l : Lent = lend args.numbers.now args.ends.now args.word in
    handed args.replies.now _ _ c.from_residual-in_err-read.ensures.1
    ∙ refuses-expression _ _ _ _ _ _ _ (lists_passed _ (pass (goal.at.returns-in_err-read c).In_ok-try_lists)) _ (refuses (read_packed (named_in l) args.packed.now) c.in_err-read.ensures)

pub returns-then-bookmark-gt-TOP : goal.returns-then-bookmark-gt-TOP
returns-then-bookmark-gt-TOP c =
    let p = pass (goal.at.returns-then-bookmark-gt-TOP c).In_ok-try_lists in
    refuses-bookmark _ _ _ _ _ _ _ (lists_passed _ p) _ (read (goal.at.returns-then-bookmark-gt-TOP c).In_ok-read p).is c.if-bookmark-gt-TOP.true

pub returns-then-codes-arguments : goal.returns-then-codes-arguments
returns-then-codes-arguments c =
    let p = pass (goal.at.returns-then-codes-arguments c).In_ok-try_lists in
    refuses_unpaired _ _ _ _ _ _ _ (lists_passed _ p) _ (read (goal.at.returns-then-codes-arguments c).In_ok-read p).is c.if-bookmark-gt-TOP.false c.if-codes-arguments.true

pub returns-then-replies-codes : goal.returns-then-replies-codes
returns-then-replies-codes c =
    let p = pass (goal.at.returns-then-replies-codes c).In_ok-try_lists in
    refuses-short _ _ _ _ _ _ _ (lists_passed _ p) _ (read (goal.at.returns-then-replies-codes c).In_ok-read p).is c.if-bookmark-gt-TOP.false c.if-codes-arguments.false c.if-replies-codes.true

pub invariant_of-generator : goal.invariant_of-generator
invariant_of-generator c =
    let args = c.args in
    record {
      ready = record { lists = readable (lend args.numbers.now args.ends.now args.word) _ (lists_passed _ (pass (goal.at.invariant_of-generator c).In_ok-try_lists)); table = c.node_ends-behind.ensures };
      fit = λ i. (c.shared_slice_known-1.given i).fits;
    }

pub answer-requires : goal.answer-requires
answer-requires c =
    let r = read (goal.at.answer-requires c).In_ok-read (pass (goal.at.answer-requires c).In_ok-try_lists) in
    record {
      standing = record { tree = r.tree; stands = r.stands };
      bookmark_le_top = c.if-bookmark-gt-TOP.false;
      codes_len = (c.if-codes-arguments.false, c.if-replies-codes.false);
    }

pub returns : goal.returns
returns c =
    let p = pass (goal.at.returns c).In_ok-try_lists in
    let r = read (goal.at.returns c).In_ok-read p in
    c.answer.ensures r.tree r.stands
    ∙ accepts _ _ _ _ _ _ _ (lists_passed _ p) _ r.is c.if-bookmark-gt-TOP.false c.if-codes-arguments.false c.if-replies-codes.false
