-- `try_lists` meets its contract: each return has the tests before it passed and its own failed. Assumes nothing.
use mathlib.Core.Path.{◌≡◌, sym, ◌∙◌}
use mathlib.Core.Bool.{true, ◌&&◌}
use lib.ListN.{length}
use Rattle.model.specs.Outcome.{number_of}
use Rattle.model.specs.Lists.{count_holds, ends_hold, word_holds, lists_of}
use Rattle.model.proofs.Order.{and_true}
use Rattle.lists.proofs.try_lists.Goals as goal
use Rattle.lists.proofs.try_lists.Goals.{Else-not-count_holds, Else-not-lists_hold}

pub returns-then-not-count_holds : goal.returns-then-not-count_holds
unfolding lists_of number_of
returns-then-not-count_holds c = rw (sym c.count_holds.ensures ∙ c.if-not-count_holds.true)

-- 7 has passed
counted : (c : Else-not-count_holds) → count_holds (length c.args.ends.now) ≡ true
counted c = sym c.count_holds.ensures ∙ c.if-not-count_holds.false

-- 10 has passed
held : (c : Else-not-lists_hold) → let args = c.args in ends_hold (length args.numbers.now) 0 args.ends.now && word_holds args.word 0 0 args.ends.now ≡ true
held c = sym c.lists_hold.ensures ∙ c.if-not-lists_hold.false

pub returns-then-not-lists_hold : goal.returns-then-not-lists_hold
unfolding lists_of number_of
returns-then-not-lists_hold c = rw (counted (goal.at.returns-then-not-lists_hold c).Else-not-count_holds, sym c.lists_hold.ensures ∙ c.if-not-lists_hold.true)

pub all_ascending-requires : goal.all_ascending-requires
all_ascending-requires c = let args = c.args in (and_true (ends_hold (length args.numbers.now) 0 args.ends.now) _ (held c)).0

pub returns-then-not-all_ascending : goal.returns-then-not-all_ascending
unfolding lists_of number_of
returns-then-not-all_ascending c =
    rw (
      counted (goal.at.returns-then-not-all_ascending c).Else-not-count_holds,
      held (goal.at.returns-then-not-all_ascending c).Else-not-lists_hold,
      sym c.all_ascending.ensures ∙ c.if-not-all_ascending.true,
    )

pub returns : goal.returns
unfolding lists_of number_of
returns c =
    rw (
      counted (goal.at.returns c).Else-not-count_holds,
      held (goal.at.returns c).Else-not-lists_hold,
      sym c.all_ascending.ensures ∙ c.if-not-all_ascending.false,
    )
