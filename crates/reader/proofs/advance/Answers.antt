-- `advance` meets its contract: it stays, makes one move, or hops and then moves singly. Assumes nothing.
use mathlib.Core.Path.{◌≡◌, refl, sym, ◌∙◌}
use Prim.Native.Nat.{◌+◌}
use native.Mathlib.Omega.{arith}
use lib.ListN.{drop}
use Rattle.model.specs.Steps.{passed}
use Rattle.model.proofs.Order.{Up}
use Rattle.model.proofs.Accepted.{ascending_up}
use Rattle.reader.proofs.Moves.{no_move, one_move, two-behind, advanced}
use Rattle.reader.proofs.advance.Goals as goal
use Rattle.reader.proofs.advance.Goals.{then-hopped-eq0, else-hopped-eq0, After-moved-at, After-shared_slice_known-1}

up : (c : After-shared_slice_known-1) → Up 0 c.args.list.now
up c = ascending_up c.args.list.now (λ i. (c.shared_slice_known-1.given i).fits) c.requires.0

-- behind its hops, or behind the two numbers that were looked at, it goes on singly
behind : (c : After-moved-at) → let args = c.args in
    c.moved-at.result ≡ c.hop-hopped.result.at + passed (drop c.hop-hopped.result.at args.list.now) args.to
behind c =
    c.moved-at.ensures ∙ elim c.if-hopped-eq0.branch [
      | then-hopped-eq0 w ↦ two-behind _ _ _ _ _ _ (sym c.passes.ensures ∙ c.if-not-passes.false) (sym c.passes-2.ensures ∙ c.if-not-passes-2.false) c.hop-hopped.ensures (omega arith) (omega arith)
      | else-hopped-eq0 w ↦ rw w.from-is refl
    ]

pub returns-then-not-passes : goal.returns-then-not-passes
returns-then-not-passes c = no_move _ _ _ _ _ (up (goal.at.returns-then-not-passes c).After-shared_slice_known-1) (sym c.passes.ensures ∙ c.if-not-passes.true) (omega arith) (omega arith)

pub returns-then-not-passes-2 : goal.returns-then-not-passes-2
returns-then-not-passes-2 c =
    one_move _ _ _ _ _ (up (goal.at.returns-then-not-passes-2 c).After-shared_slice_known-1) (sym c.passes.ensures ∙ c.if-not-passes.false) (sym c.passes-2.ensures ∙ c.if-not-passes-2.true) (omega arith) (omega arith)

pub returns : goal.returns
returns c =
    advanced _ _ _ _ _ _ _ c.hop-hopped.ensures (behind (goal.at.returns c).After-moved-at) (omega arith)
