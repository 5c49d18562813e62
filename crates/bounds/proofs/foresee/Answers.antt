-- `foresee` meets its contract: test by test, in the order of `Bounds.bounds_of`; then what the row of the expression comes to.
-- Assumes nothing.
use mathlib.Core.Path.{◌≡◌, sym, ap, ◌∙◌}
use mathlib.Core.Bool.{true}
use mathlib.Core.List.{List, [], ◌∷◌}
use Prim.Native.Nat.{ℕ, ◌≤◌}
use native.Mathlib.Omega.{arith}
use lib.ListN.{length, get_or, take, length-take}
use Rattle.std.proofs.Common.{Result, Ok, Err}
use Rattle.std.specs.Result.{IsErrAnd}
use Rattle.model.specs.declared.BoundsResult.{BoundsResult}
use Rattle.model.specs.Outcome.{Outcome}
use Rattle.model.specs.Lists.{count_holds}
use Rattle.model.specs.Expression.{Tree}
use Rattle.model.specs.Forms.{there, read_packed}
use Rattle.model.specs.Demands.{Named}
use Rattle.model.specs.RequestTwo.{every_bit}
use Rattle.model.specs.Bounds.{lengths_from, ends_rise, most_members, most_moves, bounded, bounded_refused}
use Rattle.model.proofs.Accepted.{there-is, packed_reads}
use Rattle.model.proofs.Laid.{at_most_32}
use Rattle.refusals.specs.declared.Refusal.{Refusal}
use Rattle.refusals.specs.Numbers.{number}
use Rattle.expression.specs.declared.Expression.{Expression as Read}
use Rattle.expression.proofs.Handed.{Handed, handed, refuses}
use Rattle.capacity.proofs.Lengths.{lengths-many, no_row}
use Rattle.capacity.proofs.Said.{says_7, says_10, says-refusal, says_all}
use Rattle.bounds.specs.Handed.{bounded_as}
use Rattle.bounds.specs.Backwards.{trees, Whole, leaf_lengths}
use Rattle.bounds.proofs.Forest.{row_comes, row-leaves}
use Rattle.bounds.proofs.foresee.Goals as goal
use Rattle.bounds.proofs.foresee.Goals.{After-ends_hold, Else-not-count_holds, Else-not-ends_hold, In_ok-e}

-- 7 does not apply, and then 10
holds : (c : Else-not-count_holds) → count_holds (length c.args.ends.now) ≡ true
holds c = sym c.count_holds.ensures ∙ c.if-not-count_holds.false

tested : (c : After-ends_hold) → count_holds (length c.args.ends.now) ≡ true → c.ends_hold.result ≡ ends_rise 0 c.args.ends.now
tested c counted = c.ends_hold.ensures ∙ no_row _ 0 c.args.ends.now (omega (arith, at_most_32 _ counted))

rise : (c : Else-not-ends_hold) → c.ends_hold.result ≡ ends_rise 0 c.args.ends.now → ends_rise 0 c.args.ends.now ≡ true
rise c same = sym same ∙ c.if-not-ends_hold.false

-- what was read
abbrev got : List ℕ → List ℕ → Outcome Tree
got ends packed = read_packed (there (length ends) every_bit) packed

read : (c : In_ok-e) → Handed (got c.args.ends.now c.args.packed.now) c.in_ok-e.e
read c = let args = c.args in handed (got args.ends.now args.packed.now) (packed_reads (there (length args.ends.now) every_bit) args.packed.now) c.in_ok-e.ensures

pub returns-then-not-count_holds : goal.returns-then-not-count_holds
returns-then-not-count_holds c =
    let args = c.args in
    sym (says_7 args.ends.now args.packed.now (sym c.count_holds.ensures ∙ c.if-not-count_holds.true))

pub returns-then-not-ends_hold : goal.returns-then-not-ends_hold
returns-then-not-ends_hold c =
    let args = c.args in
    let at = goal.at.returns-then-not-ends_hold c in
    let counted = holds at.Else-not-count_holds in
    sym (says_10 args.ends.now args.packed.now counted (sym (tested at.After-ends_hold counted) ∙ c.if-not-ends_hold.true))

-- a refusal goes up as it came
up_bounded : (r : Result BoundsResult Refusal) (e : Refusal) → IsErrAnd r (λ y. y ≡ e) → bounded_as r ≡ bounded_refused (number e)
up_bounded (Ok a) e h = absurd h
up_bounded (Err y) e h = ap (λ (x : Refusal). bounded_refused (number x)) h

pub returns-in_err-e : goal.returns-in_err-e
returns-in_err-e c =
    let args = c.args in
    let at = goal.at.returns-in_err-e c in
    let counted = holds at.Else-not-count_holds in
    ap bounded (up_bounded _ _ c.from_residual.ensures.1)
    ∙ sym (says-refusal args.ends.now args.packed.now counted (rise at.Else-not-ends_hold (tested at.After-ends_hold counted)) _ (refuses (got args.ends.now args.packed.now) c.in_err-e.ensures))

-- the tree that was read, and what its row comes to
module _ (ends packed : List ℕ) (e : Read) (counted : count_holds (length ends) ≡ true) (r : Handed (got ends packed) e) where
  abbrev nodes : List ℕ
  nodes = take e.count e.nodes

  few : length ends ≤ 32
  few = at_most_32 (length ends) counted

  short : length nodes ≤ 48
  short = omega (arith, length-take e.count e.nodes, r.few)

  named : Named (there (length ends) every_bit) r.tree
  named = (packed_reads (there (length ends) every_bit) _ r.tree r.is).named

  comes : Whole (lengths_from 0 ends) nodes × (trees (lengths_from 0 ends) nodes ≡ most_members (lengths_from 0 ends) r.tree ∷ [])
  comes = rw r.nodes (row_comes (lengths_from 0 ends) (there (length ends) every_bit) (λ k h. omega (arith, there-is (length ends) every_bit k h, lengths-many 0 ends)) (omega (arith, few, lengths-many 0 ends)) r.tree named)

  leaves : leaf_lengths (lengths_from 0 ends) nodes ≡ most_moves (lengths_from 0 ends) r.tree
  unfolding most_moves
  leaves = rw r.nodes (row-leaves (lengths_from 0 ends) (there (length ends) every_bit) (λ k h. omega (arith, there-is (length ends) every_bit k h, lengths-many 0 ends)) (omega (arith, few, lengths-many 0 ends)) r.tree named)

pub shared_ref_as_front-nodes : goal.shared_ref_as_front-nodes
shared_ref_as_front-nodes c = (read (goal.at.shared_ref_as_front-nodes c).In_ok-e).few

pub most_members-requires : goal.most_members-requires
most_members-requires c =
    let at = goal.at.most_members-requires c in
    let counted = holds at.Else-not-count_holds in
    let r = read at.In_ok-e in
    let t = comes _ _ _ counted r in
    record {
      ends_value = (rise at.Else-not-ends_hold (tested at.After-ends_hold counted), short _ _ _ counted r);
      whole = (t.0, omega (arith, ap length t.1));
    }

pub most_moves-requires : goal.most_moves-requires
most_moves-requires c =
    let at = goal.at.most_moves-requires c in
    let counted = holds at.Else-not-count_holds in
    let r = read at.In_ok-e in
    record {
      ends_value = (rise at.Else-not-ends_hold (tested at.After-ends_hold counted), short _ _ _ counted r);
      whole = (comes _ _ _ counted r).0;
    }

pub most_bytes-requires : goal.most_bytes-requires
most_bytes-requires c =
    let at = goal.at.most_bytes-requires c in
    let counted = holds at.Else-not-count_holds in
    (rise at.Else-not-ends_hold (tested at.After-ends_hold counted), at_most_32 _ counted)

pub returns : goal.returns
returns c =
    let at = goal.at.returns c in
    let args = c.args in
    let counted = holds at.Else-not-count_holds in
    let r = read at.In_ok-e in
    rw (c.most_bytes.ensures, c.most_moves.ensures ∙ leaves _ _ _ counted r, c.most_members.ensures ∙ ap (λ (ts : List ℕ). get_or ts 0 0) (comes _ _ _ counted r).1)
    (sym (says_all args.ends.now args.packed.now counted (rise at.Else-not-ends_hold (tested at.After-ends_hold counted)) r.tree r.is))
