-- `convert::walk_lists` meets its contract. The loop's invariant: what is found of all lists is what was found so far and what is
-- found of those that are left. Assumes nothing.
use mathlib.Core.Path.{◌≡◌, sym, ap, ap₂, ◌∙◌}
use mathlib.Core.Option.{none}
use mathlib.Core.List.{◌∷◌}
use Prim.Native.Nat.{ℕ, ◌+◌, ◌-◌}
use native.Mathlib.Omega.{arith}
use lib.ListN.{set, length-set}
use Rattle.model.specs.Outcome.{accepted, ◌>>=◌}
use Rattle.model.specs.Delivery.{read_list, read_lists}
use Rattle.fields.specs.Positions.{take_at}
use Rattle.walk.proofs.Reading.{Kept, kept, lost}
use Rattle.walk.proofs.Counting.{lists-none, lists_stop, lists-more}
use Rattle.convert.specs.Forms.{form_of, lacks}
use Rattle.convert.specs.Walks.{found}
use Rattle.convert.proofs.Reading.{Ends, list_ends}
use Rattle.convert.proofs.Walks.{lacks-one, walked_up, found_stop, found-more, found_none}
use Rattle.convert.proofs.walk_lists.Goals as goal
use Rattle.convert.proofs.walk_lists.Goals.{In_ok-lacking}

-- the list that was walked through
list_walked : (c : In_ok-lacking) → let args = c.args in
    Kept (lacks args.bit) (read_list (take_at args.s.now) (form_of args.bit) none c.loop-k.next) c.in_ok-lacking.lacking c.in_ok-lacking.behind
list_walked c = kept _ _ _ _ (sym c.in_ok-lacking.ensures)

ends : (c : In_ok-lacking) → let args = c.args in
    Ends args.bit args.s.now c.loop-k.next (list_walked c).got c.in_ok-lacking.behind
ends c = let args = c.args in list_ends args.bit args.s.now c.loop-k.next _ _ c.loop-k.invariant.3 (list_walked c).read

pub returns-in_err-lacking : goal.returns-in_err-lacking
returns-in_err-lacking c =
    let l = c.loop-k in
    let args = c.args in
    walked_up _ _ c.from_residual.ensures.1
    ∙ sym (l.invariant.4 ∙ found_stop args.bit l.missing l.stops l.k l.next (lists_stop (form_of args.bit) (take_at args.s.now) (args.n - l.k) none l.next (omega arith) (lost (lacks args.bit) _ _ (sym c.in_err-lacking.ensures))))

pub overflow_add-missing : goal.overflow_add-missing
overflow_add-missing c = let k = list_walked c in record { fits = omega (arith, k.is, lacks-one c.args.bit k.got) }

pub loop-k-preserved : goal.loop-k-preserved
loop-k-preserved c =
    let l = c.loop-k in
    let args = c.args in
    let form = form_of args.bit in
    let k = list_walked c in
    let e = ends c in
    let next : ℕ = c.in_ok-lacking.behind in
    let less : args.n - l.k - 1 ≡ args.n - (l.k + 1) = omega arith in
    let rest = read_lists (take_at args.s.now) form (args.n - (l.k + 1)) none next in (
      length-set l.stops l.k l.next ∙ l.invariant.0,
      omega (arith, k.is, lacks-one args.bit k.got),
      omega (arith, e.near),
      e.inside,
      l.invariant.4
          ∙ ap (found args.bit l.missing l.stops l.k l.next) (lists-more form (take_at args.s.now) (args.n - l.k) none l.next (omega arith) k.read)
          ∙ ap (λ (m : ℕ). found args.bit l.missing l.stops l.k l.next (read_lists (take_at args.s.now) form m none next >>= λ t. accepted (k.got ∷ t.0, t.1))) less
          ∙ found-more args.bit l.missing l.stops l.k l.next k.got rest (omega arith)
          ∙ ap₂ (λ (m q : ℕ). found args.bit (l.missing + m) (set l.stops l.k l.next) (l.k + 1) q rest) k.is (sym e.is),
    )

pub returns : goal.returns
returns c =
    let l = c.loop-k in
    let args = c.args in
    let all : l.k ≡ args.n = omega arith in
    sym (l.invariant.4 ∙ found_none args.bit l.missing l.stops l.k l.next (lists-none (form_of args.bit) (take_at args.s.now) (args.n - l.k) none l.next (omega arith)) (omega arith)
    ∙ ap (λ (k : ℕ). accepted (l.missing, l.next, set l.stops k l.next)) all)
