-- `walk::walk_gaps` meets its contract. The loop's invariant: what is asked of all the numbers is the larger of the largest
-- gap so far and what is asked of those that are left. Assumes nothing.
use mathlib.Core.Path.{◌≡◌, sym, ap, ◌∙◌}
use mathlib.Core.List.{◌∷◌}
use Prim.Native.Nat.{ℕ, ◌+◌, ◌-◌, ◌<◌, max}
use native.Mathlib.Omega.{arith}
use Rattle.model.specs.Outcome.{accepted}
use Rattle.model.specs.Delivery.{largest_gap, read_gaps}
use Rattle.fields.specs.Positions.{take_at}
use Rattle.walk.specs.Heads.{gap}
use Rattle.refusals.proofs.Up.{up}
use Rattle.walk.specs.Answers.{only}
use Rattle.walk.proofs.Reading.{only_stop, only-is, only_same, only-made, gaps_none, gaps_stop, gaps_more}
use Rattle.walk.proofs.Bounds.{gap_next}
use Rattle.walk.proofs.walk_gaps.Goals as goal
use Rattle.walk.proofs.walk_gaps.Goals.{In_ok-value}

-- the number that was read
gap_read : (c : In_ok-value) → let l = c.loop-i in let args = c.args in
    gap (take_at args.s.now) args.w l.number l.next ≡ accepted (c.in_ok-value.value, c.in_ok-value.behind)
gap_read c = sym c.in_ok-value.ensures

above : (c : In_ok-value) → c.loop-i.number < c.in_ok-value.value
above c = let l = c.loop-i in let args = c.args in (gap_next args.s.now args.w l.number l.next _ _ (gap_read c)).above

pub loop-i-init : goal.loop-i-init
loop-i-init c =
    let args = c.args in
    let all : args.n ≡ args.n - 0 = omega arith in (
      omega arith,
      c.ranges.last.fits,
      only_same (largest_gap args.last) _ (read_gaps (take_at args.s.now) args.w args.n args.last args.at) (λ xs. omega arith)
          ∙ ap (λ (n : ℕ). only (λ xs. max 0 (largest_gap args.last xs)) (read_gaps (take_at args.s.now) args.w n args.last args.at)) all,
    )

pub read_gap-requires : goal.read_gap-requires
read_gap-requires c = (c.requires.0, c.requires.1, omega arith)

pub returns-in_err-value : goal.returns-in_err-value
returns-in_err-value c =
    let l = c.loop-i in
    let args = c.args in
    up _ _ c.from_residual.ensures.1 ∙ sym (l.invariant.2 ∙ only_stop _ (gaps_stop (take_at args.s.now) args.w (args.n - l._i) l.number l.next (omega arith) (sym c.in_err-value.ensures)))

pub overflow_sub-value : goal.overflow_sub-value
overflow_sub-value c = omega (arith, above c)

pub overflow_sub-value-in-loop-i : goal.overflow_sub-value-in-loop-i
overflow_sub-value-in-loop-i c = omega (arith, above c)

pub loop-i-preserved : goal.loop-i-preserved
unfolding largest_gap
loop-i-preserved c =
    let l = c.loop-i in
    let args = c.args in
    let left : ℕ = args.n - l._i in
    let x : ℕ = c.in_ok-value.value in
    let q : ℕ = c.in_ok-value.behind in
    let nx = gap_next args.s.now args.w l.number l.next x q (gap_read (goal.at.loop-i-preserved c).In_ok-value) in
    let most : c.max-largest.result ≡ max l.largest (x - l.number - 1) = c.max-largest.ensures in
    let fewer : left - 1 ≡ args.n - (l._i + 1) = omega arith in (
      omega (arith, nx.moved),
      nx.small,
      l.invariant.2
          ∙ ap (only (λ xs. max l.largest (largest_gap l.number xs))) (gaps_more (take_at args.s.now) args.w left l.number l.next (omega arith) (gap_read (goal.at.loop-i-preserved c).In_ok-value))
          ∙ only-made (λ xs. max l.largest (largest_gap l.number xs)) (λ xs. x ∷ xs) (read_gaps (take_at args.s.now) args.w (left - 1) x q)
          ∙ only_same _ _ (read_gaps (take_at args.s.now) args.w (left - 1) x q) (λ xs. omega arith)
          ∙ ap (λ (n : ℕ). only (λ xs. max c.max-largest.result (largest_gap x xs)) (read_gaps (take_at args.s.now) args.w n x q)) fewer,
    )

pub returns : goal.returns
unfolding largest_gap
returns c =
    let l = c.loop-i in
    let args = c.args in
    let most : max l.largest 0 ≡ l.largest = omega arith in
    sym (l.invariant.2 ∙ only-is _ (gaps_none (take_at args.s.now) args.w (args.n - l._i) l.number l.next (omega arith)) ∙ ap (λ (n : ℕ). accepted (n, l.next)) most)
