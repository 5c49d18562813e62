-- `decode::store_gaps` meets its contract. The loop's invariant, where the numbers read: those that are left read from here,
-- and laying them from here on is laying all of them from the start. Assumes nothing.
use mathlib.Core.Path.{◌≡◌, refl, sym, ap, ◌∙◌}
use mathlib.Core.List.{List, []}
use Prim.Native.Nat.{ℕ, ◌+◌, ◌-◌}
use native.Mathlib.Omega.{arith}
use lib.ListN.{length-set}
use Rattle.model.specs.Outcome.{accepted}
use Rattle.model.specs.Delivery.{read_gaps}
use Rattle.model.proofs.Accepted.{never_accepted, accepted-same}
use Rattle.fields.specs.Rows.{lay}
use Rattle.fields.specs.Positions.{take_at}
use Rattle.fields.proofs.Rows.{lay-nil, lay-cons}
use Rattle.walk.specs.Heads.{gap}
use Rattle.walk.proofs.Reading.{gaps_none, gaps_stop, gaps_rest}
use Rattle.walk.proofs.Bounds.{gap_next}
use Rattle.decode.proofs.store_gaps.Goals as goal
use Rattle.decode.proofs.store_gaps.Goals.{In-Ok}

-- the number that was read
gap_read : (c : In-Ok) → let l = c.loop-i in let args = c.args in
    gap (take_at args.s.now) args.w l.number l.next ≡ accepted (c.in-Ok.value, c.in-Ok.behind)
gap_read c = sym c.in-Ok.ensures

pub loop-i-init : goal.loop-i-init
loop-i-init c =
    let args = c.args in
    let all : args.n ≡ args.from + args.n - args.from = omega arith in (
      omega arith,
      refl,
      λ xs q e. record { ys = xs; read = ap (λ (k : ℕ). read_gaps (take_at args.s.now) args.w k args.last args.at) (sym all) ∙ e; laid = refl },
    )

pub returns-in_default : goal.returns-in_default
returns-in_default c xs q e =
    let l = c.loop-i in
    let args = c.args in
    let left = l.invariant.2 xs q e in
    never_accepted (sym (gaps_stop (take_at args.s.now) args.w _ l.number l.next (omega arith) (sym c.in_default.ensures)) ∙ left.read)

pub loop-i-preserved : goal.loop-i-preserved
loop-i-preserved c =
    let l = c.loop-i in
    let args = c.args in
    let end : ℕ = args.from + args.n in
    let x : ℕ = c.in-Ok.value in
    let p : ℕ = c.in-Ok.behind in
    let nx = gap_next args.s.now args.w l.number l.next x p (gap_read c) in
    let less : end - l.i - 1 ≡ end - (l.i + 1) = omega arith in (
      omega (arith, nx.moved),
      length-set l.numbers l.i x ∙ l.invariant.1,
      λ xs q e.
          let left = l.invariant.2 xs q e in
          let rest = gaps_rest (take_at args.s.now) args.w (end - l.i) l.number l.next left.ys q (omega arith) (gap_read c) left.read in
          record {
            ys = rest.xs;
            read = ap (λ (k : ℕ). read_gaps (take_at args.s.now) args.w k x p) (sym less) ∙ rest.read;
            laid = left.laid ∙ ap (lay l.numbers l.i) rest.are ∙ lay-cons l.numbers l.i x rest.xs (omega arith);
          },
    )

pub returns : goal.returns
returns c xs q e =
    let l = c.loop-i in
    let args = c.args in
    let left = l.invariant.2 xs q e in
    let none : ◌≡◌ {A = List ℕ × ℕ} ([], l.next) (left.ys, q) =
    accepted-same (sym (gaps_none (take_at args.s.now) args.w _ l.number l.next (omega arith)) ∙ left.read) in
    (sym (left.laid ∙ ap (lay l.numbers l.i) (sym (ap (λ (r : List ℕ × ℕ). r.0) none)) ∙ lay-nil l.numbers l.i), ap (λ (r : List ℕ × ℕ). r.1) none)
