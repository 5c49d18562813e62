-- `walk::walk_list` meets its contract: what stands ahead of the numbers, then these. Assumes nothing.
use mathlib.Core.Path.{◌≡◌, sym, ap, ◌∙◌}
use Prim.Native.Nat.{ℕ}
use native.Mathlib.Omega.{arith}
use Rattle.model.specs.Outcome.{accepted}
use Rattle.fields.specs.Positions.{take_at}
use Rattle.walk.specs.Counts.{one_counted, list_head}
use Rattle.walk.proofs.Reading.{kept, lost, only_stop, only-is}
use Rattle.walk.proofs.Counting.{counted_up, list-short, list-more}
use Rattle.walk.proofs.Bounds.{body_next, head_next}
use Rattle.walk.proofs.walk_list.Goals as goal
use Rattle.walk.proofs.walk_list.Goals.{In_ok-head}

-- what was read ahead of the numbers
head_read : (c : In_ok-head) → let args = c.args in list_head (take_at args.s.now) args.room args.at ≡ accepted ((c.in_ok-head.head.bits, c.in_ok-head.head.count), c.in_ok-head.next)
head_read c = sym c.in_ok-head.ensures

pub returns-in_err-head : goal.returns-in_err-head
returns-in_err-head c =
    let args = c.args in
    counted_up _ _ c.from_residual.ensures.1 ∙ sym (only_stop one_counted (list-short (take_at args.s.now) args.room args.at (sym c.in_err-head.ensures)))

pub walk_body-requires : goal.walk_body-requires
walk_body-requires c =
    let args = c.args in
    let b = head_next args.s.now args.room args.at _ (head_read (goal.at.walk_body-requires c).In_ok-head) in
    (b.few, omega (arith, b.near))

pub returns-in_err-count : goal.returns-in_err-count
returns-in_err-count c =
    let args = c.args in
    counted_up _ _ c.from_residual-in_err-count.ensures.1 ∙ sym (only_stop one_counted (list-more (take_at args.s.now) args.room args.at (head_read (goal.at.returns-in_err-count c).In_ok-head) (lost _ _ _ (sym c.in_err-count.ensures))))

pub returns : goal.returns
returns c =
    let args = c.args in
    let q : ℕ = c.in_ok-count.behind in
    let head = c.in_ok-head.head in
    let k = kept _ _ _ _ (sym c.in_ok-count.ensures) in
    let many = (body_next args.s.now head.count c.in_ok-head.next _ k.read).many in
    ap (λ (n : ℕ). accepted ((head.bits, n), q)) (sym k.is ∙ many)
    ∙ ap (λ (p : ℕ × ℕ). accepted (p, q)) (sym ((head_next args.s.now args.room args.at _ (head_read (goal.at.returns c).In_ok-head)).is k.got many))
    ∙ sym (only-is one_counted (list-more (take_at args.s.now) args.room args.at (head_read (goal.at.returns c).In_ok-head) k.read))
