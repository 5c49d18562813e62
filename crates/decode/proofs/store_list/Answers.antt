-- `decode::store_list` meets its contract: where the list reads, its count does, and its numbers stand where they are stored.
-- Assumes nothing.
use mathlib.Core.Path.{◌≡◌, refl, sym, ap, ◌∙◌}
use mathlib.Core.List.{List}
use Prim.Native.Nat.{ℕ, ◌+◌, ◌-◌}
use native.Mathlib.Omega.{arith}
use lib.ListN.{length}
use Rattle.model.specs.Outcome.{accepted}
use Rattle.model.specs.Delivery.{Supplied, supplied_numbers, read_body}
use Rattle.model.proofs.Accepted.{never_accepted, accepted-same, bound}
use Rattle.fields.specs.Rows.{lay}
use Rattle.fields.specs.Positions.{take_at}
use Rattle.walk.specs.Counts.{list_head, read_list}
use Rattle.walk.proofs.Counting.{list-short, list-more, supply, supply-numbers}
use Rattle.walk.proofs.Bounds.{Counted, body_next, head_next}
use Rattle.decode.specs.Stores.{BodyStored}
use Rattle.decode.proofs.store_list.Goals as goal
use Rattle.decode.proofs.store_list.Goals.{In-Ok}

-- what was read ahead of the numbers, and its bounds
head_read : (c : In-Ok) → let args = c.args in list_head (take_at args.s.now) (length args.numbers.now - args.from) args.at ≡ accepted ((c.in-Ok.list.bits, c.in-Ok.list.count), c.in-Ok.next)
head_read c = sym c.in-Ok.ensures

near : (c : In-Ok) → let args = c.args in Counted args.s.now (length args.numbers.now - args.from) args.at ((c.in-Ok.list.bits, c.in-Ok.list.count), c.in-Ok.next)
near c = let args = c.args in head_next args.s.now (length args.numbers.now - args.from) args.at _ (head_read c)

-- a list whose numbers are stored
stored : (s : List ℕ) (room at bit n p : ℕ) (row : List ℕ) (from : ℕ) (after : List ℕ) (r : ℕ) (a : Supplied) (q : ℕ) → list_head (take_at s) room at ≡ accepted ((bit, n), p) → BodyStored s p n row from after r
    → read_list (take_at s) room at ≡ accepted (a, q) → (after ≡ lay row from (supplied_numbers a)) × (from + n ≡ from + length (supplied_numbers a)) × (r ≡ q)
stored s room at bit n p row from after r a q h body e =
    let b = bound (read_body (take_at s) n p) _ (a, q) (sym (list-more (take_at s) room at h refl) ∙ e) in
    let xs : List ℕ = b.got.0 in
    let w = body xs b.got.1 b.first in
    let many : length xs ≡ n = (body_next s n p b.got b.first).many in
    let same : ◌≡◌ {A = Supplied × ℕ} (supply bit xs, b.got.1) (a, q) = accepted-same b.rest in
    let is : xs ≡ supplied_numbers a = sym (supply-numbers bit xs ((head_next s room at _ h).is xs many ∙ ap (λ (k : ℕ). (bit, k)) (sym many))) ∙ ap (λ (t : Supplied × ℕ). supplied_numbers t.0) same in
    (w.0 ∙ ap (lay row from) is, ap (λ (k : ℕ). from + k) (sym many ∙ ap length is), w.1 ∙ ap (λ (t : Supplied × ℕ). t.1) same)

pub returns-in_default : goal.returns-in_default
returns-in_default c a q e =
    let args = c.args in
    never_accepted (sym (list-short (take_at args.s.now) (length args.numbers.now - args.from) args.at (sym c.in_default.ensures)) ∙ e)

pub store_body-behind-requires : goal.store_body-behind-requires
store_body-behind-requires c =
    let b = near (goal.at.store_body-behind-requires c).In-Ok in
    (b.few, omega (arith, b.near), omega (arith, b.held))

pub overflow_add-end : goal.overflow_add-end
overflow_add-end c = omega (arith, (near (goal.at.overflow_add-end c).In-Ok).held)

pub returns : goal.returns
returns c a q e =
    let args = c.args in
    let k = stored args.s.now (length args.numbers.now - args.from) args.at c.in-Ok.list.bits c.in-Ok.list.count c.in-Ok.next args.numbers.now args.from _ _ a q (head_read (goal.at.returns c).In-Ok) c.store_body-behind.ensures e in
    k
