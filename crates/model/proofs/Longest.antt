-- 21 at its bound, with 65,535 numbers through the whole call: one more is refused, ahead of 6, and the same ones again are not, though
-- both lengths come to 131,070. By the laws of unions and of readings, since no row of so many computes cheaply. Assumes nothing.
use mathlib.Core.Path.{◌≡◌, refl, ap}
use mathlib.Core.List.{List, [], ◌∷◌}
use Prim.Native.Nat.{ℕ, zero, suc, ◌+◌, ◌≤◌}
use native.Mathlib.Omega.{arith}
use native.Mathlib.Nat.{add-zero, zero-add}
use borrow.Author.Tests.{le-leb, lt-leb, lt-ltb}
use lib.ListN.{length}
use Rattle.model.specs.Outcome.{accepted, sent}
use Rattle.model.specs.Lists.{top, count_holds}
use Rattle.model.specs.Sets.{all_numbers, insert}
use Rattle.model.specs.Delivery.{came, supplied_numbers, by_bit, read_stored, delivery}
use Rattle.model.specs.Calls.{stored}
use Rattle.model.specs.RequestTwo.{refused_by}
use Rattle.model.specs.Joined.{list_union, join_list, join_lists, lengths_hold, join_deliveries}
use Rattle.model.proofs.Order.{Up}
use Rattle.model.proofs.Denoted.{up-ascending}
use Rattle.model.proofs.Deliveries.{delivery-written, stored_too}
use Rattle.model.proofs.Sizes.{delivery-length}
use Rattle.model.proofs.Unions.{union_self}

-- n numbers one after the other
unfoldable pub run_from : ℕ → ℕ → List ℕ
run_from lo zero = []
run_from lo (suc n) = lo ∷ run_from (suc lo) n

run_up : (lo n : ℕ) → lo + n ≤ top → Up lo (run_from lo n)
unfolding run_from
run_up lo zero h = tt
run_up lo (suc n) h = (omega arith, omega arith, run_up (suc lo) n (omega arith))

run_length : (lo n : ℕ) → length (run_from lo n) ≡ n
unfolding run_from
run_length lo zero = refl
run_length lo (suc n) = ap suc (run_length (suc lo) n)

-- joined to the next one
run-next : (lo n : ℕ) → list_union (run_from lo n) ((lo + n) ∷ []) ≡ run_from lo (suc n)
unfolding run_from list_union insert
run-next lo zero = rw (add-zero lo) refl
run-next lo (suc n) = let e : lo + suc n ≡ suc lo + n = omega arith in rw (e, run-next (suc lo) n) (rw (lt-ltb lo (suc lo) (omega arith), insert) refl)

-- one list, written and read
one-reads : (l : List ℕ) → Up 0 l → length l ≤ 65535 → read_stored by_bit (delivery (came l ∷ [])) ≡ accepted (came l ∷ [])
unfolding supplied_numbers count_holds
one-reads l u h =
    let room : ℕ = length (all_numbers (l ∷ [])) in
    stored_too room 1 (delivery (came l ∷ [])) (came l ∷ []) (delivery-written room 1 (came l ∷ []) refl ((u, h), tt) (omega arith) (omega arith))

past : (n : ℕ) → n ≤ 65535 → 65535 ≤ n → join_deliveries (delivery (came (run_from 0 n) ∷ [])) (delivery (came (n ∷ []) ∷ [])) [] ≡ refused_by 21 1 ([] ∷ [])
unfolding join_deliveries join_lists join_list lengths_hold supplied_numbers sent
past n h₁ h₂ =
    let next : list_union (run_from 0 n) (n ∷ []) ≡ run_from 0 (suc n) = rw (zero-add n) at (run-next 0 n) in
    rw (one-reads (run_from 0 n) (run_up 0 n (omega arith)) (omega (arith, run_length 0 n)), one-reads (n ∷ []) (omega arith, omega arith, tt) (omega arith), next, run_length 0 (suc n), lt-leb (suc n) 65535 (omega arith)) refl

again : (n : ℕ) → n ≤ 65535 → let bytes = delivery (came (run_from 0 n) ∷ []) in join_deliveries bytes bytes [] ≡ refused_by 6 1 ([] ∷ [])
unfolding join_deliveries join_lists join_list lengths_hold supplied_numbers stored sent
again n h =
    let up = run_up 0 n (omega arith) in
    let l : List ℕ = run_from 0 n in
    rw (one-reads l up (omega (arith, run_length 0 n)), union_self l (up-ascending 0 l up), run_length 0 n, le-leb n 65535 h, lt-leb (length (delivery (came l ∷ []))) 0 (omega (arith, delivery-length (came l ∷ [])))) refl

-- 0 to 65,534 and 65,535; and the former twice
pub longest_past : join_deliveries (delivery (came (run_from 0 65535) ∷ [])) (delivery (came (65535 ∷ []) ∷ [])) [] ≡ refused_by 21 1 ([] ∷ [])
longest_past = past 65535 (omega arith) (omega arith)

pub longest_again : let bytes = delivery (came (run_from 0 65535) ∷ []) in join_deliveries bytes bytes [] ≡ refused_by 6 1 ([] ∷ [])
longest_again = again 65535 (omega arith)
