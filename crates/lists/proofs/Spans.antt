-- What the three tests let through, once for all who read lists; and where list k's part stands: inside the numbers. Assumes
-- nothing.
use mathlib.Core.Path.{◌≡◌, refl, sym, ap}
use mathlib.Core.Bool.{true}
use mathlib.Core.List.{List, [], ◌∷◌}
use Prim.Native.Nat.{ℕ, zero, suc, ◌+◌, ◌-◌, ◌≤◌, ◌<◌}
use native.Mathlib.Numerals.{add-one}
use native.Mathlib.Omega.{arith}
use borrow.Author.Tests.{leb-true, lt-ltb}
use lib.Dec.{leb}
use lib.ListN.{length, get_or, take, drop, length-take, length-drop}
use Rattle.model.specs.Outcome.{Outcome, refused, accepted, number_of}
use Rattle.model.specs.Lists.{Numbers, ascending, all_ascending, part, lists_from, count_holds, ends_hold, Lent, lists_of, or_empty, span_of}
use Rattle.model.proofs.Order.{and_true, split, Up}
use Rattle.model.proofs.Accepted.{numbers_part, ascending_up, lists_accepted}
use Rattle.model.proofs.Told.{zero_accepts, lists_told}
use Rattle.model.proofs.Laid.{lists_length, part-missing, part-refused}
use Rattle.lists.specs.Readable.{Readable}
use Rattle.lists.proofs.Ends.{hold_next}

-- ---- the number of lists

pub counts : (n : ℕ) → count_holds n ≡ true → (1 ≤ n) × (n ≤ 32)
unfolding count_holds
counts n e = let a = and_true (leb 1 n) (leb n 32) e in (leb-true 1 n a.0, leb-true n 32 a.1)

-- ---- accepted lists can be read

-- the end of list k, behind those that start at `start`
record Stops (size start : ℕ) (ends : List ℕ) (k : ℕ) : Type 0 where
  order : get_or (start ∷ ends) k 0 ≤ get_or ends k 0
  inside : get_or ends k 0 ≤ size
  few : get_or ends k 0 - get_or (start ∷ ends) k 0 ≤ 65535

stops : (size start : ℕ) (ends : List ℕ) (k : ℕ) → ends_hold size start ends ≡ true → k < length ends → Stops size start ends k
stops size start [] k e lt = absurd (omega arith)
stops size start (stop ∷ ends) zero e lt =
    let n = hold_next size start (stop ∷ ends) 0 (omega arith) e in
    record { order = n.order; inside = n.inside; few = n.few }
stops size start (stop ∷ ends) (suc k) e lt =
    let s = stops size stop ends k (hold_next size start (stop ∷ ends) 0 (omega arith) e).rest (omega arith) in
    record { order = s.order; inside = s.inside; few = s.few }

each-ascends : (ls : List (List ℕ)) (k : ℕ) → all_ascending ls ≡ true → ascending (get_or ls k []) ≡ true
unfolding all_ascending ascending
each-ascends [] k h = refl
each-ascends (l ∷ ls) zero h = (and_true (ascending l) (all_ascending ls) h).0
each-ascends (l ∷ ls) (suc k) h = each-ascends ls k (and_true (ascending l) (all_ascending ls) h).1

pub readable : (l : Lent) (ls : List (List ℕ)) → lists_of l ≡ accepted ls → Readable l.numbers l.ends
readable l ls e =
    let a = lists_accepted l ls e in
    record {
      order = λ k lt. (stops (length l.numbers) 0 l.ends k a.hold lt).order;
      inside = λ k lt. (stops (length l.numbers) 0 l.ends k a.hold lt).inside;
      few = λ k lt. (stops (length l.numbers) 0 l.ends k a.hold lt).few;
      ascend = λ k. each-ascends (lists_from l.numbers 0 l.ends) k a.rise;
    }

-- and what can be read ascends as the model's theory has it
list_numbers : (numbers : List ℕ) (start : ℕ) (ends : List ℕ) (k : ℕ) → Numbers numbers → Numbers (get_or (lists_from numbers start ends) k [])
unfolding lists_from part
list_numbers numbers start [] k n i = omega arith
list_numbers numbers start (stop ∷ ends) zero n i = numbers_part numbers (stop - start) start n i
list_numbers numbers start (stop ∷ ends) (suc k) n i = list_numbers numbers stop ends k n i

pub readable_up : (numbers ends : List ℕ) → Numbers numbers → Readable numbers ends → (k : ℕ) → Up 0 (get_or (lists_from numbers 0 ends) k [])
readable_up numbers ends n r k = ascending_up (get_or (lists_from numbers 0 ends) k []) (list_numbers numbers 0 ends k n) (r.ascend k)

-- ---- the place of list k

-- list k runs from the end before it to its own end, inside the numbers
pub record Runs (numbers ends : List ℕ) (k : ℕ) : Type 0 where
  pub order : get_or (0 ∷ ends) k 0 ≤ get_or ends k 0
  pub inside : get_or ends k 0 ≤ length numbers
  pub few : get_or ends k 0 - get_or (0 ∷ ends) k 0 ≤ 65535
  pub many : length (get_or (lists_from numbers 0 ends) k []) ≡ get_or ends k 0 - get_or (0 ∷ ends) k 0
  pub is : get_or (lists_from numbers 0 ends) k [] ≡ part numbers (get_or (0 ∷ ends) k 0) (get_or ends k 0)

part_at : (numbers : List ℕ) (start : ℕ) (ends : List ℕ) (k : ℕ) → k < length ends → get_or (lists_from numbers start ends) k [] ≡ part numbers (get_or (start ∷ ends) k 0) (get_or ends k 0)
unfolding lists_from
part_at numbers start [] k lt = absurd (omega arith)
part_at numbers start (stop ∷ ends) zero lt = refl
part_at numbers start (stop ∷ ends) (suc k) lt = part_at numbers stop ends k (omega arith)

pub list_runs : (numbers ends : List ℕ) (k : ℕ) → Readable numbers ends → k < length ends → Runs numbers ends k
unfolding part
list_runs numbers ends k r lt =
    let from : ℕ = get_or (0 ∷ ends) k 0 in
    let stop : ℕ = get_or ends k 0 in
    let is = part_at numbers 0 ends k lt in
    record {
      order = r.order k lt;
      inside = r.inside k lt;
      few = r.few k lt;
      many = rw is (omega (arith, r.order k lt, r.inside k lt, length-take (stop - from) (drop from numbers), length-drop from numbers));
      is = is;
    }

-- the same where `start_of` has found where it starts and where the next one does
pub record Listed (numbers ends : List ℕ) (k from stop : ℕ) : Type 0 where
  pub order : from ≤ stop
  pub inside : stop ≤ length numbers
  pub few : stop - from ≤ 65535
  pub many : length (get_or (lists_from numbers 0 ends) k []) ≡ stop - from
  pub is : take (stop - from) (drop from numbers) ≡ get_or (lists_from numbers 0 ends) k []

pub listed : (numbers ends : List ℕ) (k from stop : ℕ) → Readable numbers ends → k < length ends → from ≡ get_or (0 ∷ ends) k 0 → stop ≡ get_or (0 ∷ ends) (k + 1) 0 → Listed numbers ends k from stop
unfolding part
listed numbers ends k from stop r lt starts next =
    let stops = rw add-one at next in
    let runs = list_runs numbers ends k r lt in
    rw (starts, stops) (record { order = omega (arith, runs.order); inside = runs.inside; few = runs.few; many = runs.many; is = sym runs.is })

-- number 0 is acceptance
pub passed : (l : Lent) → number_of (lists_of l) ≡ 0 → lists_of l ≡ accepted (lists_from l.numbers 0 l.ends)
passed l h =
    let s = zero_accepts (lists_of l) (lists_told l) h in
    rw (lists_accepted l s.got s.is).are s.is

module _ (l : Lent) (k : ℕ) where
  -- a refusal, or no list k: the empty part at the start
  pub span-refused : (number_of (lists_of l) ≡ 0 → ⊥) → span_of l k ≡ record { start = 0; size = 0 }
  unfolding number_of
  span-refused h = go (lists_of l) refl
    where
      go : (o : Outcome (List (List ℕ))) → lists_of l ≡ o → span_of l k ≡ record { start = 0; size = 0 }
      go (refused n) e = part-refused l k n e
      go (accepted ls) e = absurd (h (ap number_of e))

  pub span-missing : number_of (lists_of l) ≡ 0 → length l.ends ≤ k → span_of l k ≡ record { start = 0; size = 0 }
  span-missing h le = part-missing l (lists_from l.numbers 0 l.ends) k (passed l h) (omega (arith, lists_length l.numbers 0 l.ends))

  -- list k of accepted lists
  pub record There : Type 0 where
    pub order : get_or (0 ∷ l.ends) k 0 ≤ get_or l.ends k 0
    pub inside : get_or l.ends k 0 ≤ length l.numbers
    pub is : span_of l k ≡ record { start = get_or (0 ∷ l.ends) k 0; size = get_or l.ends k 0 - get_or (0 ∷ l.ends) k 0 }

  pub span_there : number_of (lists_of l) ≡ 0 → k < length l.ends → There
  unfolding span_of or_empty
  span_there h lt =
      let r = list_runs l.numbers l.ends k (readable l _ (passed l h)) lt in
      let here : k < length (lists_from l.numbers 0 l.ends) = omega (arith, lists_length l.numbers 0 l.ends) in
      record {
        order = r.order;
        inside = r.inside;
        is = rw (passed l h, lt-ltb k (length (lists_from l.numbers 0 l.ends)) here, r.many);
      }

  -- the part lies inside the numbers, whatever is lent
  pub span-inside : (span_of l k).start + (span_of l k).size ≤ length l.numbers
  unfolding number_of
  span-inside = go (lists_of l) refl
    where
      go : (o : Outcome (List (List ℕ))) → lists_of l ≡ o → (span_of l k).start + (span_of l k).size ≤ length l.numbers
      go (refused n) e = rw (part-refused l k n e) (omega arith)
      go (accepted ls) e = split _ k (length l.ends)
          (λ lt. let t = span_there (ap number_of e) lt in rw t.is (omega (arith, t.order, t.inside)))
          (λ ge. rw (span-missing (ap number_of e) ge) (omega arith))
