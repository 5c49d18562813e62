-- Lists laid one after the other in one row: their ends give them back, and pass 7, 10 and 11; and the part of list k is
-- list k. Assumes nothing.
use mathlib.Core.Path.{◌≡◌, refl, sym, ap, ap₂, ◌∙◌, subst}
use mathlib.Core.Bool.{true}
use mathlib.Core.List.{List, [], ◌∷◌, ◌++◌, append_assoc, append-nil, map}
use Prim.Native.Nat.{ℕ, zero, suc, ◌+◌, ◌-◌, ◌≤◌, ◌<◌}
use native.Mathlib.Omega.{arith}
use lib.Dec.{leb}
use borrow.Author.Tests.{le-leb, lt-ltb, le-ltb, leb-true}
use lib.ListN.{length, get_or, take, drop, length-append, length-take, length-drop, length-map}
use lib.Seq.{take_at, drop_at}
use Rattle.model.specs.Outcome.{refused, accepted}
use Rattle.model.specs.Lists.{Numbers, ascending, all_ascending, part, lists_from, count_holds, ends_hold, word_holds, Lent, lend, lists_of, or_empty, span_of, part_of}
use Rattle.model.specs.Sets.{all_numbers}
use Rattle.model.specs.Delivery.{Supplied, came, supplied_numbers, supplied, word_of}
use Rattle.model.specs.Calls.{ends_from, laid_out}
use Rattle.model.proofs.Order.{and_true, Up}
use Rattle.model.proofs.Denoted.{up-ascending}
use Rattle.model.proofs.Accepted.{numbers_part, ascending_up, lists_accepted}
use Rattle.model.proofs.Deliveries.{Storable, came-numbers}
use Rattle.model.proofs.Word.{EmptyWhere, undelivered_empty, numbers-supplied, said-holds, word_said}

pub at_most_32 : (lists : ℕ) → count_holds lists ≡ true → lists ≤ 32
unfolding count_holds
at_most_32 lists h = leb-true lists 32 (and_true (leb 1 lists) (leb lists 32) h).1

-- behind a row `before`, and with anything after them
laid_from : (before : List ℕ) (ls : List (List ℕ)) (after : List ℕ) → lists_from (before ++ (all_numbers ls ++ after)) (length before) (ends_from (length before) ls) ≡ ls
unfolding lists_from ends_from part all_numbers
laid_from before [] after = refl
laid_from before (l ∷ ls) after =
    let row : List ℕ = before ++ ((l ++ all_numbers ls) ++ after) in
    let regrouped : row ≡ (before ++ l) ++ (all_numbers ls ++ after) = ap (λ (r : List ℕ). before ++ r) (append_assoc l (all_numbers ls) after) ∙ sym (append_assoc before l (all_numbers ls ++ after)) in
    let start : drop (length before) row ≡ l ++ (all_numbers ls ++ after) = drop_at before ((l ++ all_numbers ls) ++ after) (length before) refl ∙ append_assoc l (all_numbers ls) after in
    let size : length before + length l - length before ≡ length l = omega arith in
    ap₂ (λ (x : List ℕ) (r : List (List ℕ)). x ∷ r)
    (ap₂ (λ (n : ℕ) (r : List ℕ). take n r) size start ∙ take_at l (all_numbers ls ++ after) (length l) refl)
    (ap₂ (λ (r : List ℕ) (n : ℕ). lists_from r n (ends_from n ls)) regrouped (sym (length-append before l)) ∙ laid_from (before ++ l) ls after)

pub ends-length : (start : ℕ) (ls : List (List ℕ)) → length (ends_from start ls) ≡ length ls
unfolding ends_from
ends-length start [] = refl
ends-length start (l ∷ ls) = ap suc (ends-length (start + length l) ls)

laid-ends : (size start : ℕ) (ls : List (List ℕ)) → Storable ls → start + length (all_numbers ls) ≤ size → ends_hold size start (ends_from start ls) ≡ true
unfolding ends_hold ends_from all_numbers
laid-ends size start [] s h = refl
laid-ends size start (l ∷ ls) s h =
    let n = length-append l (all_numbers ls) in
    cc (
      le-leb start (start + length l) (omega arith),
      le-leb (start + length l) size (omega (arith, n)),
      le-leb (start + length l - start) 65535 (omega (arith, s.0.1)),
      laid-ends size (start + length l) ls s.1 (omega (arith, n)),
    )

laid-rise : (ls : List (List ℕ)) → Storable ls → all_ascending ls ≡ true
unfolding all_ascending
laid-rise [] s = refl
laid-rise (l ∷ ls) s = cc (up-ascending 0 l s.0.0, laid-rise ls s.1)

-- their numbers are numbers
up_numbers : (lo : ℕ) (l : List ℕ) → Up lo l → Numbers l
up_numbers lo [] u i = omega arith
up_numbers lo (x ∷ xs) u zero = u.1
up_numbers lo (x ∷ xs) u (suc i) = up_numbers (suc x) xs u.2 i

pub numbers_append : (l m : List ℕ) → Numbers l → Numbers m → Numbers (l ++ m)
numbers_append [] m hl hm i = hm i
numbers_append (x ∷ xs) m hl hm zero = hl 0
numbers_append (x ∷ xs) m hl hm (suc i) = numbers_append xs m (λ j. hl (suc j)) hm i

pub laid_numbers : (ls : List (List ℕ)) → Storable ls → Numbers (all_numbers ls)
unfolding all_numbers
laid_numbers [] s i = omega arith
laid_numbers (l ∷ ls) s i = numbers_append l (all_numbers ls) (up_numbers 0 l s.0.0) (laid_numbers ls s.1) i

pub lists_length : (numbers : List ℕ) (start : ℕ) (ends : List ℕ) → length (lists_from numbers start ends) ≡ length ends
unfolding lists_from
lists_length numbers start [] = refl
lists_length numbers start (stop ∷ ends) = ap suc (lists_length numbers stop ends)

-- lists that a delivery can hold, laid one after the other, are accepted as those lists, whatever stands behind them
pub laid-over : (word : ℕ) (ls : List (List ℕ)) (rest : List ℕ) → count_holds (length ls) ≡ true → Storable ls → word_holds word 0 0 (ends_from 0 ls) ≡ true → lists_of (lend (all_numbers ls ++ rest) (ends_from 0 ls) word) ≡ accepted ls
unfolding lists_of
laid-over word ls rest c s h =
    rw (ends-length 0 ls, c, laid-ends (length (all_numbers ls ++ rest)) 0 ls s (omega (arith, length-append (all_numbers ls) rest)), h, laid_from [] ls rest, laid-rise ls s)

-- so are those of a delivery
pub laid-supplied : (ss : List Supplied) (rest : List ℕ) → count_holds (length ss) ≡ true → Storable (map supplied_numbers ss) → let ls = map supplied_numbers ss in lists_of (lend (all_numbers ls ++ rest) (ends_from 0 ls) (word_of ss)) ≡ accepted ls
laid-supplied ss rest c s = laid-over (word_of ss) (map supplied_numbers ss) rest (ap count_holds (length-map ss supplied_numbers) ∙ c) s (said-holds (word_of ss) 0 0 ss (word_said ss (at_most_32 (length ss) c)))

-- and lists of which all came
pub laid-came : (ls : List (List ℕ)) (rest : List ℕ) → count_holds (length ls) ≡ true → Storable ls → lists_of (lend (all_numbers ls ++ rest) (ends_from 0 ls) (word_of (map came ls))) ≡ accepted ls
laid-came ls rest c s =
    let are = came-numbers ls in
    ap (λ (m : List (List ℕ)). lists_of (lend (all_numbers m ++ rest) (ends_from 0 m) (word_of (map came ls)))) (sym are) ∙ laid-supplied (map came ls) rest (ap count_holds (length-map ls came) ∙ c) (subst Storable (sym are) s) ∙ ap accepted are

pub laid-delivery : (ss : List Supplied) → count_holds (length ss) ≡ true → Storable (map supplied_numbers ss) → lists_of (laid_out ss) ≡ accepted (map supplied_numbers ss)
laid-delivery ss c s = let ls = map supplied_numbers ss in ap (λ (r : List ℕ). lists_of (lend r (ends_from 0 ls) (word_of ss))) (sym (append-nil (all_numbers ls))) ∙ laid-supplied ss [] c s

-- and accepted lists are such lists
lists_storable : (numbers : List ℕ) (start : ℕ) (ends : List ℕ) → Numbers numbers → ends_hold (length numbers) start ends ≡ true → all_ascending (lists_from numbers start ends) ≡ true → Storable (lists_from numbers start ends)
unfolding lists_from ends_hold all_ascending part
lists_storable numbers start [] n h r = tt
lists_storable numbers start (stop ∷ ends) n h r =
    let a = and_true (leb start stop) _ h in
    let b = and_true (leb stop (length numbers)) _ a.1 in
    let c = and_true (leb (stop - start) 65535) _ b.1 in
    let l : List ℕ = take (stop - start) (drop start numbers) in
    let up = and_true (ascending l) (all_ascending (lists_from numbers stop ends)) r in (
      (ascending_up l (numbers_part numbers (stop - start) start n) up.0, omega (arith, length-take (stop - start) (drop start numbers), leb-true (stop - start) 65535 c.0)),
      lists_storable numbers stop ends n c.1 up.1,
    )

pub storable-accepted : (l : Lent) (ls : List (List ℕ)) → Numbers l.numbers → lists_of l ≡ accepted ls → Storable ls × (count_holds (length ls) ≡ true)
storable-accepted l ls n e =
    let a = lists_accepted l ls e in
    rw (← a.are) (lists_storable l.numbers 0 l.ends n a.hold a.rise, ap count_holds (lists_length l.numbers 0 l.ends) ∙ a.count)

-- as many as ends
pub accepted-many : (l : Lent) (ls : List (List ℕ)) → lists_of l ≡ accepted ls → length ls ≡ length l.ends
accepted-many l ls e = ap length (sym (lists_accepted l ls e).are) ∙ lists_length l.numbers 0 l.ends

-- of which the undelivered ones are empty
pub accepted_empty : (l : Lent) (ls : List (List ℕ)) → lists_of l ≡ accepted ls → EmptyWhere l.word 0 ls
accepted_empty l ls e = let a = lists_accepted l ls e in subst (EmptyWhere l.word 0) a.are (undelivered_empty l.word 0 l.numbers 0 l.ends a.told)

pub accepted-supplied : (l : Lent) (ls : List (List ℕ)) → lists_of l ≡ accepted ls → map supplied_numbers (supplied l.word ls) ≡ ls
accepted-supplied l ls e = numbers-supplied l.word 0 ls (accepted_empty l ls e)

-- ---- the part of list k

starts : (numbers : List ℕ) (start : ℕ) (ends : List ℕ) (k : ℕ) → ends_hold (length numbers) start ends ≡ true → k < length ends
    → take (length (get_or (lists_from numbers start ends) k [])) (drop (get_or (start ∷ ends) k 0) numbers) ≡ get_or (lists_from numbers start ends) k []
unfolding lists_from ends_hold part
starts numbers start [] k h lt = absurd (omega arith)
starts numbers start (stop ∷ ends) zero h lt =
    let a = and_true (leb start stop) _ h in
    let b = and_true (leb stop (length numbers)) _ a.1 in
    let n : length (take (stop - start) (drop start numbers)) ≡ stop - start = omega (arith, length-take (stop - start) (drop start numbers), length-drop start numbers, leb-true start stop a.0, leb-true stop (length numbers) b.0) in
    ap (λ (m : ℕ). take m (drop start numbers)) n
starts numbers start (stop ∷ ends) (suc k) h lt =
    let a = and_true (leb start stop) _ h in
    let b = and_true (leb stop (length numbers)) _ a.1 in
    let c = and_true (leb (stop - start) 65535) _ b.1 in
    starts numbers stop ends k c.1 (omega arith)

-- list k itself, of accepted lists that have it
pub part-is : (l : Lent) (ls : List (List ℕ)) (k : ℕ) → lists_of l ≡ accepted ls → k < length ls → part_of l k ≡ get_or ls k []
unfolding part_of span_of or_empty
part-is l ls k e lt =
    let a = lists_accepted l ls e in
    let n = accepted-many l ls e in
    rw (e, lt-ltb k (length ls) lt) (ap (λ (m : List (List ℕ)). take (length (get_or m k [])) (drop (get_or (0 ∷ l.ends) k 0) l.numbers)) (sym a.are) ∙ starts l.numbers 0 l.ends k a.hold (omega arith) ∙ ap (λ (m : List (List ℕ)). get_or m k []) a.are)

-- the empty part at the start, where no such list is there or a test refuses the lists
pub part-missing : (l : Lent) (ls : List (List ℕ)) (k : ℕ) → lists_of l ≡ accepted ls → length ls ≤ k → span_of l k ≡ record { start = 0; size = 0 }
unfolding span_of or_empty
part-missing l ls k e le = rw (e, le-ltb k (length ls) le)

pub part-refused : (l : Lent) (k n : ℕ) → lists_of l ≡ refused n → span_of l k ≡ record { start = 0; size = 0 }
unfolding span_of or_empty
part-refused l k n e = rw e
