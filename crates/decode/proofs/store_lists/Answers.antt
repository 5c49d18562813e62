-- `decode::store_lists` meets its contract. The loop's invariant, where the lists read: those that are left read from here, and
-- laying them and their ends from here on is laying all of them from the start. That they read is required, so positions
-- and ends stay small. Assumes nothing.
use mathlib.Core.Path.{◌≡◌, refl, sym, ap, ap₂, ◌∙◌, subst}
use mathlib.Core.List.{List, [], ◌∷◌}
use mathlib.Core.Option.{some}
use Prim.Native.Nat.{ℕ, ◌+◌, ◌-◌, ◌≤◌, ◌<◌}
use native.Mathlib.Omega.{arith}
use borrow.Author.Tests.{leb-true}
use lib.ListN.{length, set, length-set}
use Rattle.model.specs.Sets.{all_numbers}
use Rattle.model.specs.Delivery.{Supplied, supplied_numbers, by_bit}
use Rattle.model.specs.Calls.{ends_from}
use Rattle.model.proofs.Accepted.{accepted-same}
use Rattle.fields.specs.Rows.{lay}
use Rattle.fields.specs.Positions.{take_at}
use Rattle.fields.proofs.Rows.{lay-nil, lay-length, lay-append, lay-cons}
use Rattle.walk.specs.Counts.{read_lists}
use Rattle.decode.specs.declared.Stored.{Stored}
use Rattle.decode.specs.Stores.{ListStored}
use Rattle.walk.proofs.Counting.{lists-none, lists_first}
use Rattle.walk.proofs.Bounds.{list_next, by_bit_ahead}
use Rattle.decode.proofs.store_lists.Goals as goal
use Rattle.decode.proofs.store_lists.Invariants.{numbers_of, ends_of, Left}
use Rattle.decode.proofs.store_lists.Goals.{After-store_list-stored, At-loop-k}

-- where one list has been stored
record Moved (next : ℕ) (numbers : List ℕ) (from : ℕ) (after : List ℕ) (r : Stored) : Type 0 where
  inside : r.end ≤ length numbers
  few : r.end ≤ from + 65535
  near : r.next ≤ next + 4194304
  long : length after ≡ length numbers

module _ (s : List ℕ) (n next : ℕ) (numbers : List ℕ) (from : ℕ) (ends : List ℕ) (k : ℕ) (all_Laid ends_laid : List ℕ) (q : ℕ) (after : List ℕ) (r : Stored)
    (any : 0 < n) (room : from ≤ length numbers) (stored : ListStored s next numbers from after r) (left : Left s n next numbers from ends k all_Laid ends_laid q) where
  moved : Moved next numbers from after r
  moved =
      let f = lists_first by_bit (take_at s) n (some (length numbers - from)) next left.rest q any left.read in
      let w = stored f.first f.next f.read_first in
      let b = list_next by_bit s (by_bit_ahead s) (some (length numbers - from)) next _ f.read_first in
      let held = leb-true (length (supplied_numbers f.first)) (length numbers - from) b.held in
      record {
        inside = omega (arith, w.1, held);
        few = omega (arith, w.1, b.few);
        near = omega (arith, w.2, b.near);
        long = ap length w.0 ∙ lay-length numbers from (supplied_numbers f.first) (omega (arith, held));
      }

  turn : k < length ends → Left s (n - 1) r.next after r.end (set ends k r.end) (k + 1) all_Laid ends_laid q
  unfolding all_numbers ends_from
  turn h =
      let f = lists_first by_bit (take_at s) n (some (length numbers - from)) next left.rest q any left.read in
      let w = stored f.first f.next f.read_first in
      let less : length after - r.end ≡ length numbers - from - length (supplied_numbers f.first) = omega (arith, w.1, moved.long) in
      record {
        rest = f.rest;
        read = ap₂ (λ (m p : ℕ). read_lists (take_at s) (n - 1) m p) less w.2 ∙ f.read-rest;
        all_are = left.all_are ∙ ap (λ (ss : List Supplied). lay numbers from (numbers_of ss)) f.are
            ∙ sym (lay-append numbers from (supplied_numbers f.first) (numbers_of f.rest) room)
            ∙ ap₂ (λ (row : List ℕ) (p : ℕ). lay row p (numbers_of f.rest)) (sym w.0) (sym w.1);
        ends_are = left.ends_are ∙ ap (λ (ss : List Supplied). lay ends k (ends_of from ss)) f.are
            ∙ ap (λ (p : ℕ). lay ends k (p ∷ ends_of p f.rest)) (sym w.1)
            ∙ lay-cons ends k r.end (ends_of r.end f.rest) h;
      }

-- the lists that are required to read
pre_left : (c : At-loop-k) → let l = c.loop-k in let args = c.args in let pre = c.requires.3 in
    Left args.s.now (c.args.n - l.k) l.next l.numbers l.from l.ends l.k (lay args.numbers.now 0 (numbers_of pre.lists)) (lay args.ends.now 0 (ends_of 0 pre.lists)) pre.next
pre_left c = let pre = c.requires.3 in c.loop-k.invariant.5 pre.lists pre.next pre.read

-- where the list of this turn has been stored
this_moved : (c : After-store_list-stored) → let l = c.loop-k in Moved l.next l.numbers l.from c.store_list-stored.new.numbers c.store_list-stored.result
this_moved c =
    let l = c.loop-k in
    moved _ _ l.next l.numbers l.from l.ends l.k _ _ _ _ _ (omega arith) l.invariant.0 c.store_list-stored.ensures (pre_left (record { before = c.before.before.before.before; type_inv = record { s = c.type_inv.s } }))

pub loop-k-init : goal.loop-k-init
loop-k-init c =
    let args = c.args in
    let all : c.args.n - 0 ≡ args.n = omega arith in
    let room : length args.numbers.now - 0 ≡ length args.numbers.now = omega arith in (
      omega arith,
      omega arith,
      omega arith,
      refl,
      refl,
      λ ss q e. record { rest = ss; read = ap₂ (λ (m r : ℕ). read_lists (take_at args.s.now) m r args.at) all room ∙ e; all_are = refl; ends_are = refl },
    )

pub overflow_cast-ends : goal.overflow_cast-ends
overflow_cast-ends c = omega (arith, (this_moved (goal.at.overflow_cast-ends c).After-store_list-stored).few)

pub loop-k-preserved : goal.loop-k-preserved
loop-k-preserved c =
    let l = c.loop-k in
    let args = c.args in
    let lists : ℕ = c.args.n in
    let m = this_moved (goal.at.loop-k-preserved c).After-store_list-stored in
    let r = c.store_list-stored.result in
    let after : List ℕ = c.store_list-stored.new.numbers in
    let less : lists - l.k - 1 ≡ lists - (l.k + 1) = omega arith in (
      omega (arith, m.inside, m.long),
      omega (arith, m.few),
      omega (arith, m.near),
      m.long ∙ l.invariant.3,
      length-set l.ends l.k _ ∙ l.invariant.4,
      λ ss q e.
          subst (λ (n : ℕ). Left args.s.now n r.next after r.end (set l.ends l.k r.end) (l.k + 1) (lay args.numbers.now 0 (numbers_of ss)) (lay args.ends.now 0 (ends_of 0 ss)) q) less
          (turn args.s.now (lists - l.k) l.next l.numbers l.from l.ends l.k _ _ q after r (omega arith) l.invariant.0 c.store_list-stored.ensures (l.invariant.5 ss q e) (omega arith)),
    )

pub returns : goal.returns
unfolding all_numbers ends_from
returns c ss q e =
    let l = c.loop-k in
    let args = c.args in
    let left = l.invariant.5 ss q e in
    let none : ◌≡◌ {A = List Supplied × ℕ} ([], l.next) (left.rest, q) =
    accepted-same (sym (lists-none by_bit (take_at args.s.now) _ _ l.next (omega arith)) ∙ left.read) in
    let empty : left.rest ≡ [] = sym (ap (λ (r : List Supplied × ℕ). r.0) none) in (
      sym (left.all_are ∙ ap (λ (r : List Supplied). lay l.numbers l.from (numbers_of r)) empty ∙ lay-nil l.numbers l.from),
      sym (left.ends_are ∙ ap (λ (r : List Supplied). lay l.ends l.k (ends_of l.from r)) empty ∙ lay-nil l.ends l.k),
    )
