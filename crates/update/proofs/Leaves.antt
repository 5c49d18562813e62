-- What the call leaves: with a refusal nothing has changed; else the shifted rows are those of the definition. Assumes nothing.
use mathlib.Core.Path.{◌≡◌, refl, sym, ap, ap₂, subst, ◌∙◌}
use mathlib.Core.Bool.{Bool, true, false, not, beq}
use mathlib.Core.List.{List, [], ◌∷◌, ◌++◌}
use Prim.Native.Nat.{ℕ, zero, suc, ◌+◌, ◌*◌, ◌≤◌, ◌<◌}
use native.Mathlib.Omega.{arith}
use lib.ListN.{length, get_or, take, drop, length-take, take-append-drop}
use Rattle.std.proofs.Common.{Result}
use Rattle.std.specs.Result.{IsErrAnd}
use Rattle.model.specs.Outcome.{Outcome, refused, accepted, ◌>>=◌, ◌>>◌, require, number_of, sent}
use Rattle.model.specs.Lists.{top, Numbers, lists_from, ends_hold, Lent, lists_of}
use Rattle.model.specs.Expression.{Tree}
use Rattle.model.specs.Sets.{member, all_numbers, members}
use Rattle.model.specs.Steps.{passed}
use Rattle.model.specs.Run.{Source, named_in, source_of}
use Rattle.model.specs.Calls.{ends_from}
use Rattle.model.specs.Update.{Change, new_lists, changed, remove, shown, shows, is_new, has_room, fits, update_of, update, updated}
use Rattle.model.specs.RequestOne.{moved}
use Rattle.model.proofs.Order.{Up, not_both}
use Rattle.model.proofs.Accepted.{lists_accepted, accepted_up}
use Rattle.model.proofs.Denoted.{members_up, members_are}
use Rattle.model.proofs.DemandThree.{source-accepted}
use Rattle.model.proofs.Told.{refused_by}
use Rattle.changes.proofs.Changes.{insert-at, remove-at, insert-long, remove-long, members_stay, members_come, members-go, used_of, place_of, used-within, place_come, place-go, numbers_come, numbers-go, new_ends, later-some, new_absent, new_present, passed-few, passed-less}
use Rattle.changes.proofs.RequestOne.{passed-leaves}
use Rattle.lists.proofs.Spans.{counts}
use Rattle.lists.proofs.Ends.{hold_next}
use Rattle.shifts.specs.Shift.{Shifts, shifted, Movable, CanMove, ends_moved}
use Rattle.refusals.specs.declared.Refusal.{Refusal}
use Rattle.refusals.specs.Numbers.{number, outcome}
use Rattle.refusals.proofs.Up.{up as refused_up}
use Rattle.update.specs.Plans.{Placed, plan_of, placed_of}
use Rattle.update.proofs.Tests.{added, number_above}
use Rattle.update.proofs.Whole.{AllPassed, with_it, shifted-is}

-- ---- a refusal
module _ (l : Lent) (packed : List ℕ) (c : Change) (kept : List ℕ) (count : ℕ) where
  numbers-same : number_of (placed_of l packed c kept count) ≡ number_of (update_of l packed c kept count)
  unfolding placed_of plan_of update_of fits number_of
  numbers-same = go (source_of l packed) refl
    where
      tests : {A B : Type 0} (k n r f : Bool) (a : A) (b : B) → number_of (require 17 k >> (require 15 n >> (require 16 r >> (require 6 f >> accepted a)))) ≡ number_of (require 17 k >> (require 15 n >> (require 16 r >> (require 6 f >> accepted b))))
      tests false n r f a b = refl
      tests true false r f a b = refl
      tests true true false f a b = refl
      tests true true true false a b = refl
      tests true true true true a b = refl

      name : {A B : Type 0} (o : Outcome (Unit {0})) (p : Outcome A) (q : Outcome B) → number_of p ≡ number_of q → number_of (o >> p) ≡ number_of (o >> q)
      name (refused n) p q e = refl
      name (accepted u) p q e = e

      go : (o : Outcome Source) → source_of l packed ≡ o → number_of (o >>= λ s. named_in l c.list >> (require 17 (shows kept count (shown s)) >> plan_of l.numbers l.ends c kept count s.tree))
          ≡ number_of (o >>= λ s. named_in l c.list >> (require 17 (shows kept count (shown s)) >> (require 15 (is_new c s.lists) >> (require 16 (has_room c s.lists) >> (require 6 (fits l kept (changed c s)) >> accepted (changed c s))))))
      go (refused n) e = refl
      go (accepted s) e =
          let are : lists_from l.numbers 0 l.ends ≡ s.lists = (lists_accepted l s.lists (source-accepted l packed s e).0).are in
          name (named_in l c.list) _ _ (rw are (tests (shows kept count (shown s)) (is_new c s.lists) (has_room c s.lists) (fits l kept (changed c s)) _ _))

  -- a refusal that goes up by `?`
  pub refusal-leaves : (r : Result (Unit {0}) Refusal) (e : Refusal) → IsErrAnd r (λ y. y ≡ e) → refused (number e) ≡ placed_of l packed c kept count
      → updated (number_of (outcome r)) l.numbers l.ends kept count ≡ update l packed c kept count
  unfolding update sent number_of
  refusal-leaves r e h found =
      let same : number e ≡ number_of (update_of l packed c kept count) = ap number_of found ∙ numbers-same in
      let is = refused_by (update_of l packed c kept count) (λ z. omega (arith, z, same, number_above e)) in
      ap (λ (o : Outcome (Unit {0})). updated (number_of o) l.numbers l.ends kept count) (refused_up r e h) ∙ rw (is, sym same)

-- ---- no end is above 32 times 65,535
ends-small : (size start : ℕ) (ends : List ℕ) (i : ℕ) → ends_hold size start ends ≡ true → i < length ends → get_or ends i 0 ≤ start + 65535 * length ends
ends-small size start [] i e h = absurd (omega arith)
ends-small size start (stop ∷ ends) zero e h = let n = hold_next size start (stop ∷ ends) 0 (omega arith) e in omega (arith, n.order, n.few)
ends-small size start (stop ∷ ends) (suc i) e h =
    let n = hold_next size start (stop ∷ ends) 0 (omega arith) e in
    omega (arith, n.order, n.few, ends-small size stop ends i n.rest (omega arith))

-- ---- an accepted change

-- a kept row and a count that are the members afterwards, and behind them what the row held
abbrev pub RowLeft : Source → Change → (kept row : List ℕ) → ℕ → Type 0
RowLeft s c kept row held = let m = shown (changed c s) in (row ≡ m ++ drop (length m) kept) × (held ≡ length m)

module _ (l : Lent) (packed : List ℕ) (c : Change) (kept : List ℕ) (count : ℕ) (n : Numbers l.numbers) (small : c.number < top) (p : Placed) (a : AllPassed l packed c kept count p) where
  abbrev s : Source
  s = a.source

  abbrev ls : List (List ℕ)
  ls = lists_from l.numbers 0 l.ends

  abbrev t : Tree
  t = s.tree

  abbrev M : List ℕ
  M = members ls t

  is_lists : lists_of l ≡ accepted ls
  is_lists = (source-accepted l packed s a.is-source).0 ∙ ap accepted a.lists_are

  hold : ends_hold (length l.numbers) 0 l.ends ≡ true
  hold = (lists_accepted l ls is_lists).hold

  up : (k : ℕ) → Up 0 (get_or ls k [])
  up = accepted_up l ls n is_lists

  new : is_new c ls ≡ true
  new = subst (λ (ls : List (List ℕ)). is_new c ls ≡ true) a.lists_are a.passed.new

  many : length (all_numbers (new_lists c ls)) ≤ length l.numbers
  many = subst (λ (ls : List (List ℕ)). length (all_numbers (new_lists c ls)) ≤ length l.numbers) a.lists_are a.passed.numbers_fit

  few : length (members (new_lists c ls) t) ≤ length kept
  few = subst (λ (ls : List (List ℕ)). length (members (new_lists c ls) t) ≤ length kept) a.lists_are a.passed.members_fit

  kept-is : take count kept ≡ M
  kept-is = a.passed.kept-is ∙ ap (λ (ls : List (List ℕ)). members ls t) a.lists_are

  counted : count ≡ length M
  counted = a.passed.counted ∙ ap (λ (ls : List (List ℕ)). length (members ls t)) a.lists_are

  inside : count ≤ length kept
  inside = omega (arith, counted, ap (λ (l : List ℕ). length l) kept-is, length-take count kept)

  at-is : place_of l.numbers l.ends c ≡ p.at
  at-is = ap (λ (p : Placed). p.at) a.found

  used-is : used_of l.ends ≡ p.used
  used-is = ap (λ (p : Placed). p.used) a.found

  -- the row of numbers
  pub numbers_shift : Shifts c.adds p.at p.used (length l.numbers)
  numbers_shift = subst (λ (at : ℕ). Shifts c.adds at p.used (length l.numbers)) at-is (subst (λ (used : ℕ). Shifts c.adds (place_of l.numbers l.ends c) used (length l.numbers)) used-is (go c.adds refl))
    where
      go : (b : Bool) → c.adds ≡ b → Shifts b (place_of l.numbers l.ends c) (used_of l.ends) (length l.numbers)
      go true e = (
        place_come l.numbers l.ends hold c a.passed.named up e (new_absent c ls e new),
        omega (arith, added l.numbers l.ends hold up c a.passed.named small e new, many),
      )
      go false e = (place-go l.numbers l.ends hold c a.passed.named up e (new_present c ls e new), used-within l.numbers l.ends hold)

  numbers_left : let w = all_numbers (new_lists c s.lists) in shifted c.adds l.numbers p.at p.used c.number ≡ w ++ drop (length w) l.numbers
  numbers_left =
      shifted-is c.adds l.numbers p.at p.used c.number (all_numbers (new_lists c s.lists)) numbers_shift
      (ap (λ (ls : List (List ℕ)). all_numbers (new_lists c ls)) a.lists_are ∙ go c.adds refl ∙ ap₂ (λ (used at : ℕ). with_it c.adds (take used l.numbers) at c.number) used-is at-is)
    where
      go : (b : Bool) → c.adds ≡ b → all_numbers (new_lists c ls) ≡ with_it c.adds (take (used_of l.ends) l.numbers) (place_of l.numbers l.ends c) c.number
      go true e = numbers_come l.numbers l.ends hold c a.passed.named up e (new_absent c ls e new) ∙ ap (λ (b : Bool). with_it b (take (used_of l.ends) l.numbers) (place_of l.numbers l.ends c) c.number) (sym e)
      go false e = numbers-go l.numbers l.ends hold c a.passed.named up e (new_present c ls e new) ∙ ap (λ (b : Bool). with_it b (take (used_of l.ends) l.numbers) (place_of l.numbers l.ends c) c.number) (sym e)

  -- the ends
  pub ends_movable : Movable c.adds c.list l.ends
  ends_movable i h lt = go c.adds refl
    where
      go : (b : Bool) → c.adds ≡ b → CanMove b (get_or l.ends i 0)
      go true e = omega (arith, ends-small (length l.numbers) 0 l.ends i hold lt, counts _ (lists_accepted l ls is_lists).count)
      go false e = later-some l.numbers l.ends hold c a.passed.named up e new i h lt

  ends-left : ends_moved c.adds c.list l.ends ≡ ends_from 0 (new_lists c s.lists)
  unfolding ends_moved
  ends-left = sym (new_ends l.numbers l.ends hold c a.passed.named up new) ∙ ap (λ (ls : List (List ℕ)). ends_from 0 (new_lists c ls)) (sym a.lists_are)

  -- the kept row
  abbrev m : List ℕ
  m = shown (changed c s)

  m-is : m ≡ members (new_lists c ls) t
  m-is = ap (λ (ls : List (List ℕ)). members (new_lists c ls) t) a.lists_are

  was-is : member ls t c.number ≡ p.was
  was-is = ap (λ (p : Placed). p.was) a.found

  will-is : member (new_lists c ls) t c.number ≡ p.will
  will-is = ap (λ (p : Placed). p.will) a.found

  place_is : passed M c.number ≡ p.place
  place_is = ap (λ (l : List ℕ). passed l c.number) (sym kept-is) ∙ ap (λ (p : Placed). p.place) a.found

  m_up : Up 0 M
  m_up = members_up ls up t

  -- the number comes, or goes
  record Changes (will : Bool) : Type 0 where
    row : m ≡ with_it will M (passed M c.number) c.number
    counts-to : length m ≡ moved will count
    shift : Shifts will (passed M c.number) count (length kept)

  changes : (was will : Bool) → member ls t c.number ≡ was → member (new_lists c ls) t c.number ≡ will → not (beq was will) ≡ true → Changes will
  changes true true e w d = absurd (not_both d refl)
  changes false false e w d = absurd (not_both d refl)
  changes false true e w d =
      let absent = members_are ls t c.number ∙ e in
      let long : length m ≡ suc count = ap (λ (l : List ℕ). length l) (m-is ∙ members_come c ls up small t w e) ∙ insert-long c.number M 0 m_up absent ∙ ap suc (sym counted) in
      let room : count < length kept = omega (arith, long, few, ap (λ (l : List ℕ). length l) m-is) in
      record {
        row = m-is ∙ members_come c ls up small t w e ∙ insert-at 0 c.number M m_up absent;
        counts-to = long;
        shift = (omega (arith, passed-few M c.number, counted), room);
      }
  changes true false e w d =
      let present = members_are ls t c.number ∙ e in
      let gone : m ≡ remove c.number M = m-is ∙ members-go c ls up small t w e in
      record {
        row = gone ∙ remove-at 0 c.number M m_up present;
        counts-to = omega (arith, ap (λ (l : List ℕ). length l) gone, remove-long c.number M present, counted);
        shift = (omega (arith, passed-less M c.number present, counted), inside);
      }

  module _ (d : not (beq p.was p.will) ≡ true) where
    change : Changes p.will
    change = changes p.was p.will was-is will-is d

    pub row_shift : Shifts p.will p.place count (length kept)
    row_shift = subst (λ (at : ℕ). Shifts p.will at count (length kept)) place_is change.shift

    pub row_left : (row : List ℕ) (held : ℕ) → row ≡ shifted p.will kept p.place count c.number → held ≡ moved p.will count → RowLeft s c kept row held
    row_left row held r h = (
      r ∙ shifted-is p.will kept p.place count c.number m row_shift
          (change.row ∙ ap₂ (λ (used : List ℕ) (at : ℕ). with_it p.will used at c.number) (sym kept-is) place_is),
      h ∙ sym change.counts-to,
    )

  -- or neither
  module _ (d : not (beq p.was p.will) ≡ false) where
    stays : (was will : Bool) → member ls t c.number ≡ was → member (new_lists c ls) t c.number ≡ will → not (beq was will) ≡ false → m ≡ M
    stays true true e w d = m-is ∙ members_stay c ls up small t (w ∙ sym e)
    stays false false e w d = m-is ∙ members_stay c ls up small t (w ∙ sym e)
    stays true false e w d = absurd (not_both refl d)
    stays false true e w d = absurd (not_both refl d)

    same_row : m ≡ M
    same_row = stays p.was p.will was-is will-is d

    count_same : count ≡ length m
    count_same = counted ∙ ap (λ (l : List ℕ). length l) (sym same_row)

    pub row_same : RowLeft s c kept kept count
    row_same = (sym (take-append-drop count kept) ∙ ap₂ (λ (w : List ℕ) (n : ℕ). w ++ drop n kept) (kept-is ∙ sym same_row) count_same, count_same)

  -- so the call leaves what the definition says
  pub leaves : (numbers ends row : List ℕ) (held : ℕ) → numbers ≡ shifted c.adds l.numbers p.at p.used c.number → ends ≡ ends_moved c.adds c.list l.ends
      → RowLeft s c kept row held → updated 0 numbers ends row held ≡ update l packed c kept count
  leaves numbers ends row held e f g = (λ i. updated 0 ((e ∙ numbers_left) i) ((f ∙ ends-left) i) (g.0 i) (g.1 i)) ∙ sym (passed-leaves l packed c kept count s a.is-source a.passed)
