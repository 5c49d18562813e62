-- The tests behind 17: each number under its condition, and what is found where none applies. Assumes nothing.
use mathlib.Core.Path.{◌≡◌, refl, sym, ap, ◌∙◌}
use mathlib.Core.Bool.{Bool, true, false, not, ◌||◌, beq}
use mathlib.Core.List.{List, [], ◌∷◌}
use Prim.Native.Nat.{ℕ, zero, suc, ◌-◌, ◌≤◌, ◌<◌}
use native.Mathlib.Omega.{arith}
use borrow.Author.Tests.{le-leb, lt-leb, lt-ltb, le-ltb, leb-true, leb-false, ltb-true, ltb-false}
use lib.Dec.{leb, ltb}
use lib.ListN.{length, get_or, take, drop, length-append, length-take, length-drop}
use Rattle.std.proofs.Common.{Result, Ok, Err}
use Rattle.std.specs.Result.{IsErrAnd}
use Rattle.model.specs.Outcome.{refused, accepted}
use Rattle.model.specs.Lists.{top, lists_from, ends_hold}
use Rattle.model.specs.Expression.{Tree}
use Rattle.model.specs.Sets.{among, member, all_numbers, members}
use Rattle.model.specs.Steps.{passed}
use Rattle.model.specs.Update.{Change, old_list, new_lists, is_new, has_room, fits}
use Rattle.model.proofs.Order.{Up, not_both}
use Rattle.model.proofs.Denoted.{members_up, members_are}
use Rattle.changes.proofs.Changes.{insert-long, remove-long, members_stay, members_come, members-go, used_of, place_of, used-within, place_come, place-go, numbers_come, numbers-go, new_absent, new_present}
use Rattle.lists.specs.Readable.{Readable}
use Rattle.lists.proofs.Spans.{list_runs}
use Rattle.refusals.specs.declared.Refusal.{Refusal}
use Rattle.refusals.specs.Numbers.{number}
use Rattle.update.specs.declared.Plan.{Plan}
use Rattle.update.specs.Plans.{room_number, room_test, first_number, Placed, plan_says, plan_of}

-- a refusal that goes up by `?`
pub says-refused : (r : Result Plan Refusal) (e : Refusal) → IsErrAnd r (λ y. y ≡ e) → plan_says r ≡ refused (number e)
says-refused (Ok p) e h = absurd h
says-refused (Err y) e h = ap (λ (x : Refusal). refused (number x)) h

pub number_above : (r : Refusal) → 1 ≤ number r
number_above r = grind arith

-- what a Plan has found
abbrev pub found_of : Plan → Placed
found_of r = record { at = r.at; used = r.used; place = r.place; was = r.was; will = r.will }

-- ---- 15
module _ (c : Change) (ls : List (List ℕ)) where
  pub is_news : not (beq c.adds (among c.number (old_list c ls))) ≡ is_new c ls
  unfolding is_new
  is_news = go c.adds (among c.number (old_list c ls))
    where
      go : (adds stood : Bool) → not (beq adds stood) ≡ elim adds [ true ↦ not stood | false ↦ stood ]
      go true true = refl
      go true false = refl
      go false true = refl
      go false false = refl

  -- ---- 16
  no_room : c.adds ≡ true → 65535 ≤ length (old_list c ls) → has_room c ls ≡ false
  unfolding has_room
  no_room e h = rw (e, le-ltb (length (old_list c ls)) 65535 h)

  room : (c.adds ≡ true → length (old_list c ls) < 65535) → has_room c ls ≡ true
  unfolding has_room
  room h = go c.adds h
    where
      go : (b : Bool) → (b ≡ true → length (old_list c ls) < 65535) → not b || ltb (length (old_list c ls)) 65535 ≡ true
      go true h = lt-ltb (length (old_list c ls)) 65535 (h refl)
      go false h = refl

-- ---- by number
module _ (numbers ends : List ℕ) (c : Change) (kept : List ℕ) (count : ℕ) (t : Tree) where
  abbrev all : List (List ℕ)
  all = lists_from numbers 0 ends

  plan_15 : is_new c all ≡ false → refused 15 ≡ plan_of numbers ends c kept count t
  unfolding plan_of
  plan_15 e = rw e

  plan_16 : is_new c all ≡ true → has_room c all ≡ false → refused 16 ≡ plan_of numbers ends c kept count t
  unfolding plan_of
  plan_16 e f = rw (e, f)

  plan_6_numbers : is_new c all ≡ true → has_room c all ≡ true → leb (length (all_numbers (new_lists c all))) (length numbers) ≡ false → refused 6 ≡ plan_of numbers ends c kept count t
  unfolding plan_of fits
  plan_6_numbers e f g = rw (e, f, g)

  plan_6_members : is_new c all ≡ true → has_room c all ≡ true → leb (length (all_numbers (new_lists c all))) (length numbers) ≡ true → leb (length (members (new_lists c all) t)) (length kept) ≡ false
      → refused 6 ≡ plan_of numbers ends c kept count t
  unfolding plan_of fits
  plan_6_members e f g h = rw (e, f, g, h)

  -- where the number stands or belongs, and what becomes of it
  abbrev pub placed : Placed
  placed = record {
    at = place_of numbers ends c;
    used = used_of ends;
    place = passed (take count kept) c.number;
    was = member all t c.number;
    will = member (new_lists c all) t c.number;
  }

  plan_0 : is_new c all ≡ true → has_room c all ≡ true → leb (length (all_numbers (new_lists c all))) (length numbers) ≡ true → leb (length (members (new_lists c all) t)) (length kept) ≡ true
      → accepted placed ≡ plan_of numbers ends c kept count t
  unfolding plan_of fits
  plan_0 e f g h = rw (e, f, g, h)

-- 16 and 6 of the row of numbers do not apply
abbrev Roomy : (numbers ends : List ℕ) → Change → Type 0
Roomy numbers ends c = let ls = lists_from numbers 0 ends in (has_room c ls ≡ true) × (leb (length (all_numbers (new_lists c ls))) (length numbers) ≡ true)

-- a kept row of so many places takes the number, if it comes
abbrev pub Takes : List (List ℕ) → Change → Tree → ℕ → Bool
Takes ls c t size = member ls t c.number || (not (member (new_lists c ls) t c.number) || ltb (length (members ls t)) size)

-- ---- 6
module _ (numbers ends : List ℕ) (hold : ends_hold (length numbers) 0 ends ≡ true) (up : (k : ℕ) → Up 0 (get_or (lists_from numbers 0 ends) k [])) (c : Change) (lt : c.list < length ends) (small : c.number < top) where
  abbrev ls : List (List ℕ)
  ls = lists_from numbers 0 ends

  abbrev U : List ℕ
  U = take (used_of ends) numbers

  -- one number more, or one less, than are used
  pub added : c.adds ≡ true → is_new c ls ≡ true → length (all_numbers (new_lists c ls)) ≡ suc (used_of ends)
  added e n =
      let at : ℕ = place_of numbers ends c in
      let absent = new_absent c ls e n in
      ap (λ (l : List ℕ). length l) (numbers_come numbers ends hold c lt up e absent)
      ∙ omega (arith, length-append (take at U) (c.number ∷ drop at U), length-take at U, length-drop at U, length-take (used_of ends) numbers, used-within numbers ends hold, place_come numbers ends hold c lt up e absent)

  removed : c.adds ≡ false → is_new c ls ≡ true → suc (length (all_numbers (new_lists c ls))) ≡ used_of ends
  removed e n =
      let at : ℕ = place_of numbers ends c in
      let present = new_present c ls e n in
      ap (λ (l : List ℕ). suc (length l)) (numbers-go numbers ends hold c lt up e present)
      ∙ omega (arith, length-append (take at U) (drop (suc at) U), length-take at U, length-drop (suc at) U, length-take (used_of ends) numbers, used-within numbers ends hold, place-go numbers ends hold c lt up e present)

  numbers-short : c.adds ≡ true → is_new c ls ≡ true → length numbers ≤ used_of ends → leb (length (all_numbers (new_lists c ls))) (length numbers) ≡ false
  numbers-short e n h = lt-leb (length (all_numbers (new_lists c ls))) (length numbers) (omega (arith, added e n))

  numbers_fit : is_new c ls ≡ true → (c.adds ≡ true → used_of ends < length numbers) → leb (length (all_numbers (new_lists c ls))) (length numbers) ≡ true
  numbers_fit n h = le-leb (length (all_numbers (new_lists c ls))) (length numbers) (go c.adds refl)
    where
      go : (b : Bool) → c.adds ≡ b → length (all_numbers (new_lists c ls)) ≤ length numbers
      go true e = omega (arith, added e n, h e)
      go false e = omega (arith, removed e n, used-within numbers ends hold)

  -- 16 and this together, as the code tests them
  module _ (r : Readable numbers ends) (n : is_new c ls ≡ true) where
    abbrev many : ℕ
    many = get_or ends c.list 0 - get_or (0 ∷ ends) c.list 0

    long : length (old_list c ls) ≡ many
    long = (list_runs numbers ends c.list r lt).many

    room_passed : room_test (length numbers) ends c.list c.adds ≡ 0 → Roomy numbers ends c
    room_passed h = go c.adds (leb 65535 many) (leb (length numbers) (used_of ends)) refl refl refl h
      where
        go : (adds full short : Bool) → c.adds ≡ adds → leb 65535 many ≡ full → leb (length numbers) (used_of ends) ≡ short → room_number adds full short ≡ 0
            → Roomy numbers ends c
        go false full short e f g z = (room c ls (λ q. absurd (not_both q e)), numbers_fit n (λ q. absurd (not_both q e)))
        go true true short e f g z = absurd (omega (arith, z))
        go true false true e f g z = absurd (omega (arith, z))
        go true false false e f g z = (room c ls (λ q. omega (arith, long, leb-false 65535 many f)), numbers_fit n (λ q. leb-false (length numbers) (used_of ends) g))

    room-refused : (kept : List ℕ) (count : ℕ) (t : Tree) → (room_test (length numbers) ends c.list c.adds ≡ 0 → ⊥) → refused (room_test (length numbers) ends c.list c.adds) ≡ plan_of numbers ends c kept count t
    room-refused kept count t h = go c.adds (leb 65535 many) (leb (length numbers) (used_of ends)) refl refl refl h
      where
        go : (adds full short : Bool) → c.adds ≡ adds → leb 65535 many ≡ full → leb (length numbers) (used_of ends) ≡ short → (room_number adds full short ≡ 0 → ⊥) → refused (room_number adds full short) ≡ plan_of numbers ends c kept count t
        go false full short e f g some = absurd (some refl)
        go true true short e f g some = plan_16 numbers ends c kept count t n (no_room c ls e (omega (arith, long, leb-true 65535 many f)))
        go true false true e f g some =
            plan_6_numbers numbers ends c kept count t n (room c ls (λ q. omega (arith, long, leb-false 65535 many f))) (numbers-short e n (leb-true (length numbers) (used_of ends) g))
        go true false false e f g some = absurd (some refl)

  module _ (t : Tree) where
    ms_up : Up 0 (members ls t)
    ms_up = members_up ls up t

    came : member (new_lists c ls) t c.number ≡ true → member ls t c.number ≡ false → length (members (new_lists c ls) t) ≡ suc (length (members ls t))
    came w e = ap (λ (l : List ℕ). length l) (members_come c ls up small t w e) ∙ insert-long c.number (members ls t) 0 ms_up (members_are ls t c.number ∙ e)

    went : member (new_lists c ls) t c.number ≡ false → member ls t c.number ≡ true → suc (length (members (new_lists c ls) t)) ≡ length (members ls t)
    went w e = ap (λ (l : List ℕ). suc (length l)) (members-go c ls up small t w e) ∙ remove-long c.number (members ls t) (members_are ls t c.number ∙ e)

    members-short : (n : ℕ) → member (new_lists c ls) t c.number ≡ true → member ls t c.number ≡ false → n ≤ length (members ls t) → leb (length (members (new_lists c ls) t)) n ≡ false
    members-short n w e h = lt-leb (length (members (new_lists c ls) t)) n (omega (arith, came w e))

    members_fit : (n : ℕ) → length (members ls t) ≤ n → (member (new_lists c ls) t c.number ≡ true → member ls t c.number ≡ false → length (members ls t) < n) → leb (length (members (new_lists c ls) t)) n ≡ true
    members_fit n fits h = le-leb (length (members (new_lists c ls) t)) n (go (member (new_lists c ls) t c.number) (member ls t c.number) refl refl)
      where
        go : (will was : Bool) → member (new_lists c ls) t c.number ≡ will → member ls t c.number ≡ was → length (members (new_lists c ls) t) ≤ n
        go true true w e = omega (arith, ap (λ (l : List ℕ). length l) (members_stay c ls up small t (w ∙ sym e)))
        go true false w e = omega (arith, came w e, h w e)
        go false true w e = omega (arith, went w e)
        go false false w e = omega (arith, ap (λ (l : List ℕ). length l) (members_stay c ls up small t (w ∙ sym e)))

    -- and whether the kept row takes it
    takes_not : (kept : ℕ) → Takes ls c t kept ≡ false → leb (length (members (new_lists c ls) t)) kept ≡ false
    takes_not kept h = go (member ls t c.number) (member (new_lists c ls) t c.number) refl refl h
      where
        go : (was will : Bool) → member ls t c.number ≡ was → member (new_lists c ls) t c.number ≡ will → (was || (not will || ltb (length (members ls t)) kept)) ≡ false → leb (length (members (new_lists c ls) t)) kept ≡ false
        go true will e w q = absurd (not_both refl q)
        go false false e w q = absurd (not_both refl q)
        go false true e w q = members-short kept w e (ltb-false (length (members ls t)) kept q)

    takes_all : (kept : ℕ) → length (members ls t) ≤ kept → Takes ls c t kept ≡ true → leb (length (members (new_lists c ls) t)) kept ≡ true
    takes_all kept fits h = members_fit kept fits (λ w e. ltb-true (length (members ls t)) kept (rw (w, e) at h))

    -- the first number that applies, or all that was found
    abbrev pub Verdict : ℕ → ℕ
    Verdict size = first_number (is_new c ls) (room_test (length numbers) ends c.list c.adds) (Takes ls c t size)

    pub verdict-refused : Readable numbers ends → (kept : List ℕ) (count n : ℕ) → 1 ≤ n → n ≡ Verdict (length kept) → refused n ≡ plan_of numbers ends c kept count t
    verdict-refused readable kept count n above is = go (is_new c ls) (room_test (length numbers) ends c.list c.adds) (Takes ls c t (length kept)) refl refl refl is
      where
        go : (news : Bool) (m : ℕ) (f : Bool) → is_new c ls ≡ news → room_test (length numbers) ends c.list c.adds ≡ m → Takes ls c t (length kept) ≡ f → n ≡ first_number news m f → refused n ≡ plan_of numbers ends c kept count t
        go false m f e g h q = ap refused q ∙ plan_15 numbers ends c kept count t e
        go true (suc m) f e g h q = ap refused (q ∙ sym g) ∙ room-refused readable e kept count t (λ z. omega (arith, z, g))
        go true zero false e g h q = let w = room_passed readable e g in ap refused q ∙ plan_6_members numbers ends c kept count t e w.0 w.1 (takes_not (length kept) h)
        go true zero true e g h q = absurd (omega (arith, above, q))

    pub verdict_passed : Readable numbers ends → (kept : List ℕ) (count : ℕ) → length (members ls t) ≤ length kept → 0 ≡ Verdict (length kept) → accepted (placed numbers ends c kept count t) ≡ plan_of numbers ends c kept count t
    verdict_passed readable kept count fits is = go (is_new c ls) (room_test (length numbers) ends c.list c.adds) (Takes ls c t (length kept)) refl refl refl is
      where
        go : (news : Bool) (m : ℕ) (f : Bool) → is_new c ls ≡ news → room_test (length numbers) ends c.list c.adds ≡ m → Takes ls c t (length kept) ≡ f → 0 ≡ first_number news m f → accepted (placed numbers ends c kept count t) ≡ plan_of numbers ends c kept count t
        go false m f e g h q = absurd (omega (arith, q))
        go true (suc m) f e g h q = absurd (omega (arith, q))
        go true zero false e g h q = absurd (omega (arith, q))
        go true zero true e g h q = let w = room_passed readable e g in plan_0 numbers ends c kept count t e w.0 w.1 (takes_all (length kept) fits h)
