-- The call whole: its tests one after another; and behind them rows that are shifted by one place are the rows of the definition.
-- Assumes nothing.
use mathlib.Core.Path.{◌≡◌, refl, sym, ap, ap₂, ◌∙◌}
use mathlib.Core.Bool.{Bool, true, false, ◌&&◌}
use mathlib.Core.List.{List, ◌∷◌, ◌++◌, append_assoc}
use Prim.Native.Nat.{ℕ, suc, ◌+◌, ◌≤◌, ◌<◌}
use native.Mathlib.Numerals.{add-one}
use native.Mathlib.Omega.{arith}
use borrow.Author.Tests.{eq-eqb, eqb-true, leb-true}
use lib.Dec.{eqb, leb}
use lib.ListN.{length, take, drop, length-append, length-take}
use lib.Seq.{take-take, take_all, length-take-le}
use Rattle.model.specs.Outcome.{refused, accepted}
use Rattle.model.specs.Lists.{lists_from, Lent, lists_of}
use Rattle.model.specs.Expression.{Tree}
use Rattle.model.specs.Sets.{all_numbers, members}
use Rattle.model.specs.Run.{Source, named_in, source_of}
use Rattle.model.specs.Forms.{read_packed}
use Rattle.model.specs.Update.{Change, new_lists, changed, same, shows, is_new, has_room, fits}
use Rattle.model.proofs.Order.{and_true}
use Rattle.model.proofs.Accepted.{accepted-same, bound, both, required, lists_accepted, there-is, there-came}
use Rattle.model.proofs.DemandThree.{source-accepted}
use Rattle.changes.proofs.Changes.{same-is}
use Rattle.changes.proofs.RequestOne.{Passed}
use Rattle.fields.specs.Rows.{lay}
use Rattle.shifts.specs.Shift.{Shifts, shifted}
use Rattle.update.specs.Plans.{Placed, plan_of, placed_of}
use Rattle.update.proofs.Tests.{placed}

-- ---- 17
pub shows-short : (kept : List ℕ) (count : ℕ) (ms : List ℕ) → length kept < count → shows kept count ms ≡ false
unfolding shows
shows-short kept count ms h = go (eqb count (length ms)) refl (same (take count kept) ms) refl
  where
    go : (a : Bool) → eqb count (length ms) ≡ a → (b : Bool) → same (take count kept) ms ≡ b → a && b ≡ false
    go false e b f = refl
    go true e false f = refl
    go true e true f = absurd (omega (arith, eqb-true count (length ms) e, ap (λ (l : List ℕ). length l) (sym (take_all count kept (omega arith)) ∙ same-is (take count kept) ms f)))

pub shows_same : (kept : List ℕ) (count : ℕ) (ms : List ℕ) → count ≤ length kept → shows kept count ms ≡ same (take count kept) ms
unfolding shows
shows_same kept count ms h = go (same (take count kept) ms) refl
  where
    none : (a : Bool) → a && false ≡ false
    none true = refl
    none false = refl

    go : (b : Bool) → same (take count kept) ms ≡ b → eqb count (length ms) && b ≡ b
    go false f = none (eqb count (length ms))
    go true f = rw (eq-eqb count (length ms) (sym (length-take-le count kept h) ∙ ap (λ (l : List ℕ). length l) (same-is (take count kept) ms f)))

-- ---- all tests
module _ (l : Lent) (packed : List ℕ) (c : Change) (kept : List ℕ) (count : ℕ) where
  pub whole-lists : (n : ℕ) → lists_of l ≡ refused n → refused n ≡ placed_of l packed c kept count
  unfolding placed_of source_of
  whole-lists n e = rw e

  module _ (ls : List (List ℕ)) (e : lists_of l ≡ accepted ls) where
    pub whole-expression : (n : ℕ) → read_packed (named_in l) packed ≡ refused n → refused n ≡ placed_of l packed c kept count
    unfolding placed_of source_of
    whole-expression n f = rw (e, f)

    module _ (t : Tree) (f : read_packed (named_in l) packed ≡ accepted t) where
      pub whole-named : (n : ℕ) → named_in l c.list ≡ refused n → refused n ≡ placed_of l packed c kept count
      unfolding placed_of source_of
      whole-named n h = rw (e, f, h)

      pub whole_17 : named_in l c.list ≡ accepted tt → shows kept count (members ls t) ≡ false → refused 17 ≡ placed_of l packed c kept count
      unfolding placed_of source_of
      whole_17 h s = rw (e, f, h, s)

      pub whole_plan : named_in l c.list ≡ accepted tt → shows kept count (members ls t) ≡ true → plan_of l.numbers l.ends c kept count t ≡ placed_of l packed c kept count
      unfolding placed_of source_of
      whole_plan h s = rw (e, f, h, s)

  -- and where none refuses
  pub record AllPassed (p : Placed) : Type 0 where
    pub source : Source
    pub is-source : source_of l packed ≡ accepted source
    pub lists_are : source.lists ≡ lists_from l.numbers 0 l.ends
    pub passed : Passed l c kept count source
    pub found : placed l.numbers l.ends c kept count source.tree ≡ p

  pub all_passed : (p : Placed) → placed_of l packed c kept count ≡ accepted p → AllPassed p
  unfolding placed_of plan_of shows fits
  all_passed p e =
      let a = bound (source_of l packed) _ p e in
      let s = a.got in
      let are : s.lists ≡ lists_from l.numbers 0 l.ends = sym (lists_accepted l s.lists (source-accepted l packed s a.first).0).are in
      let b = both (named_in l c.list) _ p a.rest in
      let k = required 17 (shows kept count (members s.lists s.tree)) _ p b.1 in
      let n = required 15 (is_new c (lists_from l.numbers 0 l.ends)) _ p k.1 in
      let r = required 16 (has_room c (lists_from l.numbers 0 l.ends)) _ p n.1 in
      let z = required 6 (fits l kept (changed c (record { lists = lists_from l.numbers 0 l.ends; tree = s.tree }))) _ p r.1 in
      let w = and_true (eqb count (length (members s.lists s.tree))) (same (take count kept) (members s.lists s.tree)) k.0 in
      let g = and_true (leb (length (all_numbers (new_lists c (lists_from l.numbers 0 l.ends)))) (length l.numbers)) (leb (length (members (new_lists c (lists_from l.numbers 0 l.ends)) s.tree)) (length kept)) z.0 in
      record {
        source = s;
        is-source = a.first;
        lists_are = are;
        passed = record {
          named = there-is (length l.ends) l.word c.list b.0;
          came = there-came (length l.ends) l.word c.list b.0;
          counted = eqb-true count (length (members s.lists s.tree)) w.0;
          kept-is = same-is (take count kept) (members s.lists s.tree) w.1;
          new = rw are n.0;
          room = rw are r.0;
          numbers_fit = rw are (leb-true _ (length l.numbers) g.0);
          members_fit = rw are (leb-true _ (length kept) g.1);
        };
        found = accepted-same z.1;
      }

-- ---- a row that is shifted
abbrev pub with_it : Bool → List ℕ → ℕ → ℕ → List ℕ
with_it true used at x = take at used ++ (x ∷ drop at used)
with_it false used at x = take at used ++ drop (suc at) used

laid : (row : List ℕ) (at used : ℕ) (xs : List ℕ) → at ≤ used → used ≤ length row → let w = take at (take used row) ++ xs in lay row at xs ≡ w ++ drop (length w) row
unfolding lay
laid row at used xs h le =
    let w : List ℕ = take at (take used row) ++ xs in
    let long : at + length xs ≡ length w = omega (arith, length-append (take at (take used row)) xs, length-take at (take used row), length-take used row) in
    ap₂ (λ (f : List ℕ) (n : ℕ). f ++ (xs ++ drop n row)) (sym (take-take at used row h)) long ∙ sym (append_assoc (take at (take used row)) xs (drop (length w) row))

pub shifted-is : (adds : Bool) (row : List ℕ) (at used x : ℕ) (w : List ℕ) → Shifts adds at used (length row) → w ≡ with_it adds (take used row) at x → shifted adds row at used x ≡ w ++ drop (length w) row
unfolding shifted
shifted-is true row at used x w h e = laid row at used (x ∷ drop at (take used row)) h.0 (omega (arith, h.1)) ∙ ap (λ (w : List ℕ). w ++ drop (length w) row) (sym e)
shifted-is false row at used x w h e =
    ap (λ (n : ℕ). lay row at (drop n (take used row))) (add-one at)
    ∙ laid row at used (drop (suc at) (take used row)) (omega (arith, h.0)) h.1 ∙ ap (λ (w : List ℕ). w ++ drop (length w) row) (sym e)
