-- `convert::move_delivery` meets its contract: test by test, in the order of `Delivery.read_in`; what is stored are the pieces
-- between the positions that the walk found. Assumes nothing.
use mathlib.Core.Path.{◌≡◌, refl, sym, ap, ap₂, ◌∙◌}
use mathlib.Core.Bool.{Bool, true}
use mathlib.Core.List.{List}
use mathlib.Core.Option.{none}
use Prim.Native.Nat.{ℕ, ◌+◌, ◌-◌, ◌*◌, ◌^◌, ◌≤◌, ◌<◌}
use native.Mathlib.Omega.{arith}
use lib.ListN.{length, take, drop, replicate}
use Rattle.std.proofs.Common.{Result, Ok, Err}
use Rattle.std.specs.Result.{IsErrAnd}
use Rattle.model.specs.Outcome.{Outcome, accepted, ◌>>=◌, ◌>>◌, require}
use Rattle.model.specs.Lists.{count_holds}
use Rattle.model.specs.Fields.{bits, only_fill}
use Rattle.model.specs.Delivery.{read_lists, read_stored}
use Rattle.model.specs.Calls.{written_refused, written}
use Rattle.lists.proofs.Spans.{counts}
use Rattle.fields.specs.Positions.{take_at}
use Rattle.fields.proofs.Fields.{took}
use Rattle.refusals.specs.declared.Refusal.{Refusal}
use Rattle.refusals.specs.Numbers.{number, written_as}
use Rattle.walk.proofs.Whole.{reads_no_number, reads_wrong_number, reads_on}
use Rattle.convert.specs.Forms.{ListIn, form_of, resized}
use Rattle.convert.specs.Walks.{found}
use Rattle.convert.specs.Pieces.{pieces}
use Rattle.convert.proofs.Reading.{head-seen}
use Rattle.convert.proofs.Walks.{Found, was_found, not_found}
use Rattle.convert.proofs.Whole.{Cut, cut, size-there, size-here, resized-small, refuses, stores}
use Rattle.convert.proofs.move_delivery.Goals as goal

-- a refusal that goes up by `?` as it came
handed : (lent : List ℕ) (r : Result ℕ Refusal) (e : Refusal) → IsErrAnd r (λ y. y ≡ e) → written (written_as r) lent ≡ written (written_refused (number e)) lent
handed lent (Ok n) e h = absurd h
handed lent (Err y) e h = ap (λ (x : Refusal). written (written_refused (number x)) lent) h

-- ---- the number of lists

six : (s : List ℕ) {n q : ℕ} → accepted (n, q) ≡ take_at s 6 0 → take_at s 6 0 ≡ accepted (n, 6)
six s {n} {q} e = let next : q ≡ 6 = omega (arith, (took s 6 0 _ (sym e)).next) in sym e ∙ ap (λ (k : ℕ). accepted (n, k)) next

-- how many lists there are, where 7 does not apply
record Headed (s : List ℕ) (n : ℕ) : Type 0 where
  number : take_at s 6 0 ≡ accepted (n, 6)
  there : 6 ≤ 8 * length s
  holds : count_holds n ≡ true
  few : n ≤ 32

headed : {s : List ℕ} {n q : ℕ} → accepted (n, q) ≡ take_at s 6 0 → true ≡ count_holds n → Headed s n
headed {s} {n} e h = record { number = six s e; there = omega (arith, (took s 6 0 _ (sym e)).inside); holds = sym h; few = (counts n (sym h)).1 }

-- ---- the walk through them

module _ (bit : Bool) (s : List ℕ) (n : ℕ) where
  -- as many lists, read
  abbrev lists_read : Outcome (List (ListIn bit) × ℕ)
  lists_read = read_lists (take_at s) (form_of bit) n none 6

  -- reading goes on with them
  on : Headed s n → (o : Outcome (List (ListIn bit) × ℕ)) → lists_read ≡ o → read_stored (form_of bit) s ≡ (o >>= λ r. (require 5 (only_fill (drop r.1 (bits s))) >> accepted r.0))
  unfolding read_stored
  on h o e = reads_on (form_of bit) s (head-seen bit s) none none h.number h.holds refl e

  -- what was found, and the pieces that it cuts the delivery into
  record Walk (lacking end : ℕ) (row : List ℕ) : Type 0 where
    was : Found bit (replicate 33 0) 0 6 lists_read lacking end row
    cuts : Cut bit s n end (take (n + 1) row) was.lists

  walk : {lacking end : ℕ} {row : List ℕ} → Headed s n → accepted (lacking, end, row) ≡ found bit 0 (replicate 33 0) 0 6 lists_read → Walk lacking end row
  walk h e =
      let w = was_found bit (replicate 33 0) 0 6 lists_read _ _ _ (sym e) in
      record { was = w; cuts = cut bit s n _ _ w.lists h.few h.there w.read w.are }

  -- the size in the other form
  sized : {lacking end : ℕ} {row : List ℕ} {size : ℕ} → Headed s n → Walk lacking end row → size ≡ resized bit end n
      → let stops = take (n + 1) row in (size ≡ 6 + length (pieces bit (bits s) (length stops - 1) stops)) × (size < 2 ^ 40)
  sized h w e =
      let u = w.cuts in
      (e ∙ ap₂ (resized bit) u.ends (sym u.many) ∙ sym (size-there bit w.was.lists) ∙ ap (λ (l : List Bool). 6 + length l) (sym u.are), rw e (resized-small bit _ _ u.near h.few))

-- ---- goal by goal

pub returns-in_err-n : goal.returns-in_err-n
unfolding read_stored
returns-in_err-n c =
    let args = c.args in
    handed args.to.now _ _ c.from_residual.ensures.1
    ∙ refuses args.bit args.from.now args.to.now (reads_no_number (form_of args.bit) args.from.now (head-seen args.bit args.from.now) none none (sym c.in_err-n.ensures))

pub returns-then-not-count_holds : goal.returns-then-not-count_holds
unfolding read_stored
returns-then-not-count_holds c =
    let args = c.args in
    refuses args.bit args.from.now args.to.now (reads_wrong_number (form_of args.bit) args.from.now (head-seen args.bit args.from.now) none none (six _ c.in_ok-n.ensures) (sym c.if-not-count_holds.ensures))

pub walk_lists-requires : goal.walk_lists-requires
walk_lists-requires c = let h = headed c.in_ok-n.ensures c.if-not-count_holds.ensures in (h.few, h.there)

pub returns-in_err-walked : goal.returns-in_err-walked
returns-in_err-walked c =
    let args = c.args in
    let h = headed c.in_ok-n.ensures c.if-not-count_holds.ensures in
    handed args.to.now _ _ c.from_residual-in_err-walked.ensures.1
    ∙ refuses args.bit args.from.now args.to.now (on _ _ _ h _ (not_found args.bit (replicate 33 0) 0 6 _ _ (sym c.in_err-walked.ensures)))

pub only_fill-requires : goal.only_fill-requires
only_fill-requires c =
    let u = (walk _ _ _ (headed c.in_ok-n.ensures c.if-not-count_holds.ensures) c.in_ok-walked.ensures).cuts in
    (u.inside, omega (arith, u.near))

pub returns-then-not-only_fill : goal.returns-then-not-only_fill
returns-then-not-only_fill c =
    let args = c.args in
    let h = headed c.in_ok-n.ensures c.if-not-count_holds.ensures in
    refuses args.bit args.from.now args.to.now (on _ _ _ h _ (walk _ _ _ h c.in_ok-walked.ensures).was.read ∙ rw (← c.if-not-only_fill.ensures))

pub size_of-size-requires : goal.size_of-size-requires
size_of-size-requires c =
    let h = headed c.in_ok-n.ensures c.if-not-count_holds.ensures in
    let w = walk _ _ _ h c.in_ok-walked.ensures in
    (h.few, omega (arith, w.cuts.many, w.cuts.ends, size-here c.args.bit w.was.lists), omega (arith, w.cuts.near))

pub shared_ref_as_front-stops : goal.shared_ref_as_front-stops
shared_ref_as_front-stops c = omega (arith, (headed c.in_ok-n.ensures c.if-not-count_holds.ensures).few)

pub store-requires : goal.store-requires
store-requires c =
    let h = headed c.in_ok-n.ensures c.if-not-count_holds.ensures in
    let w = walk _ _ _ h c.in_ok-walked.ensures in
    let size = sized _ _ _ h w c.size_of-size.ensures in
    (omega (arith, w.cuts.long), omega (arith, w.cuts.long, h.few), w.cuts.rise, size.0, size.1)

pub returns : goal.returns
returns c =
    let args = c.args in
    let h = headed c.in_ok-n.ensures c.if-not-count_holds.ensures in
    let w = walk _ _ _ h c.in_ok-walked.ensures in
    c.store.ensures ∙ stores args.bit args.from.now args.to.now w.was.lists _ (on _ _ _ h _ w.was.read ∙ rw (← c.if-not-only_fill.ensures)) w.was.lack (omega (arith, w.cuts.many, w.cuts.long)) w.cuts.are
