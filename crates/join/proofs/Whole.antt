-- A delivery read whole, without room, by bit positions; and the call: what each outcome of its tests hands back. Assumes nothing.
use mathlib.Core.Path.{◌≡◌, refl, sym, ap}
use mathlib.Core.Bool.{true, false}
use mathlib.Core.List.{List, ◌++◌, map}
use mathlib.Core.Option.{none}
use Prim.Native.Nat.{ℕ, ◌≤◌, ◌<◌}
use lib.ListN.{length, drop}
use borrow.Author.Tests.{le-leb, lt-leb, eq-eqb, ne_eqb}
use Rattle.model.specs.Outcome.{Outcome, refused, accepted, ◌>>=◌, ◌>>◌, require, over, sent}
use Rattle.model.specs.Lists.{count_holds}
use Rattle.model.specs.Fields.{take_field, only_fill}
use Rattle.model.specs.Delivery.{Supplied, by_bit, read_lists, read_stored, delivery}
use Rattle.model.specs.Calls.{written, written_refused, stored}
use Rattle.model.specs.Joined.{join_lists, lengths_hold, join_deliveries}
use Rattle.model.proofs.Accepted.{accepted-same, required}
use Rattle.refusals.proofs.Up.{test-failed}
use Rattle.model.proofs.Sources.{seen, by_bit-seen}
use Rattle.fields.specs.Rows.{lay}
use Rattle.fields.specs.Positions.{take_at}
use Rattle.walk.proofs.Whole
use Rattle.walk.proofs.Whole.{from, alike}
use Rattle.encode.specs.Measures.{lists_bits}
use Rattle.join.specs.declared.Measure.{Measure}
use Rattle.join.specs.Measures.{shape_of, no_shapes, measured}

-- ---- one delivery

module _ (s : List ℕ) where
  heads_alike : (p : ℕ) → by_bit.take_head take_field (from s p) ≡ seen (from s) (by_bit.take_head (take_at s) p)
  heads_alike p = by_bit-seen (from s) (take_at s) take_field (alike s) p

  pub reads_no_number : {k : ℕ} → take_at s 6 0 ≡ refused k → read_stored by_bit s ≡ refused k
  unfolding read_stored
  reads_no_number e = Whole.reads_no_number by_bit s heads_alike none none e

  module _ {n p : ℕ} (e : take_at s 6 0 ≡ accepted (n, p)) where
    pub reads_wrong_number : count_holds n ≡ false → read_stored by_bit s ≡ refused 7
    unfolding read_stored
    reads_wrong_number h = Whole.reads_wrong_number by_bit s heads_alike none none e h

    pub reads_on : count_holds n ≡ true → {o : Outcome (List Supplied × ℕ)} → read_lists (take_at s) by_bit n none p ≡ o
        → read_stored by_bit s ≡ (o >>= λ r. (require 5 (only_fill (from s r.1)) >> accepted r.0))
    unfolding read_stored
    reads_on h f = Whole.reads_on by_bit s heads_alike none none e h refl f

-- ---- what the first time through both found

pub record Holds (ss : List Supplied) (m : Measure) : Type 0 where
  pub hold : lengths_hold ss ≡ true
  pub bits : m.bits ≡ length (lists_bits ss)
  pub shapes : m.shapes ≡ lay no_shapes 0 (map shape_of ss)

pub holds : (ss : List Supplied) (m : Measure) → accepted m ≡ measured ss → Holds ss m
unfolding measured
holds ss m e =
    let t = required 21 (lengths_hold ss) _ m (sym e) in
    let same : found ≡ m = accepted-same t.1 in
    record { hold = t.0; bits = ap (λ (x : Measure). x.bits) (sym same); shapes = ap (λ (x : Measure). x.shapes) (sym same) }
  where
    found : Measure
    found = record { bits = length (lists_bits ss); shapes = lay no_shapes 0 (map shape_of ss) }

pub too_long : (ss : List Supplied) {k : ℕ} → refused k ≡ measured ss → (lengths_hold ss ≡ false) × (k ≡ 21)
unfolding measured
too_long ss e = test-failed 21 (lengths_hold ss) _ e

-- ---- the call, test by test

module _ (full daily lent : List ℕ) where
  pub refuses_full : {k : ℕ} → read_stored by_bit full ≡ refused k → written (written_refused k) lent ≡ join_deliveries full daily lent
  unfolding join_deliveries sent
  refuses_full e = rw e

  module _ {fs : List Supplied} (f : read_stored by_bit full ≡ accepted fs) where
    pub refuses-daily : {k : ℕ} → read_stored by_bit daily ≡ refused k → written (written_refused k) lent ≡ join_deliveries full daily lent
    unfolding join_deliveries sent
    refuses-daily e = rw (f, e)

    module _ {ds : List Supplied} (d : read_stored by_bit daily ≡ accepted ds) where
      abbrev row : List ℕ
      row = delivery (join_lists fs ds)

      pub refuses_20 : (length fs ≡ length ds → ⊥) → written (written_refused 20) lent ≡ join_deliveries full daily lent
      unfolding join_deliveries sent
      refuses_20 h = rw (f, d, ne_eqb (length fs) (length ds) h)

      module _ (same : length fs ≡ length ds) where
        pub refuses_21 : lengths_hold (join_lists fs ds) ≡ false → written (written_refused 21) lent ≡ join_deliveries full daily lent
        unfolding join_deliveries sent
        refuses_21 h = rw (f, d, eq-eqb (length fs) (length ds) same, h)

        module _ (hold : lengths_hold (join_lists fs ds) ≡ true) where
          pub refuses_6 : length lent < length row → written (written_refused 6) lent ≡ join_deliveries full daily lent
          unfolding join_deliveries stored sent
          refuses_6 h = rw (f, d, eq-eqb (length fs) (length ds) same, hold, lt-leb (length row) (length lent) h)

          pub writes : length row ≤ length lent → written (record { number = 0; count = length row }) (row ++ drop (length row) lent) ≡ join_deliveries full daily lent
          unfolding join_deliveries stored sent over
          writes h = rw (f, d, eq-eqb (length fs) (length ds) same, hold, le-leb (length row) (length lent) h)
