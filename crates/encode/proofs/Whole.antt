-- Writing a delivery whole: what each outcome of the tests hands back, and that the three pieces that are put make it. Assumes
-- nothing.
use mathlib.Core.Path.{◌≡◌}
use mathlib.Core.Bool.{true, false, ◌&&◌}
use mathlib.Core.List.{List, [], ◌∷◌, ◌++◌, flat_map}
use Prim.Native.Nat.{ℕ, suc, ◌+◌, ◌-◌, ◌*◌, ◌≤◌, ◌<◌}
use native.Mathlib.Omega.{arith}
use lib.Dec.{leb}
use lib.ListN.{length, drop, length-take}
use borrow.Author.Tests.{le-leb, lt-leb, leb-true}
use Rattle.model.specs.Outcome.{over, sent}
use Rattle.model.specs.Lists.{Numbers, all_ascending, part, lists_from, count_holds, ends_hold, delivered, word_holds, lend, lists_of}
use Rattle.model.specs.Fields.{Bytes, field}
use Rattle.model.specs.Delivery.{Supplied, delivery, delivery_in, supplied_from, supplied}
use Rattle.model.specs.Calls.{written, stored, encode_delivery}
use Rattle.model.proofs.Order.{and_true}
use Rattle.model.proofs.Accepted.{numbers_part}
use Rattle.fields.specs.Positions.{put_bits}
use Rattle.fields.proofs.Puts.{put-filled}
use Rattle.encode.specs.Measures.{as_supplied, lists_bits}
use Rattle.encode.proofs.Sizes.{gap_width_wide, supplied-small}
use Rattle.encode.proofs.Rest.{bits-cons}

-- lists whose ends hold take few bits
pub lists-small : (word k : ℕ) (numbers : List ℕ) (start : ℕ) (ends : List ℕ) → Numbers numbers → ends_hold (length numbers) start ends ≡ true
    → length (lists_bits (supplied_from word k (lists_from numbers start ends))) ≤ 4194304 * length ends
unfolding lists_from ends_hold part flat_map supplied_from
lists-small word k numbers start [] h e = omega arith
lists-small word k numbers start (stop ∷ ends) h e =
    let a = and_true (leb start stop) _ e in
    let b = and_true (leb stop (length numbers)) _ a.1 in
    let c = and_true (leb (stop - start) 65535) (ends_hold (length numbers) stop ends) b.1 in
    let l : List ℕ = part numbers start stop in
    let few : length l ≤ 65535 = omega (arith, leb-true (stop - start) 65535 c.0, length-take (stop - start) (drop start numbers)) in
    let w = gap_width_wide l (numbers_part numbers (stop - start) start h) in
    omega (
      arith,
      bits-cons (as_supplied (delivered word k) l) (supplied_from word (suc k) (lists_from numbers stop ends)),
      supplied-small (delivered word k) l few w.most,
      lists-small word (suc k) numbers stop ends h c.1,
    )

-- ---- the tests, each over all lists before the next

module _ (numbers ends : List ℕ) (word : ℕ) (lent : List ℕ) where
  abbrev ls : List (List ℕ)
  ls = lists_from numbers 0 ends

  abbrev row : List ℕ
  row = delivery (supplied word ls)

  pub refuses_7 : count_holds (length ends) ≡ false → written (record { number = 7; count = 0 }) lent ≡ encode_delivery (lend numbers ends word) lent
  unfolding encode_delivery sent lists_of
  refuses_7 h = rw h

  module _ (seven : count_holds (length ends) ≡ true) where
    pub refuses_10 : ends_hold (length numbers) 0 ends && word_holds word 0 0 ends ≡ false → written (record { number = 10; count = 0 }) lent ≡ encode_delivery (lend numbers ends word) lent
    unfolding encode_delivery sent lists_of
    refuses_10 h = rw (seven, h)

    module _ (ten : ends_hold (length numbers) 0 ends && word_holds word 0 0 ends ≡ true) where
      pub refuses_11 : all_ascending ls ≡ false → written (record { number = 11; count = 0 }) lent ≡ encode_delivery (lend numbers ends word) lent
      unfolding encode_delivery sent lists_of
      refuses_11 h = rw (seven, ten, h)

      module _ (eleven : all_ascending ls ≡ true) where
        pub refuses_6 : length lent < length row → written (record { number = 6; count = 0 }) lent ≡ encode_delivery (lend numbers ends word) lent
        unfolding encode_delivery stored sent lists_of
        refuses_6 h = rw (seven, ten, eleven, lt-leb (length row) (length lent) h)

        pub writes : length row ≤ length lent → written (record { number = 0; count = length row }) (row ++ drop (length row) lent) ≡ encode_delivery (lend numbers ends word) lent
        unfolding encode_delivery stored sent lists_of over
        writes h = rw (seven, ten, eleven, le-leb (length row) (length lent) h)

-- ---- the bytes

-- the number of lists, the lists, and the fill
pub delivery-put : (s : List ℕ) (ss : List Supplied) (k : ℕ) {a b c : List ℕ} {next : ℕ} → Bytes s → length (delivery ss) ≤ length s
    → a ≡ put_bits s 0 (field 6 (length ss)) → b ≡ put_bits a 6 (lists_bits ss) → next ≡ 6 + length (lists_bits ss) → c ≡ put_bits b next (field k 0) → next + k ≡ 8 * length (delivery ss)
    → c ≡ delivery ss ++ drop (length (delivery ss)) s
unfolding delivery delivery_in
delivery-put s ss k h room ea eb en ec e = put-filled s 6 (length ss) (lists_bits ss) k h room ea eb en ec e
