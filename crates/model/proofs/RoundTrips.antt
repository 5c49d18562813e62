-- Demand 2's stored forms, about the calls: a call that hands back 0 has accepted (`Told`), so what it wrote is what the
-- definitions write (`Trees`, `Deliveries`), and lists that were read lie in their rows (`Laid`). Assumes nothing.
use mathlib.Core.Path.{◌≡◌, refl, sym, ap, ◌∙◌, subst}
use mathlib.Core.Bool.{true}
use mathlib.Core.List.{List, [], ◌∷◌, ◌++◌, map}
use Prim.Native.Nat.{ℕ, ◌≤◌}
use native.Mathlib.Omega.{arith}
use lib.Dec.{leb}
use lib.ListN.{length, take, drop, length-map}
use lib.Seq.{take-append_seam}
use borrow.Author.Tests.{leb-true, le-leb}
use Rattle.model.specs.Outcome.{Outcome, accepted, ◌>>=◌, ◌>>◌, require, Sent, Success, over, sent}
use Rattle.model.specs.Lists.{Numbers, count_holds, Lent, lend, lists_of}
use Rattle.model.specs.Expression.{Tree, size}
use Rattle.model.specs.Sets.{all_numbers}
use Rattle.model.specs.Fields.{Bytes}
use Rattle.model.specs.Forms.{row, packed, LeafTest, there, read_row, read_packed}
use Rattle.model.specs.Delivery.{Supplied, supplied_numbers, delivery, read_delivery, supplied, word_of}
use Rattle.model.specs.Calls.{ends_from, laid_out, unpack_expression, pack_expression, decode_delivery, stored, encode_delivery}
use Rattle.model.specs.Demands.{wrote, left_lent, word_there, wrote_all, SecondDemand}
use Rattle.model.proofs.Accepted.{bound, required, accepted-same, there_narrow, row_reads, packed_reads}
use Rattle.model.proofs.Trees.{row_written, row_same, packed-written, packed-same}
use Rattle.model.proofs.Deliveries.{Storable, delivery-same, delivery_holds, delivery-written}
use Rattle.model.proofs.Laid.{at_most_32, ends-length, laid-supplied, storable-accepted, accepted-supplied}
use Rattle.model.proofs.Word.{word_said, supplied-back, supplied-length, word_back}
use Rattle.model.proofs.Shape.{row-long}
use Rattle.model.proofs.Told.{Told, SuccessOf, told_then, told_test, told_right, succeeded, lists_told, there_told, row_told, packed_told, delivery_told}

-- what was written off the front of a row
pub front : (xs lent : List ℕ) → wrote (wrote_all xs lent) ≡ xs
front xs lent = take-append_seam xs (drop (length xs) lent)

-- ---- expressions: both calls read one form and write the other

module _ (read : LeafTest → List ℕ → Outcome Tree) (write : Tree → List ℕ) (count : Tree → ℕ) (counts : (t : Tree) → length (write t) ≡ count t)
    (told : (test : LeafTest) → ((k : ℕ) → Told (test k)) → (bs : List ℕ) → Told (read test bs)) where
  -- such a call
  abbrev outcome : List ℕ → ℕ → ℕ → List ℕ → Outcome Success
  outcome bs lists word lent = do
    require 7 (count_holds lists)
    t ← read (there lists word) bs
    require 6 (leb (count t) (length lent))
    accepted (record { parts = count t ∷ []; written = write t ∷ [] })

  -- what it has read where it hands back 0, and what it then hands back
  record Turned (bs : List ℕ) (lists word : ℕ) (lent : List ℕ) : Type 0 where
    tree : Tree
    held : count_holds lists ≡ true
    is : read (there lists word) bs ≡ accepted tree
    sends : sent 1 (lent ∷ []) (outcome bs lists word lent) ≡ wrote_all (write tree) lent

  sends-all : (bs : List ℕ) (lists word : ℕ) (lent : List ℕ) (t : Tree) → count_holds lists ≡ true → read (there lists word) bs ≡ accepted t → length (write t) ≤ length lent
      → sent 1 (lent ∷ []) (outcome bs lists word lent) ≡ wrote_all (write t) lent
  unfolding sent over
  sends-all bs lists word lent t h e l =
      rw (h, e, le-leb (count t) (length lent) (rw (← counts t) l)) (ap (λ (n : ℕ). record { number = 0; parts = n ∷ []; rows = (write t ++ drop (length (write t)) lent) ∷ [] }) (sym (counts t)))

  turned : (bs : List ℕ) (lists word : ℕ) (lent : List ℕ) → (sent 1 (lent ∷ []) (outcome bs lists word lent)).number ≡ 0 → Turned bs lists word lent
  turned bs lists word lent z =
      let all_told = told_test 7 (count_holds lists) _ (omega arith) (told_then (read (there lists word) bs) _ (told (there lists word) (there_told lists word) bs) (λ t. told_test 6 (leb (count t) (length lent)) _ (omega arith) told_right)) in
      let s = succeeded 1 (lent ∷ []) (outcome bs lists word lent) all_told z in
      let a = required 7 (count_holds lists) _ s.got s.is in
      let b = bound (read (there lists word) bs) _ s.got a.1 in
      let c = required 6 (leb (count b.got) (length lent)) _ s.got b.rest in
      record {
        tree = b.got;
        held = a.0;
        is = b.first;
        sends = sends-all bs lists word lent b.got a.0 b.first (rw (counts b.got) (leb-true (count b.got) (length lent) c.0));
      }

-- as these are
unpack_is : (bytes : List ℕ) (lists word : ℕ) (lent : List ℕ) → unpack_expression bytes lists word lent ≡ sent 1 (lent ∷ []) (outcome read_packed row size row-long packed_told bytes lists word lent)
unfolding unpack_expression
unpack_is bytes lists word lent = refl

pack_is : (row_form : List ℕ) (lists word : ℕ) (lent : List ℕ) → pack_expression row_form lists word lent ≡ sent 1 (lent ∷ []) (outcome read_row packed (λ t. length (packed t)) (λ t. refl) row_told row_form lists word lent)
unfolding pack_expression
pack_is row_form lists word lent = refl

row_back : (row_form : List ℕ) (lists word : ℕ) (bytes lent : List ℕ) → (pack_expression row_form lists word bytes).number ≡ 0 → length row_form ≤ length lent
    → unpack_expression (wrote (pack_expression row_form lists word bytes)) lists word lent ≡ wrote_all row_form lent
row_back row_form lists word bytes lent z room =
    let p = turned read_row packed (λ t. length (packed t)) (λ t. refl) row_told row_form lists word bytes (sym (ap (λ (s : Sent). s.number) (pack_is row_form lists word bytes)) ∙ z) in
    let t : Tree = p.tree in
    let same : row t ≡ row_form = row_same (there lists word) row_form t p.is in
    let wrote_it : wrote (pack_expression row_form lists word bytes) ≡ packed t = ap wrote (pack_is row_form lists word bytes ∙ p.sends) ∙ front (packed t) bytes in
    let back : read_packed (there lists word) (packed t) ≡ accepted t = packed-written (there lists word) t (there_narrow lists word (at_most_32 lists p.held)) (row_reads (there lists word) row_form t p.is) in
    ap (λ (b : List ℕ). unpack_expression b lists word lent) wrote_it ∙ unpack_is (packed t) lists word lent
    ∙ sends-all read_packed row size row-long packed_told (packed t) lists word lent t p.held back (rw same room)
    ∙ ap (λ (r : List ℕ). wrote_all r lent) same

packed-back : (bytes : List ℕ) (lists word : ℕ) (lent_row lent : List ℕ) → Bytes bytes → (unpack_expression bytes lists word lent_row).number ≡ 0 → length bytes ≤ length lent
    → pack_expression (wrote (unpack_expression bytes lists word lent_row)) lists word lent ≡ wrote_all bytes lent
packed-back bytes lists word lent_row lent small z room =
    let p = turned read_packed row size row-long packed_told bytes lists word lent_row (sym (ap (λ (s : Sent). s.number) (unpack_is bytes lists word lent_row)) ∙ z) in
    let t : Tree = p.tree in
    let same : packed t ≡ bytes = packed-same (there lists word) bytes t small p.is in
    let wrote_it : wrote (unpack_expression bytes lists word lent_row) ≡ row t = ap wrote (unpack_is bytes lists word lent_row ∙ p.sends) ∙ front (row t) lent_row in
    let back : read_row (there lists word) (row t) ≡ accepted t = row_written (there lists word) t (there_narrow lists word (at_most_32 lists p.held)) (packed_reads (there lists word) bytes t p.is) in
    ap (λ (r : List ℕ). pack_expression r lists word lent) wrote_it ∙ pack_is (row t) lists word lent
    ∙ sends-all read_row packed (λ t. length (packed t)) (λ t. refl) row_told (row t) lists word lent t p.held back (rw same room)
    ∙ ap (λ (b : List ℕ). wrote_all b lent) same

-- ---- bytes written, after 6

pub stored_told : (bytes lent : List ℕ) → Told (stored bytes lent)
unfolding stored
stored_told bytes lent = told_test 6 (leb (length bytes) (length lent)) _ (omega arith) told_right

pub stored-sends : (bytes lent : List ℕ) → length bytes ≤ length lent → sent 1 (lent ∷ []) (stored bytes lent) ≡ wrote_all bytes lent
unfolding stored sent over
stored-sends bytes lent room = rw (le-leb (length bytes) (length lent) room)

pub stored-room : (bytes lent : List ℕ) (s : Success) → stored bytes lent ≡ accepted s → length bytes ≤ length lent
unfolding stored
stored-room bytes lent s e = leb-true (length bytes) (length lent) (required 6 (leb (length bytes) (length lent)) _ s e).0

-- ---- deliveries

-- what reading hands back of lists that read
pub read-sends : (bytes numbers ends : List ℕ) (ss : List Supplied) → read_delivery (length numbers) (length ends) bytes ≡ accepted ss
    → let l = laid_out ss in decode_delivery bytes numbers ends ≡ record { number = 0; parts = word_of ss ∷ length ss ∷ length l.numbers ∷ []; rows = (l.numbers ++ drop (length l.numbers) numbers) ∷ (l.ends ++ drop (length l.ends) ends) ∷ [] }
unfolding decode_delivery sent over
read-sends bytes numbers ends ss e = rw e

pub read_by : (bytes numbers ends : List ℕ) → (decode_delivery bytes numbers ends).number ≡ 0 → SuccessOf (read_delivery (length numbers) (length ends) bytes)
unfolding decode_delivery
read_by bytes numbers ends z =
    let all_told = told_then (read_delivery (length numbers) (length ends) bytes) _ (delivery_told (length numbers) (length ends) bytes) (λ ss. told_right) in
    let s = succeeded 3 (numbers ∷ ends ∷ []) _ all_told z in
    let b = bound (read_delivery (length numbers) (length ends) bytes) _ s.got s.is in
    record { got = b.got; is = b.first }

-- the lists are then in the rows
pub lists-there : (n : ℕ) (ends : List ℕ) (ls : List (List ℕ)) → n ≡ length ls → take n (ends_from 0 ls ++ drop (length (ends_from 0 ls)) ends) ≡ ends_from 0 ls
lists-there n ends ls h = ap (λ (n : ℕ). take n (ends_from 0 ls ++ drop (length (ends_from 0 ls)) ends)) (h ∙ sym (ends-length 0 ls)) ∙ take-append_seam (ends_from 0 ls) (drop (length (ends_from 0 ls)) ends)

-- what writing hands back of accepted lists
pub write_sends : (l : Lent) (lent : List ℕ) (ls : List (List ℕ)) → lists_of l ≡ accepted ls → length (delivery (supplied l.word ls)) ≤ length lent → encode_delivery l lent ≡ wrote_all (delivery (supplied l.word ls)) lent
unfolding encode_delivery
write_sends l lent ls e room = rw e (stored-sends (delivery (supplied l.word ls)) lent room)

pub write_room : (l : Lent) (lent : List ℕ) (ls : List (List ℕ)) → lists_of l ≡ accepted ls → (encode_delivery l lent).number ≡ 0 → length (delivery (supplied l.word ls)) ≤ length lent
unfolding encode_delivery
write_room l lent ls e z =
    let all_told = told_then (lists_of l) _ (lists_told l) (λ ls. stored_told (delivery (supplied l.word ls)) lent) in
    let s = succeeded 1 (lent ∷ []) _ all_told z in
    let b = bound (lists_of l) _ s.got s.is in
    let same : b.got ≡ ls = accepted-same (sym b.first ∙ e) in
    subst (λ (ls : List (List ℕ)). length (delivery (supplied l.word ls)) ≤ length lent) same (stored-room (delivery (supplied l.word b.got)) lent s.got b.rest)

-- what decoding leaves of a delivery that reads
pub record Decoded (bytes numbers ends : List ℕ) (ss : List Supplied) : Type 0 where
  pub number : (decode_delivery bytes numbers ends).number ≡ 0
  pub lists : lists_of (left_lent (decode_delivery bytes numbers ends)) ≡ accepted (map supplied_numbers ss)
  pub word : (left_lent (decode_delivery bytes numbers ends)).word ≡ word_of ss

pub decoded_as : (bytes numbers ends : List ℕ) (ss : List Supplied) → read_delivery (length numbers) (length ends) bytes ≡ accepted ss → Decoded bytes numbers ends ss
decoded_as bytes numbers ends ss e =
    let sends = read-sends bytes numbers ends ss e in
    let held = delivery_holds (length numbers) (length ends) bytes ss e in
    let ls : List (List ℕ) = map supplied_numbers ss in
    let rest : List ℕ = drop (length (all_numbers ls)) numbers in
    record {
      number = ap (λ (s : Sent). s.number) sends;
      lists = ap (λ (s : Sent). lists_of (left_lent s)) sends
          ∙ ap (λ (stops : List ℕ). lists_of (lend (all_numbers ls ++ rest) stops (word_of ss))) (lists-there (length ss) ends ls (sym (length-map ss supplied_numbers)))
          ∙ laid-supplied ss rest held.count held.storable;
      word = ap (λ (s : Sent). (left_lent s).word) sends;
    }

lists_back : (l : Lent) (bytes lent_numbers lent_ends : List ℕ) → Numbers l.numbers → (ls : List (List ℕ)) → lists_of l ≡ accepted ls
    → (encode_delivery l bytes).number ≡ 0 → length (all_numbers ls) ≤ length lent_numbers → length ls ≤ length lent_ends
    → let s = decode_delivery (wrote (encode_delivery l bytes)) lent_numbers lent_ends in (s.number ≡ 0) × (lists_of (left_lent s) ≡ accepted ls) × ((left_lent s).word ≡ word_there (length ls) l.word)
lists_back l bytes lent_numbers lent_ends small ls e z room_numbers room_ends =
    let held = storable-accepted l ls small e in
    let ss : List Supplied = supplied l.word ls in
    let are : map supplied_numbers ss ≡ ls = accepted-supplied l ls e in
    let many : length ss ≡ length ls = supplied-length l.word 0 ls in
    let count : count_holds (length ss) ≡ true = ap count_holds many ∙ held.1 in
    let storable = subst Storable (sym are) held.0 in
    let there : wrote (encode_delivery l bytes) ≡ delivery ss = ap wrote (write_sends l bytes ls e (write_room l bytes ls e z)) ∙ front (delivery ss) bytes in
    let reads = delivery-written (length lent_numbers) (length lent_ends) ss count storable (subst (λ (m : List (List ℕ)). length (all_numbers m) ≤ length lent_numbers) (sym are) room_numbers) (rw many room_ends) in
    let d = decoded_as (wrote (encode_delivery l bytes)) lent_numbers lent_ends ss (ap (read_delivery (length lent_numbers) (length lent_ends)) there ∙ reads) in
    (d.number, d.lists ∙ ap accepted are, d.word ∙ word_back l.word ls (at_most_32 (length ls) held.1))

pub delivery-back : (bytes lent_numbers lent_ends lent : List ℕ) → Bytes bytes → (decode_delivery bytes lent_numbers lent_ends).number ≡ 0 → length bytes ≤ length lent
    → encode_delivery (left_lent (decode_delivery bytes lent_numbers lent_ends)) lent ≡ wrote_all bytes lent
delivery-back bytes lent_numbers lent_ends lent small z room =
    let r = read_by bytes lent_numbers lent_ends z in
    let ss : List Supplied = r.got in
    let ls : List (List ℕ) = map supplied_numbers ss in
    let held = delivery_holds (length lent_numbers) (length lent_ends) bytes ss r.is in
    let back : supplied (word_of ss) ls ≡ ss = supplied-back (word_of ss) 0 ss (word_said ss (at_most_32 (length ss) held.count)) in
    let same : delivery (supplied (word_of ss) ls) ≡ bytes = ap delivery back ∙ delivery-same (length lent_numbers) (length lent_ends) bytes ss small r.is in
    let rest : List ℕ = drop (length (all_numbers ls)) lent_numbers in
    ap (λ (s : Sent). encode_delivery (left_lent s) lent) (read-sends bytes lent_numbers lent_ends ss r.is)
    ∙ ap (λ (e : List ℕ). encode_delivery (lend (all_numbers ls ++ rest) e (word_of ss)) lent) (lists-there (length ss) lent_ends ls (sym (length-map ss supplied_numbers)))
    ∙ write_sends (lend (all_numbers ls ++ rest) (ends_from 0 ls) (word_of ss)) lent ls (laid-supplied ss rest held.count held.storable) (rw same room)
    ∙ ap (λ (b : List ℕ). wrote_all b lent) same

pub second_demand : SecondDemand
second_demand = record { row_reads_back = row_back; packed_written_back = packed-back; lists_read_back = lists_back; delivery_written_back = delivery-back }

-- so no two byte strings mean one thing
pub packed-one : (test : LeafTest) (b c : List ℕ) (t : Tree) → Bytes b → Bytes c → read_packed test b ≡ accepted t → read_packed test c ≡ accepted t → b ≡ c
packed-one test b c t hb hc eb ec = sym (packed-same test b t hb eb) ∙ packed-same test c t hc ec

pub delivery-one : (numbers_room ends_room : ℕ) (b c : List ℕ) (ss : List Supplied) → Bytes b → Bytes c → read_delivery numbers_room ends_room b ≡ accepted ss → read_delivery numbers_room ends_room c ≡ accepted ss → b ≡ c
delivery-one numbers_room ends_room b c ss hb hc eb ec = sym (delivery-same numbers_room ends_room b ss hb eb) ∙ delivery-same numbers_room ends_room c ss hc ec
