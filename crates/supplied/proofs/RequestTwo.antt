-- Request Two, proved: the word says which lists came, and nothing but that; what was written reads back with it; a reading that names
-- an undelivered list is refused; the two moves are each other's way back. Assumes nothing but that the elements of the rows of numbers
-- are numbers, which their type says.
use mathlib.Core.Path.{◌≡◌, refl, sym, ap, ap₂, ◌∙◌, subst}
use mathlib.Core.Bool.{Bool, true, false, ◌&&◌, ◌||◌, cond}
use mathlib.Core.List.{List, [], ◌∷◌, ◌++◌, map}
use mathlib.Core.Option.{none}
use Prim.Native.Nat.{ℕ, zero, suc, ◌+◌, ◌≤◌, ◌<◌}
use native.Mathlib.Omega.{arith}
use native.Mathlib.Nat.{add-zero, zero-add}
use lib.Dec.{ltb, leb, eqb}
use borrow.Author.Tests.{lt-ltb, le-ltb, lt-leb, le-leb, ne_eqb}
use lib.ListN.{length, get_or, replicate, length-replicate, length-map}
use Rattle.model.specs.Outcome.{Outcome, refused, accepted, ◌>>=◌, ◌>>◌, require, Success, Sent, sent}
use Rattle.model.specs.Lists.{top, Numbers, lists_from, count_holds, ends_hold, delivered, word_holds, Lent, lend, lists_of, or_empty, span_of}
use Rattle.model.specs.Expression.{Tree, size}
use Rattle.model.specs.Sets.{all_numbers}
use Rattle.model.specs.Run.{Start, Source, named_in, source_of, run_of}
use Rattle.model.specs.Fields.{Bytes, bits, value, take_field, only_fill}
use Rattle.model.specs.Forms.{row, packed, there, take_byte, take_node, read_tree, read_row, read_packed}
use Rattle.model.specs.Delivery.{by_count, Supplied, undelivered, came, supplied_numbers, is_delivered, all_delivered, by_bit, read_stored, delivery, read_delivery, old_delivery, supplied_from, supplied, word_of}
use Rattle.model.specs.Calls.{ends_from, laid_out, run_size, unpack_expression, pack_expression, decode_delivery, stored, encode_delivery, upgrade_delivery, downgrade_delivery, run_call}
use Rattle.model.specs.Program.{halves, listing_of, listing}
use Rattle.model.specs.Demands.{Named, wrote, left_lent, wrote_all, word_there}
use Rattle.model.specs.Update.{Change, changed, shown, shows, is_new, has_room, fits, update_of, update}
use Rattle.model.specs.RequestTwo.{refused_by, every_bit, SameThere, all_came, Contradicted, Ignored, NotAnswered, Undelivered, RequestTwo}
use Rattle.model.proofs.Order.{not_both, split}
use Rattle.model.proofs.Accepted.{lists_accepted, accepted-same, bound, required, row_reads, packed_reads}
use Rattle.model.proofs.Deliveries.{by_count_reads_back, by_bit_reads_back, form-same, delivery_holds, came-numbers, numbers-came, came-all, old_as_new, new_as_old, stored_too, stored_fits}
use Rattle.model.proofs.Bits.{bits-append}
use Rattle.model.proofs.Word.{word-says, word_absent, word_back, supplied-length, EmptyWhere}
use Rattle.model.proofs.Laid.{at_most_32, ends-length, storable-accepted, accepted-many, accepted_empty}
use Rattle.model.proofs.DemandThree.{source-accepted, demand_three}
use Rattle.model.proofs.Told.{SuccessOf, told_then, told_test, sent-number, succeeded, lists_told, old_told, stored_told as read_told}
use Rattle.model.proofs.RoundTrips.{front, second_demand, stored_told, stored-sends, stored-room, read_by, decoded_as}
use Rattle.supplied.proofs.Judged.{judge, tree_judged, packed_judged, row_judged, or_18, judged_18, named-came}
use Rattle.supplied.proofs.Behind.{tree_on, byte_on, packed_on}
use Rattle.supplied.proofs.Only18.{from_right, from_then, from_and, from_test, packed_from, row_from, there_from, source_from}

-- ---- words that differ only in bits of lists that are not there

same-leaves : (lists word other : ℕ) → SameThere lists word other → there lists word ≡ there lists other
unfolding there
same-leaves lists word other h = λ i k. leaf k i
  where
    leaf : (k : ℕ) → (require 4 (ltb k lists) >> require 18 (delivered word k)) ≡ (require 4 (ltb k lists) >> require 18 (delivered other k))
    leaf k = split _ k lists (λ lt. rw (h k lt) refl) (λ ge. rw (le-ltb k lists ge) refl)

same-holds : (word other k start : ℕ) (ends : List ℕ) → ((j : ℕ) → j < length ends → delivered word (k + j) ≡ delivered other (k + j)) → word_holds word k start ends ≡ word_holds other k start ends
unfolding word_holds
same-holds word other k start [] h = refl
same-holds word other k start (stop ∷ ends) h =
    ap₂ (λ (a b : Bool). (a || eqb start stop) && b) (rw (add-zero k) at (h 0 (omega arith)))
    (same-holds word other (suc k) stop ends (λ j lt. let e : k + suc j ≡ suc k + j = omega arith in rw e at (h (suc j) (omega arith))))

same-supplied : (word other k : ℕ) (ls : List (List ℕ)) → ((j : ℕ) → j < length ls → delivered word (k + j) ≡ delivered other (k + j)) → supplied_from word k ls ≡ supplied_from other k ls
unfolding supplied_from
same-supplied word other k [] h = refl
same-supplied word other k (l ∷ ls) h =
    ap₂ (λ (a : Bool) (r : List Supplied). cond a (came l) undelivered ∷ r) (rw (add-zero k) at (h 0 (omega arith)))
    (same-supplied word other (suc k) ls (λ j lt. let e : k + suc j ≡ suc k + j = omega arith in rw e at (h (suc j) (omega arith))))

module _ (l : Lent) (other : ℕ) (h : SameThere (length l.ends) l.word other) where
  abbrev m : Lent
  m = lend l.numbers l.ends other

  on : (n : ℕ) → n ≡ length l.ends → (j : ℕ) → j < n → delivered l.word (0 + j) ≡ delivered other (0 + j)
  on n e j lt = rw (zero-add j) (h j (omega arith))

  tested-same : lists_of l ≡ lists_of m
  unfolding lists_of
  tested-same = rw (same-holds l.word other 0 0 l.ends (on (length l.ends) refl)) refl

  named-same : named_in l ≡ named_in m
  named-same = same-leaves (length l.ends) l.word other h

  source-same : (expression : List ℕ) → source_of l expression ≡ source_of m expression
  unfolding source_of
  source-same expression = rw (tested-same, named-same) refl

  part_same : (k : ℕ) → span_of l k ≡ span_of m k
  unfolding span_of
  part_same k = rw tested-same refl

  written_same : (lent : List ℕ) → encode_delivery l lent ≡ encode_delivery m lent
  unfolding encode_delivery
  written_same lent = rw (← tested-same) (go (lists_of l) refl)
    where
      go : (o : Outcome (List (List ℕ))) → lists_of l ≡ o → sent 1 (lent ∷ []) (o >>= λ ls. stored (delivery (supplied l.word ls)) lent) ≡ sent 1 (lent ∷ []) (o >>= λ ls. stored (delivery (supplied other ls)) lent)
      go (refused n) e = refl
      go (accepted ls) e = ap (λ (ss : List Supplied). sent 1 (lent ∷ []) (stored (delivery ss) lent)) (same-supplied l.word other 0 ls (on (length ls) (accepted-many l ls e)))

  ignored : Ignored l m
  unfolding run_call run_of update update_of fits
  ignored = record {
    tested = tested-same;
    part = part_same;
    written = written_same;
    run = λ expression start codes ds lent. rw (source-same expression) refl;
    updated = λ expression c kept count. rw (source-same expression, named-same) refl;
  }

ignored_packed : (bytes : List ℕ) (lists word other : ℕ) (lent : List ℕ) → SameThere lists word other → unpack_expression bytes lists word lent ≡ unpack_expression bytes lists other lent
unfolding unpack_expression
ignored_packed bytes lists word other lent h = rw (same-leaves lists word other h) refl

ignored_row : (row : List ℕ) (lists word other : ℕ) (lent : List ℕ) → SameThere lists word other → pack_expression row lists word lent ≡ pack_expression row lists other lent
unfolding pack_expression
ignored_row row lists word other lent h = rw (same-leaves lists word other h) refl

-- ---- a word that contradicts the ends

and_false : (b : Bool) → b && false ≡ false
and_false true = refl
and_false false = refl

not_held : (word k start : ℕ) (ends : List ℕ) (j : ℕ) → j < length ends → delivered word (k + j) ≡ false → (get_or (start ∷ ends) j 0 ≡ get_or ends j 0 → ⊥) → word_holds word k start ends ≡ false
unfolding word_holds
not_held word k start [] j lt d ne = absurd (omega arith)
not_held word k start (stop ∷ ends) zero lt d ne = rw (rw (add-zero k) at d, ne_eqb start stop ne) refl
not_held word k start (stop ∷ ends) (suc j) lt d ne =
    let e : k + suc j ≡ suc k + j = omega arith in
    rw (not_held word (suc k) stop ends j (omega arith) (rw e at d) ne) (and_false (delivered word k || eqb start stop))

ten : (l : Lent) → count_holds (length l.ends) ≡ true → ends_hold (length l.numbers) 0 l.ends && word_holds l.word 0 0 l.ends ≡ false → lists_of l ≡ refused 10
unfolding lists_of
ten l count falls = rw (count, falls) refl

contradicted : (l : Lent) → count_holds (length l.ends) ≡ true → (k : ℕ) → k < length l.ends → delivered l.word k ≡ false → (get_or (0 ∷ l.ends) k 0 ≡ get_or l.ends k 0 → ⊥) → Contradicted l
unfolding span_of or_empty encode_delivery run_call run_of source_of update update_of sent
contradicted l count k lt d ne = record {
  tested = is;
  part = λ j. rw is refl;
  written = λ lent. rw is refl;
  run = λ expression start codes ds lent. rw is refl;
  updated = λ expression c kept many. rw is refl;
}
  where
    falls : ends_hold (length l.numbers) 0 l.ends && word_holds l.word 0 0 l.ends ≡ false
    falls = rw (not_held l.word 0 0 l.ends k lt (rw (zero-add k) d) ne) (and_false (ends_hold (length l.numbers) 0 l.ends))

    is : lists_of l ≡ refused 10
    is = ten l count falls

-- ---- an undelivered list has the empty part at its own place

empty_at : (word k : ℕ) (ls : List (List ℕ)) (j : ℕ) → EmptyWhere word k ls → delivered word (k + j) ≡ false → get_or ls j [] ≡ []
empty_at word k [] j h d = refl
empty_at word k (l ∷ ls) zero h d = h.0 (rw (add-zero k) at d)
empty_at word k (l ∷ ls) (suc j) h d = let e : k + suc j ≡ suc k + j = omega arith in empty_at word (suc k) ls j h.1 (rw e at d)

own_place : (l : Lent) (ls : List (List ℕ)) → lists_of l ≡ accepted ls → (k : ℕ) → k < length l.ends → delivered l.word k ≡ false → span_of l k ≡ record { start = get_or (0 ∷ l.ends) k 0; size = 0 }
unfolding span_of or_empty
own_place l ls e k lt d = rw (e, lt-ltb k (length ls) (omega (arith, accepted-many l ls e)), empty_at l.word 0 ls k (accepted_empty l ls e) (rw (zero-add k) d)) refl

-- ---- deliveries: no two byte strings mean one thing; a delivered list and one that was not are told apart

one_meaning : (bytes others lent_numbers lent_ends : List ℕ) → Bytes bytes → Bytes others → (decode_delivery bytes lent_numbers lent_ends).number ≡ 0
    → decode_delivery bytes lent_numbers lent_ends ≡ decode_delivery others lent_numbers lent_ends → bytes ≡ others
one_meaning bytes others lent_numbers lent_ends small smalls z same =
    let lent : List ℕ = replicate (length bytes + length others) 0 in
    let long : length lent ≡ length bytes + length others = length-replicate (length bytes + length others) 0 in
    let back = second_demand.delivery_written_back bytes lent_numbers lent_ends lent small z (omega arith) in
    let backs = second_demand.delivery_written_back others lent_numbers lent_ends lent smalls (sym (ap (λ (s : Sent). s.number) same) ∙ z) (omega arith) in
    sym (front bytes lent) ∙ ap wrote (sym back ∙ ap (λ (s : Sent). encode_delivery (left_lent s) lent) same ∙ backs) ∙ front others lent

-- what was written has accepted lists
wrote_lists : (l : Lent) (lent : List ℕ) → (encode_delivery l lent).number ≡ 0 → SuccessOf (lists_of l)
unfolding encode_delivery
wrote_lists l lent z =
    let s = succeeded 1 (lent ∷ []) _ (told_then (lists_of l) _ (lists_told l) (λ ls. stored_told (delivery (supplied l.word ls)) lent)) z in
    let b = bound (lists_of l) _ s.got s.is in
    record { got = b.got; is = b.first }

-- the word that is read back says of each list that is there what the one that was lent says
supplied-says : (word k : ℕ) (ls : List (List ℕ)) (j : ℕ) → j < length ls → get_or (map is_delivered (supplied_from word k ls)) j false ≡ delivered word (k + j)
unfolding supplied_from is_delivered
supplied-says word k [] j lt = absurd (omega arith)
supplied-says word k (l ∷ ls) zero lt = first (delivered word k) ∙ ap (delivered word) (sym (add-zero k))
  where
    first : (b : Bool) → is_delivered (cond b (came l) undelivered) ≡ b
    first true = refl
    first false = refl
supplied-says word k (l ∷ ls) (suc j) lt = supplied-says word (suc k) ls j (omega arith) ∙ ap (delivered word) {x = suc k + j} {y = k + suc j} (omega arith)

back-says : (word : ℕ) (ls : List (List ℕ)) (k : ℕ) → length ls ≤ 32 → k < length ls → delivered (word_there (length ls) word) k ≡ delivered word k
back-says word ls k few lt =
    ap (λ (w : ℕ). delivered w k) (sym (word_back word ls few)) ∙ word-says (supplied word ls) k (omega (arith, supplied-length word 0 ls)) ∙ supplied-says word 0 ls k lt ∙ ap (delivered word) (zero-add k)

told_apart : (numbers ends : List ℕ) (word other k : ℕ) (lent : List ℕ) → Numbers numbers → k < length ends → delivered word k ≡ true → delivered other k ≡ false
    → (encode_delivery (lend numbers ends word) lent).number ≡ 0 → (encode_delivery (lend numbers ends other) lent).number ≡ 0
    → wrote (encode_delivery (lend numbers ends word) lent) ≡ wrote (encode_delivery (lend numbers ends other) lent) → ⊥
told_apart numbers ends word other k lent small lt here absent z zs same = not_both here (sym (says word z) ∙ ap (λ (s : Sent). delivered (left_lent s).word k) (ap (λ (b : List ℕ). decode_delivery b rows stops) same) ∙ says other zs ∙ absent)
  where
    rows : List ℕ
    rows = replicate (length (all_numbers (lists_from numbers 0 ends))) 0

    stops : List ℕ
    stops = replicate (length ends) 0

    says : (w : ℕ) → (encode_delivery (lend numbers ends w) lent).number ≡ 0 → delivered (left_lent (decode_delivery (wrote (encode_delivery (lend numbers ends w) lent)) rows stops)).word k ≡ delivered w k
    says w z =
        let l : Lent = lend numbers ends w in
        let a = wrote_lists l lent z in
        let ls : List (List ℕ) = a.got in
        let many = accepted-many l ls a.is in
        let few = at_most_32 (length ls) (storable-accepted l ls small a.is).1 in
        let back = second_demand.lists_read_back l lent rows stops small ls a.is z (omega (arith, ap (λ (m : List (List ℕ)). length (all_numbers m)) (lists_accepted l ls a.is).are, length-replicate {A = ℕ} (length (all_numbers (lists_from numbers 0 ends))) 0)) (omega (arith, many, length-replicate {A = ℕ} (length ends) 0)) in
        ap (λ (v : ℕ). delivered v k) back.2 ∙ back-says w ls k few (omega (arith, many))

-- "bits for lists that aren't there are 0 in every word handed back"
handed_back : (bytes lent_numbers lent_ends : List ℕ) (k : ℕ) → let s = decode_delivery bytes lent_numbers lent_ends in get_or s.parts 1 0 ≤ k → delivered (get_or s.parts 0 0) k ≡ false
unfolding decode_delivery sent word_of value
handed_back bytes lent_numbers lent_ends k = go (read_delivery (length lent_numbers) (length lent_ends) bytes) refl
  where
    back : List Supplied → Outcome Success
    back ss = let l = laid_out ss in accepted (record { parts = l.word ∷ length ss ∷ length l.numbers ∷ []; written = l.numbers ∷ l.ends ∷ [] })

    go : (o : Outcome (List Supplied)) → read_delivery (length lent_numbers) (length lent_ends) bytes ≡ o
        → let s = sent 3 (lent_numbers ∷ lent_ends ∷ []) (o >>= back) in get_or s.parts 1 0 ≤ k → delivered (get_or s.parts 0 0) k ≡ false
    go (refused n) e h = word_absent [] k (omega arith) (omega arith)
    go (accepted ss) e h = word_absent ss k (at_most_32 (length ss) (delivery_holds (length lent_numbers) (length lent_ends) bytes ss e).count) h

-- ---- the two moves

-- bytes that read are written back the same
old_same : (bytes : List ℕ) (ls : List (List ℕ)) → Bytes bytes → read_stored by_count bytes ≡ accepted ls → old_delivery ls ≡ bytes
unfolding read_stored old_delivery
old_same bytes ls small e = form-same by_count by_count_reads_back none none bytes ls small e

new_same : (bytes : List ℕ) (ss : List Supplied) → Bytes bytes → read_stored by_bit bytes ≡ accepted ss → delivery ss ≡ bytes
unfolding read_stored delivery
new_same bytes ss small e = form-same by_bit by_bit_reads_back none none bytes ss small e

-- what a move that hands back 0 has read
upgrade_read : (bytes lent : List ℕ) → (upgrade_delivery bytes lent).number ≡ 0 → SuccessOf (read_stored by_count bytes)
unfolding upgrade_delivery
upgrade_read bytes lent z =
    let s = succeeded 1 (lent ∷ []) _ (told_then (read_stored by_count bytes) _ (old_told bytes) (λ ls. stored_told (delivery (map came ls)) lent)) z in
    let b = bound (read_stored by_count bytes) _ s.got s.is in
    record { got = b.got; is = b.first }

downgrade_read : (bytes lent : List ℕ) → (downgrade_delivery bytes lent).number ≡ 0 → SuccessOf (read_stored by_bit bytes)
unfolding downgrade_delivery
downgrade_read bytes lent z =
    let s = succeeded 1 (lent ∷ []) _ (told_then (read_stored by_bit bytes) _ (read_told bytes) (λ ss. told_test 19 (all_delivered ss) _ (omega arith) (stored_told (old_delivery (map supplied_numbers ss)) lent))) z in
    let b = bound (read_stored by_bit bytes) _ s.got s.is in
    record { got = b.got; is = b.first }

-- and what it sends back
up-sends : (bytes lent : List ℕ) (ls : List (List ℕ)) → read_stored by_count bytes ≡ accepted ls → length (delivery (map came ls)) ≤ length lent → upgrade_delivery bytes lent ≡ wrote_all (delivery (map came ls)) lent
unfolding upgrade_delivery
up-sends bytes lent ls e room = rw e (stored-sends (delivery (map came ls)) lent room)

down_sends : (bytes lent : List ℕ) (ss : List Supplied) → read_stored by_bit bytes ≡ accepted ss → all_delivered ss ≡ true → length (old_delivery (map supplied_numbers ss)) ≤ length lent → downgrade_delivery bytes lent ≡ wrote_all (old_delivery (map supplied_numbers ss)) lent
unfolding downgrade_delivery
down_sends bytes lent ss e d room = rw (e, d) (stored-sends (old_delivery (map supplied_numbers ss)) lent room)

-- where it hands back 0 there is room
stored-zero : (bytes lent : List ℕ) → (sent 1 (lent ∷ []) (stored bytes lent)).number ≡ 0 → length bytes ≤ length lent
stored-zero bytes lent z = let s = succeeded 1 (lent ∷ []) (stored bytes lent) (stored_told bytes lent) z in stored-room bytes lent s.got s.is

up-wrote : (bytes lent : List ℕ) → (upgrade_delivery bytes lent).number ≡ 0 → (ls : List (List ℕ)) → read_stored by_count bytes ≡ accepted ls → wrote (upgrade_delivery bytes lent) ≡ delivery (map came ls)
unfolding upgrade_delivery
up-wrote bytes lent z ls e = ap wrote (up-sends bytes lent ls e (stored-zero (delivery (map came ls)) lent (rw e at z))) ∙ front (delivery (map came ls)) lent

down_came : (bytes lent : List ℕ) → (downgrade_delivery bytes lent).number ≡ 0 → (ss : List Supplied) → read_stored by_bit bytes ≡ accepted ss → all_delivered ss ≡ true
unfolding downgrade_delivery sent
down_came bytes lent z ss e = go (all_delivered ss) refl (rw e at z)
  where
    go : (b : Bool) → all_delivered ss ≡ b → (sent 1 (lent ∷ []) (require 19 b >> stored (old_delivery (map supplied_numbers ss)) lent)).number ≡ 0 → all_delivered ss ≡ true
    go true h z = h
    go false h z = absurd (omega arith)

down_wrote : (bytes lent : List ℕ) → (downgrade_delivery bytes lent).number ≡ 0 → (ss : List Supplied) → read_stored by_bit bytes ≡ accepted ss → wrote (downgrade_delivery bytes lent) ≡ old_delivery (map supplied_numbers ss)
unfolding downgrade_delivery
down_wrote bytes lent z ss e =
    let d = down_came bytes lent z ss e in
    ap wrote (down_sends bytes lent ss e d (stored-zero (old_delivery (map supplied_numbers ss)) lent (rw (e, d) at z))) ∙ front (old_delivery (map supplied_numbers ss)) lent

-- there and back, in both directions
upgraded : (bytes lent back : List ℕ) → Bytes bytes → (upgrade_delivery bytes lent).number ≡ 0 → length bytes ≤ length back
    → downgrade_delivery (wrote (upgrade_delivery bytes lent)) back ≡ wrote_all bytes back
upgraded bytes lent back small z room =
    let r = upgrade_read bytes lent z in
    let ls : List (List ℕ) = r.got in
    let same : old_delivery (map supplied_numbers (map came ls)) ≡ bytes = ap old_delivery (came-numbers ls) ∙ old_same bytes ls small r.is in
    ap (λ (b : List ℕ). downgrade_delivery b back) (up-wrote bytes lent z ls r.is)
    ∙ down_sends (delivery (map came ls)) back (map came ls) (old_as_new bytes ls r.is) (came-all ls) (rw same room) ∙ ap (λ (b : List ℕ). wrote_all b back) same

downgraded : (bytes lent back : List ℕ) → Bytes bytes → (downgrade_delivery bytes lent).number ≡ 0 → length bytes ≤ length back
    → upgrade_delivery (wrote (downgrade_delivery bytes lent)) back ≡ wrote_all bytes back
downgraded bytes lent back small z room =
    let r = downgrade_read bytes lent z in
    let ss : List Supplied = r.got in
    let same : delivery (map came (map supplied_numbers ss)) ≡ bytes = ap delivery (numbers-came ss (down_came bytes lent z ss r.is)) ∙ new_same bytes ss small r.is in
    ap (λ (b : List ℕ). upgrade_delivery b back) (down_wrote bytes lent z ss r.is)
    ∙ up-sends (old_delivery (map supplied_numbers ss)) back (map supplied_numbers ss) (new_as_old bytes ss r.is) (rw same room) ∙ ap (λ (b : List ℕ). wrote_all b back) same

-- every list came
came-says : (ls : List (List ℕ)) (k : ℕ) → k < length ls → get_or (map is_delivered (map came ls)) k false ≡ true
unfolding is_delivered
came-says [] k lt = absurd (omega arith)
came-says (l ∷ ls) zero lt = refl
came-says (l ∷ ls) (suc k) lt = came-says ls k (omega arith)

same_lists : (bytes lent lent_numbers lent_ends : List ℕ) → (upgrade_delivery bytes lent).number ≡ 0 → (ls : List (List ℕ)) → read_stored by_count bytes ≡ accepted ls
    → length (all_numbers ls) ≤ length lent_numbers → length ls ≤ length lent_ends
    → let s = decode_delivery (wrote (upgrade_delivery bytes lent)) lent_numbers lent_ends in (s.number ≡ 0) × (lists_of (left_lent s) ≡ accepted ls) × ((k : ℕ) → k < length ls → delivered (left_lent s).word k ≡ true)
same_lists bytes lent lent_numbers lent_ends z ls e room rooms =
    let are = came-numbers ls in
    let many : length (map came ls) ≡ length ls = length-map ls came in
    let moved : read_stored by_bit (wrote (upgrade_delivery bytes lent)) ≡ accepted (map came ls) = ap (read_stored by_bit) (up-wrote bytes lent z ls e) ∙ old_as_new bytes ls e in
    let read = stored_fits (length lent_numbers) (length lent_ends) (wrote (upgrade_delivery bytes lent)) (map came ls) moved (omega (arith, ap (λ (m : List (List ℕ)). length (all_numbers m)) are)) (omega (arith, many)) in
    let d = decoded_as (wrote (upgrade_delivery bytes lent)) lent_numbers lent_ends (map came ls) read in
    let few = at_most_32 (length (map came ls)) (delivery_holds (length lent_numbers) (length lent_ends) (wrote (upgrade_delivery bytes lent)) (map came ls) read).count in
    (d.number, d.lists ∙ ap accepted are, λ k lt. ap (λ (w : ℕ). delivered w k) d.word ∙ word-says (map came ls) k few ∙ came-says ls k lt)

same_lists_back : (bytes lent lent_numbers lent_ends : List ℕ) → (downgrade_delivery bytes lent).number ≡ 0 → (decode_delivery bytes lent_numbers lent_ends).number ≡ 0
    → read_stored by_count (wrote (downgrade_delivery bytes lent)) ≡ lists_of (left_lent (decode_delivery bytes lent_numbers lent_ends))
same_lists_back bytes lent lent_numbers lent_ends z y =
    let r = read_by bytes lent_numbers lent_ends y in
    let e = stored_too (length lent_numbers) (length lent_ends) bytes r.got r.is in
    ap (read_stored by_count) (down_wrote bytes lent z r.got e) ∙ new_as_old bytes r.got e ∙ sym (decoded_as bytes lent_numbers lent_ends r.got r.is).lists

-- the reading's own tests first, and 6 last
upgrade_tests : (bytes lent : List ℕ) (n : ℕ) → read_stored by_count bytes ≡ refused n → upgrade_delivery bytes lent ≡ refused_by n 1 (lent ∷ [])
unfolding upgrade_delivery sent
upgrade_tests bytes lent n e = rw e refl

upgrade_short : (bytes lent : List ℕ) (ls : List (List ℕ)) → read_stored by_count bytes ≡ accepted ls → length lent < length (delivery (map came ls)) → upgrade_delivery bytes lent ≡ refused_by 6 1 (lent ∷ [])
unfolding upgrade_delivery sent stored
upgrade_short bytes lent ls e short = rw (e, lt-leb (length (delivery (map came ls))) (length lent) short) refl

downgrade_tests : (bytes lent : List ℕ) (n : ℕ) → read_stored by_bit bytes ≡ refused n → downgrade_delivery bytes lent ≡ refused_by n 1 (lent ∷ [])
unfolding downgrade_delivery sent
downgrade_tests bytes lent n e = rw e refl

downgrade_short : (bytes lent : List ℕ) (ss : List Supplied) → read_stored by_bit bytes ≡ accepted ss → all_delivered ss ≡ true → length lent < length (old_delivery (map supplied_numbers ss))
    → downgrade_delivery bytes lent ≡ refused_by 6 1 (lent ∷ [])
unfolding downgrade_delivery sent stored
downgrade_short bytes lent ss e d short = rw (e, d, lt-leb (length (old_delivery (map supplied_numbers ss))) (length lent) short) refl

refused_19 : (bytes lent : List ℕ) (ss : List Supplied) → read_stored by_bit bytes ≡ accepted ss → all_delivered ss ≡ false → downgrade_delivery bytes lent ≡ refused_by 19 1 (lent ∷ [])
unfolding downgrade_delivery sent
refused_19 bytes lent ss e d = rw (e, d) refl

past_19 : (bytes lent : List ℕ) (ss : List Supplied) → read_stored by_bit bytes ≡ accepted ss → all_delivered ss ≡ true → (downgrade_delivery bytes lent).number ≡ 19 → ⊥
unfolding downgrade_delivery sent stored
past_19 bytes lent ss e d n = go (leb (length (old_delivery (map supplied_numbers ss))) (length lent)) (rw (e, d) at n)
  where
    go : (b : Bool) → (sent 1 (lent ∷ []) (require 6 b >> accepted (record { parts = length (old_delivery (map supplied_numbers ss)) ∷ []; written = old_delivery (map supplied_numbers ss) ∷ [] }))).number ≡ 19 → ⊥
    go true n = omega arith
    go false n = omega arith

-- ---- 18

all_came_there : (l : Lent) (expression : List ℕ) (s : Source) → source_of l expression ≡ accepted s → all_came l.word s.tree ≡ true
all_came_there l expression s e = named-came (length l.ends) l.word s.tree (packed_reads (named_in l) expression s.tree (source-accepted l expression s e).1).named

-- with this word, what reads where every list was delivered
packed_told_18 : (lists word : ℕ) (bs : List ℕ) (t : Tree) → read_packed (there lists every_bit) bs ≡ accepted t → read_packed (there lists word) bs ≡ or_18 (all_came word t) >> accepted t
packed_told_18 lists word bs t e =
    packed_judged (there lists every_bit) (there lists word) bs t e ∙ ap (λ (o : Outcome (Unit {0})). o >> accepted t) (judged_18 lists every_bit word t (packed_reads (there lists every_bit) bs t e).named)

row_told_18 : (lists word : ℕ) (bs : List ℕ) (t : Tree) → read_row (there lists every_bit) bs ≡ accepted t → read_row (there lists word) bs ≡ or_18 (all_came word t) >> accepted t
row_told_18 lists word bs t e =
    row_judged (there lists every_bit) (there lists word) bs t e ∙ ap (λ (o : Outcome (Unit {0})). o >> accepted t) (judged_18 lists every_bit word t (row_reads (there lists every_bit) bs t e).named)

came_answered : (l : Lent) (ls : List (List ℕ)) (expression : List ℕ) (t : Tree) → lists_of l ≡ accepted ls → read_packed (there (length l.ends) every_bit) expression ≡ accepted t
    → all_came l.word t ≡ true → source_of l expression ≡ accepted (record { lists = ls; tree = t })
unfolding source_of
came_answered l ls expression t e f d =
    let is : read_packed (named_in l) expression ≡ accepted t = packed_told_18 (length l.ends) l.word expression t f ∙ ap (λ (b : Bool). or_18 b >> accepted t) d in
    rw (e, is) refl

refused_18 : (l : Lent) (ls : List (List ℕ)) (expression : List ℕ) (t : Tree) → lists_of l ≡ accepted ls → read_packed (there (length l.ends) every_bit) expression ≡ accepted t
    → all_came l.word t ≡ false → NotAnswered l expression
unfolding run_call run_of source_of update update_of sent
refused_18 l ls expression t e f d =
    let is : read_packed (named_in l) expression ≡ refused 18 = packed_told_18 (length l.ends) l.word expression t f ∙ ap (λ (b : Bool). or_18 b >> accepted t) d in
    record { run = λ start codes ds lent. rw (e, is) refl; updated = λ c kept count. rw (e, is) refl }

list_18 : (l : Lent) (expression : List ℕ) (s : Source) → source_of l expression ≡ accepted s → (c : Change) (kept : List ℕ) (count : ℕ) → c.list < length l.ends → delivered l.word c.list ≡ false
    → update l expression c kept count ≡ refused_by 18 0 (l.numbers ∷ l.ends ∷ kept ∷ (count ∷ []) ∷ [])
unfolding update update_of there sent
list_18 l expression s e c kept count lt d = rw (e, lt-ltb c.list (length l.ends) lt, d) refl

packed_18 : (bytes : List ℕ) (lists word : ℕ) (lent : List ℕ) (t : Tree) → count_holds lists ≡ true → read_packed (there lists every_bit) bytes ≡ accepted t
    → unpack_expression bytes lists word lent ≡ elim (all_came word t) [ true ↦ unpack_expression bytes lists every_bit lent | false ↦ refused_by 18 1 (lent ∷ []) ]
unfolding unpack_expression sent
packed_18 bytes lists word lent t count e = go (all_came word t) refl
  where
    go : (b : Bool) → all_came word t ≡ b → unpack_expression bytes lists word lent ≡ elim b [ true ↦ unpack_expression bytes lists every_bit lent | false ↦ refused_by 18 1 (lent ∷ []) ]
    go true h = let is : read_packed (there lists word) bytes ≡ accepted t = packed_told_18 lists word bytes t e ∙ ap (λ (b : Bool). or_18 b >> accepted t) h in rw (count, is, e) refl
    go false h = let is : read_packed (there lists word) bytes ≡ refused 18 = packed_told_18 lists word bytes t e ∙ ap (λ (b : Bool). or_18 b >> accepted t) h in rw (count, is) refl

row_18 : (bytes : List ℕ) (lists word : ℕ) (lent : List ℕ) (t : Tree) → count_holds lists ≡ true → read_row (there lists every_bit) bytes ≡ accepted t
    → pack_expression bytes lists word lent ≡ elim (all_came word t) [ true ↦ pack_expression bytes lists every_bit lent | false ↦ refused_by 18 1 (lent ∷ []) ]
unfolding pack_expression sent
row_18 bytes lists word lent t count e = go (all_came word t) refl
  where
    go : (b : Bool) → all_came word t ≡ b → pack_expression bytes lists word lent ≡ elim b [ true ↦ pack_expression bytes lists every_bit lent | false ↦ refused_by 18 1 (lent ∷ []) ]
    go true h = let is : read_row (there lists word) bytes ≡ accepted t = row_told_18 lists word bytes t e ∙ ap (λ (b : Bool). or_18 b >> accepted t) h in rw (count, is, e) refl
    go false h = let is : read_row (there lists word) bytes ≡ refused 18 = row_told_18 lists word bytes t e ∙ ap (λ (b : Bool). or_18 b >> accepted t) h in rw (count, is) refl

-- with more behind it the same leaf is refused
packed_18_there : (bytes behind : List ℕ) (lists word : ℕ) (lent : List ℕ) (t : Tree) → count_holds lists ≡ true → read_packed (there lists every_bit) bytes ≡ accepted t → all_came word t ≡ false
    → unpack_expression (bytes ++ behind) lists word lent ≡ refused_by 18 1 (lent ∷ [])
unfolding unpack_expression read_packed sent
packed_18_there bytes behind lists word lent t count e d =
    let a = bound (read_tree (there lists every_bit) (take_node take_field) 12 0 (bits bytes)) _ t e in
    let b = required 5 (only_fill a.got.2) _ t a.rest in
    let q : a.got.0 ≡ t = accepted-same b.1 in
    let on = tree_on (there lists every_bit) (take_node take_field) (λ s. s ++ bits behind) (packed_on (bits behind)) 12 0 (bits bytes) a.got a.first in
    let told = tree_judged (there lists every_bit) (there lists word) (take_node take_field) 12 0 (bits bytes ++ bits behind) _ on in
    let named : Named (there lists every_bit) a.got.0 = subst (Named (there lists every_bit)) (sym q) (packed_reads (there lists every_bit) bytes t e).named in
    let is : judge (there lists word) a.got.0 ≡ refused 18 = judged_18 lists every_bit word a.got.0 named ∙ ap or_18 (ap (all_came word) q ∙ d) in
    rw (count, bits-append bytes behind, told, is) refl

row_18_there : (row_form behind : List ℕ) (lists word : ℕ) (lent : List ℕ) (t : Tree) → count_holds lists ≡ true → read_row (there lists every_bit) row_form ≡ accepted t → all_came word t ≡ false
    → pack_expression (row_form ++ behind) lists word lent ≡ refused_by 18 1 (lent ∷ [])
unfolding pack_expression read_row sent
row_18_there row_form behind lists word lent t count e d =
    let a = bound (read_tree (there lists every_bit) take_byte 12 0 row_form) _ t e in
    let b = required 5 (eqb (length a.got.2) 0) _ t a.rest in
    let q : a.got.0 ≡ t = accepted-same b.1 in
    let on = tree_on (there lists every_bit) take_byte (λ s. s ++ behind) (byte_on behind) 12 0 row_form a.got a.first in
    let told = tree_judged (there lists every_bit) (there lists word) take_byte 12 0 (row_form ++ behind) _ on in
    let named : Named (there lists every_bit) a.got.0 = subst (Named (there lists every_bit)) (sym q) (row_reads (there lists every_bit) row_form t e).named in
    let is : judge (there lists word) a.got.0 ≡ refused 18 = judged_18 lists every_bit word a.got.0 named ∙ ap or_18 (ap (all_came word) q ∙ d) in
    rw (count, told, is) refl

-- the program
program : (input expression bytes : List ℕ) (ss : List Supplied) (t : Tree) → length input ≤ 65535 → halves input ≡ accepted (expression, bytes) → read_delivery 4096 32 bytes ≡ accepted ss
    → read_packed (there (length ss) every_bit) expression ≡ accepted t
    → listing input ≡ elim (all_came (word_of ss) t) [ true ↦ accepted (listing_of (map supplied_numbers ss) t) | false ↦ refused 18 ]
unfolding listing
program input expression bytes ss t small h r e = rw (le-leb (length input) 65535 small, h, r) (go (all_came (word_of ss) t) refl)
  where
    many : length (ends_from 0 (map supplied_numbers ss)) ≡ length ss
    many = ends-length 0 (map supplied_numbers ss) ∙ length-map ss supplied_numbers

    is : (b : Bool) → all_came (word_of ss) t ≡ b → read_packed (named_in (laid_out ss)) expression ≡ or_18 b >> accepted t
    is b d = ap (λ (n : ℕ). read_packed (there n (word_of ss)) expression) many ∙ packed_told_18 (length ss) (word_of ss) expression t e ∙ ap (λ (c : Bool). or_18 c >> accepted t) d

    go : (b : Bool) → all_came (word_of ss) t ≡ b → (read_packed (named_in (laid_out ss)) expression >>= λ t. accepted (listing_of (map supplied_numbers ss) t)) ≡ elim b [ true ↦ accepted (listing_of (map supplied_numbers ss) t) | false ↦ refused 18 ]
    go true d = rw (is true d) refl
    go false d = rw (is false d) refl

only_18_packed : (bytes : List ℕ) (lists word : ℕ) (lent : List ℕ) → (unpack_expression bytes lists word lent).number ≡ 18 → Undelivered lists word
unfolding unpack_expression
only_18_packed bytes lists word lent n =
    (from_test 7 (count_holds lists) _ (λ e. omega arith) (from_then (read_packed (there lists word) bytes) _ (packed_from (there lists word) (there_from lists word) bytes) (λ t. from_test 6 (leb (size t) (length lent)) _ (λ e. omega arith) from_right))
    ).says (sent-number 1 (lent ∷ []) _ ∙ n)

only_18_row : (bytes : List ℕ) (lists word : ℕ) (lent : List ℕ) → (pack_expression bytes lists word lent).number ≡ 18 → Undelivered lists word
unfolding pack_expression
only_18_row bytes lists word lent n =
    (from_test 7 (count_holds lists) _ (λ e. omega arith) (from_then (read_row (there lists word) bytes) _ (row_from (there lists word) (there_from lists word) bytes) (λ t. from_test 6 (leb (length (packed t)) (length lent)) _ (λ e. omega arith) from_right))
    ).says (sent-number 1 (lent ∷ []) _ ∙ n)

only_18_run : (l : Lent) (expression : List ℕ) (start : Start) (codes ds lent : List ℕ) → (run_call l expression start codes ds lent).number ≡ 18 → Undelivered (length l.ends) l.word
unfolding run_call run_of
only_18_run l expression start codes ds lent n =
    (from_then _ _ (from_then (source_of l expression) _ (source_from l expression) (λ s. from_test 12 (leb start.bookmark top) _ (λ e. omega arith) (from_test 13 (eqb (length codes) (length ds) && leb (length codes) (length lent)) _ (λ e. omega arith) from_right))) (λ r. from_right)
    ).says (sent-number run_size (lent ∷ []) _ ∙ n)

only_18_update : (l : Lent) (expression : List ℕ) (c : Change) (kept : List ℕ) (count : ℕ) → (update l expression c kept count).number ≡ 18 → Undelivered (length l.ends) l.word
unfolding update update_of
only_18_update l expression c kept count n =
    (from_then _ _ (from_then (source_of l expression) _ (source_from l expression) (λ s. from_and (named_in l c.list) _ (there_from (length l.ends) l.word c.list)
    (from_test 17 (shows kept count (shown s)) _ (λ e. omega arith) (from_test 15 (is_new c s.lists) _ (λ e. omega arith) (from_test 16 (has_room c s.lists) _ (λ e. omega arith) (from_test 6 (fits l kept (changed c s)) _ (λ e. omega arith) from_right)))))) (λ r. from_right)
    ).says (sent-number 0 (l.numbers ∷ l.ends ∷ kept ∷ (count ∷ []) ∷ []) _ ∙ n)

-- the request
pub request_two : RequestTwo
request_two = record {
  stored_forms = second_demand;
  one_meaning = one_meaning;
  told_apart = told_apart;
  handed_back = handed_back;
  ignored = ignored;
  ignored_packed = ignored_packed;
  ignored_row = ignored_row;
  contradicted = contradicted;
  own_place = own_place;
  upgraded = upgraded;
  downgraded = downgraded;
  same_lists = same_lists;
  same_lists_back = same_lists_back;
  upgrade_tests = upgrade_tests;
  upgrade_short = upgrade_short;
  upgrade_moves = up-sends;
  downgrade_tests = downgrade_tests;
  downgrade_short = downgrade_short;
  downgrade_moves = down_sends;
  promised = demand_three;
  came_answered = came_answered;
  all_came_there = all_came_there;
  list_18 = list_18;
  program = program;
  refused_18 = refused_18;
  packed_18 = packed_18;
  row_18 = row_18;
  packed_18_there = packed_18_there;
  row_18_there = row_18_there;
  only_18_packed = only_18_packed;
  only_18_row = only_18_row;
  only_18_run = only_18_run;
  only_18_update = only_18_update;
  refused_19 = refused_19;
  past_19 = past_19;
}
