-- Request Six, proved: what is joined reads back as the unions and is the one byte string of them, nothing is lost of either input, and
-- each number comes where it is due. Assumes nothing but that the elements of a row of bytes are bytes and of a row of numbers numbers,
-- which their types say.
use mathlib.Core.Path.{◌≡◌, refl, sym, ap, ap₂, ◌∙◌, subst}
use mathlib.Core.Bool.{Bool, true, false, ◌||◌}
use mathlib.Core.List.{List, [], ◌∷◌, map}
use mathlib.Core.Option.{none}
use Prim.Native.Nat.{ℕ, ◌≤◌, ◌<◌}
use native.Mathlib.Nat.{zero-add}
use native.Mathlib.Omega.{arith}
use lib.Dec.{leb, eqb}
use borrow.Author.Tests.{leb-true, leb-false, eqb-true, eqb-false, eq-eqb, ne_eqb}
use lib.ListN.{length, get_or, length-map}
use Rattle.model.specs.Outcome.{refused, accepted, ◌>>◌, require, Sent, sent, over}
use Rattle.model.specs.Lists.{Numbers, count_holds, delivered, Lent, part_of}
use Rattle.model.specs.Sets.{among}
use Rattle.model.specs.Fields.{Bytes}
use Rattle.model.specs.Delivery.{Supplied, undelivered, came, supplied_numbers, is_delivered, by_bit, read_stored, delivery, read_delivery, supplied}
use Rattle.model.specs.Calls.{decode_delivery, stored, encode_delivery}
use Rattle.model.specs.Demands.{wrote, wrote_all}
use Rattle.model.specs.RequestTwo.{refused_by}
use Rattle.model.specs.Joined.{join_list, join_lists, lengths_hold, join_deliveries}
use Rattle.model.specs.RequestSix.{ReadsAs, Union, Join, TooLong, NothingLost, Joins, RequestSix}
use Rattle.model.proofs.Order.{or_right, not_both, Up}
use Rattle.model.proofs.Denoted.{up-ascending}
use Rattle.model.proofs.Accepted.{accepted-same}
use Rattle.model.proofs.Deliveries.{Storable, by_bit_reads_back, form-same, delivery-written, stored_too}
use Rattle.model.proofs.Laid.{at_most_32, storable-accepted, accepted-many}
use Rattle.model.proofs.Rooms.{delivery_not_6}
use Rattle.model.proofs.RoundTrips.{front, stored-sends, decoded_as}
use Rattle.model.proofs.Unions.{join-came}
use Rattle.joins.proofs.Unique.{union_only}
use Rattle.joins.proofs.Joining.{nth, join-among, join_up, join_full, join-daily, join-at, join-length, swapped, itself, short-all, storable-short, long-at, long_found, joined_storable, supplied-is}
use Rattle.joins.proofs.Reading.{part-all, Reading, reading}
use Rattle.joins.proofs.Held.{storable-few, numbers-few, bytes-few}
use Rattle.joins.proofs.Kept.{at_least}

none_came : (a : Supplied) → is_delivered a ≡ false → supplied_numbers a ≡ []
unfolding is_delivered supplied_numbers
none_came undelivered h = refl
none_came (came l) h = absurd (not_both refl h)

eqb_swap : (x y : ℕ) → eqb x y ≡ eqb y x
eqb_swap x y = go (eqb x y) refl
  where
    go : (b : Bool) → eqb x y ≡ b → b ≡ eqb y x
    go true e = sym (eq-eqb y x (sym (eqb-true x y e)))
    go false e = sym (ne_eqb y x (λ q. eqb-false x y e (sym q)))

-- a call that has joined and written
record Made (js : List Supplied) (fs ds : List Supplied) (lent : List ℕ) (back : Sent) : Type 0 where
  even : length fs ≡ length ds
  holds : lengths_hold js ≡ true
  is : back ≡ wrote_all (delivery js) lent

-- ---- two deliveries that read
module _ (full daily : List ℕ) (f d : Lent) (a : Reading full f) (b : Reading daily d) where
  abbrev fs : List Supplied
  fs = a.supplied

  abbrev ds : List Supplied
  ds = b.supplied

  abbrev js : List Supplied
  js = join_lists fs ds

  sends : (lent : List ℕ) → join_deliveries full daily lent ≡ sent 1 (lent ∷ []) (require 20 (eqb (length fs) (length ds)) >> (require 21 (lengths_hold js) >> stored (delivery js) lent))
  unfolding join_deliveries
  sends lent = rw (a.read, b.read) refl

  -- the four ways in which the call can end
  ends_as : (P : Sent → Type 0) (lent : List ℕ) → ((length fs ≡ length ds → ⊥) → P (refused_by 20 1 (lent ∷ []))) → (length fs ≡ length ds → lengths_hold js ≡ false → P (refused_by 21 1 (lent ∷ [])))
      → (length fs ≡ length ds → lengths_hold js ≡ true → length lent < length (delivery js) → P (refused_by 6 1 (lent ∷ [])))
      → (length fs ≡ length ds → lengths_hold js ≡ true → length (delivery js) ≤ length lent → P (wrote_all (delivery js) lent)) → P (join_deliveries full daily lent)
  unfolding stored sent over
  ends_as P lent p₂₀ p₂₁ p₆ p₀ = subst P (sym (sends lent)) (go (eqb (length fs) (length ds)) refl (lengths_hold js) refl (leb (length (delivery js)) (length lent)) refl)
    where
      go : (e : Bool) → eqb (length fs) (length ds) ≡ e → (h : Bool) → lengths_hold js ≡ h → (r : Bool) → leb (length (delivery js)) (length lent) ≡ r
          → P (sent 1 (lent ∷ []) (require 20 e >> (require 21 h >> (require 6 r >> accepted (record { parts = length (delivery js) ∷ []; written = delivery js ∷ [] })))))
      go false e h q r l = p₂₀ (eqb-false (length fs) (length ds) e)
      go true e false q r l = p₂₁ (eqb-true (length fs) (length ds) e) q
      go true e true q false l = p₆ (eqb-true (length fs) (length ds) e) q (leb-false (length (delivery js)) (length lent) l)
      go true e true q true l = p₀ (eqb-true (length fs) (length ds) e) q (leb-true (length (delivery js)) (length lent) l)

  made : (lent : List ℕ) → (join_deliveries full daily lent).number ≡ 0 → Made js fs ds lent (join_deliveries full daily lent)
  made lent = ends_as (λ s. s.number ≡ 0 → Made js fs ds lent s) lent (λ h z. absurd (omega arith)) (λ e h z. absurd (omega arith)) (λ e h l z. absurd (omega arith)) (λ e h l z. record { even = e; holds = h; is = refl })

  written : (lent : List ℕ) → length fs ≡ length ds → lengths_hold js ≡ true → length (delivery js) ≤ length lent → join_deliveries full daily lent ≡ wrote_all (delivery js) lent
  written lent e h room = sends lent ∙ rw (eq-eqb (length fs) (length ds) e, h) (stored-sends (delivery js) lent room)

  wrote_it : (lent : List ℕ) → (join_deliveries full daily lent).number ≡ 0 → wrote (join_deliveries full daily lent) ≡ delivery js
  wrote_it lent z = ap wrote (made lent z).is ∙ front (delivery js) lent

  -- ---- equally many lists
  module _ (even : length fs ≡ length ds) where
    count : count_holds (length js) ≡ true
    count = ap count_holds (join-length fs ds even) ∙ a.count

    joined : (k : ℕ) → supplied_numbers (nth js k) ≡ supplied_numbers (join_list (nth fs k) (nth ds k))
    joined k = ap supplied_numbers (join-at fs ds k even)

    joined_up : (k : ℕ) → Up 0 (supplied_numbers (nth js k))
    joined_up k = subst (Up 0) (sym (joined k)) (join_up (nth fs k) (nth ds k) (a.up k) (b.up k))

    joined-among : (k x : ℕ) → among x (supplied_numbers (nth js k)) ≡ among x (part_of f k) || among x (part_of d k)
    joined-among k x = ap (among x) (joined k) ∙ join-among x (nth fs k) (nth ds k) ∙ sym (ap₂ (λ (p q : List ℕ). among x p || among x q) (a.part k) (b.part k))

    joined-came : (k : ℕ) → is_delivered (nth js k) ≡ delivered f.word k || delivered d.word k
    joined-came k = ap is_delivered (join-at fs ds k even) ∙ join-came (nth fs k) (nth ds k) ∙ sym (ap₂ (λ (p q : Bool). p || q) (a.says k) (b.says k))

    union_at : (k : ℕ) → Union (part_of f k) (part_of d k) (supplied_numbers (nth js k))
    union_at k = record { ascends = up-ascending 0 (supplied_numbers (nth js k)) (joined_up k); either = joined-among k }

    only_at : (k : ℕ) (l : List ℕ) → Union (part_of f k) (part_of d k) l → l ≡ supplied_numbers (nth js k)
    only_at k l u = union_only (part_of f k) (part_of d k) (subst (Up 0) (sym (a.part k)) (a.up k)) (subst (Up 0) (sym (b.part k)) (b.up k)) l (supplied_numbers (nth js k)) u (joined_up k) (joined-among k)

    too_long : lengths_hold js ≡ false → TooLong f d
    too_long h = let l = long_found js h in record { list = l.list; joined = supplied_numbers (nth js l.list); is_union = union_at l.list; long = l.long }

    module _ (holds : lengths_hold js ≡ true) where
      storable : Storable (map supplied_numbers js)
      storable = joined_storable fs ds a.storable b.storable holds

      reads : (numbers_room ends_room : ℕ) → 2097120 ≤ numbers_room → 32 ≤ ends_room → read_delivery numbers_room ends_room (delivery js) ≡ accepted js
      reads numbers_room ends_room h₁ h₂ =
          let few = at_most_32 (length js) count in
          delivery-written numbers_room ends_room js count storable (omega (arith, numbers-few (map supplied_numbers js) storable, length-map js supplied_numbers)) (omega arith)

      reads-stored : read_stored by_bit (delivery js) ≡ accepted js
      reads-stored = stored_too 2097120 32 (delivery js) js (reads 2097120 32 (omega arith) (omega arith))

  -- ---- it reads back

  always : (lent lent_numbers lent_ends : List ℕ) → let m = join_deliveries full daily lent in m.number ≡ 0 → 2097120 ≤ length lent_numbers → 32 ≤ length lent_ends → (decode_delivery (wrote m) lent_numbers lent_ends).number ≡ 0
  always lent lent_numbers lent_ends z h₁ h₂ =
      let m = made lent z in
      (decoded_as (wrote (join_deliveries full daily lent)) lent_numbers lent_ends js (ap (read_delivery (length lent_numbers) (length lent_ends)) (wrote_it lent z) ∙ reads m.even m.holds (length lent_numbers) (length lent_ends) h₁ h₂)).number

  module _ (even : length fs ≡ length ds) (bytes : List ℕ) (j : Lent) (r : Reading bytes j) (same : r.supplied ≡ js) where
    part : (k : ℕ) → part_of j k ≡ supplied_numbers (nth js k)
    part k = r.part k ∙ ap (λ (ss : List Supplied). supplied_numbers (nth ss k)) same

    word : (k : ℕ) → delivered j.word k ≡ delivered f.word k || delivered d.word k
    word k = r.says k ∙ ap (λ (ss : List Supplied). is_delivered (nth ss k)) same ∙ joined-came even k

    many : length j.ends ≡ length fs
    many = r.many ∙ ap length same ∙ join-length fs ds even

    full_only : (k : ℕ) → delivered d.word k ≡ false → part_of j k ≡ part_of f k
    full_only k h = part k ∙ joined even k ∙ ap supplied_numbers (join_full (nth fs k) (nth ds k) (sym (b.says k) ∙ h)) ∙ sym (a.part k)

    daily_only : (k : ℕ) → delivered f.word k ≡ false → part_of j k ≡ part_of d k
    daily_only k h = part k ∙ joined even k ∙ ap supplied_numbers (join-daily (nth fs k) (nth ds k) (sym (a.says k) ∙ h)) ∙ sym (b.part k)

    join : Join f d j
    join = record {
      lists = map supplied_numbers r.supplied;
      accepts = r.lists;
      as_full = many ∙ sym a.many;
      as_daily = many ∙ even ∙ sym b.many;
      unions = λ k. subst (Union (part_of f k) (part_of d k)) (sym (part k)) (union_at even k);
      word = λ k lt. word k;
      full_only = full_only;
      daily_only = daily_only;
      neither = λ k lt p q. (word k ∙ ap₂ (λ (x y : Bool). x || y) p q, daily_only k p ∙ b.part k ∙ none_came (nth ds k) (sym (b.says k) ∙ q));
    }

  reads_back : (lent : List ℕ) (j : Lent) → let m = join_deliveries full daily lent in m.number ≡ 0 → ReadsAs (wrote m) j → Join f d j
  reads_back lent j z h =
      let m = made lent z in
      let r = reading (wrote (join_deliveries full daily lent)) j h in
      let same : r.supplied ≡ js = accepted-same (sym r.read ∙ ap (read_stored by_bit) (wrote_it lent z) ∙ reads-stored m.even m.holds) in
      join m.even (wrote (join_deliveries full daily lent)) j r same

  -- ---- it is the one byte string
  module _ (j : Lent) (n : Numbers j.numbers) (w : Join f d j) where
    evenly : length fs ≡ length ds
    evenly = sym a.many ∙ sym w.as_full ∙ w.as_daily ∙ b.many

    lists_at : (k : ℕ) → get_or w.lists k [] ≡ supplied_numbers (nth js k)
    lists_at k = sym (part-all j w.lists w.accepts k) ∙ only_at evenly k (part_of j k) (w.unions k)

    held : lengths_hold js ≡ true
    held = short-all js (λ k. subst (λ (l : List ℕ). length l ≤ 65535) (lists_at k) (storable-few w.lists (storable-accepted j w.lists n w.accepts).0 k))

    are : supplied j.word w.lists ≡ js
    are =
        let ends : length w.lists ≡ length j.ends = accepted-many j w.lists w.accepts in
        let lists : length w.lists ≡ length js = ends ∙ w.as_full ∙ a.many ∙ sym (join-length fs ds evenly) in
        supplied-is j.word 0 w.lists js lists (λ i lt. (ap (delivered j.word) (zero-add i) ∙ w.word i (omega (arith, ends, lists)) ∙ sym (joined-came evenly i), lists_at i))

    one_string : (lent : List ℕ) → join_deliveries full daily lent ≡ encode_delivery j lent
    unfolding encode_delivery
    one_string lent = sends lent ∙ rw (eq-eqb (length fs) (length ds) evenly, held, w.accepts, are) refl

  -- ---- the numbers
  even_ends : length f.ends ≡ length d.ends → length fs ≡ length ds
  even_ends e = sym a.many ∙ e ∙ b.many

  refused_20 : (lent : List ℕ) → (length f.ends ≡ length d.ends → ⊥) → join_deliveries full daily lent ≡ refused_by 20 1 (lent ∷ [])
  unfolding sent
  refused_20 lent h = sends lent ∙ rw (ne_eqb (length fs) (length ds) (λ e. h (a.many ∙ e ∙ sym b.many))) refl

  only_20 : (lent : List ℕ) → (join_deliveries full daily lent).number ≡ 20 → length f.ends ≡ length d.ends → ⊥
  only_20 lent = ends_as (λ s. s.number ≡ 20 → length f.ends ≡ length d.ends → ⊥) lent (λ h z e. h (even_ends e)) (λ e h z q. omega arith) (λ e h l z q. omega arith) (λ e h l z q. omega arith)

  refused_21 : (lent : List ℕ) → length f.ends ≡ length d.ends → TooLong f d → join_deliveries full daily lent ≡ refused_by 21 1 (lent ∷ [])
  unfolding sent
  refused_21 lent e t =
      let even = even_ends e in
      let long : lengths_hold js ≡ false = long-at js t.list (subst (λ (l : List ℕ). 65535 < length l) (only_at even t.list t.joined t.is_union) t.long) in
      sends lent ∙ rw (eq-eqb (length fs) (length ds) even, long) refl

  only_21 : (lent : List ℕ) → (join_deliveries full daily lent).number ≡ 21 → TooLong f d
  only_21 lent = ends_as (λ s. s.number ≡ 21 → TooLong f d) lent (λ h z. absurd (omega arith)) (λ e h z. too_long e h) (λ e h l z. absurd (omega arith)) (λ e h l z. absurd (omega arith))

  only_6 : (lent wide : List ℕ) → (join_deliveries full daily lent).number ≡ 6 → (join_deliveries full daily wide).number ≡ 0 → length lent < length (wrote (join_deliveries full daily wide))
  only_6 lent wide s z =
      let short : length lent < length (delivery js) = ends_as (λ s. s.number ≡ 6 → length lent < length (delivery js)) lent (λ h z. absurd (omega arith)) (λ e h z. absurd (omega arith)) (λ e h l z. l) (λ e h l z. absurd (omega arith)) s in
      subst (λ (bs : List ℕ). length lent < length bs) (sym (wrote_it wide z)) short

  refused_6 : (lent wide : List ℕ) → let m = join_deliveries full daily wide in m.number ≡ 0 → length lent < length (wrote m) → join_deliveries full daily lent ≡ refused_by 6 1 (lent ∷ [])
  refused_6 lent wide z short =
      let m = made wide z in
      let less : length lent < length (delivery js) = subst (λ (bs : List ℕ). length lent < length bs) (wrote_it wide z) short in
      ends_as (λ s. s ≡ refused_by 6 1 (lent ∷ [])) lent (λ h. absurd (h m.even)) (λ e h. absurd (not_both m.holds h)) (λ e h l. refl) (λ e h l. absurd (omega arith))

  past_6 : (lent wide : List ℕ) → let m = join_deliveries full daily wide in m.number ≡ 0 → length (wrote m) ≤ length lent → join_deliveries full daily lent ≡ wrote_all (wrote m) lent
  past_6 lent wide z room =
      let m = made wide z in
      let it = wrote_it wide z in
      written lent m.even m.holds (subst (λ (bs : List ℕ). length bs ≤ length lent) it room) ∙ ap (λ (bs : List ℕ). wrote_all bs lent) (sym it)

  no_other : (lent : List ℕ) → length f.ends ≡ length d.ends → (TooLong f d → ⊥) → 8388569 ≤ length lent → (join_deliveries full daily lent).number ≡ 0
  no_other lent e t room =
      ends_as (λ s. s.number ≡ 0) lent (λ h. absurd (h (even_ends e))) (λ q h. absurd (t (too_long q h))) (λ q h l. absurd (omega (arith, bytes-few js (count q) (storable q h)))) (λ q h l. refl)

  -- ---- nothing is lost
  kept_full : (lent : List ℕ) (j : Lent) → let m = join_deliveries full daily lent in m.number ≡ 0 → ReadsAs (wrote m) j → NothingLost f j
  kept_full lent j z h =
      let w = reads_back lent j z h in
      at_least f j (map supplied_numbers fs) w.lists a.lists w.accepts (sym w.as_full) (λ k lt e. w.word k lt ∙ ap (λ (x : Bool). x || delivered d.word k) e)
      (λ x k e. (w.unions k).either x ∙ ap (λ (y : Bool). y || among x (part_of d k)) e)

  kept_daily : (lent : List ℕ) (j : Lent) → let m = join_deliveries full daily lent in m.number ≡ 0 → ReadsAs (wrote m) j → NothingLost d j
  kept_daily lent j z h =
      let w = reads_back lent j z h in
      at_least d j (map supplied_numbers ds) w.lists b.lists w.accepts (sym w.as_daily) (λ k lt e. w.word k lt ∙ or_right (delivered f.word k) (delivered d.word k) e)
      (λ x k e. (w.unions k).either x ∙ or_right (among x (part_of f k)) (among x (part_of d k)) e)

-- ---- the other way round, and a delivery with itself

either_way : (full daily : List ℕ) (f d : Lent) → Reading full f → Reading daily d → (lent : List ℕ) → join_deliveries full daily lent ≡ join_deliveries daily full lent
either_way full daily f d a b lent =
    sends full daily f d a b lent
    ∙ ap₂ (λ (e : Bool) (ss : List Supplied). sent 1 (lent ∷ []) (require 20 e >> (require 21 (lengths_hold ss) >> stored (delivery ss) lent))) (eqb_swap (length a.supplied) (length b.supplied)) (swapped a.supplied b.supplied a.storable b.storable)
    ∙ sym (sends daily full d f b a lent)

with_itself : (full : List ℕ) (f : Lent) → Bytes full → ReadsAs full f → (lent : List ℕ) → length full ≤ length lent → join_deliveries full full lent ≡ wrote_all full lent
unfolding read_stored delivery
with_itself full f small h lent room =
    let a = reading full f h in
    let ss : List Supplied = a.supplied in
    let self : join_lists ss ss ≡ ss = itself ss a.storable in
    let same : delivery (join_lists ss ss) ≡ full = ap delivery self ∙ form-same by_bit by_bit_reads_back none none full ss small a.read in
    written full full f f a a lent refl (ap lengths_hold self ∙ storable-short ss a.storable) (subst (λ (bs : List ℕ). length bs ≤ length lent) (sym same) room) ∙ ap (λ (bs : List ℕ). wrote_all bs lent) same

-- ---- what the reading refuses

refused_full : (full daily lent : List ℕ) (n : ℕ) → read_stored by_bit full ≡ refused n → join_deliveries full daily lent ≡ refused_by n 1 (lent ∷ [])
unfolding join_deliveries sent
refused_full full daily lent n e = rw e refl

refused_daily : (full daily lent : List ℕ) (ss : List Supplied) (n : ℕ) → read_stored by_bit full ≡ accepted ss → read_stored by_bit daily ≡ refused n → join_deliveries full daily lent ≡ refused_by n 1 (lent ∷ [])
unfolding join_deliveries sent
refused_daily full daily lent ss n e h = rw (e, h) refl

-- the request
joins : (full daily : List ℕ) (f d : Lent) → Reading full f → Reading daily d → Joins full daily f d
joins full daily f d a b = record {
  accepted_always = always full daily f d a b;
  reads_back = reads_back full daily f d a b;
  one_string = λ j lent n w. one_string full daily f d a b j n w lent;
  of_full = kept_full full daily f d a b;
  of_daily = kept_daily full daily f d a b;
  refused_20 = refused_20 full daily f d a b;
  only_20 = only_20 full daily f d a b;
  refused_21 = refused_21 full daily f d a b;
  only_21 = only_21 full daily f d a b;
  only_6 = only_6 full daily f d a b;
  refused_6 = refused_6 full daily f d a b;
  past_6 = past_6 full daily f d a b;
  no_other = no_other full daily f d a b;
  either_way = either_way full daily f d a b;
}

pub request_six : RequestSix
request_six = record {
  joins = λ full daily f d p q. joins full daily f d (reading full f p) (reading daily d q);
  refused_full = refused_full;
  refused_daily = refused_daily;
  never_6 = delivery_not_6;
  with_itself = with_itself;
}
