-- A delivery that reads, and the lists that decoding leaves of it. Assumes nothing.
use mathlib.Core.Path.{◌≡◌, sym, ap, ◌∙◌, subst}
use mathlib.Core.Bool.{true}
use mathlib.Core.List.{List, [], map}
use Prim.Native.Nat.{ℕ, ◌≤◌}
use lib.ListN.{length, get_or, take, drop, length-map, get_or-map, get_or-eq_default}
use Rattle.model.specs.Outcome.{accepted}
use Rattle.model.specs.Lists.{count_holds, delivered, Lent, lists_of, Span, part_of}
use Rattle.model.specs.Delivery.{Supplied, undelivered, supplied_numbers, is_delivered, by_bit, read_stored, word_of}
use Rattle.model.specs.Calls.{decode_delivery}
use Rattle.model.specs.Demands.{left_lent}
use Rattle.model.specs.RequestSix.{ReadsAs}
use Rattle.model.proofs.Order.{split, Up}
use Rattle.model.proofs.Deliveries.{Storable, storable_up, delivery_holds, stored_too}
use Rattle.model.proofs.Word.{word-says}
use Rattle.model.proofs.Laid.{at_most_32, accepted-many, part-is, part-missing}
use Rattle.model.proofs.RoundTrips.{read_by, decoded_as}
use Rattle.joins.proofs.Joining.{nth}

-- part k of accepted lists is list k, and empty where there is none
pub part-all : (l : Lent) (ls : List (List ℕ)) → lists_of l ≡ accepted ls → (k : ℕ) → part_of l k ≡ get_or ls k []
unfolding part_of
part-all l ls e k = split (part_of l k ≡ get_or ls k []) k (length ls) (λ lt. part-is l ls k e lt) (λ ge. missing ge ∙ sym (get_or-eq_default ls [] {n = k} ge))
  where
    missing : length ls ≤ k → part_of l k ≡ []
    missing ge = ap (λ (s : Span). take s.size (drop s.start l.numbers)) (part-missing l ls k e ge)

pub record Reading (bytes : List ℕ) (l : Lent) : Type 0 where
  pub supplied : List Supplied
  pub read : read_stored by_bit bytes ≡ accepted supplied
  pub lists : lists_of l ≡ accepted (map supplied_numbers supplied)
  pub count : count_holds (length supplied) ≡ true
  pub storable : Storable (map supplied_numbers supplied)
  pub up : (k : ℕ) → Up 0 (supplied_numbers (nth supplied k))
  pub many : length l.ends ≡ length supplied
  pub part : (k : ℕ) → part_of l k ≡ supplied_numbers (nth supplied k)
  pub says : (k : ℕ) → delivered l.word k ≡ is_delivered (nth supplied k)

-- of lists and a word
made : (bytes : List ℕ) (l : Lent) (ss : List Supplied) → read_stored by_bit bytes ≡ accepted ss → lists_of l ≡ accepted (map supplied_numbers ss) → l.word ≡ word_of ss
    → count_holds (length ss) ≡ true → Storable (map supplied_numbers ss) → Reading bytes l
unfolding supplied_numbers is_delivered
made bytes l ss e is w c s = record {
  supplied = ss;
  read = e;
  lists = is;
  count = c;
  storable = s;
  up = λ k. subst (Up 0) (get_or-map supplied_numbers ss k undelivered) (storable_up (map supplied_numbers ss) s k);
  many = sym (accepted-many l (map supplied_numbers ss) is) ∙ length-map ss supplied_numbers;
  part = λ k. part-all l (map supplied_numbers ss) is k ∙ get_or-map supplied_numbers ss k undelivered;
  says = λ k. ap (λ (v : ℕ). delivered v k) w ∙ word-says ss k (at_most_32 (length ss) c) ∙ get_or-map is_delivered ss k undelivered;
}

pub reading : (bytes : List ℕ) (l : Lent) → ReadsAs bytes l → Reading bytes l
reading bytes l r =
    let numbers = r.lent_numbers in
    let ends = r.lent_ends in
    let got = read_by bytes numbers ends r.accepts in
    let held = delivery_holds (length numbers) (length ends) bytes got.got got.is in
    let d = decoded_as bytes numbers ends got.got got.is in
    subst (Reading bytes) r.leaves (made bytes (left_lent (decode_delivery bytes numbers ends)) got.got (stored_too (length numbers) (length ends) bytes got.got got.is) d.lists d.word held.count held.storable)
