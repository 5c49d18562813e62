-- Request Four, proved: the bounds on members and moves over every run, the bytes over every delivery, and the tests. Assumes nothing but
-- that the elements of the rows of numbers are numbers, which their type says.
use mathlib.Core.Path.{◌≡◌, refl, sym, ap, ◌∙◌}
use mathlib.Core.Bool.{Bool, true, false, ◌&&◌}
use mathlib.Core.List.{List, [], ◌∷◌, ◌++◌, append-nil, map}
use Prim.Native.Nat.{ℕ, zero, suc, ◌+◌, ◌-◌, ◌≤◌, ◌<◌}
use native.Mathlib.Nat.{sub-zero, suc-sub-suc}
use native.Mathlib.Omega.{arith}
use lib.Dec.{leb, eqb}
use borrow.Author.Tests.{lt-ltb, eq-eqb, eqb-true}
use lib.ListN.{length, get_or, take, drop, replicate, length-map, get_or-replicate, get_or-map}
use lib.Seq.{take-append_seam}
use Rattle.model.specs.declared.Reply.{Reply}
use Rattle.model.specs.declared.Reply.TheVariants.{Member, Finished}
use Rattle.model.specs.Outcome.{accepted, number_of, Sent}
use Rattle.model.specs.Lists.{top, Numbers, count_holds, delivered, word_holds, Lent, lend, lists_of, or_empty, span_of}
use Rattle.model.specs.Expression.{Tree, leaf, difference, union, intersection, Members, one, more}
use Rattle.model.specs.Sets.{among, all_numbers, members}
use Rattle.model.specs.Machine.{calls, encode}
use Rattle.model.specs.Run.{Start, Low, run, Source, named_in, source_of, run_of}
use Rattle.model.specs.Fields.{Bytes, field}
use Rattle.model.specs.Forms.{there, read_packed}
use Rattle.model.specs.Delivery.{supplied_numbers}
use Rattle.model.specs.Calls.{decode_delivery, encode_delivery, run_call, run_size}
use Rattle.model.specs.Demands.{lengths, lengths_all, sum, Named, NamedAll, left_lent, ran_all}
use Rattle.model.specs.RequestTwo.{every_bit, all_came, all_came_each}
use Rattle.model.specs.Bounds.{lengths_from, ends_rise, most_members, sum_of_most, least_of_most, most_moves, most_bytes, bounds}
use Rattle.model.specs.RequestFour.{members_said, moves_said, bytes_said, member_replies, replies_made, moves_made, bytes_made, RisesAt, Widest, each, IsLeast, Rule, Reached, Enough, RequestFour}
use Rattle.model.proofs.Order.{or_right, or_true, not_both, min_case, Up}
use Rattle.model.proofs.Accepted.{there-is, accepted_up, packed_reads, bound, lists_accepted}
use Rattle.model.proofs.Told.{Told, told_test, told_then, told_right, SuccessOf, succeeded, there_told, packed_told}
use Rattle.model.proofs.Laid.{at_most_32, laid_numbers, laid-over, accepted-many}
use Rattle.model.proofs.Denoted.{members_up}
use Rattle.model.proofs.Join.{join}
use Rattle.model.proofs.Shape.{replies-long}
use Rattle.model.proofs.DemandThree.{AcceptedRun, run_accepted, source-accepted, small, small_calls, ran, drawn}
use Rattle.model.proofs.Deliveries.{storable_up, delivery_holds}
use Rattle.model.proofs.RoundTrips.{read_by, decoded_as, write_sends, write_room, delivery-back}
use Rattle.supplied.proofs.Judged.{packed_judged, judged_18}
use Rattle.supplied.proofs.Only18.{packed_from, there_from}
use Rattle.capacity.proofs.Lengths.{rises_at, at-rises, lengths-many, lengths-few, accepted-rise, accepted-lengths}
use Rattle.capacity.proofs.Bytes.{bits-within, delivery-most, delivery_exact}
use Rattle.capacity.proofs.Said.{says_7, says_10, says-refusal, says_all, said_case}
use Rattle.capacity.proofs.Members.{sum-append, members_bounded, members-single, most-within, lengths-within}
use Rattle.capacity.proofs.Widest.{widest, widest-ends, widest_storable, widest_all}
use Rattle.capacity.proofs.Replies.{from-most, replies-few}

-- ---- the word with which every list was delivered

all_delivered : (k : ℕ) → k < 32 → delivered every_bit k ≡ true
unfolding delivered field
all_delivered k h = get_or-replicate 32 k true false h

mutual
  unfolding all_came

  -- every leaf of a tree that names lists that are there was delivered with it
  all_there : (lists word : ℕ) → lists ≤ 32 → (t : Tree) → Named (there lists word) t → all_came every_bit t ≡ true
  all_there lists word few (leaf k) n = all_delivered k (omega (arith, there-is lists word k n))
  all_there lists word few (difference s t) n = rw (all_there lists word few s n.0, all_there lists word few t n.1) refl
  all_there lists word few (union ts) n = each-there lists word few ts n.0
  all_there lists word few (intersection ts) n = each-there lists word few ts n.0

  each-there : (lists word : ℕ) → lists ≤ 32 → (ts : Members) → NamedAll (there lists word) ts → all_came_each every_bit ts ≡ true
  each-there lists word few (one t) n = all_there lists word few t n
  each-there lists word few (more t ts) n = rw (all_there lists word few t n.0, each-there lists word few ts n.1) refl

-- so what reads with any word reads with this one
reads-there : (lists word : ℕ) → lists ≤ 32 → (expression : List ℕ) (t : Tree) → read_packed (there lists word) expression ≡ accepted t → read_packed (there lists every_bit) expression ≡ accepted t
reads-there lists word few expression t e =
    let named = (packed_reads (there lists word) expression t e).named in
    packed_judged (there lists word) (there lists every_bit) expression t e ∙ rw (judged_18 lists word every_bit t named, all_there lists word few t named)

-- ---- a next more than there are members

spent : (b : ℕ) (rest : List ℕ) → get_or (map encode (replicate (suc b) Finished) ++ rest) b 0 ≡ 4294967298
unfolding encode
spent zero rest = refl
spent (suc b) rest = spent b rest

last_finished : (ms : List ℕ) (b : ℕ) (rest : List ℕ) → length ms ≤ b → get_or (map encode (map Member (take (suc b) ms) ++ replicate (suc b - length ms) Finished) ++ rest) b 0 ≡ 4294967298
last_finished [] b rest h = rw (sub-zero (suc b)) (spent b rest)
last_finished (m ∷ ms) zero rest h = absurd (omega arith)
last_finished (m ∷ ms) (suc b) rest h = rw (suc-sub-suc (suc b) (length ms)) (last_finished ms b rest (omega arith))

-- ---- over one source
module _ (l : Lent) (expression : List ℕ) (n : Numbers l.numbers) (s : Source) (is : source_of l expression ≡ accepted s) where
  abbrev said : Sent
  said = bounds l.ends expression

  lists_are : lists_of l ≡ accepted s.lists
  lists_are = (source-accepted l expression s is).0

  up : (k : ℕ) → Up 0 (get_or s.lists k [])
  up = accepted_up l s.lists n lists_are

  -- what is said, of the lists' own lengths
  says : said ≡ record { number = 0; parts = most_members (map length s.lists) s.tree ∷ most_moves (map length s.lists) s.tree ∷ most_bytes (map length s.lists) ∷ []; rows = [] }
  says =
      let h = lists_accepted l s.lists lists_are in
      rw (accepted-lengths l s.lists lists_are)
      (says_all l.ends expression h.count (accepted-rise l s.lists lists_are) s.tree (reads-there (length l.ends) l.word (at_most_32 (length l.ends) h.count) expression s.tree (source-accepted l expression s is).1))

  bound-is : members_said said ≡ most_members (map length s.lists) s.tree
  bound-is = ap members_said says

  -- a run that was accepted, and what it sends back
  module _ (start : Start) (codes ds lent : List ℕ) (none : (run_call l expression start codes ds lent).number ≡ 0) where
    told : Told (run_of l expression start codes ds (length lent))
    unfolding run_of
    told = rw is (told_test 12 (leb start.bookmark top) _ (omega arith) (told_test 13 (eqb (length codes) (length ds) && leb (length codes) (length lent)) _ (omega arith) told_right))

    outcome : SuccessOf (run_of l expression start codes ds (length lent))
    unfolding run_call
    outcome =
        let a = succeeded run_size (lent ∷ []) _ (told_then _ _ told (λ r. told_right)) none in
        let b = bound (run_of l expression start codes ds (length lent)) _ a.got a.is in
        record { got = b.got; is = b.first }

    passed : AcceptedRun l expression start codes ds (length lent) outcome.got
    passed = run_accepted l expression start codes ds (length lent) outcome.got outcome.is

    made : run_call l expression start codes ds lent ≡ ran_all (run s.lists s.tree start (calls codes ds)) lent
    made = (ran l expression n s is start codes ds lent passed.low passed.paired passed.fits).sends

    moves : moves_made (run_call l expression start codes ds lent) ≤ moves_said said
    unfolding most_moves
    moves =
        let sound = ran l expression n s is start codes ds lent passed.low passed.paired passed.fits in
        omega (arith, ap moves_made made, ap moves_said says, sound.bounded)

    replies : Numbers ds → member_replies (replies_made (length codes) (run_call l expression start codes ds lent)) ≤ members_said said
    replies nd =
        let ls : List (List ℕ) = s.lists in
        let t : Tree = s.tree in
        let rs : List Reply = (run ls t start (calls codes ds)).replies in
        let many : length (map encode rs) ≡ length codes = length-map rs encode ∙ replies-long ls t start codes ds passed.paired in
        let row : replies_made (length codes) (run_call l expression start codes ds lent) ≡ map encode rs = ap (replies_made (length codes)) made ∙ rw (← many) (take-append_seam (map encode rs) _) in
        let plain = ap (λ p. p.0) (join ls up t start passed.low (small l expression n s is) (calls codes ds) (small_calls codes ds nd)) in
        rw (row, plain) (omega (arith, replies-few (members ls t) (members_up ls up t) (calls codes ds) (small_calls codes ds nd) start.bookmark passed.low, from-most start.bookmark (members ls t), members_bounded ls up t, bound-is))

  -- of a single list
  span-long : (k : ℕ) → k < length s.lists → (span_of l k).size ≡ length (get_or s.lists k [])
  unfolding span_of or_empty
  span-long k h = rw (lists_are, lt-ltb k (length s.lists) h)

  single : (k : ℕ) → s.tree ≡ leaf k → (members_said said ≡ (span_of l k).size) × (members_said said ≡ length (members s.lists s.tree))
  unfolding most_members
  single k e =
      let ls : List (List ℕ) = s.lists in
      let exact : members_said said ≡ most_members (map length ls) (leaf k) = bound-is ∙ ap (most_members (map length ls)) e in
      let named : Named (named_in l) (leaf k) = rw e at (packed_reads (named_in l) expression s.tree (source-accepted l expression s is).1).named in
      let there_k : k < length ls = omega (arith, there-is (length l.ends) l.word k named, accepted-many l ls lists_are) in
      (exact ∙ get_or-map length ls k [] ∙ sym (span-long k there_k), exact ∙ sym (members-single ls up k) ∙ ap (λ (t : Tree). length (members ls t)) (sym e))

  -- so many nexts and one more
  draws_all : (start : Start) → Low start → (ds lent : List ℕ) → length ds ≡ suc (members_said said) → length ds ≤ length lent
      → get_or (get_or (run_call l expression start (replicate (length ds) 0) ds lent).rows 0 []) (members_said said) 0 ≡ 4294967298
  unfolding drawn
  draws_all start low ds lent e room =
      let d = drawn l expression n s is start low in
      let b : ℕ = members_said said in
      let within : length d.members ≤ b = omega (arith, from-most start.bookmark (members s.lists s.tree), members_bounded s.lists up s.tree, bound-is) in
      ap (λ (q : Sent). get_or (get_or q.rows 0 []) b 0) (d.ran (length ds) ds refl lent room).sends
      ∙ ap (λ (rs : List Reply). get_or (map encode rs ++ drop (length (d.result (length ds)).replies) lent) b 0) (d.replies (length ds) ∙ ap (λ (k : ℕ). map Member (take k d.members) ++ replicate (k - length d.members) Finished) e)
      ∙ last_finished d.members b (drop (length (d.result (length ds)).replies) lent) within

  enough : Enough l expression s said
  enough = record {
    accepts = ap (λ (q : Sent). q.number) says;
    replies_bounded = λ start codes ds lent nd zero. replies start codes ds lent zero nd;
    moves_bounded = λ start codes ds lent zero. moves start codes ds lent zero;
    single = single;
    draws_all = draws_all;
  }

-- ---- the tests

falls : (ends : List ℕ) (k : ℕ) → k < length ends → (RisesAt ends k → ⊥) → ends_rise 0 ends ≡ false
falls ends k h n = go (ends_rise 0 ends) refl
  where
    go : (b : Bool) → ends_rise 0 ends ≡ b → ends_rise 0 ends ≡ false
    go true e = absurd (n (rises_at 0 ends e k h))
    go false e = e

never_18 : (ends expression : List ℕ) → (bounds ends expression).number ≡ 18 → ⊥
unfolding number_of
never_18 ends expression =
    said_case (λ q. q.number ≡ 18 → ⊥) ends expression (λ h e. omega arith) (λ h r e. omega arith)
    (λ h r n e z.
    let few = at_most_32 (length ends) h in
    let u = (packed_from (there (length ends) every_bit) (there_from (length ends) every_bit) expression).says (ap number_of e ∙ z) in
    not_both (all_delivered u.list (omega (arith, u.is_there))) u.not_delivered)
    (λ h r t e z. omega arith)

small-said : (ends expression : List ℕ) → let said = bounds ends expression in (members_said said ≤ 3145680) × (moves_said said ≤ 3145680) × (bytes_said said ≤ 8388569)
unfolding most_moves most_bytes
small-said ends expression =
    said_case (λ said. (members_said said ≤ 3145680) × (moves_said said ≤ 3145680) × (bytes_said said ≤ 8388569)) ends expression
    (λ h. (omega arith, omega arith, omega arith)) (λ h r. (omega arith, omega arith, omega arith)) (λ h r n e. (omega arith, omega arith, omega arith))
    (λ h r t e.
    let ns : List ℕ = lengths_from 0 ends in
    let nodes = (packed_reads (there (length ends) every_bit) expression t e).nodes in
    let all = lengths-within ns (lengths-few 0 ends r) t in
    (omega (arith, most-within ns t, all, nodes), omega (arith, all, nodes), omega (arith, bits-within ns (lengths-few 0 ends r), lengths-many 0 ends, at_most_32 (length ends) h)))

-- what is accepted has passed 7 and 10
tested : (ends expression : List ℕ) → (bounds ends expression).number ≡ 0 → (count_holds (length ends) ≡ true) × (ends_rise 0 ends ≡ true)
tested ends expression =
    said_case (λ said. said.number ≡ 0 → (count_holds (length ends) ≡ true) × (ends_rise 0 ends ≡ true)) ends expression (λ h q. absurd (omega arith)) (λ h r q. absurd (omega arith)) (λ h r k f q. (h, r)) (λ h r t f q. (h, r))

-- ---- deliveries

bytes_are : (l : Lent) (expression : List ℕ) (ls : List (List ℕ)) → lists_of l ≡ accepted ls → (bounds l.ends expression).number ≡ 0 → bytes_said (bounds l.ends expression) ≡ most_bytes (map length ls)
bytes_are l expression ls e z =
    said_case (λ said. said.number ≡ 0 → bytes_said said ≡ most_bytes (map length ls)) l.ends expression (λ h q. absurd (omega arith)) (λ h r q. absurd (omega arith))
    (λ h r k f q. absurd (omega (arith, (packed_told (there (length l.ends) every_bit) (there_told (length l.ends) every_bit) expression).never k f)))
    (λ h r t f q. ap most_bytes (sym (accepted-lengths l ls e)))
    z

module _ (l : Lent) (expression : List ℕ) (n : Numbers l.numbers) (ls : List (List ℕ)) (e : lists_of l ≡ accepted ls) (z : (bounds l.ends expression).number ≡ 0) where
  fit : (lent : List ℕ) → bytes_said (bounds l.ends expression) ≤ length lent → (encode_delivery l lent).number ≡ 0
  fit lent h = ap (λ (q : Sent). q.number) (write_sends l lent ls e (omega (arith, delivery-most l.word ls (accepted_up l ls n e), bytes_are l expression ls e z)))

  bounded-bytes : (lent : List ℕ) → (encode_delivery l lent).number ≡ 0 → bytes_made (encode_delivery l lent) ≤ bytes_said (bounds l.ends expression)
  bounded-bytes lent h = omega (arith, ap bytes_made (write_sends l lent ls e (write_room l lent ls e h)), delivery-most l.word ls (accepted_up l ls n e), bytes_are l expression ls e z)

  exact_bytes : ((k : ℕ) → k < length ls → (delivered l.word k ≡ true) × Widest (get_or ls k [])) → (lent : List ℕ) → (encode_delivery l lent).number ≡ 0 → bytes_made (encode_delivery l lent) ≡ bytes_said (bounds l.ends expression)
  exact_bytes w lent h = ap bytes_made (write_sends l lent ls e (write_room l lent ls e h)) ∙ delivery_exact l.word ls w ∙ sym (bytes_are l expression ls e z)

-- the members, whatever came
bounded-members : (l : Lent) (expression : List ℕ) → Numbers l.numbers → (ls : List (List ℕ)) → lists_of l ≡ accepted ls → (t : Tree) → read_packed (there (length l.ends) every_bit) expression ≡ accepted t
    → length (members ls t) ≤ members_said (bounds l.ends expression)
bounded-members l expression n ls e t r =
    omega (arith, members_bounded ls (accepted_up l ls n e) t, ap members_said (says_all l.ends expression (lists_accepted l ls e).count (accepted-rise l ls e) t r), ap (λ (ns : List ℕ). most_members ns t) (accepted-lengths l ls e))

-- bytes that read as a delivery are written back the same
stored_bounded : (bytes lent_numbers lent_ends expression : List ℕ) → Bytes bytes → let s = decode_delivery bytes lent_numbers lent_ends in s.number ≡ 0
    → (bounds (left_lent s).ends expression).number ≡ 0 → length bytes ≤ bytes_said (bounds (left_lent s).ends expression)
stored_bounded bytes lent_numbers lent_ends expression small z q =
    let r = read_by bytes lent_numbers lent_ends z in
    let ls : List (List ℕ) = map supplied_numbers r.got in
    let l : Lent = left_lent (decode_delivery bytes lent_numbers lent_ends) in
    let d = decoded_as bytes lent_numbers lent_ends r.got r.is in
    let held = delivery_holds (length lent_numbers) (length lent_ends) bytes r.got r.is in
    let made = ap bytes_made (delivery-back bytes lent_numbers lent_ends bytes small z (omega arith)) in
    let wrote = ap bytes_made (write_sends l bytes ls d.lists (write_room l bytes ls d.lists (ap (λ (q : Sent). q.number) (delivery-back bytes lent_numbers lent_ends bytes small z (omega arith))))) in
    omega (arith, made, wrote, delivery-most l.word ls (storable_up ls held.storable), bytes_are l expression ls d.lists q)

-- some lists fill them
every_holds : (k start : ℕ) (ends : List ℕ) → k + length ends ≤ 32 → word_holds every_bit k start ends ≡ true
unfolding word_holds
every_holds k start [] h = refl
every_holds k start (stop ∷ ends) h = rw (all_delivered k (omega arith), every_holds (suc k) stop ends (omega arith)) refl

reached : (ends expression : List ℕ) → (bounds ends expression).number ≡ 0 → Reached ends (bytes_said (bounds ends expression))
reached ends expression z =
    let t = tested ends expression z in
    let ls : List (List ℕ) = map widest (lengths_from 0 ends) in
    let numbers : List ℕ = all_numbers ls ++ [] in
    let many : length ls ≡ length ends = length-map (lengths_from 0 ends) widest ∙ lengths-many 0 ends in
    let few = at_most_32 (length ends) t.0 in
    let known : Numbers numbers = rw (append-nil (all_numbers ls)) (laid_numbers ls (widest_storable 0 ends t.1)) in
    let here = widest-ends 0 ends t.1 in
    let are : lists_of (lend numbers ends every_bit) ≡ accepted ls = rw here at (laid-over every_bit ls [] (ap count_holds many ∙ t.0) (widest_storable 0 ends t.1) (rw here (every_holds 0 0 ends (omega (arith, few))))) in
    record {
      numbers = numbers;
      are_numbers = known;
      fills = λ lent room. let fits = fit (lend numbers ends every_bit) expression known ls are z lent room in (fits, exact_bytes (lend numbers ends every_bit) expression known ls are z (λ k lt. (all_delivered k (omega (arith, few, many)), widest_all 0 ends t.1 k)) lent fits);
    }

-- ---- the rule

least_is : (ns : List ℕ) (ts : Members) → IsLeast (least_of_most ns ts) (each (most_members ns) ts)
unfolding least_of_most each among
least_is ns (one t) = record { one_of = rw (eq-eqb (most_members ns t) (most_members ns t) refl); below = λ x h. or_true (eqb x (most_members ns t)) false (λ e. omega (arith, eqb-true x (most_members ns t) e)) (λ n. absurd (not_both n refl)) h }
least_is ns (more t ts) =
    let m : ℕ = most_members ns t in
    let rest = least_is ns ts in
    record {
      one_of = min_case (λ x. among x (m ∷ each (most_members ns) ts) ≡ true) m (least_of_most ns ts) (rw (eq-eqb m m refl) refl) (or_right (eqb (least_of_most ns ts) m) _ rest.one_of);
      below = λ x h. or_true (eqb x m) (among x (each (most_members ns) ts)) (λ e. omega (arith, eqb-true x m e)) (λ a. omega (arith, rest.below x a)) h;
    }

sum_is : (ns : List ℕ) (ts : Members) → sum_of_most ns ts ≡ sum (each (most_members ns) ts)
unfolding sum_of_most each sum
sum_is ns (one t) = omega arith
sum_is ns (more t ts) = omega (arith, sum_is ns ts)

moves_are : (ns : List ℕ) (ts : Members) → sum (lengths_all ns ts) ≡ sum (each (most_moves ns) ts)
unfolding lengths_all each sum most_moves
moves_are ns (one t) = omega arith
moves_are ns (more t ts) = omega (arith, moves_are ns ts, sum-append (lengths ns t) (lengths_all ns ts))

rule : (ns : List ℕ) → Rule ns
unfolding most_members most_moves lengths sum
rule ns = record {
  a_list = λ k. refl;
  a_union = sum_is ns;
  an_intersection = least_is ns;
  a_difference = λ s t. refl;
  at_a_leaf = λ k. omega arith;
  below_a_union = λ ts. omega (arith, moves_are ns ts);
  below_an_intersection = λ ts. omega (arith, moves_are ns ts);
  below_a_difference = λ s t. omega (arith, sum-append (lengths ns s) (lengths ns t));
}

-- the request
pub request_four : RequestFour
request_four = record {
  rule = rule;
  by_the_rule = λ ends expression t h r e. says_all ends expression h (at-rises 0 ends r) t e;
  members_bounded = bounded-members;
  enough = enough;
  bytes_fit = fit;
  bytes_bounded = bounded-bytes;
  bytes_exact = exact_bytes;
  stored_bounded = stored_bounded;
  bytes_reached = reached;
  refused_7 = says_7;
  refused_10 = λ ends expression h k lt r. says_10 ends expression h (falls ends k lt r);
  refused_expression = λ ends expression n h r e. says-refusal ends expression h (at-rises 0 ends r) n e;
  never_18 = never_18;
  small = small-said;
}
