-- `encode::put_lists` meets its contract. The loop's invariant, said backwards: what is to be put from the start is what is still
-- to be put from here on, and the widths from here on are those of the lists that are left. Assumes nothing.
use mathlib.Core.Path.{◌≡◌, refl, sym, ap, ap₂, ◌∙◌, subst}
use mathlib.Core.Bool.{Bool, true}
use mathlib.Core.List.{List, ◌∷◌, map, flat_map}
use Prim.Native.Nat.{ℕ, ◌+◌, ◌-◌, ◌≤◌}
use native.Mathlib.Omega.{arith}
use borrow.Author.Rules.{rules}
use lib.ListN.{length, get_or, take, drop, replicate, length-take, length-map}
use Rattle.model.specs.Lists.{ascending, all_ascending, part, lists_from, ends_hold, delivered}
use Rattle.model.specs.Fields.{Bytes}
use Rattle.model.specs.Delivery.{Supplied, supplied_from}
use Rattle.model.proofs.Order.{and_true}
use Rattle.model.proofs.Accepted.{numbers_part}
use Rattle.model.proofs.Laid.{lists_length}
use Rattle.lists.proofs.Ends.{hold_next}
use Rattle.fields.specs.Rows.{lay}
use Rattle.fields.specs.Positions.{put_bits}
use Rattle.fields.proofs.Rows.{lay-length}
use Rattle.fields.proofs.Puts.{put_small, put-nil, put-append}
use Rattle.encode.specs.Measures.{as_supplied, list_bits, lists_bits, gap_width}
use Rattle.encode.proofs.Sizes.{gap_width_wide, supplied-small}
use Rattle.encode.proofs.Rest.{rest_more, supplied-more, supplied-none, bits-cons, lay-head, lay-again}
use Rattle.encode.proofs.put_lists.Goals as goal
use Rattle.encode.proofs.put_lists.Goals.{After-put_list-next, In-loop-k}

-- list k, as the code takes it, and those behind it; as they are supplied
module _ (numbers ends : List ℕ) (start k : ℕ) where
  abbrev list_at : List ℕ
  list_at = take (get_or ends k 0 - start) (drop start numbers)

  abbrev rest_at : List (List ℕ)
  rest_at = lists_from numbers (get_or ends k 0) (drop (k + 1) ends)

  module _ (word : ℕ) where
    abbrev this_at : Supplied
    this_at = as_supplied (delivered word k) list_at

    abbrev others_at : List Supplied
    others_at = supplied_from word (k + 1) rest_at

    record Turn (widths : List ℕ) : Type 0 where
      more : supplied_from word k (lists_from numbers start (drop k ends)) ≡ this_at ∷ others_at
      order : start ≤ get_or ends k 0
      inside : get_or ends k 0 ≤ length numbers
      few : length list_at ≤ 65535
      hold : ends_hold (length numbers) (get_or ends k 0) (drop (k + 1) ends) ≡ true
      ascends : ascending list_at ≡ true
      rest-ascends : all_ascending rest_at ≡ true
      wide : get_or widths k 0 ≡ gap_width list_at
      widths_left : widths ≡ lay widths (k + 1) (map gap_width rest_at)
      small : length (list_bits this_at) ≤ 4194304

-- there are 32 widths, as many as lists at most
thirty_two : (numbers ends : List ℕ) {widths : List ℕ} → length ends ≤ 32 → widths ≡ lay (replicate 32 0) 0 (map gap_width (lists_from numbers 0 ends)) → length widths ≡ 32
thirty_two numbers ends few wide =
    let ls : List (List ℕ) = lists_from numbers 0 ends in
    ap length wide ∙ lay-length (replicate 32 0) 0 (map gap_width ls) (omega (arith, length-map ls gap_width, lists_length numbers 0 ends))

turn : (c : In-loop-k) → let args = c.args in Turn args.numbers.now args.ends.now c.loop-k.start c.loop-k.k args.word args.widths
unfolding part all_ascending
turn c =
    let args = c.args in
    let l = c.loop-k in
    let numbers : List ℕ = args.numbers.now in
    let ends : List ℕ = args.ends.now in
    let list : List ℕ = list_at numbers ends l.start l.k in
    let rest : List (List ℕ) = rest_at numbers ends l.start l.k in
    let n = hold_next (length numbers) l.start ends l.k (omega arith) l.invariant.3 in
    let more : lists_from numbers l.start (drop l.k ends) ≡ list ∷ rest = rest_more numbers ends l.start l.k (omega arith) in
    let up = and_true (ascending list) (all_ascending rest) (sym (ap all_ascending more) ∙ l.invariant.4) in
    let w = lay-head args.widths l.k (gap_width list) (map gap_width rest) (omega (arith, thirty_two numbers ends c.requires.few c.requires.wide)) (l.invariant.5 ∙ ap (λ (ls : List (List ℕ)). lay args.widths l.k (map gap_width ls)) more) in
    let few : length list ≤ 65535 = omega (arith, n.few, length-take (get_or ends l.k 0 - l.start) (drop l.start numbers)) in
    let g = gap_width_wide list (numbers_part numbers (get_or ends l.k 0 - l.start) l.start (λ i. (c.type_inv.numbers i).fits)) in
    record {
      more = supplied-more numbers ends l.start l.k args.word (omega arith);
      order = n.order;
      inside = n.inside;
      few = few;
      hold = n.rest;
      ascends = up.0;
      rest-ascends = up.1;
      wide = w.0;
      widths_left = w.1;
      small = supplied-small (delivered args.word l.k) list few g.most;
    }

pub loop-k-init : goal.loop-k-init
loop-k-init c =
    let pre = c.requires in
    (omega arith, refl, λ i. (c.type_inv.s i).fits, pre.hold, pre.ascend, lay-again _ _ pre.wide, refl, refl)

pub offset_bounds-numbers-start : goal.offset_bounds-numbers-start
offset_bounds-numbers-start c = let t = turn (goal.at.offset_bounds-numbers-start c).In-loop-k in search rules

pub slice_bounds-put_list-count : goal.slice_bounds-put_list-count
slice_bounds-put_list-count c = (turn (goal.at.slice_bounds-put_list-count c).In-loop-k).order

pub slice_bounds-put_list-start : goal.slice_bounds-put_list-start
slice_bounds-put_list-start c = let t = turn (goal.at.slice_bounds-put_list-start c).In-loop-k in omega (arith, t.order)

pub slice_bounds-put_list-end : goal.slice_bounds-put_list-end
slice_bounds-put_list-end c = let t = turn (goal.at.slice_bounds-put_list-end c).In-loop-k in omega (arith, t.inside)

pub put_list-next-requires : goal.put_list-next-requires
put_list-next-requires c =
    let args = c.args in
    let l = c.loop-k in
    let pre = c.requires in
    let t = turn (goal.at.put_list-next-requires c).In-loop-k in
    let list : List ℕ = list_at args.numbers.now args.ends.now l.start l.k in
    let bits = ap (λ (b : Bool). length (list_bits (as_supplied b list))) c.word_bit-delivered.ensures in
    let more = bits-cons (this_at args.numbers.now args.ends.now l.start l.k args.word) (others_at args.numbers.now args.ends.now l.start l.k args.word) in
    record {
      few = t.few;
      low = omega (arith, l.invariant.0, pre.few);
      room = omega (arith, l.invariant.6, ap (λ (ss : List Supplied). length (lists_bits ss)) t.more, more, pre.room, l.invariant.1, bits);
      ascends = t.ascends;
      wide = t.wide;
    }

-- what was put
put : (c : After-put_list-next) →
    let args = c.args in
    let l = c.loop-k in
    let this = this_at args.numbers.now args.ends.now l.start l.k args.word in
    (c.put_list-next.result ≡ l.next + length (list_bits this)) × (c.put_list-next.new.s ≡ put_bits l.s l.next (list_bits this))
put c =
    let l = c.loop-k in
    let list : List ℕ = list_at c.args.numbers.now c.args.ends.now l.start l.k in
    let bits = ap (λ (b : Bool). list_bits (as_supplied b list)) c.word_bit-delivered.ensures in
    (c.put_list-next.ensures.0 ∙ ap (λ (bs : List Bool). l.next + length bs) bits, c.put_list-next.ensures.1 ∙ ap (put_bits l.s l.next) bits)

pub loop-k-preserved : goal.loop-k-preserved
unfolding flat_map
loop-k-preserved c =
    let args = c.args in
    let l = c.loop-k in
    let t = turn (goal.at.loop-k-preserved c).In-loop-k in
    let done = put (goal.at.loop-k-preserved c).After-put_list-next in
    let this : Supplied = this_at args.numbers.now args.ends.now l.start l.k args.word in
    let others : List Supplied = others_at args.numbers.now args.ends.now l.start l.k args.word in
    let bits = bits-cons this others in
    let long = ap (λ (ss : List Supplied). length (lists_bits ss)) t.more in (
      omega (arith, done.0, t.small),
      c.put_list-next.auto.s ∙ l.invariant.1,
      subst Bytes (sym done.1) (put_small l.s l.next (list_bits this)),
      t.hold,
      t.rest-ascends,
      t.widths_left,
      omega (arith, l.invariant.6, long, bits, done.0),
      l.invariant.7 ∙ ap (λ (ss : List Supplied). put_bits l.s l.next (lists_bits ss)) t.more
          ∙ sym (put-append l.s l.next (list_bits this) (lists_bits others) (omega (arith, l.invariant.6, long, bits, c.requires.room, l.invariant.1)))
          ∙ ap₂ (λ (row : List ℕ) (q : ℕ). put_bits row q (lists_bits others)) (sym done.1) (sym done.0),
    )

pub returns : goal.returns
unfolding flat_map
returns c =
    let l = c.loop-k in
    let args = c.args in
    let none = supplied-none args.numbers.now args.ends.now l.start l.k args.word (omega arith) in (
      omega (arith, l.invariant.6, ap (λ (ss : List Supplied). length (lists_bits ss)) none),
      sym (l.invariant.7 ∙ ap (λ (ss : List Supplied). put_bits l.s l.next (lists_bits ss)) none ∙ put-nil l.s l.next l.invariant.2),
    )
