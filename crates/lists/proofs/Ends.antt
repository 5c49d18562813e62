-- Ends from place i on: 10 and 11 by one end and by those behind it. Assumes nothing.
use mathlib.Core.Path.{◌≡◌}
use mathlib.Core.Bool.{true, false, ◌||◌}
use mathlib.Core.List.{List}
use Prim.Native.Nat.{ℕ, ◌+◌, ◌-◌, ◌≤◌, ◌<◌}
use borrow.Author.Tests.{le-leb, lt-leb, leb-true}
use lib.Dec.{leb, eqb}
use native.Mathlib.Numerals.{add-one}
use lib.ListN.{length, get_or, drop, drop_of_length-le}
use Rattle.model.specs.Lists.{ascending, all_ascending, part, lists_from, ends_hold, delivered, word_holds}
use Rattle.model.proofs.Order.{and_true}
use Rattle.lists.proofs.Left.{left-cons}

module _ (size start : ℕ) (ends : List ℕ) (i : ℕ) where
  pub hold_falls : i < length ends → get_or ends i 0 < start → ends_hold size start (drop i ends) ≡ false
  unfolding ends_hold
  hold_falls h f = rw (left-cons ends i h, lt-leb start (get_or ends i 0) f)

  pub hold_passes : i < length ends → start ≤ get_or ends i 0 → size < get_or ends i 0 → ends_hold size start (drop i ends) ≡ false
  unfolding ends_hold
  hold_passes h f p = rw (left-cons ends i h, le-leb start (get_or ends i 0) f, lt-leb (get_or ends i 0) size p)

  pub hold-over : i < length ends → start ≤ get_or ends i 0 → get_or ends i 0 ≤ size → 65535 < get_or ends i 0 - start → ends_hold size start (drop i ends) ≡ false
  unfolding ends_hold
  hold-over h f p o = rw (left-cons ends i h, le-leb start (get_or ends i 0) f, le-leb (get_or ends i 0) size p, lt-leb (get_or ends i 0 - start) 65535 o)

  pub hold-more : i < length ends → start ≤ get_or ends i 0 → get_or ends i 0 ≤ size → get_or ends i 0 - start ≤ 65535
      → ends_hold size start (drop i ends) ≡ ends_hold size (get_or ends i 0) (drop (i + 1) ends)
  unfolding ends_hold
  hold-more h f p o = rw (left-cons ends i h, le-leb start (get_or ends i 0) f, le-leb (get_or ends i 0) size p, le-leb (get_or ends i 0 - start) 65535 o)

  pub hold-end : length ends ≤ i → ends_hold size start (drop i ends) ≡ true
  unfolding ends_hold
  hold-end h = rw (drop_of_length-le ends h)

  -- what ends that hold say of the next one
  pub record Next : Type 0 where
    pub order : start ≤ get_or ends i 0
    pub inside : get_or ends i 0 ≤ size
    pub few : get_or ends i 0 - start ≤ 65535
    pub rest : ends_hold size (get_or ends i 0) (drop (i + 1) ends) ≡ true

  pub hold_next : i < length ends → ends_hold size start (drop i ends) ≡ true → Next
  unfolding ends_hold
  hold_next h e =
      let stop : ℕ = get_or ends i 0 in
      let a = and_true (leb start stop) _ (rw (left-cons ends i h) at e) in
      let b = and_true (leb stop size) _ a.1 in
      let c = and_true (leb (stop - start) 65535) _ b.1 in
      record { order = leb-true start stop a.0; inside = leb-true stop size b.0; few = leb-true (stop - start) 65535 c.0; rest = c.1 }

-- 10 for the word, from list i on
module _ (word start : ℕ) (ends : List ℕ) (i : ℕ) where
  pub word_falls : i < length ends → (delivered word i || eqb start (get_or ends i 0)) ≡ false → word_holds word i start (drop i ends) ≡ false
  unfolding word_holds
  word_falls h f = rw (left-cons ends i h, f)

  pub word_more : i < length ends → (delivered word i || eqb start (get_or ends i 0)) ≡ true → word_holds word i start (drop i ends) ≡ word_holds word (i + 1) (get_or ends i 0) (drop (i + 1) ends)
  unfolding word_holds
  word_more h a = rw (left-cons ends i h, a, add-one)

  pub word_end : length ends ≤ i → word_holds word i start (drop i ends) ≡ true
  unfolding word_holds
  word_end h = rw (drop_of_length-le ends h)

module _ (numbers : List ℕ) (start : ℕ) (ends : List ℕ) (i : ℕ) where
  pub lists_fall : i < length ends → ascending (part numbers start (get_or ends i 0)) ≡ false → all_ascending (lists_from numbers start (drop i ends)) ≡ false
  unfolding lists_from all_ascending
  lists_fall h f = rw (left-cons ends i h, f)

  pub lists-more : i < length ends → ascending (part numbers start (get_or ends i 0)) ≡ true
      → all_ascending (lists_from numbers start (drop i ends)) ≡ all_ascending (lists_from numbers (get_or ends i 0) (drop (i + 1) ends))
  unfolding lists_from all_ascending
  lists-more h a = rw (left-cons ends i h, a)

  pub lists-end : length ends ≤ i → all_ascending (lists_from numbers start (drop i ends)) ≡ true
  unfolding lists_from all_ascending
  lists-end h = rw (drop_of_length-le ends h)
