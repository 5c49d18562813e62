-- Lists of both deliveries, read one by one and joined; and reading them with room for as many numbers as there can be. Assumes nothing.
use mathlib.Core.Path.{◌≡◌, refl, sym, ap, ap₂, ◌∙◌}
use mathlib.Core.Bool.{Bool, true, false}
use mathlib.Core.List.{List, [], ◌∷◌}
use mathlib.Core.Option.{none, some}
use Prim.Native.Nat.{ℕ, zero, suc, ◌+◌, ◌-◌, ◌*◌, ◌≤◌, ◌<◌}
use native.Mathlib.Omega.{arith}
use lib.Dec.{ltb, eqb}
use lib.ListN.{length, get_or}
use borrow.Author.Tests.{le-leb, lt-leb, le-ltb}
use Rattle.model.specs.Outcome.{Outcome, refused, accepted, ◌>>=◌}
use Rattle.model.specs.Lists.{top, Numbers, rises, ascending}
use Rattle.model.specs.Sets.{insert}
use Rattle.model.specs.Delivery.{largest_gap, width, Supplied, undelivered, came, supplied_numbers, is_delivered, by_bit, read_list, read_lists}
use Rattle.model.specs.Joined.{list_union, join_list, join_lists, lengths_hold}
use Rattle.model.proofs.Order.{split}
use Rattle.model.proofs.Unions.{union_nil}
use Rattle.lists.specs.Rise.{largest}
use Rattle.fields.specs.Positions.{take_at}
use Rattle.walk.proofs.Counting.{lists_first, lists-none}
use Rattle.walk.proofs.Bounds.{list_next, by_bit_ahead}
use Rattle.encode.specs.Measures.{as_supplied, gap_width}
use Rattle.join.specs.declared.Stream.{Stream}
use Rattle.join.specs.declared.Pair.{Pair}
use Rattle.join.specs.Streams.{value_read, end_read, Reads, left_of, Draws, some_left, union_left, PairDraws, list_at, list_end, ListReads, joined_at}
use Rattle.join.specs.Measures.{lists_from}
use Rattle.join.proofs.Streams.{value-is, end_is, reads_is, going, none_left}

-- ---- one list of each, joined

pub join-numbers : (a b : Supplied) → ascending (supplied_numbers a) ≡ true → supplied_numbers (join_list a b) ≡ list_union (supplied_numbers a) (supplied_numbers b)
unfolding join_list supplied_numbers list_union
join-numbers undelivered b h = refl
join-numbers (came l) undelivered h = sym (union_nil l h)
join-numbers (came l) (came m) h = refl

-- a list by whether it came and its numbers
pub supplied-is : (a : Supplied) → a ≡ as_supplied (is_delivered a) (supplied_numbers a)
unfolding is_delivered supplied_numbers
supplied-is undelivered = refl
supplied-is (came l) = refl

-- ---- the numbers of a list by its first

module _ {l : List ℕ} {x : ℕ} {xs : List ℕ} (e : l ≡ x ∷ xs) where
  pub first-rises : ascending l ≡ true → rises x xs ≡ true
  unfolding ascending
  first-rises a = sym (ap ascending e) ∙ a

  pub first_number : Numbers l → x < top
  first_number n = omega (arith, n 0, ap (λ (r : List ℕ). get_or r 0 0) e)

  pub first-largest : largest l ≡ largest_gap x xs
  unfolding largest
  first-largest = ap largest e

  pub first_width : gap_width l ≡ width (largest_gap x xs)
  unfolding gap_width
  first_width = ap width first-largest

-- ---- a union that has no number: no stream has one

insert-some : (x : ℕ) (l : List ℕ) → 1 ≤ length (insert x l)
unfolding insert
insert-some x [] = omega arith
insert-some x (y ∷ ys) = go (ltb x y) (eqb x y)
  where
    go : (a b : Bool) → 1 ≤ length {A = ℕ} (elim a [ true ↦ x ∷ y ∷ ys | false ↦ elim b [ true ↦ y ∷ ys | false ↦ y ∷ insert x ys ] ])
    go true b = omega arith
    go false true = omega arith
    go false false = omega arith

union_none : (xs ys : List ℕ) → length (list_union xs ys) ≡ 0 → (length xs ≡ 0) × (length ys ≡ 0)
unfolding list_union
union_none [] ys e = (refl, e)
union_none (x ∷ xs) ys e = absurd (omega (arith, insert-some x (list_union xs ys)))

stream_none : (s : List ℕ) (st : Stream) → Draws s st → length (left_of s st) ≡ 0 → ltb st.number top ≡ false
stream_none s st d e = split (ltb st.number top ≡ false) st.number top (λ h. absurd (omega (arith, ap length (going s st d h).are))) (λ h. le-ltb st.number top h)

module _ (full daily : List ℕ) (pair : Pair) where
  pub nothing_left : PairDraws full daily pair → length (union_left full daily pair) ≡ 0 → some_left pair ≡ false
  unfolding some_left
  nothing_left d e =
      let a = union_none (left_of full pair.full) (left_of daily pair.daily) e in
      rw (stream_none full pair.full d.of_full a.0, stream_none daily pair.daily d.of_daily a.1)

  pub something_left : (length (union_left full daily pair) ≡ 0 → ⊥) → some_left pair ≡ true
  something_left h = go (some_left pair) refl
    where
      go : (b : Bool) → some_left pair ≡ b → some_left pair ≡ true
      go true e = e
      go false e = absurd (h (ap length (none_left full daily pair e).0))

-- ---- lists one by one

-- n lists from a position on
abbrev pub lists_on : List ℕ → ℕ → ℕ → List Supplied
lists_on s n at = value_read [] (lists_from s n at)

-- the first of n, and the m behind it
pub record Step (s : List ℕ) (n m at next : ℕ) : Type 0 where
  pub first : ListReads s at
  pub rest : Reads [] (lists_from s m next)
  pub are : lists_on s n at ≡ list_at s at ∷ lists_on s m next
  pub near : next ≤ at + 4194304

pub lists_step : (s : List ℕ) (n m at next : ℕ) → 0 < n → m ≡ n - 1 → next ≡ list_end s at → Reads [] (lists_from s n at) → Step s n m at next
lists_step s n m at next h less e reads =
    let f = lists_first by_bit (take_at s) n none at (lists_on s n at) (end_read (lists_from s n at)) h reads in
    let rest : lists_from s m next ≡ accepted (f.rest, end_read (lists_from s n at)) = ap₂ (λ (k p : ℕ). lists_from s k p) less (e ∙ end_is f.read_first) ∙ f.read-rest in
    let b = list_next by_bit s (by_bit_ahead s) none at _ f.read_first in
    record {
      first = reads_is undelivered f.read_first;
      rest = reads_is [] rest;
      are = f.are ∙ ap₂ (λ (a : Supplied) (ss : List Supplied). a ∷ ss) (sym (value-is undelivered f.read_first)) (sym (value-is [] rest));
      near = omega (arith, b.near, end_is f.read_first);
    }

pub lists-end : (s : List ℕ) (n at : ℕ) → n ≡ 0 → lists_on s n at ≡ []
lists-end s n at e = value-is [] (lists-none by_bit (take_at s) n none at e)

pub lists-many : (s : List ℕ) (n at : ℕ) → Reads [] (lists_from s n at) → length (lists_on s n at) ≡ n
lists-many s zero at reads = ap length (lists-end s 0 at refl)
lists-many s (suc n) at reads = let f = lists_step s (suc n) n at (list_end s at) (omega arith) (omega arith) refl reads in ap length f.are ∙ ap suc (lists-many s n (list_end s at) f.rest)

join-many : (fs ds : List Supplied) → length fs ≡ length ds → length (join_lists fs ds) ≡ length fs
unfolding join_lists
join-many [] ds e = refl
join-many (f ∷ fs) [] e = absurd (omega arith)
join-many (f ∷ fs) (d ∷ ds) e = ap suc (join-many fs ds (omega arith))

module _ (full daily : List ℕ) where
  -- n lists of both from two positions on, and what they make
  abbrev pub BothRead : ℕ → ℕ → ℕ → Type 0
  BothRead n at beside = Reads [] (lists_from full n at) × Reads [] (lists_from daily n beside)

  abbrev pub joined_on : ℕ → ℕ → ℕ → List Supplied
  joined_on n at beside = join_lists (lists_on full n at) (lists_on daily n beside)

  pub record Turn (n m at beside next next_beside : ℕ) : Type 0 where
    pub of_full : ListReads full at
    pub of_daily : ListReads daily beside
    pub rest : BothRead m next next_beside
    pub are : joined_on n at beside ≡ joined_at full daily at beside ∷ joined_on m next next_beside
    pub near : next ≤ at + 4194304
    pub near_beside : next_beside ≤ beside + 4194304

  pub turn : (n m at beside next next_beside : ℕ) → 0 < n → m ≡ n - 1 → next ≡ list_end full at → next_beside ≡ list_end daily beside → BothRead n at beside → Turn n m at beside next next_beside
  unfolding join_lists
  turn n m at beside next next_beside h less e d both =
      let f = lists_step full n m at next h less e both.0 in
      let g = lists_step daily n m beside next_beside h less d both.1 in
      record {
        of_full = f.first;
        of_daily = g.first;
        rest = (f.rest, g.rest);
        are = ap₂ join_lists f.are g.are;
        near = f.near;
        near_beside = g.near;
      }

  pub joined_end : (n at beside : ℕ) → n ≡ 0 → joined_on n at beside ≡ []
  unfolding join_lists
  joined_end n at beside e = ap₂ join_lists (lists-end full n at e) (lists-end daily n beside e)

  pub joined-many : (n at beside : ℕ) → BothRead n at beside → length (joined_on n at beside) ≡ n
  joined-many n at beside both =
      let f = lists-many full n at both.0 in
      join-many (lists_on full n at) (lists_on daily n beside) (f ∙ sym (lists-many daily n beside both.1)) ∙ f

-- 21 of the first, and of those behind it
pub hold-more : (a : Supplied) (ss : List Supplied) → length (supplied_numbers a) ≤ 65535 → lengths_hold (a ∷ ss) ≡ lengths_hold ss
unfolding lengths_hold
hold-more a ss h = rw (le-leb (length (supplied_numbers a)) 65535 h)

pub hold_not : (a : Supplied) (ss : List Supplied) → 65535 < length (supplied_numbers a) → lengths_hold (a ∷ ss) ≡ false
unfolding lengths_hold
hold_not a ss h = rw (lt-leb (length (supplied_numbers a)) 65535 h)

-- ---- room for as many numbers as there can be is as good as any

same_then : {A B : Type 0} (o : Outcome A) (f g : A → Outcome B) → ((a : A) → o ≡ accepted a → f a ≡ g a) → (o >>= f) ≡ (o >>= g)
same_then (refused n) f g h = refl
same_then (accepted a) f g h = h a refl

pub list-room : (s : List ℕ) (r at : ℕ) → 65535 ≤ r → read_list (take_at s) by_bit (some r) at ≡ read_list (take_at s) by_bit none at
unfolding read_list
list-room s r at h = same_then (by_bit.take_head (take_at s) at) _ _ (λ t e. rw (le-leb t.0.0 r (omega (arith, (by_bit_ahead s at t e).few))))

pub lists-room : (s : List ℕ) (n r at : ℕ) → 65535 * n ≤ r → read_lists (take_at s) by_bit n (some r) at ≡ read_lists (take_at s) by_bit n none at
unfolding read_lists
lists-room s zero r at h = refl
lists-room s (suc n) r at h =
    rw (list-room s r at (omega arith)) (same_then (read_list (take_at s) by_bit none at) _ _ (λ x e.
    rw (lists-room s n (r - length (supplied_numbers x.0)) x.1 (omega (arith, (list_next by_bit s (by_bit_ahead s) none at x e).few)))))
