-- Deliveries: one that reads holds list sets, its width is the least, what is written from lists reads back as those
-- lists, and bytes that read are written back the same; what reads with some room, or none lent, reads with any that
-- holds it. All this in every form whose heads read back, and so in 01's and in Two's. Assumes nothing.
use mathlib.Core.Path.{◌≡◌, refl, sym, ap, ap₂, ◌∙◌, subst}
use mathlib.Core.Bool.{Bool, true, false}
use mathlib.Core.List.{List, [], ◌∷◌, ◌++◌, append_assoc, map, flat_map}
use mathlib.Core.Option
use mathlib.Core.Option.{Option, none, some}
use Prim.Native.Nat.{ℕ, zero, suc, ◌+◌, ◌-◌, ◌^◌, ◌≤◌, ◌<◌}
use native.Mathlib.Omega.{arith}
use native.Mathlib.Nat.{add-zero}
use lib.Dec.{ltb, leb, eqb}
use borrow.Author.Tests.{ltb-true, ltb-false, lt-ltb, leb-true, le-leb, eqb-true, eq-eqb}
use lib.ListN.{get_or, length, replicate, length-append, length-map}
use Rattle.model.specs.Outcome.{accepted}
use Rattle.model.specs.Lists.{top, count_holds}
use Rattle.model.specs.Sets.{all_numbers}
use Rattle.model.specs.Fields.{Bytes, field, bits, take_field, only_fill}
use Rattle.model.specs.Delivery.{largest_gap, width_from, width, gap_bits, body_bits, Form, by_count, list_bits, delivery_in, read_gaps, read_body, read_list, read_lists, read_in, Supplied, undelivered, came, supplied_numbers, is_delivered, all_delivered, bit_and_count, take_count, by_bit, read_stored, delivery, read_delivery, old_delivery}
use Rattle.model.proofs.Order.{and_true, not_both, split, Up}
use Rattle.model.proofs.Accepted.{accepted-same, bound, required, field_lt}
use Rattle.model.proofs.Bits.{taken, was_field, filled, fill-only, bytes_are}

-- ---- the width

-- "the least width that holds the largest gap minus 1, and at least 1": w is that of m
pub record LeastWidth (m w : ℕ) : Type 0 where
  pub one : 1 ≤ w
  pub holds : m < 2 ^ w
  pub least : (k : ℕ) → 1 ≤ k → m < 2 ^ k → w ≤ k

-- from a width below which none holds m, with enough widths left
width_from_is : (n w m : ℕ) → 1 ≤ w → ((k : ℕ) → 1 ≤ k → k < w → 2 ^ k ≤ m) → m < 2 ^ (w + n) → LeastWidth m (width_from n w m)
unfolding width_from
width_from_is zero w m h low top = record {
  one = h;
  holds = rw add-zero at top;
  least = λ k h₁ h₂. split (w ≤ k) k w (λ lt. absurd (omega (arith, low k h₁ lt))) (λ ge. ge);
}
width_from_is (suc n) w m h low top = go (ltb m (2 ^ w)) refl (λ q. width_from_is n (suc w) m (omega arith) (next_low q) (rw (← shift) top))
  where
    shift : w + suc n ≡ suc w + n
    shift = omega arith

    next_low : 2 ^ w ≤ m → (k : ℕ) → 1 ≤ k → k < suc w → 2 ^ k ≤ m
    next_low q k h₁ h₂ = split (2 ^ k ≤ m) k w (λ lt. low k h₁ lt) (λ ge. let kw : k ≡ w = omega arith in rw kw q)

    go : (b : Bool) → ltb m (2 ^ w) ≡ b → (2 ^ w ≤ m → LeastWidth m (width_from n (suc w) m)) → LeastWidth m (elim b [ true ↦ w | false ↦ width_from n (suc w) m ])
    go true q f = record {
      one = h;
      holds = ltb-true m (2 ^ w) q;
      least = λ k h₁ h₂. split (w ≤ k) k w (λ lt. absurd (omega (arith, low k h₁ lt))) (λ ge. ge);
    }
    go false q f = f (ltb-false m (2 ^ w) q)

-- the width is the least, of every gap minus 1 that there is
pub width_is : (m : ℕ) → m < top → LeastWidth m (width m)
unfolding width
width_is m h = width_from_is 31 1 m (omega arith) (λ k h₁ h₂. absurd (omega arith)) h

-- ---- the numbers of a list that reads ascend

gaps_up : (w n last : ℕ) (bs : List Bool) (r : List ℕ × List Bool) → read_gaps take_field w n last bs ≡ accepted r → Up (suc last) r.0
unfolding read_gaps
gaps_up w zero last bs r e = let q : ([], bs) ≡ r = cc in rw (← q) tt
gaps_up w (suc n) last bs r e =
    let a = bound (take_field w bs) _ r e in
    let x : ℕ = last + a.got.0 + 1 in
    let b = required 8 (ltb x top) _ r a.rest in
    let c = bound (read_gaps take_field w n x a.got.1) _ r b.1 in
    let q : (x ∷ c.got.0, c.got.1) ≡ r = cc c.rest in
    rw (← q) (omega arith, ltb-true x top b.0, gaps_up w n x a.got.1 c.got c.first)

-- ---- the numbers of a list: what reads was written

gaps_was : (w n last : ℕ) (bs : List Bool) (r : List ℕ × List Bool) → read_gaps take_field w n last bs ≡ accepted r → (bs ≡ gap_bits w last r.0 ++ r.1) × (length r.0 ≡ n)
unfolding read_gaps gap_bits
gaps_was w zero last bs r e = let q : ([], bs) ≡ r = accepted-same e in rw (← q) (refl, refl)
gaps_was w (suc n) last bs r e =
    let a = bound (take_field w bs) _ r e in
    let x : ℕ = last + a.got.0 + 1 in
    let b = required 8 (ltb x top) _ r a.rest in
    let c = bound (read_gaps take_field w n x a.got.1) _ r b.1 in
    let y = gaps_was w n x a.got.1 c.got c.first in
    let g : x - last - 1 ≡ a.got.0 = omega arith in
    let q : (x ∷ c.got.0, c.got.1) ≡ r = accepted-same c.rest in
    rw (← q) (
      was_field w bs a.got a.first ∙ ap₂ (λ (k : ℕ) (l : List Bool). field w k ++ l) (sym g) y.0 ∙ sym (append_assoc (field w (x - last - 1)) (gap_bits w x c.got.0) c.got.1),
      ap suc y.1,
    )

-- a list of two numbers or more, by its pieces
body_are : (n x less : ℕ) (xs : List ℕ) (bs behind after rest : List Bool) → bs ≡ field 32 x ++ behind → behind ≡ field 5 less ++ after → after ≡ gap_bits (less + 1) x xs ++ rest → length xs ≡ suc n → less + 1 ≡ width (largest_gap x xs) → bs ≡ body_bits (x ∷ xs) ++ rest
unfolding body_bits
body_are n x less [] bs behind after rest h₁ h₂ h₃ l w = absurd (omega arith)
body_are n x less (y ∷ ys) bs behind after rest h₁ h₂ h₃ l w =
    let v : ℕ = width (largest_gap x (y ∷ ys)) in
    let k : less ≡ v - 1 = omega arith in
    let gaps : List Bool = gap_bits v x (y ∷ ys) in
    h₁ ∙ ap (λ (b : List Bool). field 32 x ++ b) (h₂ ∙ ap₂ (λ (u : ℕ) (b : List Bool). field 5 u ++ b) k (h₃ ∙ ap (λ (u : ℕ). gap_bits u x (y ∷ ys) ++ rest) w) ∙ sym (append_assoc (field 5 (v - 1)) gaps rest))
    ∙ sym (append_assoc (field 32 x) (field 5 (v - 1) ++ gaps) rest)

-- the numbers of a list of so many, and their bits
record BodyRead (n : ℕ) (bs : List Bool) (r : List ℕ × List Bool) : Type 0 where
  are : bs ≡ body_bits r.0 ++ r.1
  many : length r.0 ≡ n
  up : Up 0 r.0

body_was : (n : ℕ) (bs : List Bool) (r : List ℕ × List Bool) → read_body take_field n bs ≡ accepted r → BodyRead n bs r
unfolding read_body body_bits
body_was zero bs r e = subst (BodyRead 0 bs) (accepted-same e) (record { are = refl; many = refl; up = tt })
body_was (suc zero) bs r e =
    let a = bound (take_field 32 bs) _ r e in
    subst (BodyRead 1 bs) (accepted-same a.rest) (record { are = was_field 32 bs a.got a.first; many = refl; up = (omega arith, field_lt 32 bs a.got a.first, tt) })
body_was (suc (suc n)) bs r e =
    let a = bound (take_field 32 bs) _ r e in
    let x : ℕ = a.got.0 in
    let b = bound (take_field 5 a.got.1) _ r a.rest in
    let less : ℕ = b.got.0 in
    let c = bound (read_gaps take_field (less + 1) (suc n) x b.got.1) _ r b.rest in
    let xs : List ℕ = c.got.0 in
    let d = required 9 (eqb (less + 1) (width (largest_gap x xs))) (accepted (x ∷ xs, c.got.1)) r c.rest in
    let y = gaps_was (less + 1) (suc n) x b.got.1 c.got c.first in
    subst (BodyRead (suc (suc n)) bs) {x = (x ∷ xs, c.got.1)} (accepted-same {a = (x ∷ xs, c.got.1)} d.1) (record {
      are = body_are n x less xs bs a.got.1 b.got.1 c.got.1 (was_field 32 bs a.got a.first) (was_field 5 a.got.1 b.got b.first) y.0 y.1 (eqb-true (less + 1) (width (largest_gap x xs)) d.0);
      many = ap suc y.1;
      up = (omega arith, field_lt 32 bs a.got a.first, gaps_up (less + 1) (suc n) x b.got.1 c.got c.first);
    })

-- ---- the numbers of a list: what is written reads back

-- each gap minus 1 fits the width
abbrev GapsFit : ℕ → ℕ → List ℕ → Type 0
GapsFit w last xs = largest_gap last xs < 2 ^ w

gaps_back : (w last : ℕ) (xs : List ℕ) (rest : List Bool) → Up (suc last) xs → GapsFit w last xs → read_gaps take_field w (length xs) last (gap_bits w last xs ++ rest) ≡ accepted (xs, rest)
unfolding read_gaps gap_bits largest_gap
gaps_back w last [] rest u f = refl
gaps_back w last (x ∷ xs) rest u f =
    let g : last + (x - last - 1) + 1 ≡ x = omega (arith, u.0) in
    rw (append_assoc (field w (x - last - 1)) (gap_bits w x xs) rest, taken w (x - last - 1) (gap_bits w x xs ++ rest) (omega arith), g, lt-ltb x top u.1, gaps_back w x xs rest u.2 (omega arith))

largest-small : (last : ℕ) (xs : List ℕ) → Up (suc last) xs → largest_gap last xs < top
unfolding largest_gap
largest-small last [] u = omega arith
largest-small last (x ∷ xs) u = omega (arith, u.1, largest-small x xs u.2)

-- the width of the largest gap holds it, and is a field of 5 bits plus 1
pub width_small : (last : ℕ) (xs : List ℕ) → Up (suc last) xs → (largest_gap last xs < 2 ^ width (largest_gap last xs)) × (1 ≤ width (largest_gap last xs)) × (width (largest_gap last xs) ≤ 32)
width_small last xs u =
    let s = largest-small last xs u in
    let w = width_is (largest_gap last xs) s in
    (w.holds, w.one, w.least 32 (omega arith) s)

body_back : (l : List ℕ) (rest : List Bool) → Up 0 l → read_body take_field (length l) (body_bits l ++ rest) ≡ accepted (l, rest)
unfolding read_body body_bits
body_back [] rest u = refl
body_back (x ∷ []) rest u = rw (taken 32 x rest u.1)
body_back (x ∷ y ∷ ys) rest u =
    let w : ℕ = width (largest_gap x (y ∷ ys)) in
    let gaps : List Bool = gap_bits w x (y ∷ ys) in
    let s = width_small x (y ∷ ys) u.2 in
    let back : w - 1 + 1 ≡ w = omega (arith, s.1) in
    rw (
      append_assoc (field 32 x) (field 5 (w - 1) ++ gaps) rest,
      taken 32 x ((field 5 (w - 1) ++ gaps) ++ rest) u.1,
      append_assoc (field 5 (w - 1)) gaps rest,
      taken 5 (w - 1) (gaps ++ rest) (omega (arith, s.1, s.2)),
      back,
      gaps_back w x (y ∷ ys) rest u.2 s.0,
      eq-eqb w w refl,
    )

-- ---- forms whose heads read back

-- the head of a list is taken off what is written, and its numbers make the list again
pub record HeadBack {A : Type 0} (form : Form A) (a : A) (rest : List Bool) : Type 0 where
  pub made : List ℕ → A
  pub taken_off : form.take_head take_field (form.head_bits a ++ rest) ≡ accepted ((length (form.numbers_of a), made), rest)
  pub again : made (form.numbers_of a) ≡ a

-- a head that was taken was written so, ahead of any numbers that are as many as it says
pub record HeadWas {A : Type 0} (form : Form A) (bs : List Bool) (count : ℕ) (made : List ℕ → A) (rest : List Bool) : Type 0 where
  pub few : count ≤ 65535
  pub written : (xs : List ℕ) → length xs ≡ count → bs ≡ form.head_bits (made xs) ++ rest
  pub numbers : (xs : List ℕ) → length xs ≡ count → form.numbers_of (made xs) ≡ xs

pub record ReadsBack {A : Type 0} (form : Form A) : Type 0 where
  pub back : (a : A) (rest : List Bool) → length (form.numbers_of a) ≤ 65535 → HeadBack form a rest
  pub was : (bs : List Bool) (count : ℕ) (made : List ℕ → A) (rest : List Bool) → form.take_head take_field bs ≡ accepted ((count, made), rest) → HeadWas form bs count made rest

pub by_count_reads_back : ReadsBack by_count
by_count_reads_back = record {
  back = λ l rest h. record { made = λ xs. xs; taken_off = rw (taken 16 (length l) rest (omega arith)) refl; again = refl };
  was = λ bs count made rest e.
      let a = bound (take_field 16 bs) _ ((count, made), rest) e in
      let q : ◌≡◌ {A = (ℕ × (List ℕ → List ℕ)) × List Bool} ((a.got.0, λ xs. xs), a.got.1) ((count, made), rest) = accepted-same a.rest in
      subst (λ (r : (ℕ × (List ℕ → List ℕ)) × List Bool). HeadWas by_count bs r.0.0 r.0.1 r.1) q (record {
        few = omega (arith, field_lt 16 bs a.got a.first);
        written = λ xs h. was_field 16 bs a.got a.first ∙ ap (λ (k : ℕ). field 16 k ++ a.got.1) (sym h);
        numbers = λ xs h. refl;
      });
}

-- ---- the room

-- 6 does not apply: so many fit the room of the row that is lent, if one is
abbrev pub fits : ℕ → Option ℕ → Bool
fits n room = elim room [ none ↦ true | some r ↦ leb n r ]

nothing_fits : (room : Option ℕ) → fits 0 room ≡ true
nothing_fits none = refl
nothing_fits (some r) = le-leb 0 r (omega arith)

-- what fits together fits one behind the other
fits_both : (m n : ℕ) (room : Option ℕ) → fits (m + n) room ≡ true → (fits m room ≡ true) × (fits n (Option.map (λ r. r - m) room) ≡ true)
fits_both m n none h = (refl, refl)
fits_both m n (some r) h = let le = leb-true (m + n) r h in (le-leb m r (omega arith), le-leb n (r - m) (omega arith))

both_fit : (m n : ℕ) (room : Option ℕ) → fits m room ≡ true → fits n (Option.map (λ r. r - m) room) ≡ true → fits (m + n) room ≡ true
both_fit m n none h₁ h₂ = refl
both_fit m n (some r) h₁ h₂ = le-leb (m + n) r (omega (arith, leb-true m r h₁, leb-true n (r - m) h₂))

module _ {A : Type 0} (form : Form A) where
  -- how many numbers lists have together
  unfoldable pub total : List A → ℕ
  total [] = 0
  total (a ∷ more) = length (form.numbers_of a) + total more

  -- lists that a delivery can hold: list sets of at most 65,535 numbers
  abbrev pub AllStorable : List A → Type 0
  AllStorable [] = Unit {0}
  AllStorable (a ∷ more) = (Up 0 (form.numbers_of a) × (length (form.numbers_of a) ≤ 65535)) × AllStorable more

  -- 1 to 32 such lists, with room for their numbers and ends
  pub record Held (numbers_room ends_room : Option ℕ) (ls : List A) : Type 0 where
    pub count : count_holds (length ls) ≡ true
    pub storable : AllStorable ls
    pub numbers : fits (total ls) numbers_room ≡ true
    pub ends : fits (length ls) ends_room ≡ true

module _ {A : Type 0} (form : Form A) (heads : ReadsBack form) where
  -- ---- what reads was written, and holds list sets

  -- a list, its bits, and what it holds
  pub record ListRead (room : Option ℕ) (bs : List Bool) (r : A × List Bool) : Type 0 where
    pub are : bs ≡ list_bits form r.0 ++ r.1
    pub up : Up 0 (form.numbers_of r.0)
    pub few : length (form.numbers_of r.0) ≤ 65535
    pub fit : fits (length (form.numbers_of r.0)) room ≡ true

  list_are : (a : A) (xs : List ℕ) (bs behind rest : List Bool) → bs ≡ form.head_bits a ++ behind → behind ≡ body_bits xs ++ rest → form.numbers_of a ≡ xs → bs ≡ list_bits form a ++ rest
  unfolding list_bits
  list_are a xs bs behind rest h b n =
      h ∙ ap (λ (l : List Bool). form.head_bits a ++ l) (b ∙ ap (λ (l : List ℕ). body_bits l ++ rest) (sym n)) ∙ sym (append_assoc (form.head_bits a) (body_bits (form.numbers_of a)) rest)

  pub list_was : (room : Option ℕ) (bs : List Bool) (r : A × List Bool) → read_list take_field form room bs ≡ accepted r → ListRead room bs r
  unfolding read_list
  list_was room bs r e =
      let a = bound (form.take_head take_field bs) _ r e in
      let count : ℕ = a.got.0.0 in
      let made : List ℕ → A = a.got.0.1 in
      let b = required 6 (fits count room) _ r a.rest in
      let c = bound (read_body take_field count a.got.1) _ r b.1 in
      let xs : List ℕ = c.got.0 in
      let h = heads.was bs count made a.got.1 a.first in
      let y = body_was count a.got.1 c.got c.first in
      let n = h.numbers xs y.many in
      let q : (made xs, c.got.1) ≡ r = accepted-same c.rest in
      subst (ListRead room bs) q (record {
        are = list_are (made xs) xs bs a.got.1 c.got.1 (h.written xs y.many) y.are n;
        up = rw n y.up;
        few = rw (n, y.many) h.few;
        fit = rw (n, y.many) b.0;
      })

  pub record ListsRead (n : ℕ) (room : Option ℕ) (bs : List Bool) (r : List A × List Bool) : Type 0 where
    pub are : bs ≡ flat_map (list_bits form) r.0 ++ r.1
    pub many : length r.0 ≡ n
    pub storable : AllStorable form r.0
    pub fit : fits (total form r.0) room ≡ true

  pub lists_was : (n : ℕ) (room : Option ℕ) (bs : List Bool) (r : List A × List Bool) → read_lists take_field form n room bs ≡ accepted r → ListsRead n room bs r
  unfolding read_lists flat_map total
  lists_was zero room bs r e = subst (ListsRead 0 room bs) (accepted-same e) (record { are = refl; many = refl; storable = tt; fit = nothing_fits room })
  lists_was (suc n) room bs r e =
      let a = bound (read_list take_field form room bs) _ r e in
      let left : Option ℕ = Option.map (λ r. r - length (form.numbers_of a.got.0)) room in
      let b = bound (read_lists take_field form n left a.got.1) _ r a.rest in
      let x = list_was room bs a.got a.first in
      let y = lists_was n left a.got.1 b.got b.first in
      let q : (a.got.0 ∷ b.got.0, b.got.1) ≡ r = accepted-same b.rest in
      subst (ListsRead (suc n) room bs) q (record {
        are = x.are ∙ ap (λ (l : List Bool). list_bits form a.got.0 ++ l) y.are ∙ sym (append_assoc (list_bits form a.got.0) (flat_map (list_bits form) b.got.0) b.got.1);
        many = ap suc y.many;
        storable = ((x.up, x.few), y.storable);
        fit = both_fit (length (form.numbers_of a.got.0)) (total form b.got.0) room x.fit y.fit;
      })

  -- a delivery that reads: what is in it, and its bits
  pub record Reads (numbers_room ends_room : Option ℕ) (bs : List ℕ) (ls : List A) : Type 0 where
    pub fill : List Bool
    pub are : bits bs ≡ (field 6 (length ls) ++ flat_map (list_bits form) ls) ++ fill
    pub only : only_fill fill ≡ true
    pub held : Held form numbers_room ends_room ls

  delivery_are : (n : ℕ) (ls : List A) (bs behind fill : List Bool) → bs ≡ field 6 n ++ behind → behind ≡ flat_map (list_bits form) ls ++ fill → length ls ≡ n → bs ≡ (field 6 (length ls) ++ flat_map (list_bits form) ls) ++ fill
  delivery_are n ls bs behind fill h b many =
      h ∙ ap₂ (λ (k : ℕ) (l : List Bool). field 6 k ++ l) (sym many) b ∙ sym (append_assoc (field 6 (length ls)) (flat_map (list_bits form) ls) fill)

  pub reads : (numbers_room ends_room : Option ℕ) (bs : List ℕ) (ls : List A) → read_in form numbers_room ends_room bs ≡ accepted ls → Reads numbers_room ends_room bs ls
  unfolding read_in
  reads numbers_room ends_room bs ls e =
      let a = bound (take_field 6 (bits bs)) _ ls e in
      let b = required 7 (count_holds a.got.0) _ ls a.rest in
      let c = required 6 (fits a.got.0 ends_room) _ ls b.1 in
      let d = bound (read_lists take_field form a.got.0 numbers_room a.got.1) _ ls c.1 in
      let f = required 5 (only_fill d.got.1) _ ls d.rest in
      let y = lists_was a.got.0 numbers_room a.got.1 d.got d.first in
      let q : d.got.0 ≡ ls = accepted-same f.1 in
      subst (Reads numbers_room ends_room bs) q (record {
        fill = d.got.1;
        are = delivery_are a.got.0 d.got.0 (bits bs) a.got.1 d.got.1 (was_field 6 (bits bs) a.got a.first) y.are y.many;
        only = f.0;
        held = record { count = ap count_holds y.many ∙ b.0; storable = y.storable; numbers = y.fit; ends = rw y.many c.0 };
      })

  -- bytes that read are written back the same
  pub form-same : (numbers_room ends_room : Option ℕ) (bs : List ℕ) (ls : List A) → Bytes bs → read_in form numbers_room ends_room bs ≡ accepted ls → delivery_in form ls ≡ bs
  unfolding delivery_in
  form-same numbers_room ends_room bs ls h e =
      let r = reads numbers_room ends_room bs ls e in
      bytes_are bs h (field 6 (length ls) ++ flat_map (list_bits form) ls) r.fill r.are r.only

  -- ---- what is written reads back

  list_back : (room : Option ℕ) (a : A) (rest : List Bool) → Up 0 (form.numbers_of a) → length (form.numbers_of a) ≤ 65535 → fits (length (form.numbers_of a)) room ≡ true → read_list take_field form room (list_bits form a ++ rest) ≡ accepted (a, rest)
  unfolding read_list list_bits
  list_back room a rest u few h =
      let l : List ℕ = form.numbers_of a in
      let b = heads.back a (body_bits l ++ rest) few in
      rw (append_assoc (form.head_bits a) (body_bits l) rest, b.taken_off, h, body_back l rest u, b.again)

  lists_back : (room : Option ℕ) (ls : List A) (rest : List Bool) → AllStorable form ls → fits (total form ls) room ≡ true → read_lists take_field form (length ls) room (flat_map (list_bits form) ls ++ rest) ≡ accepted (ls, rest)
  unfolding read_lists flat_map total
  lists_back room [] rest s h = refl
  lists_back room (a ∷ more) rest s h =
      let f = fits_both (length (form.numbers_of a)) (total form more) room h in
      rw (
        append_assoc (list_bits form a) (flat_map (list_bits form) more) rest,
        list_back room a (flat_map (list_bits form) more ++ rest) s.0.0 s.0.1 f.0,
        lists_back (Option.map (λ r. r - length (form.numbers_of a)) room) more rest s.1 f.1,
      )

  -- bits of lists that the room holds, with fill behind them, read as those lists
  back : (numbers_room ends_room : Option ℕ) (bs : List ℕ) (ls : List A) → Reads numbers_room ends_room bs ls → read_in form numbers_room ends_room bs ≡ accepted ls
  unfolding read_in
  back numbers_room ends_room bs ls r =
      let c = r.held.count in
      rw (
        r.are,
        append_assoc (field 6 (length ls)) (flat_map (list_bits form) ls) r.fill,
        taken 6 (length ls) (flat_map (list_bits form) ls ++ r.fill) (omega (arith, leb-true (length ls) 32 (and_true (leb 1 (length ls)) (leb (length ls) 32) (unfold count_holds in c)).1)),
        c,
        r.held.ends,
        lists_back numbers_room ls r.fill r.held.storable r.held.numbers,
        r.only,
      )

  -- what is written from lists reads back as those lists
  pub form-written : (numbers_room ends_room : Option ℕ) (ls : List A) → Held form numbers_room ends_room ls → read_in form numbers_room ends_room (delivery_in form ls) ≡ accepted ls
  unfolding delivery_in
  form-written numbers_room ends_room ls h =
      let f = filled (field 6 (length ls) ++ flat_map (list_bits form) ls) in
      back numbers_room ends_room (delivery_in form ls) ls (record { fill = replicate f.zeros_behind false; are = f.are; only = fill-only f.zeros_behind f.few; held = h })

  -- what reads with some room, or with none lent, reads with any that holds it
  pub form-room : (numbers_room ends_room numbers_room' ends_room' : Option ℕ) (bs : List ℕ) (ls : List A) → read_in form numbers_room ends_room bs ≡ accepted ls
      → fits (total form ls) numbers_room' ≡ true → fits (length ls) ends_room' ≡ true → read_in form numbers_room' ends_room' bs ≡ accepted ls
  form-room numbers_room ends_room numbers_room' ends_room' bs ls e h₁ h₂ =
      let r = reads numbers_room ends_room bs ls e in
      back numbers_room' ends_room' bs ls (record { fill = r.fill; are = r.are; only = r.only; held = record { count = r.held.count; storable = r.held.storable; numbers = h₁; ends = h₂ } })

-- ---- lists as they are lent, and as they are supplied

-- lists that a delivery can hold
abbrev pub Storable : List (List ℕ) → Type 0
Storable ls = AllStorable by_count ls

pub storable_up : (ls : List (List ℕ)) → Storable ls → (k : ℕ) → Up 0 (get_or ls k [])
storable_up [] s k = tt
storable_up (l ∷ ls) s zero = s.0.0
storable_up (l ∷ ls) s (suc k) = storable_up ls s.1 k

-- the same, of what was supplied
supplied_storable : (ss : List Supplied) → Storable (map supplied_numbers ss) → AllStorable by_bit ss
supplied_storable [] s = tt
supplied_storable (a ∷ ss) s = (s.0, supplied_storable ss s.1)

storable_supplied : (ss : List Supplied) → AllStorable by_bit ss → Storable (map supplied_numbers ss)
storable_supplied [] s = tt
storable_supplied (a ∷ ss) s = (s.0, storable_supplied ss s.1)

total-is : (ls : List (List ℕ)) → total by_count ls ≡ length (all_numbers ls)
unfolding total all_numbers
total-is [] = refl
total-is (l ∷ ls) = omega (arith, length-append l (all_numbers ls), total-is ls)

total-supplied : (ss : List Supplied) → total by_bit ss ≡ length (all_numbers (map supplied_numbers ss))
unfolding total all_numbers
total-supplied [] = refl
total-supplied (a ∷ ss) = omega (arith, length-append (supplied_numbers a) (all_numbers (map supplied_numbers ss)), total-supplied ss)

-- ---- Two's form

-- its heads read back
bit_back : (a : Supplied) (rest : List Bool) → length (supplied_numbers a) ≤ 65535 → HeadBack by_bit a rest
unfolding supplied_numbers bit_and_count take_count
bit_back undelivered rest h = record { made = λ xs. undelivered; taken_off = rw (taken 1 0 rest (omega arith)) refl; again = refl }
bit_back (came l) rest h = record {
  made = came;
  taken_off = rw (append_assoc (field 1 1) (field 16 (length l)) rest, taken 1 1 (field 16 (length l) ++ rest) (omega arith), taken 16 (length l) rest (omega arith)) refl;
  again = refl;
}

bit_was : (bit : ℕ) (bs behind : List Bool) (r : (ℕ × (List ℕ → Supplied)) × List Bool) → bit < 2 → bs ≡ field 1 bit ++ behind → take_count take_field bit behind ≡ accepted r → HeadWas by_bit bs r.0.0 r.0.1 r.1
unfolding supplied_numbers bit_and_count take_count
bit_was zero bs behind r lt w e =
    let q : ◌≡◌ {A = (ℕ × (List ℕ → Supplied)) × List Bool} ((0, λ xs. undelivered), behind) r = accepted-same e in
    subst (λ (r : (ℕ × (List ℕ → Supplied)) × List Bool). HeadWas by_bit bs r.0.0 r.0.1 r.1) q (record { few = omega arith; written = λ xs h. w; numbers = λ xs h. empty xs h })
  where
    empty : (xs : List ℕ) → length xs ≡ 0 → [] ≡ xs
    empty [] h = refl
    empty (x ∷ xs) h = absurd (omega arith)
bit_was (suc zero) bs behind r lt w e =
    let a = bound (take_field 16 behind) _ r e in
    let q : ◌≡◌ {A = (ℕ × (List ℕ → Supplied)) × List Bool} ((a.got.0, came), a.got.1) r = accepted-same a.rest in
    subst (λ (r : (ℕ × (List ℕ → Supplied)) × List Bool). HeadWas by_bit bs r.0.0 r.0.1 r.1) q (record {
      few = omega (arith, field_lt 16 behind a.got a.first);
      written = λ xs h. w ∙ ap (λ (l : List Bool). field 1 1 ++ l) (was_field 16 behind a.got a.first ∙ ap (λ (k : ℕ). field 16 k ++ a.got.1) (sym h)) ∙ sym (append_assoc (field 1 1) (field 16 (length xs)) a.got.1);
      numbers = λ xs h. refl;
    })
bit_was (suc (suc bit)) bs behind r lt w e = absurd (omega arith)

pub by_bit_reads_back : ReadsBack by_bit
by_bit_reads_back = record {
  back = bit_back;
  was = λ bs count made rest e.
      let a = bound (take_field 1 bs) _ ((count, made), rest) e in
      bit_was a.got.0 bs a.got.1 ((count, made), rest) (field_lt 1 bs a.got a.first) (was_field 1 bs a.got a.first) a.rest;
}

-- bytes that read are written back the same
pub delivery-same : (numbers_room ends_room : ℕ) (bs : List ℕ) (ss : List Supplied) → Bytes bs → read_delivery numbers_room ends_room bs ≡ accepted ss → delivery ss ≡ bs
unfolding read_delivery delivery
delivery-same numbers_room ends_room bs ss h e = form-same by_bit by_bit_reads_back (some numbers_room) (some ends_room) bs ss h e

pub record Delivered (numbers_room ends_room : ℕ) (ss : List Supplied) : Type 0 where
  pub count : count_holds (length ss) ≡ true
  pub storable : Storable (map supplied_numbers ss)
  pub numbers : length (all_numbers (map supplied_numbers ss)) ≤ numbers_room
  pub ends : length ss ≤ ends_room

-- 1 to 32 list sets of at most 65,535 numbers, with room for their numbers and ends
pub delivery_holds : (numbers_room ends_room : ℕ) (bs : List ℕ) (ss : List Supplied) → read_delivery numbers_room ends_room bs ≡ accepted ss → Delivered numbers_room ends_room ss
unfolding read_delivery
delivery_holds numbers_room ends_room bs ss e =
    let h = (reads by_bit by_bit_reads_back (some numbers_room) (some ends_room) bs ss e).held in
    record { count = h.count; storable = storable_supplied ss h.storable; numbers = omega (arith, total-supplied ss, leb-true (total by_bit ss) numbers_room h.numbers); ends = leb-true (length ss) ends_room h.ends }

-- room for the numbers and for the ends
room_fits : (numbers_room : ℕ) (ss : List Supplied) → length (all_numbers (map supplied_numbers ss)) ≤ numbers_room → fits (total by_bit ss) (some numbers_room) ≡ true
room_fits numbers_room ss h = le-leb (total by_bit ss) numbers_room (omega (arith, total-supplied ss))

ends_fit : (ends_room n : ℕ) → n ≤ ends_room → fits n (some ends_room) ≡ true
ends_fit ends_room n h = le-leb n ends_room h

-- what is written from lists reads back as those lists
pub delivery-written : (numbers_room ends_room : ℕ) (ss : List Supplied) → count_holds (length ss) ≡ true → Storable (map supplied_numbers ss) → length (all_numbers (map supplied_numbers ss)) ≤ numbers_room → length ss ≤ ends_room
    → read_delivery numbers_room ends_room (delivery ss) ≡ accepted ss
unfolding read_delivery delivery
delivery-written numbers_room ends_room ss c s h₁ h₂ =
    form-written by_bit by_bit_reads_back (some numbers_room) (some ends_room) ss (record { count = c; storable = supplied_storable ss s; numbers = room_fits numbers_room ss h₁; ends = ends_fit ends_room (length ss) h₂ })

-- what is accepted with room is accepted with no row lent; and the other way round, where there is room for it
pub stored_too : (numbers_room ends_room : ℕ) (bs : List ℕ) (ss : List Supplied) → read_delivery numbers_room ends_room bs ≡ accepted ss → read_stored by_bit bs ≡ accepted ss
unfolding read_delivery read_stored
stored_too numbers_room ends_room bs ss e = form-room by_bit by_bit_reads_back (some numbers_room) (some ends_room) none none bs ss e refl refl

pub stored_fits : (numbers_room ends_room : ℕ) (bs : List ℕ) (ss : List Supplied) → read_stored by_bit bs ≡ accepted ss → length (all_numbers (map supplied_numbers ss)) ≤ numbers_room → length ss ≤ ends_room → read_delivery numbers_room ends_room bs ≡ accepted ss
unfolding read_delivery read_stored
stored_fits numbers_room ends_room bs ss e h₁ h₂ = form-room by_bit by_bit_reads_back none none (some numbers_room) (some ends_room) bs ss e (room_fits numbers_room ss h₁) (ends_fit ends_room (length ss) h₂)

-- ---- the two forms

-- lists in 01's form and the same lists in Two's, all delivered: what can be held in one can be held in the other
pub came-numbers : (ls : List (List ℕ)) → map supplied_numbers (map came ls) ≡ ls
unfolding supplied_numbers
came-numbers [] = refl
came-numbers (l ∷ ls) = ap (λ (r : List (List ℕ)). l ∷ r) (came-numbers ls)

pub numbers-came : (ss : List Supplied) → all_delivered ss ≡ true → map came (map supplied_numbers ss) ≡ ss
unfolding supplied_numbers all_delivered is_delivered
numbers-came [] h = refl
numbers-came (undelivered ∷ ss) h = absurd (not_both h refl)
numbers-came (came l ∷ ss) h = ap (λ (r : List Supplied). came l ∷ r) (numbers-came ss h)

pub came-all : (ls : List (List ℕ)) → all_delivered (map came ls) ≡ true
unfolding all_delivered is_delivered
came-all [] = refl
came-all (l ∷ ls) = came-all ls

-- what was read in either form without a row lent is written in the other and read again
pub old_as_new : (bs : List ℕ) (ls : List (List ℕ)) → read_stored by_count bs ≡ accepted ls → read_stored by_bit (delivery (map came ls)) ≡ accepted (map came ls)
unfolding read_stored delivery
old_as_new bs ls e =
    let h = (reads by_count by_count_reads_back none none bs ls e).held in
    form-written by_bit by_bit_reads_back none none (map came ls) (record { count = ap count_holds (length-map ls came) ∙ h.count; storable = supplied_storable (map came ls) (subst Storable (sym (came-numbers ls)) h.storable); numbers = refl; ends = refl })

pub new_as_old : (bs : List ℕ) (ss : List Supplied) → read_stored by_bit bs ≡ accepted ss → read_stored by_count (old_delivery (map supplied_numbers ss)) ≡ accepted (map supplied_numbers ss)
unfolding read_stored old_delivery
new_as_old bs ss e =
    let h = (reads by_bit by_bit_reads_back none none bs ss e).held in
    form-written by_count by_count_reads_back none none (map supplied_numbers ss) (record { count = ap count_holds (length-map ss supplied_numbers) ∙ h.count; storable = storable_supplied ss h.storable; numbers = refl; ends = refl })
