-- Reading a delivery with room and without: with rows lent it is the reading without, or 6; and without, 6 never comes. By the
-- lines of each `do` block. Assumes nothing.
use mathlib.Core.Path.{◌≡◌, refl, sym, ap}
use mathlib.Core.Bool.{Bool, true, false}
use mathlib.Core.List.{List}
use mathlib.Core.Option.{Option, none, some, map}
use Prim.Native.Nat.{ℕ, zero, suc, ◌+◌, ◌-◌}
use native.Mathlib.Omega.{arith}
use lib.Dec.{ltb, leb, eqb}
use lib.ListN.{length}
use Rattle.model.specs.Outcome.{Outcome, refused, accepted, ◌>>=◌, ◌>>◌, require}
use Rattle.model.specs.Lists.{top, count_holds}
use Rattle.model.specs.Fields.{bits, take_field, only_fill}
use Rattle.model.specs.Delivery.{largest_gap, width, Form, by_count, read_gaps, read_body, read_list, read_lists, read_in, take_count, by_bit, read_stored, read_delivery, read_old_delivery}
use Rattle.model.proofs.Accepted.{never_accepted}

refused-same : {A : Type 0} {n m : ℕ} → ◌≡◌ {A = Outcome A} (refused n) (refused m) → n ≡ m
refused-same {A} {n} {m} e = cc

abbrev pub Not6 : {A : Type 0} → Outcome A → Type 0
Not6 o = o ≡ refused 6 → ⊥

right_not : {A : Type 0} {a : A} → Not6 (accepted a)
right_not e = never_accepted (sym e)

-- ---- with room: the same, or 6

-- where the first is not 6, the second is the same
abbrev Same : {A : Type 0} → Outcome A → Outcome A → Type 0
Same o p = Not6 o → p ≡ o

same_then : {A B : Type 0} (o p : Outcome A) (f g : A → Outcome B) → Same o p → ((a : A) → Same (f a) (g a)) → Same (o >>= f) (p >>= g)
same_then (refused n) p f g h k l = rw (h (λ e. l (ap refused (refused-same e))))
same_then (accepted a) p f g h k l = rw (h right_not) (k a l)

same_test : {B : Type 0} (n : ℕ) (b : Bool) (o p : Outcome B) → Same o p → Same (require n b >> o) (require n b >> p)
same_test n true o p h l = h l
same_test n false o p h l = refl

-- the test for room, which is made in the first only
same_room : {B : Type 0} (b : Bool) (o p : Outcome B) → Same o p → Same (require 6 b >> o) p
same_room true o p h l = h l
same_room false o p h l = absurd (l refl)

module _ {A : Type 0} (form : Form A) where
  module _ {S : Type 0} (take_bits : ℕ → S → Outcome (ℕ × S)) where
    list_same : (room : Option ℕ) (s : S) → Same (read_list take_bits form room s) (read_list take_bits form none s)
    unfolding read_list
    list_same room s = same_then (form.take_head take_bits s) _ _ _ (λ _. refl) (λ r. same_room (elim room [ none ↦ true | some k ↦ leb r.0.0 k ]) _ _ (λ _. refl))

    lists_same : (n : ℕ) (room : Option ℕ) (s : S) → Same (read_lists take_bits form n room s) (read_lists take_bits form n none s)
    unfolding read_lists
    lists_same zero room s = λ _. refl
    lists_same (suc n) room s = same_then (read_list take_bits form room s) _ _ _ (list_same room s) (λ r.
        let left : Option ℕ = map (λ k. k - length (form.numbers_of r.0)) room in
        same_then (read_lists take_bits form n left r.1) _ _ _ (lists_same n left r.1) (λ q _. refl))

  -- what rows are lent decides only whether it is 6
  pub room-only_6 : (numbers_room ends_room : Option ℕ) (bs : List ℕ) → Not6 (read_in form numbers_room ends_room bs) → read_stored form bs ≡ read_in form numbers_room ends_room bs
  unfolding read_in read_stored
  room-only_6 numbers_room ends_room bs = same_then (take_field 6 (bits bs)) _ _ _ (λ _. refl) (λ r. same_test 7 (count_holds r.0) _ _ (
      same_room (elim ends_room [ none ↦ true | some k ↦ leb r.0 k ]) _ _ (same_then (read_lists take_field form r.0 numbers_room r.1) _ _ _ (lists_same take_field r.0 numbers_room r.1) (λ q _. refl))))

-- ---- without: never 6

not_then : {A B : Type 0} (o : Outcome A) (f : A → Outcome B) → Not6 o → ((a : A) → Not6 (f a)) → Not6 (o >>= f)
not_then (refused n) f h k e = h (ap refused (refused-same e))
not_then (accepted a) f h k e = k a e

not_test : {B : Type 0} (n : ℕ) (b : Bool) (o : Outcome B) → (n ≡ 6 → ⊥) → Not6 o → Not6 (require n b >> o)
not_test n true o l h e = h e
not_test n false o l h e = l (refused-same e)

field_not : (w : ℕ) (bs : List Bool) → Not6 (take_field w bs)
unfolding take_field
field_not w bs = not_test 1 (leb w (length bs)) _ (λ e. omega arith) right_not

gaps_not : (w n last : ℕ) (bs : List Bool) → Not6 (read_gaps take_field w n last bs)
unfolding read_gaps
gaps_not w zero last bs = right_not
gaps_not w (suc n) last bs = not_then (take_field w bs) _ (field_not w bs) (λ r. not_test 8 (ltb (last + r.0 + 1) top) _ (λ e. omega arith) (
    not_then (read_gaps take_field w n (last + r.0 + 1) r.1) _ (gaps_not w n (last + r.0 + 1) r.1) (λ q. right_not)))

body_not : (n : ℕ) (bs : List Bool) → Not6 (read_body take_field n bs)
unfolding read_body
body_not zero bs = right_not
body_not (suc zero) bs = not_then (take_field 32 bs) _ (field_not 32 bs) (λ r. right_not)
body_not (suc (suc n)) bs = not_then (take_field 32 bs) _ (field_not 32 bs) (λ a. not_then (take_field 5 a.1) _ (field_not 5 a.1) (λ r.
    not_then (read_gaps take_field (r.0 + 1) (suc n) a.0 r.1) _ (gaps_not (r.0 + 1) (suc n) a.0 r.1) (λ q. not_test 9 (eqb (r.0 + 1) (width (largest_gap a.0 q.0))) _ (λ e. omega arith) right_not)))

-- of a form whose heads are never refused by 6
module _ {A : Type 0} (form : Form A) (head_not : (bs : List Bool) → Not6 (form.take_head take_field bs)) where
  list_not : (bs : List Bool) → Not6 (read_list take_field form none bs)
  unfolding read_list
  list_not bs = not_then (form.take_head take_field bs) _ (head_not bs) (λ r. not_then (read_body take_field r.0.0 r.1) _ (body_not r.0.0 r.1) (λ q. right_not))

  lists_not : (n : ℕ) (bs : List Bool) → Not6 (read_lists take_field form n none bs)
  unfolding read_lists
  lists_not zero bs = right_not
  lists_not (suc n) bs = not_then (read_list take_field form none bs) _ (list_not bs) (λ r. not_then (read_lists take_field form n none r.1) _ (lists_not n r.1) (λ q. right_not))

  pub stored_not_6 : (bs : List ℕ) → Not6 (read_stored form bs)
  unfolding read_in read_stored
  stored_not_6 bs = not_then (take_field 6 (bits bs)) _ (field_not 6 (bits bs)) (λ r. not_test 7 (count_holds r.0) _ (λ e. omega arith) (
      not_then (read_lists take_field form r.0 none r.1) _ (lists_not r.0 r.1) (λ q. not_test 5 (only_fill q.1) _ (λ e. omega arith) right_not)))

pub by_count_not : (bs : List Bool) → Not6 (by_count.take_head take_field bs)
by_count_not bs = not_then (take_field 16 bs) _ (field_not 16 bs) (λ r. right_not)

pub by_bit_not : (bs : List Bool) → Not6 (by_bit.take_head take_field bs)
unfolding take_count
by_bit_not bs = not_then (take_field 1 bs) _ (field_not 1 bs) (λ r. count_not r.0 r.1)
  where
    count_not : (bit : ℕ) (bs : List Bool) → Not6 (take_count take_field bit bs)
    count_not zero bs = right_not
    count_not (suc bit) bs = not_then (take_field 16 bs) _ (field_not 16 bs) (λ r. right_not)

-- ---- 01's form

pub old_only_6 : (numbers_room ends_room : ℕ) (bs : List ℕ) → Not6 (read_old_delivery numbers_room ends_room bs) → read_stored by_count bs ≡ read_old_delivery numbers_room ends_room bs
unfolding read_old_delivery
old_only_6 numbers_room ends_room bs = room-only_6 by_count (some numbers_room) (some ends_room) bs

pub old_not_6 : (bs : List ℕ) → Not6 (read_stored by_count bs)
old_not_6 bs = stored_not_6 by_count by_count_not bs

-- ---- Two's form

pub delivery-only_6 : (numbers_room ends_room : ℕ) (bs : List ℕ) → Not6 (read_delivery numbers_room ends_room bs) → read_stored by_bit bs ≡ read_delivery numbers_room ends_room bs
unfolding read_delivery
delivery-only_6 numbers_room ends_room bs = room-only_6 by_bit (some numbers_room) (some ends_room) bs

pub delivery_not_6 : (bs : List ℕ) → Not6 (read_stored by_bit bs)
delivery_not_6 bs = stored_not_6 by_bit by_bit_not bs
