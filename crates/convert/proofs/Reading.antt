-- Reading a stored delivery list by list, in either form and with no row lent: what each step comes to, where it gets to, and
-- which bits it went over. Assumes nothing.
use mathlib.Core.Path.{◌≡◌, refl, sym, ap, ◌∙◌, subst}
use mathlib.Core.Bool.{Bool, true, false}
use mathlib.Core.List.{List, ◌++◌, flat_map}
use mathlib.Core.Option.{none}
use Prim.Native.Nat.{ℕ, zero, suc, ◌+◌, ◌*◌, ◌≤◌}
use native.Mathlib.Omega.{arith}
use lib.ListN.{length, length-append, length-drop}
use Rattle.model.specs.Outcome.{Outcome, refused, accepted, ◌>>=◌}
use Rattle.model.specs.Fields.{bits, take_field}
use Rattle.model.specs.Delivery.{Form, by_count, by_bit, Supplied, undelivered, came, take_count, list_bits, read_body, read_list, read_lists}
use Rattle.model.proofs.Accepted.{accepted-same, bound, assoc}
use Rattle.model.proofs.Bits.{bits-length}
use Rattle.model.proofs.Sources.{seen, list-seen, lists-seen, by_count-seen, by_bit-seen}
use Rattle.model.proofs.Deliveries.{ReadsBack, by_count_reads_back, by_bit_reads_back, list_was, lists_was}
use Rattle.fields.specs.Positions.{take_at}
use Rattle.fields.proofs.Fields.{took}
use Rattle.walk.proofs.Bounds.{Ahead, list_next, by_bit_ahead}
use Rattle.walk.proofs.Whole.{from, alike}
use Rattle.convert.specs.Forms.{ListIn, form_of}

-- ---- a list by its fields

-- numbers as the list that they make in either form
abbrev as_read : {S : Type 0} → Outcome (List ℕ × S) → Outcome (List ℕ × S)
as_read o = o >>= λ t. accepted (t.0, t.1)

abbrev as_came : {S : Type 0} → Outcome (List ℕ × S) → Outcome (Supplied × S)
as_came o = o >>= λ t. accepted (came t.0, t.1)

came-read : {S : Type 0} (o : Outcome (List ℕ × S)) → as_came (as_read o) ≡ as_came o
came-read (refused k) = refl
came-read (accepted t) = refl

module _ {S : Type 0} (take_bits : ℕ → S → Outcome (ℕ × S)) where
  pub count-ends : (s : S) {k : ℕ} → take_bits 16 s ≡ refused k → read_list take_bits by_count none s ≡ refused k
  unfolding read_list
  count-ends s e = rw e

  pub count-more : (s : S) {n : ℕ} {r : S} → take_bits 16 s ≡ accepted (n, r) → read_list take_bits by_count none s ≡ as_read (read_body take_bits n r)
  unfolding read_list
  count-more s e = rw e

  pub bit-ends : (s : S) {k : ℕ} → take_bits 1 s ≡ refused k → read_list take_bits by_bit none s ≡ refused k
  unfolding read_list
  bit-ends s e = rw e

  pub bit-none : (s : S) {n : ℕ} {r : S} → take_bits 1 s ≡ accepted (n, r) → n ≡ 0 → read_list take_bits by_bit none s ≡ accepted (undelivered, r)
  unfolding read_list take_count read_body
  bit-none s e z = rw (e, z)

  -- behind a bit that says that it came, a list is what it is without the bit
  pub bit-came : (s : S) (n : ℕ) {r : S} → take_bits 1 s ≡ accepted (n, r) → (n ≡ 0 → ⊥) → read_list take_bits by_bit none s ≡ as_came (read_list take_bits by_count none r)
  unfolding read_list take_count
  bit-came s zero e z = absurd (z refl)
  bit-came s (suc n) {r} e z = rw e (
      assoc (take_bits 16 r) _ _ (λ x. as_came (read_body take_bits x.0 x.1)) (λ x. refl)
      ∙ sym (ap as_came (assoc (take_bits 16 r) _ _ (λ x. as_read (read_body take_bits x.0 x.1)) (λ x. refl))
      ∙ assoc (take_bits 16 r) _ _ (λ x. as_came (read_body take_bits x.0 x.1)) (λ x. came-read (read_body take_bits x.0 x.1))))

-- ---- both forms alike

pub head-seen : (bit : Bool) (s : List ℕ) (p : ℕ) → (form_of bit).take_head take_field (from s p) ≡ seen (from s) ((form_of bit).take_head (take_at s) p)
head-seen true s p = by_bit-seen (from s) (take_at s) take_field (alike s) p
head-seen false s p = by_count-seen (from s) (take_at s) take_field (alike s) p

pub reads_back : (bit : Bool) → ReadsBack (form_of bit)
reads_back true = by_bit_reads_back
reads_back false = by_count_reads_back

pub ahead : (bit : Bool) (s : List ℕ) (p : ℕ) (r : (ℕ × (List ℕ → ListIn bit)) × ℕ) → (form_of bit).take_head (take_at s) p ≡ accepted r → Ahead (form_of bit) s p r
ahead true s p r e = by_bit_ahead s p r e
ahead false s p r e =
    let a = bound (take_at s 16 p) _ r e in
    let t = took s 16 p a.got a.first in
    subst (Ahead by_count s p) (accepted-same a.rest) (record { near = omega (arith, t.next); inside = omega (arith, t.next, t.inside); few = omega (arith, t.small); many = λ xs m. m })

-- ---- the bits that a reading went over

module _ (bit : Bool) (s : List ℕ) where
  abbrev form : Form (ListIn bit)
  form = form_of bit

  -- a list ends as many bits on as it takes
  pub record Ends (p : ℕ) (a : ListIn bit) (q : ℕ) : Type 0 where
    pub is : q ≡ p + length (list_bits form a)
    pub near : q ≤ p + 4194304
    pub inside : q ≤ 8 * length s

  pub list_ends : (p : ℕ) (a : ListIn bit) (q : ℕ) → p ≤ 8 * length s → read_list (take_at s) form none p ≡ accepted (a, q) → Ends p a q
  unfolding seen
  list_ends p a q h e =
      let n = list_next form s (ahead bit s) none p (a, q) e in
      let there : read_list take_field form none (from s p) ≡ accepted (a, from s q) = list-seen (from s) (take_at s) take_field (alike s) form (head-seen bit s) none p ∙ ap (seen (from s)) e in
      let are = (list_was form (reads_back bit) none (from s p) (a, from s q) there).are in
      record {
        is = omega (arith, ap length are, length-append (list_bits form a) (from s q), length-drop p (bits s), length-drop q (bits s), bits-length s, n.inside);
        near = n.near;
        inside = n.inside;
      }

  -- lists, and how many
  pub lists_are : (n p : ℕ) (ls : List (ListIn bit)) (q : ℕ) → read_lists (take_at s) form n none p ≡ accepted (ls, q) → (from s p ≡ flat_map (list_bits form) ls ++ from s q) × (length ls ≡ n)
  unfolding seen
  lists_are n p ls q e =
      let w = lists_was form (reads_back bit) n none (from s p) (ls, from s q) (lists-seen (from s) (take_at s) take_field (alike s) form (head-seen bit s) n none p ∙ ap (seen (from s)) e) in
      (w.are, w.many)
