-- Reading lists, in any form: one list, and those behind it. In request Two's form: a list is what stands ahead of its numbers
-- and these numbers. Over any source. Assumes nothing.
use mathlib.Core.Path.{◌≡◌, refl, sym, ap, ◌∙◌, subst}
use mathlib.Core.Bool.{cond}
use mathlib.Core.List.{List, [], ◌∷◌}
use mathlib.Core.Option.{Option, map}
use Prim.Native.Nat.{ℕ, zero, suc, ◌-◌, ◌≤◌, ◌<◌}
use native.Mathlib.Omega.{arith}
use lib.Dec.{leb}
use lib.ListN.{length}
use borrow.Author.Tests.{le-leb, lt-leb}
use Rattle.model.specs.Outcome.{Outcome, refused, accepted, ◌>>=◌, ◌>>◌, require}
use Rattle.model.specs.Delivery
use Rattle.model.specs.Delivery.{Form, Supplied, undelivered, came, supplied_numbers, is_delivered, take_count, by_bit, read_body}
use Rattle.model.proofs.Accepted.{accepted-same, bound, assoc}
use Rattle.walk.specs.Counts.{one_counted, list_head, read_list}
use Rattle.std.proofs.Common.{Result, Ok, Err}
use Rattle.std.specs.Result.{IsErrAnd}
use Rattle.refusals.specs.declared.Refusal.{Refusal}
use Rattle.refusals.specs.Numbers.{number}
use Rattle.walk.specs.declared.Counted.{Counted}
use Rattle.walk.specs.Answers.{counted_says}
use Rattle.walk.proofs.Reading.{tested}

-- ---- a refusal goes up by `?` as it came

pub counted_up : (r : Result (Counted × ℕ) Refusal) (e : Refusal) → IsErrAnd r (λ y. y ≡ e) → counted_says r ≡ refused (number e)
counted_up (Ok a) e h = absurd h
counted_up (Err y) e h = ap (λ (x : Refusal). refused (number x)) h

-- ---- in any form: one list, and those behind it

-- the room that a list leaves
abbrev pub left : {A : Type 0} → Form A → Option ℕ → A → Option ℕ
left form room l = map (λ r. r - length (form.numbers_of l)) room

module _ {A : Type 0} (form : Form A) {S : Type 0} (take_bits : ℕ → S → Outcome (ℕ × S)) where
  pub lists-none : (n : ℕ) (room : Option ℕ) (s : S) → n ≡ 0 → Delivery.read_lists take_bits form n room s ≡ accepted ([], s)
  unfolding Delivery.read_lists
  lists-none n room s e = rw e

  pub lists_stop : (n : ℕ) (room : Option ℕ) (s : S) {k : ℕ} → 0 < n → Delivery.read_list take_bits form room s ≡ refused k → Delivery.read_lists take_bits form n room s ≡ refused k
  unfolding Delivery.read_lists
  lists_stop zero room s h e = absurd (omega arith)
  lists_stop (suc n) room s h e = rw e

  pub lists-more : (n : ℕ) (room : Option ℕ) (s : S) {l : A} {r : S} → 0 < n → Delivery.read_list take_bits form room s ≡ accepted (l, r)
      → Delivery.read_lists take_bits form n room s ≡ (Delivery.read_lists take_bits form (n - 1) (left form room l) r >>= λ t. accepted (l ∷ t.0, t.1))
  unfolding Delivery.read_lists
  lists-more zero room s h e = absurd (omega arith)
  lists-more (suc n) room s {l} {r} h e =
      let pred : n ≡ suc n - 1 = omega arith in
      rw e (ap (λ (k : ℕ). (Delivery.read_lists take_bits form k (left form room l) r >>= λ t. accepted (l ∷ t.0, t.1))) pred)

  -- so the first of lists that read, and those behind it
  pub record First (n : ℕ) (room : Option ℕ) (s : S) (ls : List A) (q : S) : Type 0 where
    pub first : A
    pub rest : List A
    pub next : S
    pub are : ls ≡ first ∷ rest
    pub read_first : Delivery.read_list take_bits form room s ≡ accepted (first, next)
    pub read-rest : Delivery.read_lists take_bits form (n - 1) (left form room first) next ≡ accepted (rest, q)

  pub lists_first : (n : ℕ) (room : Option ℕ) (s : S) (ls : List A) (q : S) → 0 < n → Delivery.read_lists take_bits form n room s ≡ accepted (ls, q) → First n room s ls q
  unfolding Delivery.read_lists
  lists_first zero room s ls q h e = absurd (omega arith)
  lists_first (suc n) room s ls q h e =
      let a = bound (Delivery.read_list take_bits form room s) _ (ls, q) e in
      let b = bound (Delivery.read_lists take_bits form n (left form room a.got.0) a.got.1) _ (ls, q) a.rest in
      let same : ◌≡◌ {A = List A × S} (a.got.0 ∷ b.got.0, b.got.1) (ls, q) = accepted-same b.rest in
      let pred : suc n - 1 ≡ n = omega arith in
      record {
        first = a.got.0;
        rest = b.got.0;
        next = a.got.1;
        are = sym (ap (λ (p : List A × S). p.0) same);
        read_first = a.first;
        read-rest = ap (λ (k : ℕ). Delivery.read_lists take_bits form k (left form room a.got.0) a.got.1) pred ∙ b.first ∙ ap (λ (k : S). accepted (b.got.0, k)) (ap (λ (p : List A × S). p.1) same);
      }

-- ---- in Two's form: the list that its bit and its numbers make

unfoldable pub supply : ℕ → List ℕ → Supplied
supply zero xs = undelivered
supply (suc bit) xs = came xs

-- it has these numbers, if it has as many
pub supply-numbers : (bit : ℕ) (xs : List ℕ) {b : ℕ} → one_counted (supply bit xs) ≡ (b, length xs) → supplied_numbers (supply bit xs) ≡ xs
unfolding supply one_counted supplied_numbers
supply-numbers zero [] e = refl
supply-numbers zero (x ∷ xs) e = let n : 0 ≡ length (x ∷ xs) = ap (λ (p : ℕ × ℕ). p.1) e in absurd (omega arith)
supply-numbers (suc bit) xs e = refl

module _ {S : Type 0} (take_bits : ℕ → S → Outcome (ℕ × S)) where
  -- what follows what stands ahead of the numbers
  abbrev pub body : (ℕ × ℕ) × S → Outcome (Supplied × S)
  body h = read_body take_bits h.0.1 h.1 >>= λ r. accepted (supply h.0.0 r.0, r.1)

  pub list-is : (room : ℕ) (s : S) → read_list take_bits room s ≡ (list_head take_bits room s >>= body)
  unfolding Delivery.read_list list_head take_count supply is_delivered
  list-is room s =
      assoc (take_bits 1 s) _ _ _ (λ x. refl)
      ∙ sym (ap (λ (o : Outcome ((ℕ × ℕ) × S)). o >>= body) (assoc (take_bits 1 s) _ _ _ (λ x. refl)) ∙ assoc (take_bits 1 s) _ _ _ (λ x. by x.0 x.1))
    where
      by : (bit : ℕ) (s : S) → ((take_count take_bits bit s >>= λ h. (require 6 (leb h.0.0 room) >> accepted ((cond (is_delivered (h.0.1 [])) 1 0, h.0.0), h.1))) >>= body)
          ≡ (take_count take_bits bit s >>= λ h. (require 6 (leb h.0.0 room) >> (read_body take_bits h.0.0 h.1 >>= λ r. accepted (h.0.1 r.0, r.1))))
      by zero s = tested 6 (leb 0 room) (accepted ((0, 0), s)) body _ refl
      by (suc bit) s =
          ap (λ (o : Outcome ((ℕ × ℕ) × S)). o >>= body) (assoc (take_bits 16 s) _ _ _ (λ y. refl))
          ∙ assoc (take_bits 16 s) _ body _ (λ y. tested 6 (leb y.0 room) (accepted ((1, y.0), y.1)) body _ refl)
          ∙ sym (assoc (take_bits 16 s) _ _ _ (λ y. refl))

  pub list-short : (room : ℕ) (s : S) {k : ℕ} → list_head take_bits room s ≡ refused k → read_list take_bits room s ≡ refused k
  list-short room s e = list-is room s ∙ rw e

  pub list-more : (room : ℕ) (s : S) {bit n : ℕ} {r : S} {o : Outcome (List ℕ × S)} → list_head take_bits room s ≡ accepted ((bit, n), r) → read_body take_bits n r ≡ o
      → read_list take_bits room s ≡ (o >>= λ t. accepted (supply bit t.0, t.1))
  list-more room s e f = list-is room s ∙ rw (e, f)

  -- what it is counted as, by its head
  abbrev IsCounted : List ℕ → (ℕ × (List ℕ → Supplied)) × S → Type 0
  IsCounted xs r = length xs ≡ r.0.0 → let bit : ℕ = cond (is_delivered (r.0.1 [])) 1 0 in one_counted (supply bit xs) ≡ (bit, r.0.0)

  pub head_counted : (s : S) (r : (ℕ × (List ℕ → Supplied)) × S) → by_bit.take_head take_bits s ≡ accepted r → (xs : List ℕ) → IsCounted xs r
  unfolding take_count supply one_counted is_delivered supplied_numbers
  head_counted s r e xs = let a = bound (take_bits 1 s) _ r e in by a.got.0 a.got.1 a.rest
    where
      by : (bit : ℕ) (q : S) → take_count take_bits bit q ≡ accepted r → IsCounted xs r
      by zero q f = subst (IsCounted xs) (accepted-same f) (λ m. ap (λ (n : ℕ). (0, n)) refl)
      by (suc bit) q f = subst (IsCounted xs) (accepted-same (bound (take_bits 16 q) _ r f).rest) (λ m. ap (λ (n : ℕ). (1, n)) m)

  -- ---- its head by its fields

  pub head-ends : (room : ℕ) (s : S) {k : ℕ} → take_bits 1 s ≡ refused k → list_head take_bits room s ≡ refused k
  unfolding list_head
  head-ends room s e = rw e

  pub head-none : (room : ℕ) (s : S) {bit : ℕ} {r : S} → bit ≡ 0 → take_bits 1 s ≡ accepted (bit, r) → list_head take_bits room s ≡ accepted ((0, 0), r)
  unfolding list_head take_count is_delivered
  head-none room s h e = rw (e, h, le-leb 0 room (omega arith))

  pub head-short : (room : ℕ) (s : S) (bit : ℕ) {r : S} {k : ℕ} → (bit ≡ 0 → ⊥) → take_bits 1 s ≡ accepted (bit, r) → take_bits 16 r ≡ refused k → list_head take_bits room s ≡ refused k
  unfolding list_head take_count
  head-short room s zero h e f = absurd (h refl)
  head-short room s (suc bit) h e f = rw (e, f)

  pub head_full : (room : ℕ) (s : S) (bit : ℕ) {n : ℕ} {r q : S} → (bit ≡ 0 → ⊥) → take_bits 1 s ≡ accepted (bit, r) → take_bits 16 r ≡ accepted (n, q) → room < n → list_head take_bits room s ≡ refused 6
  unfolding list_head take_count
  head_full room s zero h e f l = absurd (h refl)
  head_full room s (suc bit) {n} h e f l = rw (e, f, lt-leb n room l)

  pub head_more : (room : ℕ) (s : S) (bit : ℕ) {n : ℕ} {r q : S} → (bit ≡ 0 → ⊥) → take_bits 1 s ≡ accepted (bit, r) → take_bits 16 r ≡ accepted (n, q) → n ≤ room → list_head take_bits room s ≡ accepted ((1, n), q)
  unfolding list_head take_count is_delivered
  head_more room s zero h e f l = absurd (h refl)
  head_more room s (suc bit) {n} h e f l = rw (e, f, le-leb n room l)
