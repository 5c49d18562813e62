-- Reading a delivery, step by step: the numbers of a list are its header and what follows it, the numbers behind one are the
-- next one and those behind that; and what is left of a reading when only something about it is kept. Over any source.
-- Assumes nothing.
use mathlib.Core.Path.{◌≡◌, refl, sym, ap, ◌∙◌}
use mathlib.Core.Bool.{Bool, true, false}
use mathlib.Core.List.{List, [], ◌∷◌}
use Prim.Native.Nat.{ℕ, zero, suc, ◌+◌, ◌-◌, ◌≤◌, ◌<◌}
use native.Mathlib.Omega.{arith}
use lib.Dec.{ltb, eqb}
use Rattle.model.specs.Outcome.{Outcome, refused, accepted, ◌>>=◌, ◌>>◌, require}
use Rattle.model.specs.Lists.{top}
use Rattle.model.specs.Delivery.{largest_gap, width, read_gaps, read_body}
use Rattle.model.proofs.Accepted.{accepted-same, bound, assoc}
use Rattle.walk.specs.declared.Header.{Header}
use Rattle.walk.specs.Heads.{header_width, header, gap}
use Rattle.walk.specs.Answers.{only}

-- ---- only so much of what was read

-- what was read, of which so much was kept
pub record Kept {A B : Type 0} (about : A → B) (o : Outcome (A × ℕ)) (b : B) (q : ℕ) : Type 0 where
  pub got : A
  pub read : o ≡ accepted (got, q)
  pub is : about got ≡ b

pub kept : {A B : Type 0} (about : A → B) (o : Outcome (A × ℕ)) (b : B) (q : ℕ) → only about o ≡ accepted (b, q) → Kept about o b q
unfolding only
kept about (refused k) b q e = let z : ◌≡◌ {A = ℕ} 0 1 = cc in absurd (omega arith)
kept {A} {B} about (accepted r) b q e =
    let p : ◌≡◌ {A = B × ℕ} (about r.0, r.1) (b, q) = accepted-same e in
    record { got = r.0; read = ap (λ (k : ℕ). accepted (r.0, k)) (ap (λ (x : B × ℕ). x.1) p); is = ap (λ (x : B × ℕ). x.0) p }

pub lost : {A B : Type 0} (about : A → B) (o : Outcome (A × ℕ)) (n : ℕ) → only about o ≡ refused n → o ≡ refused n
unfolding only
lost about (refused k) n e = cc
lost about (accepted r) n e = let z : ◌≡◌ {A = ℕ} 0 1 = cc in absurd (omega arith)

pub only_stop : {A B : Type 0} (about : A → B) {o : Outcome (A × ℕ)} {n : ℕ} → o ≡ refused n → only about o ≡ refused n
unfolding only
only_stop about e = rw e

pub only-is : {A B : Type 0} (about : A → B) {o : Outcome (A × ℕ)} {a : A} {q : ℕ} → o ≡ accepted (a, q) → only about o ≡ accepted (about a, q)
unfolding only
only-is about e = rw e

pub only_same : {A B : Type 0} (f g : A → B) (o : Outcome (A × ℕ)) → ((a : A) → f a ≡ g a) → only f o ≡ only g o
unfolding only
only_same f g (refused n) h = refl
only_same {A} {B} f g (accepted r) h = ap (λ (k : B). accepted (k, r.1)) (h r.0)

-- of a list that is made of what was read
pub only-made : {A B C : Type 0} (f : C → B) (made : A → C) (o : Outcome (A × ℕ)) → only f (o >>= λ r. accepted (made r.0, r.1)) ≡ only (λ a. f (made a)) o
unfolding only
only-made f made (refused n) = refl
only-made f made (accepted r) = refl

-- ---- steps one after the other

pub tested : {B C : Type 0} (n : ℕ) (b : Bool) (o : Outcome B) (g : B → Outcome C) (p : Outcome C) → (o >>= g) ≡ p → ((require n b >> o) >>= g) ≡ (require n b >> p)
tested n true o g p e = e
tested n false o g p e = refl

module _ {S : Type 0} (take_bits : ℕ → S → Outcome (ℕ × S)) where
  -- ---- the header, and what follows it

  -- the numbers of a list behind its header: so many, the first of them, and gaps of this width
  unfoldable pub follow : ℕ → ℕ → ℕ → S → Outcome (List ℕ × S)
  follow zero first w source = accepted ([], source)
  follow (suc zero) first w source = accepted (first ∷ [], source)
  follow (suc (suc n)) first w source = do
    (xs, rest) ← read_gaps take_bits w (suc n) first source
    require 9 (eqb w (width (largest_gap first xs)))
    accepted (first ∷ xs, rest)

  abbrev pub behind : ℕ → Header × S → Outcome (List ℕ × S)
  behind n r = follow n r.0.first r.0.width r.1

  pub body_is : (n : ℕ) (s : S) → read_body take_bits n s ≡ (header take_bits n s >>= behind n)
  unfolding read_body header header_width follow
  body_is zero s = refl
  body_is (suc zero) s = sym (assoc (take_bits 32 s) _ _ _ (λ x. refl))
  body_is (suc (suc n)) s = sym (assoc (take_bits 32 s) _ _ _ (λ x. assoc (take_bits 5 x.1) _ _ _ (λ y. refl)))

  pub body-short : (n : ℕ) (s : S) {k : ℕ} → header take_bits n s ≡ refused k → read_body take_bits n s ≡ refused k
  body-short n s e = body_is n s ∙ rw e

  pub body_more : (n : ℕ) (s : S) {h : Header} {r : S} → header take_bits n s ≡ accepted (h, r) → read_body take_bits n s ≡ follow n h.first h.width r
  body_more n s e = body_is n s ∙ rw e

  pub follow-none : (n first w : ℕ) (s : S) → n ≡ 0 → follow n first w s ≡ accepted ([], s)
  unfolding follow
  follow-none n first w s e = rw e

  pub follow_one : (n first w : ℕ) (s : S) → n ≡ 1 → follow n first w s ≡ accepted (first ∷ [], s)
  unfolding follow
  follow_one n first w s e = rw e

  pub follow-more : (n first w : ℕ) (s : S) {o : Outcome (List ℕ × S)} → 2 ≤ n → read_gaps take_bits w (n - 1) first s ≡ o
      → follow n first w s ≡ (o >>= λ r. (require 9 (eqb w (width (largest_gap first r.0))) >> accepted (first ∷ r.0, r.1)))
  unfolding follow
  follow-more zero first w s h e = absurd (omega arith)
  follow-more (suc zero) first w s h e = absurd (omega arith)
  follow-more (suc (suc n)) first w s h e =
      let pred : suc n ≡ suc (suc n) - 1 = omega arith in
      ap (λ (k : ℕ). (read_gaps take_bits w k first s >>= λ r. (require 9 (eqb w (width (largest_gap first r.0))) >> accepted (first ∷ r.0, r.1)))) pred ∙ rw e

  -- ---- one number, and those behind it

  gaps_are : (w n last : ℕ) (s : S) → read_gaps take_bits w (suc n) last s ≡ (gap take_bits w last s >>= λ x. (read_gaps take_bits w n x.0 x.1 >>= λ r. accepted (x.0 ∷ r.0, r.1)))
  unfolding read_gaps gap
  gaps_are w n last s = sym (assoc (take_bits w s) _ _ _ (λ x. tested 8 (ltb (last + x.0 + 1) top) (accepted (last + x.0 + 1, x.1)) (λ y. (read_gaps take_bits w n y.0 y.1 >>= λ r. accepted (y.0 ∷ r.0, r.1))) _ refl))

  pub gaps_none : (w n last : ℕ) (s : S) → n ≡ 0 → read_gaps take_bits w n last s ≡ accepted ([], s)
  unfolding read_gaps
  gaps_none w n last s e = rw e

  pub gaps_stop : (w n last : ℕ) (s : S) {k : ℕ} → 0 < n → gap take_bits w last s ≡ refused k → read_gaps take_bits w n last s ≡ refused k
  gaps_stop w zero last s h e = absurd (omega arith)
  gaps_stop w (suc n) last s h e = gaps_are w n last s ∙ rw e

  pub gaps_more : (w n last : ℕ) (s : S) {x : ℕ} {r : S} → 0 < n → gap take_bits w last s ≡ accepted (x, r)
      → read_gaps take_bits w n last s ≡ (read_gaps take_bits w (n - 1) x r >>= λ t. accepted (x ∷ t.0, t.1))
  gaps_more w zero last s h e = absurd (omega arith)
  gaps_more w (suc n) last s {x} {r} h e =
      let pred : n ≡ suc n - 1 = omega arith in
      gaps_are w n last s ∙ rw e (ap (λ (k : ℕ). (read_gaps take_bits w k x r >>= λ t. accepted (x ∷ t.0, t.1))) pred)

  -- so what is left of numbers that read, once their first is known
  pub record Rest (w n x : ℕ) (r : S) (ys : List ℕ) (q : S) : Type 0 where
    pub xs : List ℕ
    pub are : ys ≡ x ∷ xs
    pub read : read_gaps take_bits w n x r ≡ accepted (xs, q)

  pub gaps_rest : (w n last : ℕ) (s : S) {x : ℕ} {r : S} (ys : List ℕ) (q : S) → 0 < n → gap take_bits w last s ≡ accepted (x, r)
      → read_gaps take_bits w n last s ≡ accepted (ys, q) → Rest w (n - 1) x r ys q
  gaps_rest w n last s {x} {r} ys q h e f =
      let b = bound (read_gaps take_bits w (n - 1) x r) _ (ys, q) (sym (gaps_more w n last s h e) ∙ f) in
      let same : ◌≡◌ {A = List ℕ × S} (x ∷ b.got.0, b.got.1) (ys, q) = accepted-same b.rest in
      record {
        xs = b.got.0;
        are = sym (ap (λ (p : List ℕ × S). p.0) same);
        read = b.first ∙ ap (λ (k : S). accepted (b.got.0, k)) (ap (λ (p : List ℕ × S). p.1) same);
      }

  -- ---- the header by its fields

  pub header-none : (n : ℕ) (s : S) → n ≡ 0 → header take_bits n s ≡ accepted (record { first = 0; width = 0 }, s)
  unfolding header
  header-none n s e = rw e

  pub header-ends : (n : ℕ) (s : S) {k : ℕ} → (n ≡ 0 → ⊥) → take_bits 32 s ≡ refused k → header take_bits n s ≡ refused k
  unfolding header
  header-ends zero s h e = absurd (h refl)
  header-ends (suc n) s h e = rw e

  pub header-one : (n : ℕ) (s : S) {x : ℕ} {r : S} → n ≡ 1 → take_bits 32 s ≡ accepted (x, r) → header take_bits n s ≡ accepted (record { first = x; width = 0 }, r)
  unfolding header header_width
  header-one n s h e = rw (h, e)

  pub header-more : (n : ℕ) (s : S) {x : ℕ} {r : S} {o : Outcome (ℕ × S)} → 2 ≤ n → take_bits 32 s ≡ accepted (x, r) → take_bits 5 r ≡ o
      → header take_bits n s ≡ (o >>= λ t. accepted (record { first = x; width = t.0 + 1 }, t.1))
  unfolding header header_width
  header-more zero s h e f = absurd (omega arith)
  header-more (suc zero) s h e f = absurd (omega arith)
  header-more (suc (suc n)) s h e f = rw (e, f)
