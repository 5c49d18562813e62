-- One turn of each operator's loop, and how it ends, as the steps of the model have it; the repeats by the equations of model
-- Fuel, which have no fuel in sight. Assumes nothing.
use mathlib.Core.Path.{◌≡◌, refl, sym, ap, ◌∙◌}
use mathlib.Core.Bool.{Bool, true, false, ◌&&◌, not}
use mathlib.Core.List.{List, [], ◌∷◌}
use Prim.Native.Nat.{ℕ, suc, ◌+◌, ◌≤◌, ◌<◌, min}
use native.Mathlib.Omega.{arith}
use lib.Dec.{ltb, eqb}
use lib.ListN.{length, get_or}
use borrow.Author.Tests.{lt-ltb, le-ltb, eq-eqb, ne_eqb, ltb-true, ltb-false, eqb-false}
use Rattle.model.specs.Lists.{top}
use Rattle.model.specs.Expression.{Tree, union, intersection, Members, one, more, size, sizes}
use Rattle.model.specs.Steps.{Readers, Found, end, at, Seek, on, unite, follow, seek, seek_union, seek_rest, seek_by}
use Rattle.model.proofs.Order.{Up}
use Rattle.model.proofs.Residual.{Sought, residual}
use Rattle.model.proofs.Seek.{seek_is}
use Rattle.model.proofs.Fuel.{differ_with, intersect_with, seek-members}
use Rattle.reader.specs.Sought.{found}
use Rattle.reader.proofs.Answers.{found_at, found-end}
use Rattle.reader.proofs.Standing.{each}

-- ---- answers

-- what comes after an answer, where it is known
module _ (r : Found) (x : ℕ) (rs : Readers) (is : found x rs ≡ r) (f : Readers → Found) (g : ℕ → Readers → Found) where
  on-at : x < top → on r f g ≡ g x rs
  on-at h = ap (λ (q : Found). on q f g) (sym is ∙ found_at x rs h)

  on-end : top ≤ x → on r f g ≡ f rs
  on-end h = ap (λ (q : Found). on q f g) (sym is ∙ found-end x rs h)

-- `Steps.seek_rest` over any number of trees from the node i on: with none left, the last has answered the candidate
unfoldable pub seek_each : List (List ℕ) → List Tree → ℕ → Seek
seek_each ls [] i = at
seek_each ls (t ∷ ts) i = follow (seek ls t i) (seek_each ls ts (i + size t))

-- how an intersection goes on from what they come to
abbrev pub going : Seek → ℕ → Found → Found
going again e f = on f end λ y rs. elim (ltb e y) [ true ↦ again y rs | false ↦ at e rs ]

-- ---- difference and intersection: the first to e, then the others to its answer

pub first_ended : (f : Seek) (e : ℕ) (rs : Readers) (x : ℕ) (rs₁ : Readers) → found x rs₁ ≡ f e rs → (g : ℕ → Readers → Found) → top ≤ x → on (f e rs) end g ≡ found x rs₁
first_ended f e rs x rs₁ a g h = on-end (f e rs) x rs₁ a end g h ∙ sym (found-end x rs₁ h)

module _ (again f g : Seek) (e : ℕ) (rs : Readers) (x : ℕ) (rs₁ : Readers) (a : found x rs₁ ≡ f e rs) where
  module _ (low : x < top) (y : ℕ) (rs₂ : Readers) (b : found y rs₂ ≡ g x rs₁) where
    pub differ_stop : (y ≡ x → ⊥) → differ_with again f g e rs ≡ found x rs₂
    differ_stop h = on-at (f e rs) x rs₁ a _ _ low ∙ go (ltb y top) refl ∙ sym (found_at x rs₂ low)
      where
        go : (t : Bool) → ltb y top ≡ t → on (g x rs₁) (at x) (λ y rs₂. elim (eqb x y) [ true ↦ again (suc x) rs₂ | false ↦ at x rs₂ ]) ≡ at x rs₂
        go true q = on-at (g x rs₁) y rs₂ b _ _ (ltb-true y top q) ∙ rw (ne_eqb x y (λ w. h (sym w)))
        go false q = on-end (g x rs₁) y rs₂ b _ _ (ltb-false y top q)

    pub differ-turn : y ≡ x → differ_with again f g e rs ≡ again (suc x) rs₂
    differ-turn h = on-at (f e rs) x rs₁ a _ _ low ∙ on-at (g x rs₁) y rs₂ b _ _ (omega arith) ∙ rw (eq-eqb x y (sym h))

-- how a difference goes on from its first's answer x and its second's, y: past x where they are equal, else x holds
unfoldable pub holding : Seek → ℕ → ℕ → Readers → Found
holding again x y rs = elim (eqb y x) [ true ↦ again (x + 1) rs | false ↦ found x rs ]

module _ (again : Seek) (x y : ℕ) (rs : Readers) where
  pub holding_stop : (y ≡ x → ⊥) → holding again x y rs ≡ found x rs
  unfolding holding
  holding_stop h = rw (holding, ne_eqb y x h)

  pub holding-turn : y ≡ x → holding again x y rs ≡ again (x + 1) rs
  unfolding holding
  holding-turn h = rw (holding, eq-eqb y x h)

-- the first's answer is the candidate, and those after it are gone through
pub intersect-begin : (again f g : Seek) (e : ℕ) (rs : Readers) (x : ℕ) (rs₁ : Readers) → found x rs₁ ≡ f e rs → x < top → intersect_with again f g e rs ≡ going again x (g x rs₁)
intersect-begin again f g e rs x rs₁ a low = on-at (f e rs) x rs₁ a _ _ low

-- what those after the first come to: nothing; the candidate; an answer above it
module _ (again : Seek) (e y : ℕ) (rs : Readers) where
  pub going-none : top ≤ y → going again e (found y rs) ≡ found y rs
  going-none h = on-end (found y rs) y rs refl _ _ h ∙ sym (found-end y rs h)

  pub going_stop : y ≡ e → y < top → going again e (found y rs) ≡ found y rs
  going_stop h k = on-at (found y rs) y rs refl _ _ k ∙ rw (le-ltb e y (omega arith)) (ap (λ (n : ℕ). at n rs) (sym h) ∙ sym (found_at y rs k))

  pub going-turn : e < y → y < top → going again e (found y rs) ≡ again y rs
  going-turn h k = on-at (found y rs) y rs refl _ _ k ∙ rw (lt-ltb e y h)

-- whether it begins again, by the test of the code: an answer above the candidate that did not come from the first
module _ (e x i first : ℕ) (b : Bool) (is : b ≡ ltb e x && not (eqb i first)) where
  pub again_above : b ≡ true → (e < x) × (i ≡ first → ⊥)
  again_above h = go (ltb e x) refl (eqb i first) refl
    where
      go : (p : Bool) → ltb e x ≡ p → (q : Bool) → eqb i first ≡ q → (e < x) × (i ≡ first → ⊥)
      go true y false z = (ltb-true e x y, eqb-false i first z)
      go true y true z = let no : ◌≡◌ {A = ℕ} 0 1 = cc (is, h, y, z) in absurd (omega arith)
      go false y q z = let no : ◌≡◌ {A = ℕ} 0 1 = cc (is, h, y) in absurd (omega arith)

  pub again_else : b ≡ false → (i ≡ first → ⊥) → x ≤ e
  again_else h other = go (ltb e x) refl
    where
      go : (p : Bool) → ltb e x ≡ p → x ≤ e
      go true y = let no : ◌≡◌ {A = ℕ} 0 1 = cc (is, h, y, ne_eqb i first other) in absurd (omega arith)
      go false y = ltb-false e x y

-- ---- union: the trees left, with the least answer so far

unfoldable pub unite_from : List (List ℕ) → ℕ → List Tree → ℕ → Seek
unite_from ls least [] i e rs = found least rs
unite_from ls least (t ∷ ts) i e rs =
    on (seek ls t i e rs) (unite_from ls least ts (i + size t) e) λ x rs₁.
    unite_from ls (min least x) ts (i + size t) e rs₁

-- the less of an answer and what is there
abbrev lower : ℕ → Found → Found
lower least (end rs) = found least rs
lower least (at y rs) = found (min least y) rs

module _ (ls : List (List ℕ)) where
  pub unite-end : (least i e : ℕ) (rs : Readers) → unite_from ls least [] i e rs ≡ found least rs
  unite-end least i e rs = unfold unite_from in refl

  pub unite-turn : (least : ℕ) (t : Tree) (ts : List Tree) (i e : ℕ) (rs : Readers) (x : ℕ) (rs₁ : Readers) (new : ℕ) → found x rs₁ ≡ seek ls t i e rs
      → least ≤ top → x ≤ top → new ≡ min least x → unite_from ls least (t ∷ ts) i e rs ≡ unite_from ls new ts (i + size t) e rs₁
  unfolding unite_from
  unite-turn least t ts i e rs x rs₁ new a lt xt n = go (ltb x top) refl
    where
      go : (b : Bool) → ltb x top ≡ b → on (seek ls t i e rs) (unite_from ls least ts (i + size t) e) (λ x rs₁. unite_from ls (min least x) ts (i + size t) e rs₁) ≡ unite_from ls new ts (i + size t) e rs₁
      go true q = on-at (seek ls t i e rs) x rs₁ a _ _ (ltb-true x top q) ∙ rw n
      go false q =
          let h = ltb-false x top q in
          let same : least ≡ new = omega arith in
          on-end (seek ls t i e rs) x rs₁ a _ _ h ∙ ap (λ (l : ℕ). unite_from ls l ts (i + size t) e rs₁) same

  unite-all : (ts : Members) (least i e : ℕ) (rs : Readers) → unite_from ls least (each ts) i e rs ≡ lower least (seek_union ls ts i e rs)
  unfolding unite_from seek_by unite each
  unite-all (one t) least i e rs = go (seek ls t i e rs)
    where
      go : (r : Found) → on r (λ rs₁. found least rs₁) (λ x rs₁. found (min least x) rs₁) ≡ lower least r
      go (end rs₁) = refl
      go (at x rs₁) = refl
  unite-all (more t ts) least i e rs = go (λ l rs₁. unite-all ts l (i + size t) e rs₁) (seek ls t i e rs)
    where
      rest : Seek
      rest = seek_union ls ts (i + size t)

      after : (x : ℕ) (r : Found) → lower (min least x) r ≡ lower least (on r (at x) λ y rs₂. at (min x y) rs₂)
      after x (end rs₂) = refl
      after x (at y rs₂) = let same : min (min least x) y ≡ min least (min x y) = omega arith in ap (λ (n : ℕ). found n rs₂) same

      go : ((l : ℕ) (rs₁ : Readers) → unite_from ls l (each ts) (i + size t) e rs₁ ≡ lower l (rest e rs₁))
          → (r : Found) → on r (unite_from ls least (each ts) (i + size t) e) (λ x rs₁. unite_from ls (min least x) (each ts) (i + size t) e rs₁)
          ≡ lower least (on r (rest e) λ x rs₁. on (rest e rs₁) (at x) λ y rs₂. at (min x y) rs₂)
      go all (end rs₁) = all least rs₁
      go all (at x rs₁) = all (min least x) rs₁ ∙ after x (rest e rs₁)

  -- ---- the members of an intersection after its first

  pub each-end : (i e : ℕ) (rs : Readers) → e < top → seek_each ls [] i e rs ≡ found e rs
  unfolding seek_each
  each-end i e rs h = sym (found_at e rs h)

  module _ (t : Tree) (ts : List Tree) (i e : ℕ) (rs : Readers) (x : ℕ) (rs₁ : Readers) (a : found x rs₁ ≡ seek ls t i e rs) where
    pub each_stop : e < x → seek_each ls (t ∷ ts) i e rs ≡ found x rs₁
    unfolding seek_each follow
    each_stop h = go (ltb x top) refl
      where
        go : (b : Bool) → ltb x top ≡ b → on (seek ls t i e rs) end (λ x rs₁. elim (ltb e x) [ true ↦ at x rs₁ | false ↦ seek_each ls ts (i + size t) e rs₁ ]) ≡ found x rs₁
        go true q = on-at (seek ls t i e rs) x rs₁ a _ _ (ltb-true x top q) ∙ rw (lt-ltb e x h) (sym (found_at x rs₁ (ltb-true x top q)))
        go false q = on-end (seek ls t i e rs) x rs₁ a _ _ (ltb-false x top q) ∙ sym (found-end x rs₁ (ltb-false x top q))

    pub each_turn : e < top → x ≡ e → seek_each ls (t ∷ ts) i e rs ≡ seek_each ls ts (i + size t) e rs₁
    unfolding seek_each follow
    each_turn h q = on-at (seek ls t i e rs) x rs₁ a _ _ (omega arith) ∙ rw (le-ltb e x (omega arith))

-- ---- over ascending lists, from places enough

-- what a seek to e answers: a number not below e, and places as many as there were
abbrev Fine : ℕ → ℕ → Found → Type 0
Fine n e (end rs) = length rs.places ≡ n
Fine n e (at x rs) = (length rs.places ≡ n) × ((e ≤ x) × (x < top))

-- the first member node, and those after it
abbrev pub head : Members → Tree
head (one t) = t
head (more t ts) = t

abbrev pub tail : Members → List Tree
tail (one t) = []
tail (more t ts) = each ts

pub each-is : (ts : Members) → each ts ≡ head ts ∷ tail ts
unfolding each
each-is (one t) = refl
each-is (more t ts) = refl

module _ (ls : List (List ℕ)) (up : (k : ℕ) → Up 0 (get_or ls k [])) where
  fine : (t : Tree) (i e : ℕ) (rs : Readers) → e ≤ top → i + size t ≤ length rs.places → Fine (length rs.places) e (seek ls t i e rs)
  fine t i e rs h k = go (seek ls t i e rs) (seek_is ls up t i e rs h k)
    where
      go : (r : Found) → Sought i (i + size t) (residual ls t i) e rs.places r → Fine (length rs.places) e r
      go (end rs₁) s = s.0.kept.long
      go (at x rs₁) s = (s.0.kept.long, (s.1.from, s.1.small))

  -- a union, from its loop's start
  pub unite-start : (ts : Members) (i e : ℕ) (rs : Readers) → e ≤ top → i + size (union ts) ≤ length rs.places
      → unite_from ls top (each ts) (1 + i) e rs ≡ seek ls (union ts) i e rs
  unfolding seek_by
  unite-start ts i e rs h k = unite-all ls ts top (1 + i) e rs ∙ go (seek_union ls ts (1 + i) e rs) (fine (union ts) i e rs h k)
    where
      go : (r : Found) → Fine (length rs.places) e r → lower top r ≡ r
      go (end rs₁) w = found-end top rs₁ (omega arith)
      go (at y rs₁) w = let same : min top y ≡ y = omega (arith, w.1.1) in ap (λ (n : ℕ). found n rs₁) same ∙ found_at y rs₁ w.1.1

  -- the members after the first
  rest-each : (ts : Members) (i e : ℕ) (rs : Readers) → e ≤ top → i + sizes ts ≤ length rs.places → seek_each ls (each ts) i e rs ≡ seek_rest ls ts i e rs
  unfolding seek_each seek_by follow each sizes
  rest-each (one t) i e rs h k = go (seek ls t i e rs) (fine t i e rs h k)
    where
      go : (r : Found) → Fine (length rs.places) e r → on r end (λ x rs₁. elim (ltb e x) [ true ↦ at x rs₁ | false ↦ at e rs₁ ]) ≡ r
      go (end rs₁) w = refl
      go (at x rs₁) w = test (ltb e x) refl
        where
          test : (b : Bool) → ltb e x ≡ b → ◌≡◌ {A = Found} (elim b [ true ↦ at x rs₁ | false ↦ at e rs₁ ]) (at x rs₁)
          test true q = refl
          test false q = let same : e ≡ x = omega (arith, w.1.0, ltb-false e x q) in ap (λ (n : ℕ). at n rs₁) same
  rest-each (more t ts) i e rs h k = go (λ rs₁ w. rest-each ts (i + size t) e rs₁ h (omega arith)) (seek ls t i e rs) (fine t i e rs h (omega arith))
    where
      go : ((rs₁ : Readers) → length rs₁.places ≡ length rs.places → seek_each ls (each ts) (i + size t) e rs₁ ≡ seek_rest ls ts (i + size t) e rs₁) → (r : Found) → Fine (length rs.places) e r
          → on r end (λ x rs₁. elim (ltb e x) [ true ↦ at x rs₁ | false ↦ seek_each ls (each ts) (i + size t) e rs₁ ]) ≡ on r end (λ x rs₁. elim (ltb e x) [ true ↦ at x rs₁ | false ↦ seek_rest ls ts (i + size t) e rs₁ ])
      go all (end rs₁) w = refl
      go all (at x rs₁) w = test (ltb e x)
        where
          test : (b : Bool) → ◌≡◌ {A = Found} (elim b [ true ↦ at x rs₁ | false ↦ seek_each ls (each ts) (i + size t) e rs₁ ]) (elim b [ true ↦ at x rs₁ | false ↦ seek_rest ls ts (i + size t) e rs₁ ])
          test true = refl
          test false = all rs₁ w.0

  -- an intersection's step, of one member node too
  pub intersection_step : (ts : Members) (i e : ℕ) (rs : Readers) → e ≤ top → i + size (intersection ts) ≤ length rs.places
      → seek ls (intersection ts) i e rs ≡ intersect_with (seek ls (intersection ts) i) (seek ls (head ts) (1 + i)) (seek_each ls (tail ts) (1 + i + size (head ts))) e rs
  unfolding seek_by seek_each size sizes
  intersection_step (one t) i e rs h k = go (seek ls t (1 + i) e rs)
    where
      go : (r : Found) → r ≡ on r end λ x rs₁. on (seek_each ls [] (1 + i + size t) x rs₁) end λ y rs₂. elim (ltb x y) [ true ↦ seek ls (intersection (one t)) i y rs₂ | false ↦ at x rs₂ ]
      go (end rs₁) = refl
      go (at x rs₁) = ap (λ (b : Bool). elim b [ true ↦ seek ls (intersection (one t)) i x rs₁ | false ↦ at x rs₁ ]) (sym (le-ltb x x (omega arith)))
  intersection_step (more t ts) i e rs h k = seek-members ls up t ts (1 + i) e rs h (omega arith) ∙ go (seek ls t (1 + i) e rs) (fine t (1 + i) e rs h (omega arith))
    where
      again : Seek
      again = seek ls (intersection (more t ts)) i

      go : (r : Found) → Fine (length rs.places) e r
          → on r end (λ x rs₁. on (seek_rest ls ts (1 + i + size t) x rs₁) end λ y rs₂. elim (ltb x y) [ true ↦ again y rs₂ | false ↦ at x rs₂ ])
          ≡ on r end (λ x rs₁. on (seek_each ls (each ts) (1 + i + size t) x rs₁) end λ y rs₂. elim (ltb x y) [ true ↦ again y rs₂ | false ↦ at x rs₂ ])
      go (end rs₁) w = refl
      go (at x rs₁) w = ap (λ (q : Found). on q end λ y rs₂. elim (ltb x y) [ true ↦ again y rs₂ | false ↦ at x rs₂ ]) (sym (rest-each ts (1 + i + size t) x rs₁ (omega (arith, w.1.1)) (omega (arith, w.0))))
