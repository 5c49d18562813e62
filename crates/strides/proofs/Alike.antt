-- The steps by two kinds of readers: what holds between the readers before and after every list's step, where both answer alike, holds
-- between them before and after every operator's, and so over a whole list of calls, with the same replies and floors. Assumes nothing.
use mathlib.Core.Path.{◌≡◌, refl, sym, ap, ap₂, subst}
use mathlib.Core.Bool.{Bool, true, false, not, cond}
use mathlib.Core.List.{List, [], ◌∷◌}
use Prim.Native.Nat.{ℕ, zero, suc, ◌+◌, max}
use lib.Dec.{ltb, eqb}
use lib.ListN.{get_or}
use Rattle.model.specs.declared.Reply.{Reply}
use Rattle.model.specs.declared.Reply.TheVariants.{Member, Yes, No}
use Rattle.model.specs.Expression.{Tree, leaf, difference, union, intersection, Members, one, more, size}
use Rattle.model.specs.Machine.{Call, next, at_or_past, past, check, other}
use Rattle.model.specs.Steps.{Readers, Found, end, at, Seek, on, Checked, says, Check, Advance, read_by, fuel, differ, unite, follow, intersect, seek_by, seek_union_by, seek_intersection_by, seek_rest_by, is_at, turned, on_yes, on_no, check_by, check_union_by, check_intersection_by}
use Rattle.model.specs.Run.{State, drawn, told, step_by, steps_by}
use Rattle.model.proofs.Order.{not_both}

module _ (P : Readers → Readers → Type 0) where
  -- both have finished, or answered the same
  abbrev pub Alike : Found → Found → Type 0
  Alike (end rs) (end rs') = P rs rs'
  Alike (end rs) (at y rs') = ⊥
  Alike (at x rs) (end rs') = ⊥
  Alike (at x rs) (at y rs') = (x ≡ y) × P rs rs'

  abbrev pub Both : Seek → Seek → Type 0
  Both f g = (e : ℕ) (rs rs' : Readers) → P rs rs' → Alike (f e rs) (g e rs')

  on_alike : (r r' : Found) (f f' : Readers → Found) (g g' : ℕ → Readers → Found) → Alike r r'
      → ((rs rs' : Readers) → P rs rs' → Alike (f rs) (f' rs')) → ((x : ℕ) (rs rs' : Readers) → P rs rs' → Alike (g x rs) (g' x rs'))
      → Alike (on r f g) (on r' f' g')
  on_alike (end rs) (end rs') f f' g g' p ends ats = ends rs rs' p
  on_alike (end rs) (at y rs') f f' g g' p ends ats = absurd p
  on_alike (at x rs) (end rs') f f' g g' p ends ats = absurd p
  on_alike (at x rs) (at y rs') f f' g g' p ends ats = subst (λ (z : ℕ). Alike (g x rs) (g' z rs')) p.0 (ats x rs rs' p.1)

  test_alike : (b : Bool) (r r' s s' : Found) → Alike r r' → Alike s s' → Alike (elim b [ true ↦ r | false ↦ s ]) (elim b [ true ↦ r' | false ↦ s' ])
  test_alike true r r' s s' p q = p
  test_alike false r r' s s' p q = q

  differ_alike : (f f' g g' : Seek) → Both f f' → Both g g' → (n : ℕ) → Both (differ n f g) (differ n f' g')
  unfolding differ
  differ_alike f f' g g' kf kg zero = λ e rs rs' p. p
  differ_alike f f' g g' kf kg (suc n) = λ e rs rs' p.
      on_alike (f e rs) (f' e rs') _ _ _ _ (kf e rs rs' p) (λ rs₁ rs₁' p₁. p₁) (λ x rs₁ rs₁' p₁.
      on_alike (g x rs₁) (g' x rs₁') _ _ _ _ (kg x rs₁ rs₁' p₁) (λ rs₂ rs₂' p₂. (refl, p₂)) (λ y rs₂ rs₂' p₂.
      test_alike (eqb x y) _ _ _ _ (differ_alike f f' g g' kf kg n (suc x) rs₂ rs₂' p₂) (refl, p₂)))

  unite_alike : (f f' g g' : Seek) → Both f f' → Both g g' → Both (unite f g) (unite f' g')
  unfolding unite
  unite_alike f f' g g' kf kg e rs rs' p =
      on_alike (f e rs) (f' e rs') _ _ _ _ (kf e rs rs' p) (λ rs₁ rs₁' p₁. kg e rs₁ rs₁' p₁) (λ x rs₁ rs₁' p₁.
      on_alike (g e rs₁) (g' e rs₁') _ _ _ _ (kg e rs₁ rs₁' p₁) (λ rs₂ rs₂' p₂. (refl, p₂)) (λ y rs₂ rs₂' p₂. (refl, p₂)))

  follow_alike : (f f' g g' : Seek) → Both f f' → Both g g' → Both (follow f g) (follow f' g')
  unfolding follow
  follow_alike f f' g g' kf kg e rs rs' p =
      on_alike (f e rs) (f' e rs') _ _ _ _ (kf e rs rs' p) (λ rs₁ rs₁' p₁. p₁) (λ x rs₁ rs₁' p₁.
      test_alike (ltb e x) _ _ _ _ (refl, p₁) (kg e rs₁ rs₁' p₁))

  intersect_alike : (f f' g g' : Seek) → Both f f' → Both g g' → (n : ℕ) → Both (intersect n f g) (intersect n f' g')
  unfolding intersect
  intersect_alike f f' g g' kf kg zero = λ e rs rs' p. p
  intersect_alike f f' g g' kf kg (suc n) = λ e rs rs' p.
      on_alike (f e rs) (f' e rs') _ _ _ _ (kf e rs rs' p) (λ rs₁ rs₁' p₁. p₁) (λ x rs₁ rs₁' p₁.
      on_alike (g x rs₁) (g' x rs₁') _ _ _ _ (kg x rs₁ rs₁' p₁) (λ rs₂ rs₂' p₂. p₂) (λ y rs₂ rs₂' p₂.
      test_alike (ltb x y) _ _ _ _ (intersect_alike f f' g g' kf kg n y rs₂ rs₂' p₂) (refl, p₂)))

  -- both say the same
  abbrev SaidAlike : Checked → Checked → Type 0
  SaidAlike (says b rs) (says c rs') = (b ≡ c) × P rs rs'

  abbrev BothSay : Check → Check → Type 0
  BothSay f g = (d : ℕ) (rs rs' : Readers) → P rs rs' → SaidAlike (f d rs) (g d rs')

  is_at_alike : (d : ℕ) (r r' : Found) → Alike r r' → SaidAlike (is_at d r) (is_at d r')
  unfolding is_at
  is_at_alike d (end rs) (end rs') p = (refl, p)
  is_at_alike d (end rs) (at y rs') p = absurd p
  is_at_alike d (at x rs) (end rs') p = absurd p
  is_at_alike d (at x rs) (at y rs') p = (ap (λ (z : ℕ). eqb z d) p.0, p.1)

  turned_alike : (r r' : Checked) → SaidAlike r r' → SaidAlike (turned r) (turned r')
  unfolding turned
  turned_alike (says b rs) (says c rs') p = (ap not p.0, p.1)

  yes_alike : (r r' : Checked) (g g' : Readers → Checked) → SaidAlike r r' → ((rs rs' : Readers) → P rs rs' → SaidAlike (g rs) (g' rs')) → SaidAlike (on_yes r g) (on_yes r' g')
  unfolding on_yes
  yes_alike (says true rs) (says true rs') g g' p k = k rs rs' p.1
  yes_alike (says false rs) (says false rs') g g' p k = p
  yes_alike (says true rs) (says false rs') g g' p k = absurd (not_both refl p.0)
  yes_alike (says false rs) (says true rs') g g' p k = absurd (not_both refl (sym p.0))

  no_alike : (r r' : Checked) (g g' : Readers → Checked) → SaidAlike r r' → ((rs rs' : Readers) → P rs rs' → SaidAlike (g rs) (g' rs')) → SaidAlike (on_no r g) (on_no r' g')
  unfolding on_no
  no_alike (says true rs) (says true rs') g g' p k = p
  no_alike (says false rs) (says false rs') g g' p k = k rs rs' p.1
  no_alike (says true rs) (says false rs') g g' p k = absurd (not_both refl p.0)
  no_alike (says false rs) (says true rs') g g' p k = absurd (not_both refl (sym p.0))

  -- of a tree, where it is so of each list
  module _ (a b : Advance) (ls : List (List ℕ)) (lists : (k i : ℕ) → Both (read_by a (get_or ls k []) i) (read_by b (get_or ls k []) i)) where
    mutual
      unfolding seek_by

      seek_alike : (t : Tree) (i : ℕ) → Both (seek_by a ls t i) (seek_by b ls t i)
      seek_alike (leaf k) i = lists k i
      seek_alike (difference s t) i = differ_alike _ _ _ _ (seek_alike s (1 + i)) (seek_alike t (1 + i + size s)) fuel
      seek_alike (union ts) i = union_alike ts (1 + i)
      seek_alike (intersection ts) i = intersection_alike ts (1 + i)

      union_alike : (ts : Members) (i : ℕ) → Both (seek_union_by a ls ts i) (seek_union_by b ls ts i)
      union_alike (one t) i = seek_alike t i
      union_alike (more t ts) i = unite_alike _ _ _ _ (seek_alike t i) (union_alike ts (i + size t))

      intersection_alike : (ts : Members) (i : ℕ) → Both (seek_intersection_by a ls ts i) (seek_intersection_by b ls ts i)
      intersection_alike (one t) i = seek_alike t i
      intersection_alike (more t ts) i = intersect_alike _ _ _ _ (seek_alike t i) (rest_alike ts (i + size t)) fuel

      rest_alike : (ts : Members) (i : ℕ) → Both (seek_rest_by a ls ts i) (seek_rest_by b ls ts i)
      rest_alike (one t) i = seek_alike t i
      rest_alike (more t ts) i = follow_alike _ _ _ _ (seek_alike t i) (rest_alike ts (i + size t))

    mutual
      unfolding check_by

      check_alike : (t : Tree) (i : ℕ) → BothSay (check_by a ls t i) (check_by b ls t i)
      check_alike (leaf k) i = λ d rs rs' p. is_at_alike d _ _ (lists k i d rs rs' p)
      check_alike (difference s t) i = λ d rs rs' p. yes_alike _ _ _ _ (check_alike s (1 + i) d rs rs' p) (λ rs₁ rs₁' p₁. turned_alike _ _ (check_alike t (1 + i + size s) d rs₁ rs₁' p₁))
      check_alike (union ts) i = some_alike ts (1 + i)
      check_alike (intersection ts) i = all_alike ts (1 + i)

      some_alike : (ts : Members) (i : ℕ) → BothSay (check_union_by a ls ts i) (check_union_by b ls ts i)
      some_alike (one t) i = check_alike t i
      some_alike (more t ts) i = λ d rs rs' p. no_alike _ _ _ _ (check_alike t i d rs rs' p) (some_alike ts (i + size t) d)

      all_alike : (ts : Members) (i : ℕ) → BothSay (check_intersection_by a ls ts i) (check_intersection_by b ls ts i)
      all_alike (one t) i = check_alike t i
      all_alike (more t ts) i = λ d rs rs' p. yes_alike _ _ _ _ (check_alike t i d rs rs' p) (all_alike ts (i + size t) d)

    -- and so of a call, from states with the same floor
    pub record AlikeAfter (one two : Reply × State) : Type 0 where
      pub reply : one.0 ≡ two.0
      pub floor : one.1.floor ≡ two.1.floor
      pub readers : P one.1.readers two.1.readers

    drawn_alike : (r r' : Found) → Alike r r' → AlikeAfter (drawn r) (drawn r')
    unfolding drawn
    drawn_alike (end rs) (end rs') p = record { reply = refl; floor = refl; readers = p }
    drawn_alike (end rs) (at y rs') p = absurd p
    drawn_alike (at x rs) (end rs') p = absurd p
    drawn_alike (at x rs) (at y rs') p = record { reply = ap Member p.0; floor = ap suc p.0; readers = p.1 }

    told_alike : (d : ℕ) (r r' : Checked) → SaidAlike r r' → AlikeAfter (told d r) (told d r')
    unfolding told
    told_alike d (says x rs) (says y rs') p = record { reply = ap (λ (z : Bool). cond z Yes No) p.0; floor = refl; readers = p.1 }

    -- a check is made by both or by neither
    check_made : (c : Bool) (s s' : State) (r r' : Reply × State) → s.floor ≡ s'.floor → P s.readers s'.readers → AlikeAfter r r'
        → AlikeAfter (elim c [ true ↦ (No, s) | false ↦ r ]) (elim c [ true ↦ (No, s') | false ↦ r' ])
    check_made true s s' r r' f p q = record { reply = refl; floor = f; readers = p }
    check_made false s s' r r' f p q = q

    pub step_alike : (t : Tree) (c : Call) (s s' : State) → s.floor ≡ s'.floor → P s.readers s'.readers → AlikeAfter (step_by a ls t s c) (step_by b ls t s' c)
    unfolding step_by
    step_alike t next s s' f p = rw (← f) (drawn_alike _ _ (seek_alike t 0 s.floor s.readers s'.readers p))
    step_alike t (at_or_past d) s s' f p = rw (← f) (drawn_alike _ _ (seek_alike t 0 (max s.floor d) s.readers s'.readers p))
    step_alike t (past d) s s' f p = rw (← f) (drawn_alike _ _ (seek_alike t 0 (max s.floor (suc d)) s.readers s'.readers p))
    step_alike t (check d) s s' f p =
        subst (λ (n : ℕ). AlikeAfter (step_by a ls t s (check d)) (elim (ltb d n) [ true ↦ (No, s') | false ↦ told d (check_by b ls t 0 d s'.readers) ])) f (check_made (ltb d s.floor) s s' _ _ f p (told_alike d _ _ (check_alike t 0 d s.readers s'.readers p)))
    step_alike t other s s' f p = record { reply = refl; floor = f; readers = p }

    -- and of a list of calls
    pub record AlikeLast (one two : List Reply × State) : Type 0 where
      pub replies : one.0 ≡ two.0
      pub floor : one.1.floor ≡ two.1.floor
      pub readers : P one.1.readers two.1.readers

    pub steps_alike : (t : Tree) (cs : List Call) (s s' : State) → s.floor ≡ s'.floor → P s.readers s'.readers → AlikeLast (steps_by a ls t s cs) (steps_by b ls t s' cs)
    unfolding steps_by
    steps_alike t [] s s' f p = record { replies = refl; floor = f; readers = p }
    steps_alike t (c ∷ cs) s s' f p =
        let now = step_alike t c s s' f p in
        let later = steps_alike t cs (step_by a ls t s c).1 (step_by b ls t s' c).1 now.floor now.readers in
        record { replies = ap₂ (λ (r : Reply) (rs : List Reply). r ∷ rs) now.reply later.replies; floor = later.floor; readers = later.readers }
