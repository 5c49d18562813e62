-- The join, part one: a seek answers the residual set, by induction on the tree, one lemma for each operator's step
-- over abstract seeks. Assumes nothing.
use mathlib.Core.Path.{◌≡◌, refl, sym, ap, ◌∙◌, subst}
use mathlib.Core.Bool.{Bool, true, false, not, ◌&&◌, ◌||◌}
use mathlib.Core.List.{List, [], ◌∷◌}
use Prim.Native.Nat.{ℕ, zero, suc, ◌+◌, ◌≤◌, ◌<◌, min}
use native.Mathlib.Omega.{arith}
use lib.Dec.{ltb, eqb}
use borrow.Author.Tests.{le-leb, ltb-true, ltb-false, eqb-true, eqb-false, eq-eqb}
use lib.ListN.{get_or, set, drop, length, length-set}
use lib.Seq.{drop-nil, get_or-set_same, get_or-set_other, drop-drop}
use Rattle.model.specs.Lists.{top}
use Rattle.model.specs.Expression.{Tree, leaf, difference, union, intersection, Members, one, more, size, sizes}
use Rattle.model.specs.Sets.{among}
use Rattle.model.specs.Steps.{Readers, Found, end, at, Seek, on, passed, Progress, hopping, answer, read, fuel, differ, unite, follow, intersect, seek, seek_union, seek_intersection, seek_rest, read_by, seek_by}
use Rattle.model.proofs.Order.{or_right, and_right, split, min_case, Up, up_drop, up_none}
use Rattle.model.proofs.Hops.{passed_on, passed_off, grown-same}
use Rattle.model.proofs.Denoted.{from, from_up, from-among}
use Rattle.model.proofs.Residual.{Set, Local, After, None, Least, Sought, Seeks, Passed, Passes, sought_passed, sought_wide, passed_wide, again, left_of, residual, residual_some, residual_all, residual_local, some_local, all_local}

pub fuel-is : fuel ≡ 4294967297
unfolding fuel
fuel-is = refl

-- what holds of either case holds of the answer gone on with, and of a test's two cases
pub on_case : (Q P : Found → Type 0) (f : Readers → Found) (g : ℕ → Readers → Found) (r : Found) → Q r
    → ((rs : Readers) → Q (end rs) → P (f rs)) → ((x : ℕ) (rs : Readers) → Q (at x rs) → P (g x rs)) → P (on r f g)
on_case Q P f g (end rs) q pf pg = pf rs q
on_case Q P f g (at x rs) q pf pg = pg x rs q

pub test_case : (P : Found → Type 0) (b : Bool) (r s : Found) → (b ≡ true → P r) → (b ≡ false → P s) → P (elim b [ true ↦ r | false ↦ s ])
test_case P true r s f g = f refl
test_case P false r s f g = g refl

-- two nodes after one another, the first sought to e, the second to x
module _ (i m j : ℕ) (F G : Set) (im : i ≤ m) (mj : m ≤ j) (Fl : Local i m F) (Gl : Local m j G) where
  record Two (e x : ℕ) (ps qs : List ℕ) : Type 0 where
    long : length qs ≡ length ps
    left : (k : ℕ) → k < i → get_or qs k 0 ≡ get_or ps k 0
    right : (k : ℕ) → j ≤ k → get_or qs k 0 ≡ get_or ps k 0
    first_above : (z : ℕ) → e ≤ z → F qs z ≡ F ps z
    first_below : (z : ℕ) → z < e → F qs z ≡ false
    second_above : (z : ℕ) → x ≤ z → G qs z ≡ G ps z
    second_below : (z : ℕ) → z < x → G qs z ≡ false

  -- the second node's set is the same before and after the first's seek
  kept : (e : ℕ) (ps qs : List ℕ) → After i m F e ps qs → (z : ℕ) → G qs z ≡ G ps z
  kept e ps qs a z = Gl ps qs (λ k h h'. a.kept.right k h) z

  two : (e x : ℕ) (ps qs ts : List ℕ) → After i m F e ps qs → After m j G x qs ts → Two e x ps ts
  two e x ps qs ts a b = record {
    long = b.kept.long ∙ a.kept.long;
    left = λ k h. b.kept.left k (omega arith) ∙ a.kept.left k h;
    right = λ k h. b.kept.right k h ∙ a.kept.right k (omega arith);
    first_above = λ z h. Fl qs ts (λ k h₁ h₂. b.kept.left k h₂) z ∙ a.kept.above z h;
    first_below = λ z h. Fl qs ts (λ k h₁ h₂. b.kept.left k h₂) z ∙ a.below z h;
    second_above = λ z h. b.kept.above z h ∙ kept e ps qs a z;
    second_below = λ z h. b.below z h;
  }

  -- union
  abbrev U : Set
  U ps x = F ps x || G ps x

  union_after : (e : ℕ) (ps qs ts : List ℕ) → After i m F e ps qs → After m j G e qs ts → After i j U e ps ts
  union_after e ps qs ts a b =
      let t = two e e ps qs ts a b in
      record {
        kept = record { long = t.long; left = t.left; right = t.right; above = λ x h. cc (t.first_above x h, t.second_above x h) };
        below = λ x h. cc (t.first_below x h, t.second_below x h);
      }

  -- the first finished: the later members' answer holds
  union_none : (e : ℕ) (ps qs : List ℕ) → After i m F e ps qs → None F e ps → (r : Found) → Sought m j G e qs r → Sought i j U e ps r
  union_none e ps qs a n (end rs) s = (union_after e ps qs rs.places a s.0, λ x h. cc (n x h, s.1 x h, kept e ps qs a x))
  union_none e ps qs a n (at y rs) s = (
    union_after e ps qs rs.places a s.0,
    record {
      from = s.1.from;
      small = s.1.small;
      is = cc (n y s.1.from, s.1.is, kept e ps qs a y);
      gap = λ x h h'. cc (n x h, s.1.gap x h h', kept e ps qs a x);
    },
  )

  -- the first answered x: the lesser answer holds
  union_some : (e : ℕ) (ps qs : List ℕ) → After i m F e ps qs → (x : ℕ) → Least F e ps x → (r : Found) → Sought m j G e qs r
      → Sought i j U e ps (on r (at x) (λ y rs. at (min x y) rs))
  union_some e ps qs a x l (end rs) s = (
    union_after e ps qs rs.places a s.0,
    record {
      from = l.from;
      small = l.small;
      is = cc l.is;
      gap = λ z h h'. cc (l.gap z h h', s.1 z h, kept e ps qs a z);
    },
  )
  union_some e ps qs a x l (at y rs) s = (
    union_after e ps qs rs.places a s.0,
    record {
      from = omega (arith, l.from, s.1.from);
      small = omega (arith, l.small, s.1.small);
      is = min_case (λ z. U ps z ≡ true) x y (cc l.is) (or_right (F ps y) (G ps y) (cc (s.1.is, kept e ps qs a y)));
      gap = λ z h h'. cc (l.gap z h (omega arith), s.1.gap z h (omega arith), kept e ps qs a z);
    },
  )

  union_seek : (f g : Seek) → Seeks i m F f → Seeks m j G g → Seeks i j U (unite f g)
  unfolding unite
  union_seek f g Ff Gg e rs et jl =
      on_case (Sought i m F e rs.places) (Sought i j U e rs.places) _ _ (f e rs) (Ff e rs et (omega arith))
      (λ rs₁ s. union_none e rs.places rs₁.places s.0 s.1 (g e rs₁) (Gg e rs₁ et (omega (arith, s.0.kept.long))))
      (λ x rs₁ s. union_some e rs.places rs₁.places s.0 x s.1 (g e rs₁) (Gg e rs₁ et (omega (arith, s.0.kept.long))))

  -- the first's members at which the second's answer passes H: the difference with `not`, the intersection with `self`
  abbrev M : (Bool → Bool) → Set
  M H ps x = F ps x && H (G ps x)

  -- only the first sought
  meet_first : (H : Bool → Bool) (e : ℕ) (ps qs : List ℕ) → After i m F e ps qs → After i j (M H) e ps qs
  meet_first H e ps qs a = record {
    kept = record {
      long = a.kept.long;
      left = a.kept.left;
      right = λ k h. a.kept.right k (omega arith);
      above = λ z h. cc (a.kept.above z h, kept e ps qs a z);
    };
    below = λ z h. cc (a.below z h);
  }

  -- both sought: the first to e, with nothing from e up to x, and the second to x
  meet_after : (H : Bool → Bool) (e x : ℕ) (ps qs ts : List ℕ) → ((z : ℕ) → e ≤ z → z < x → F ps z ≡ false) → After i m F e ps qs → After m j G x qs ts → After i j (M H) e ps ts
  meet_after H e x ps qs ts l a b =
      let t = two e x ps qs ts a b in
      record {
        kept = record {
          long = t.long;
          left = t.left;
          right = t.right;
          above = λ z h. split (M H ts z ≡ M H ps z) z x (λ lt. cc (t.first_above z h, l z h lt)) (λ ge. cc (t.first_above z h, t.second_above z ge));
        };
        below = λ z h. cc (t.first_below z h);
      }

  -- difference
  abbrev D : Set
  D = M not

  -- the first answered x: the second is sought to it, and where that answers x too the step is repeated past x
  diff_second : (e x : ℕ) (ps qs : List ℕ) → j ≤ length ps → Least F e ps x → After i m F e ps qs → (r : Found) → Sought m j G x qs r → (re : Seek)
      → ((rs : Readers) → j ≤ length rs.places → Sought i j D (suc x) rs.places (re (suc x) rs))
      → Sought i j D e ps (on r (at x) (λ y rs. elim (eqb x y) [ true ↦ re (suc x) rs | false ↦ at x rs ]))
  diff_second e x ps qs jl l a (end rs) s re ih = (
    meet_after not e x ps qs rs.places l.gap a s.0,
    record {
      from = l.from;
      small = l.small;
      is = cc (l.is, s.1 x (omega arith), kept e ps qs a x);
      gap = λ z h h'. cc (l.gap z h h');
    },
  )
  diff_second e x ps qs jl l a (at y rs) s re ih =
      let b : After i j D e ps rs.places = meet_after not e x ps qs rs.places l.gap a s.0 in
      test_case (Sought i j D e ps) (eqb x y) _ _
      (λ h. again i j D e (suc x) ps rs.places (omega (arith, l.from)) b
      (λ z h₁ h₂. split (D ps z ≡ false) z x (λ lt. cc (l.gap z h₁ lt)) (λ ge. let zx : z ≡ x = omega arith in cc (zx, eqb-true x y h, l.is, s.1.is, kept e ps qs a y)))
      (re (suc x) rs) (ih rs (omega (arith, b.kept.long))))
      (λ h. (
        b,
        record {
          from = l.from;
          small = l.small;
          is = cc (l.is, s.1.gap x (omega arith) (omega (arith, s.1.from, eqb-false x y h)), kept e ps qs a x);
          gap = λ z h₁ h₂. cc (l.gap z h₁ h₂);
        },
      ))

  diff_seek : (f g : Seek) → Seeks i m F f → Seeks m j G g → (n e : ℕ) (rs : Readers) → top < n + e → e ≤ top → j ≤ length rs.places → Sought i j D e rs.places (differ n f g e rs)
  unfolding differ
  diff_seek f g Ff Gg zero e rs ne et jl = absurd (omega arith)
  diff_seek f g Ff Gg (suc n) e rs ne et jl =
      on_case (Sought i m F e rs.places) (Sought i j D e rs.places) _ _ (f e rs) (Ff e rs et (omega arith))
      (λ rs₁ s. (meet_first not e rs.places rs₁.places s.0, λ x h. cc (s.1 x h)))
      (λ x rs₁ s. diff_second e x rs.places rs₁.places jl s.1 s.0 (g x rs₁) (Gg x rs₁ (omega (arith, s.1.small)) (omega (arith, s.0.kept.long))) (differ n f g)
      (λ rs₂ h. diff_seek f g Ff Gg n (suc x) rs₂ (omega (arith, s.1.from)) (omega (arith, s.1.small)) h))

  -- intersection
  abbrev self : Bool → Bool
  self b = b

  abbrev I : Set
  I = M self

  -- the first answered the candidate e itself: the others go on with it
  follow_on : (e : ℕ) (ps qs : List ℕ) → After i m F e ps qs → F ps e ≡ true → (r : Found) → Passed m j G e qs r → Passed i j I e ps r
  follow_on e ps qs a t (end rs) s = (
    meet_after self e e ps qs rs.places (λ z h h'. absurd (omega arith)) a s.0,
    λ x h. and_right (F ps x) (G ps x) (cc (s.1 x h, kept e ps qs a x)),
  )
  follow_on e ps qs a t (at y rs) s = (
    meet_after self e e ps qs rs.places (λ z h h'. absurd (omega arith)) a s.0,
    record {
      from = s.1.from;
      small = s.1.small;
      same = λ q. cc (s.1.same q, t, kept e ps qs a e);
      gap = λ x h h'. and_right (F ps x) (G ps x) (cc (s.1.gap x h h', kept e ps qs a x));
    },
  )

  follow_pass : (f g : Seek) → Seeks i m F f → Passes m j G g → Passes i j I (follow f g)
  unfolding follow
  follow_pass f g Ff Gg e rs et jl =
      on_case (Sought i m F e rs.places) (Passed i j I e rs.places) _ _ (f e rs) (Ff e rs et (omega arith))
      (λ rs₁ s. (meet_first self e rs.places rs₁.places s.0, λ x h. cc (s.1 x h)))
      (λ x rs₁ s. test_case (Passed i j I e rs.places) (ltb e x) _ _
      (λ h. (
        meet_first self e rs.places rs₁.places s.0,
        record {
          from = s.1.from;
          small = s.1.small;
          same = λ q. absurd (omega (arith, ltb-true e x h));
          gap = λ z h h'. cc (s.1.gap z h h');
        },
      ))
      (λ h. let ex : x ≡ e = omega (arith, ltb-false e x h, s.1.from) in
      follow_on e rs.places rs₁.places s.0 (cc (ex, s.1.is)) (g e rs₁) (Gg e rs₁ et (omega (arith, s.0.kept.long)))))

  -- the first answered x: where the others answer above it, the step is repeated from there
  inter_rest : (e x : ℕ) (ps qs : List ℕ) → j ≤ length ps → Least F e ps x → After i m F e ps qs → (r : Found) → Passed m j G x qs r → (re : Seek)
      → ((y : ℕ) (rs : Readers) → x < y → y < top → j ≤ length rs.places → Sought i j I y rs.places (re y rs))
      → Sought i j I e ps (on r end (λ y rs. elim (ltb x y) [ true ↦ re y rs | false ↦ at x rs ]))
  inter_rest e x ps qs jl l a (end rs) s re ih = (
    meet_after self e x ps qs rs.places l.gap a s.0,
    λ z h. split (I ps z ≡ false) z x (λ lt. cc (l.gap z h lt)) (λ ge. and_right (F ps z) (G ps z) (cc (s.1 z ge, kept e ps qs a z))),
  )
  inter_rest e x ps qs jl l a (at y rs) s re ih =
      let b : After i j I e ps rs.places = meet_after self e x ps qs rs.places l.gap a s.0 in
      test_case (Sought i j I e ps) (ltb x y) _ _
      (λ h. again i j I e y ps rs.places (omega (arith, l.from, s.1.from)) b
      (λ z h₁ h₂. split (I ps z ≡ false) z x (λ lt. cc (l.gap z h₁ lt)) (λ ge. and_right (F ps z) (G ps z) (cc (s.1.gap z ge h₂, kept e ps qs a z))))
      (re y rs) (ih y rs (ltb-true x y h) s.1.small (omega (arith, b.kept.long))))
      (λ h. (
        b,
        record {
          from = l.from;
          small = l.small;
          is = cc (l.is, s.1.same (omega (arith, s.1.from, ltb-false x y h)), kept e ps qs a x);
          gap = λ z h₁ h₂. cc (l.gap z h₁ h₂);
        },
      ))

  inter_seek : (f g : Seek) → Seeks i m F f → Passes m j G g → (n e : ℕ) (rs : Readers) → top < n + e → e ≤ top → j ≤ length rs.places → Sought i j I e rs.places (intersect n f g e rs)
  unfolding intersect
  inter_seek f g Ff Gg zero e rs ne et jl = absurd (omega arith)
  inter_seek f g Ff Gg (suc n) e rs ne et jl =
      on_case (Sought i m F e rs.places) (Sought i j I e rs.places) _ _ (f e rs) (Ff e rs et (omega arith))
      (λ rs₁ s. (meet_first self e rs.places rs₁.places s.0, λ x h. cc (s.1 x h)))
      (λ x rs₁ s. inter_rest e x rs.places rs₁.places jl s.1 s.0 (g x rs₁) (Gg x rs₁ (omega (arith, s.1.small)) (omega (arith, s.0.kept.long))) (intersect n f g)
      (λ y rs₂ h₁ h₂ h₃. inter_seek f g Ff Gg n y rs₂ (omega (arith, s.1.from)) (omega arith) h₃))

-- ---- the reader

-- the moves to e over an ascending list leave what is at or above e, and nothing below
passed-from : (l : List ℕ) (e : ℕ) → drop (passed l e) l ≡ from e l
unfolding from
passed-from [] e = drop-nil (passed [] e)
passed-from (y ∷ ys) e = go (ltb y e) refl (passed-from ys e)
  where
    go : (b : Bool) → ltb y e ≡ b → drop (passed ys e) ys ≡ from e ys → drop (passed (y ∷ ys) e) (y ∷ ys) ≡ elim b [ true ↦ from e ys | false ↦ y ∷ ys ]
    go true q ih = rw (passed_on y ys e q) ih
    go false q ih = rw (passed_off y ys e q) refl

pub read_seek : (l : List ℕ) (i : ℕ) → Up 0 l → Seeks i (suc i) (left_of l i) (read l i)
unfolding read_by answer among
read_seek l i u e rs et il = go (drop p l) refl
  where
    ps : List ℕ
    ps = rs.places

    p₀ : ℕ
    p₀ = get_or ps i 0

    went : Progress
    went = hopping (drop p₀ l) e

    p : ℕ
    p = p₀ + went.grown

    rest : drop p l ≡ from e (drop p₀ l)
    rest = sym (drop-drop went.grown p₀ l) ∙ ap (λ (n : ℕ). drop n (drop p₀ l)) (grown-same e 0 (drop p₀ l) (up_drop 0 p₀ l u)) ∙ passed-from (drop p₀ l) e

    up : Up e (drop p l)
    up = rw rest (from_up e 0 (drop p₀ l) (up_drop 0 p₀ l u))

    above : (x : ℕ) → e ≤ x → among x (drop p l) ≡ left_of l i ps x
    above x h = rw rest (cc (from-among e 0 (drop p₀ l) (up_drop 0 p₀ l u) x, le-leb e x h))

    now : (x : ℕ) → left_of l i (set ps i p) x ≡ among x (drop p l)
    now x = rw (get_or-set_same ps i p 0)

    after : After i (suc i) (left_of l i) e ps (set ps i p)
    after = record {
      kept = record {
        long = length-set ps i p;
        left = λ k h. get_or-set_other ps i k p 0 (omega arith);
        right = λ k h. get_or-set_other ps i k p 0 (omega arith);
        above = λ x h. now x ∙ above x h;
      };
      below = λ x h. now x ∙ up_none e x (drop p l) up h;
    }

    moved : Readers
    moved = record { places = set ps i p; moves = rs.moves + went.moves }

    go : (r : List ℕ) → drop p l ≡ r → Sought i (suc i) (left_of l i) e ps (answer r moved)
    go [] q = (after, λ x h. sym (above x h) ∙ ap (among x) q)
    go (y ∷ ys) q = let v : Up e (y ∷ ys) = subst (Up e) q up in (
      after,
      record {
        from = v.0;
        small = v.1;
        is = sym (above y v.0) ∙ ap (among y) q ∙ cc (eq-eqb y y refl);
        gap = λ x h h'. sym (above x h) ∙ ap (among x) q ∙ up_none y x (y ∷ ys) (omega arith, v.1, v.2) h';
      },
    )

-- a seek of any node, over any ascending lists and from any places
module _ (ls : List (List ℕ)) (up : (k : ℕ) → Up 0 (get_or ls k [])) where
  mutual
    unfolding seek_by residual size

    pub seek_is : (t : Tree) (i : ℕ) → Seeks i (i + size t) (residual ls t i) (seek ls t i)
    seek_is (leaf k) i = λ e rs et jl.
        sought_wide i (suc i) i (i + 1) (left_of (get_or ls k []) i) e rs.places (omega arith) (omega arith) (read (get_or ls k []) i e rs)
        (read_seek (get_or ls k []) i (up k) e rs et (omega arith))
    seek_is (difference s t) i = λ e rs et jl.
        sought_wide (1 + i) (1 + i + size s + size t) i (i + (1 + size s + size t)) (residual ls (difference s t) i) e rs.places (omega arith) (omega arith) (seek ls (difference s t) i e rs)
        (diff_seek (1 + i) (1 + i + size s) (1 + i + size s + size t) (residual ls s (1 + i)) (residual ls t (1 + i + size s)) (omega arith) (omega arith) (residual_local ls s (1 + i)) (residual_local ls t (1 + i + size s))
        (seek ls s (1 + i)) (seek ls t (1 + i + size s)) (seek_is s (1 + i)) (seek_is t (1 + i + size s)) fuel e rs (omega (arith, fuel-is)) et (omega arith))
    seek_is (union ts) i = λ e rs et jl.
        sought_wide (1 + i) (1 + i + sizes ts) i (i + (1 + sizes ts)) (residual_some ls ts (1 + i)) e rs.places (omega arith) (omega arith) (seek_union ls ts (1 + i) e rs) (union_is ts (1 + i) e rs et (omega arith))
    seek_is (intersection ts) i = λ e rs et jl.
        sought_wide (1 + i) (1 + i + sizes ts) i (i + (1 + sizes ts)) (residual_all ls ts (1 + i)) e rs.places (omega arith) (omega arith) (seek_intersection ls ts (1 + i) e rs) (inter_is ts (1 + i) e rs et (omega arith))

    union_is : (ts : Members) (i : ℕ) → Seeks i (i + sizes ts) (residual_some ls ts i) (seek_union ls ts i)
    union_is (one t) i = λ e rs et jl. seek_is t i e rs et jl
    union_is (more t ts) i = λ e rs et jl.
        sought_wide i (i + size t + sizes ts) i (i + (size t + sizes ts)) (residual_some ls (more t ts) i) e rs.places (omega arith) (omega arith) (seek_union ls (more t ts) i e rs)
        (union_seek i (i + size t) (i + size t + sizes ts) (residual ls t i) (residual_some ls ts (i + size t)) (omega arith) (omega arith) (residual_local ls t i) (some_local ls ts (i + size t))
        (seek ls t i) (seek_union ls ts (i + size t)) (seek_is t i) (union_is ts (i + size t)) e rs et (omega arith))

    inter_is : (ts : Members) (i : ℕ) → Seeks i (i + sizes ts) (residual_all ls ts i) (seek_intersection ls ts i)
    inter_is (one t) i = λ e rs et jl. seek_is t i e rs et jl
    inter_is (more t ts) i = λ e rs et jl.
        sought_wide i (i + size t + sizes ts) i (i + (size t + sizes ts)) (residual_all ls (more t ts) i) e rs.places (omega arith) (omega arith) (seek_intersection ls (more t ts) i e rs)
        (inter_seek i (i + size t) (i + size t + sizes ts) (residual ls t i) (residual_all ls ts (i + size t)) (omega arith) (omega arith) (residual_local ls t i) (all_local ls ts (i + size t))
        (seek ls t i) (seek_rest ls ts (i + size t)) (seek_is t i) (rest_is ts (i + size t)) fuel e rs (omega (arith, fuel-is)) et (omega arith))

    pub rest_is : (ts : Members) (i : ℕ) → Passes i (i + sizes ts) (residual_all ls ts i) (seek_rest ls ts i)
    rest_is (one t) i = λ e rs et jl. sought_passed i (i + size t) (residual ls t i) e rs.places (seek ls t i e rs) (seek_is t i e rs et jl)
    rest_is (more t ts) i = λ e rs et jl.
        passed_wide i (i + size t + sizes ts) i (i + (size t + sizes ts)) (residual_all ls (more t ts) i) e rs.places (omega arith) (omega arith) (seek_rest ls (more t ts) i e rs)
        (follow_pass i (i + size t) (i + size t + sizes ts) (residual ls t i) (residual_all ls ts (i + size t)) (omega arith) (omega arith) (residual_local ls t i) (all_local ls ts (i + size t))
        (seek ls t i) (seek_rest ls ts (i + size t)) (seek_is t i) (rest_is ts (i + size t)) e rs et (omega arith))
