-- The regroupings: trees that are regroupings of each other denote one set. A union's members are folded by "or", an intersection's by
-- "and", and such a fold knows no order and no nesting; each regrouping is then a line of and, or, not. Assumes nothing.
use mathlib.Core.Path.{◌≡◌, refl, sym, ap, ap₂, ◌∙◌}
use mathlib.Core.Bool.{Bool, true, false, not, ◌&&◌, ◌||◌, true-and, and-true, and_assoc, and_comm, false-or, or-false, or_assoc, or_comm, and-or_distrib_left, and-or_distrib_right}
use mathlib.Core.List.{List, [], ◌∷◌, ◌++◌}
use Prim.Native.Nat.{ℕ}
use Rattle.model.specs.Expression.{Tree, leaf, difference, union, intersection, Members, one, more}
use Rattle.model.specs.Sets.{among, member}
use Rattle.model.proofs.Order.{not_both}
use Rattle.model.specs.Regrouped.{several, behind, between, listed, on_each, less_each, Reordered, none, first, Regrouped, union_reordered, intersection_reordered, union_opened, intersection_opened, difference_of_union, intersection_of_union, in_first, in_second, in_union, in_intersection, unchanged, back, then}

-- a commutative monoid's laws: the operation knows no nesting and no order
record Laws (o : Bool → Bool → Bool) (unit : Bool) : Type 0 where
  left_unit : (a : Bool) → o unit a ≡ a
  right_unit : (a : Bool) → o a unit ≡ a
  associates : (a b c : Bool) → o (o a b) c ≡ o a (o b c)
  commutes : (a b : Bool) → o a b ≡ o b a

-- ---- nodes folded by it
module _ (value : Tree → Bool) (o : Bool → Bool → Bool) (unit : Bool) where
  unfoldable fold : List Tree → Bool
  fold [] = unit
  fold (t ∷ ts) = o (value t) (fold ts)

  unfoldable folded : Members → Bool
  folded (one t) = value t
  folded (more t ts) = o (value t) (folded ts)

  module _ (laws : Laws o unit) where
    exchanged : (a b c : Bool) → o a (o b c) ≡ o b (o a c)
    exchanged a b c = sym (laws.associates a b c) ∙ ap (λ (d : Bool). o d c) (laws.commutes a b) ∙ laws.associates b a c

    fold-append : (xs ys : List Tree) → fold (xs ++ ys) ≡ o (fold xs) (fold ys)
    unfolding fold
    fold-append [] ys = sym (laws.left_unit (fold ys))
    fold-append (x ∷ xs) ys = ap (o (value x)) (fold-append xs ys) ∙ sym (laws.associates (value x) (fold xs) (fold ys))

    fold-listed : (ts : Members) → fold (listed ts) ≡ folded ts
    unfolding fold folded listed
    fold-listed (one t) = laws.right_unit (value t)
    fold-listed (more t ts) = ap (o (value t)) (fold-listed ts)

    fold_reordered : {ts us : List Tree} → Reordered ts us → fold ts ≡ fold us
    unfolding fold
    fold_reordered none = refl
    fold_reordered (first t ts xs ys r) = ap (o (value t)) (fold_reordered r ∙ fold-append xs ys) ∙ exchanged (value t) (fold xs) (fold ys) ∙ sym (fold-append xs (t ∷ ys))

    reordered : (ts us : Members) → Reordered (listed ts) (listed us) → folded ts ≡ folded us
    reordered ts us r = sym (fold-listed ts) ∙ fold_reordered r ∙ fold-listed us

    folded-several : (t : Tree) (ys : List Tree) → folded (several t ys) ≡ o (value t) (fold ys)
    unfolding fold folded several
    folded-several t [] = sym (laws.right_unit (value t))
    folded-several t (y ∷ ys) = ap (o (value t)) (folded-several y ys)

    folded-behind : (ts : Members) (ys : List Tree) → folded (behind ts ys) ≡ o (folded ts) (fold ys)
    unfolding folded behind
    folded-behind (one t) ys = folded-several t ys
    folded-behind (more t ts) ys = ap (o (value t)) (folded-behind ts ys) ∙ sym (laws.associates (value t) (folded ts) (fold ys))

    folded-between : (xs : List Tree) (ts : Members) (ys : List Tree) → folded (between xs ts ys) ≡ o (fold xs) (o (folded ts) (fold ys))
    unfolding fold between folded
    folded-between [] ts ys = folded-behind ts ys ∙ sym (laws.left_unit _)
    folded-between (x ∷ xs) ts ys = ap (o (value x)) (folded-between xs ts ys) ∙ sym (laws.associates (value x) (fold xs) _)

    -- so members that come to the same may stand in each other's place
    replaced : (xs : List Tree) (ts us : Members) (ys : List Tree) → folded ts ≡ folded us → folded (between xs ts ys) ≡ folded (between xs us ys)
    replaced xs ts us ys e = rw (folded-between xs ts ys, folded-between xs us ys, e)

or_laws : Laws ◌||◌ false
or_laws = record { left_unit = false-or; right_unit = or-false; associates = or_assoc; commutes = or_comm }

and_laws : Laws ◌&&◌ true
and_laws = record { left_unit = true-and; right_unit = and-true; associates = and_assoc; commutes = and_comm }

-- ---- what trees denote, of one number over one row of lists
module _ (ls : List (List ℕ)) (x : ℕ) where
  abbrev value : Tree → Bool
  value t = member ls t x

  abbrev some : Members → Bool
  some = folded value ◌||◌ false

  abbrev all : Members → Bool
  all = folded value ◌&&◌ true

  abbrev and_all : List Tree → Bool
  and_all = fold value ◌&&◌ true

  unions : (ts : Members) → value (union ts) ≡ some ts
  unfolding member folded
  unions (one t) = refl
  unions (more t ts) = ap (λ (b : Bool). value t || b) (unions ts)

  intersections : (ts : Members) → value (intersection ts) ≡ all ts
  unfolding member folded
  intersections (one t) = refl
  intersections (more t ts) = ap (λ (b : Bool). value t && b) (intersections ts)

  -- a − (b ∪ c) and (a − b) − c
  taken_away : (a : Tree) (bs : Members) → value (less_each a bs) ≡ value a && not (some bs)
  unfolding member folded less_each
  taken_away a (one b) = refl
  taken_away a (more b bs) = taken_away (difference a b) bs ∙ go (value a) (value b) (some bs)
    where
      go : (a b c : Bool) → (a && not b) && not c ≡ a && not (b || c)
      go true true c = refl
      go true false c = refl
      go false b c = refl

  -- a ∩ (b ∪ c) and (a ∩ b) ∪ (a ∩ c), where a stands ahead and behind
  distributed : (f : Tree → Tree) (a c : Bool) → ((b : Tree) → value (f b) ≡ a && (value b && c)) → (bs : Members) → some (on_each f bs) ≡ a && (some bs && c)
  unfolding folded on_each
  distributed f a c e (one b) = e b
  distributed f a c e (more b bs) = ap₂ ◌||◌ (e b) (distributed f a c e bs)
      ∙ sym (ap (λ (d : Bool). a && d) (and-or_distrib_right (value b) (some bs) c) ∙ and-or_distrib_left a (value b && c) (some bs && c))

  -- members of a union, or of an intersection, that come to the same
  in_a_union : (xs : List Tree) (ts us : Members) (ys : List Tree) → some ts ≡ some us → value (union (between xs ts ys)) ≡ value (union (between xs us ys))
  in_a_union xs ts us ys e = unions (between xs ts ys) ∙ replaced value ◌||◌ false or_laws xs ts us ys e ∙ sym (unions (between xs us ys))

  in_an_intersection : (xs : List Tree) (ts us : Members) (ys : List Tree) → all ts ≡ all us → value (intersection (between xs ts ys)) ≡ value (intersection (between xs us ys))
  in_an_intersection xs ts us ys e = intersections (between xs ts ys) ∙ replaced value ◌&&◌ true and_laws xs ts us ys e ∙ sym (intersections (between xs us ys))

  -- an intersection, one of its members said apart
  one_of_all : (xs : List Tree) (t : Tree) (ys : List Tree) → value (intersection (between xs (one t) ys)) ≡ and_all xs && (value t && and_all ys)
  unfolding folded
  one_of_all xs t ys = intersections (between xs (one t) ys) ∙ folded-between value ◌&&◌ true and_laws xs (one t) ys

  -- trees that are regroupings of each other denote one set
  pub one_set : {s t : Tree} → Regrouped s t → value s ≡ value t
  unfolding member folded
  one_set (union_reordered ts us r) = unions ts ∙ reordered value ◌||◌ false or_laws ts us r ∙ sym (unions us)
  one_set (intersection_reordered ts us r) = intersections ts ∙ reordered value ◌&&◌ true and_laws ts us r ∙ sym (intersections us)
  one_set (union_opened xs ts ys) = in_a_union xs (one (union ts)) ts ys (unions ts)
  one_set (intersection_opened xs ts ys) = in_an_intersection xs (one (intersection ts)) ts ys (intersections ts)
  one_set (difference_of_union a bs) = ap (λ (b : Bool). value a && not b) (unions bs) ∙ sym (taken_away a bs)
  one_set (intersection_of_union xs bs ys) = let f : Tree → Tree = λ b. intersection (between xs (one b) ys) in
      one_of_all xs (union bs) ys ∙ ap (λ (b : Bool). and_all xs && (b && and_all ys)) (unions bs)
      ∙ sym (unions (on_each f bs) ∙ distributed f (and_all xs) (and_all ys) (λ b. one_of_all xs b ys) bs)
  one_set (in_first s s' t r) = ap (λ (b : Bool). b && not (value t)) (one_set r)
  one_set (in_second s t t' r) = ap (λ (b : Bool). value s && not b) (one_set r)
  one_set (in_union xs t t' ys r) = in_a_union xs (one t) (one t') ys (one_set r)
  one_set (in_intersection xs t t' ys r) = in_an_intersection xs (one t) (one t') ys (one_set r)
  one_set (unchanged t) = refl
  one_set (back s t r) = sym (one_set r)
  one_set (then s t u r r') = one_set r ∙ one_set r'

-- ---- what looks like a regrouping and is none: 0 is a member of the one and not of the other where lists 0 and 1 hold it
abbrev told_apart : List (List ℕ)
told_apart = (0 ∷ []) ∷ (0 ∷ []) ∷ [] ∷ []

abbrev NoRegrouping : Tree → Tree → Type 0
NoRegrouping s t = Regrouped s t → ⊥

pub of_an_intersection : NoRegrouping (difference (leaf 0) (intersection (more (leaf 1) (one (leaf 2))))) (difference (difference (leaf 0) (leaf 1)) (leaf 2))
unfolding member among
of_an_intersection r = not_both refl (one_set told_apart 0 r)

pub over_an_intersection : NoRegrouping (union (more (leaf 0) (one (intersection (more (leaf 1) (one (leaf 2))))))) (intersection (more (union (more (leaf 0) (one (leaf 1)))) (one (leaf 2))))
unfolding member among
over_an_intersection r = not_both refl (one_set told_apart 0 r)

pub swapped : NoRegrouping (difference (leaf 0) (leaf 2)) (difference (leaf 2) (leaf 0))
unfolding member among
swapped r = not_both refl (one_set told_apart 0 r)
