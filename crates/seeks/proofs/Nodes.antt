-- The member nodes of an operator where the code finds them, and its step over them. Assumes nothing.
use mathlib.Core.Path.{◌≡◌, refl, sym, subst, ap, ◌∙◌}
use mathlib.Core.Bool.{Bool, true, false}
use mathlib.Core.List.{List, [], ◌∷◌}
use Prim.Native.Nat.{ℕ, ◌+◌, ◌-◌, ◌≤◌, ◌<◌, min}
use native.Mathlib.Omega.{arith}
use native.Mathlib.Numerals.{add-one}
use lib.Dec.{eqb}
use lib.ListN.{length, get_or}
use borrow.Author.Tests.{eqb-true, eqb-false}
use Rattle.model.specs.declared.Node.TheVariants.{Leaf, Union, Intersection}
use Rattle.model.specs.Outcome.{accepted}
use Rattle.model.specs.Lists.{top, Numbers, lists_from}
use Rattle.model.specs.Expression.{Tree, difference, union, intersection, Members, size}
use Rattle.model.specs.Forms.{node_of}
use Rattle.model.specs.Steps.{Readers, Found, Seek, read, seek, seek_by}
use Rattle.model.proofs.Order.{Up}
use Rattle.model.proofs.Fuel.{differ_with, intersect_with, seek-difference}
use Rattle.lists.proofs.Spans.{readable_up}
use Rattle.expression.specs.Reading.{members}
use Rattle.reader.specs.Rows.{Stands, Behind, Ready}
use Rattle.reader.specs.Sought.{found}
use Rattle.reader.proofs.Standing.{kind, each, below, many_below, leaf-is, union_is, intersection_is, root_is, inside}
use Rattle.reader.proofs.Members.{first-is, below_at, Split, split, Pair, Comes, comes_last, comes_now, comes_on}
use Rattle.seeks.proofs.Turns.{seek_each, going, first_ended, differ_stop, differ-turn, holding, holding_stop, holding-turn, intersect-begin, head, tail, each-is, unite_from, unite-end, unite-turn, unite-start, each-end, each_stop, each_turn, intersection_step}

-- what the loops over member nodes go through: a union's with the least answer so far, and those after an intersection's first
abbrev pub uniting : List (List ℕ) → ℕ → List Tree → ℕ → ℕ × Readers → Found
uniting ls e ts i s = unite_from ls s.0 ts i e s.1

abbrev pub following : List (List ℕ) → ℕ → List Tree → ℕ → Readers → Found
following ls e ts i rs = seek_each ls ts i e rs

module _ (numbers ends nodes behind : List ℕ) (n : Numbers numbers) (r : Ready numbers ends nodes behind) (node : ℕ) where
  abbrev ls : List (List ℕ)
  ls = lists_from numbers 0 ends

  abbrev At : Tree → ℕ → Type 0
  At t i = Stands (length ends) nodes t i

  -- the seeks of the node, of its first member tree, of a second and of all others
  abbrev whole : Tree → Seek
  whole t = seek ls t node

  abbrev first_seek : Tree → Seek
  first_seek t = seek ls t (node + 1)

  abbrev second_seek : Tree → Seek
  second_seek t = seek ls t (get_or behind (node + 1) 0)

  abbrev others_seek : List Tree → Seek
  others_seek ts = seek_each ls ts (get_or behind (node + 1) 0)

  up : (k : ℕ) → Up 0 (get_or ls k [])
  up = readable_up numbers ends n r.lists

  -- ---- difference
  pub both : (t : Tree) (p : Pair r node t) → At t node → (e : ℕ) (rs : Readers) → e ≤ top → length rs.places ≡ 48
      → whole t e rs ≡ differ_with (whole t) (first_seek p.first) (second_seek p.second) e rs
  unfolding size
  both t p s e rs h l =
      let a = p.first in
      let b = p.second in
      let fits : 1 + node + size a + size b ≤ length rs.places = omega (arith, inside (length ends) nodes (difference a b) node (subst (λ (u : Tree). At u node) p.is s)) in
      let moved = subst (λ (i : ℕ). seek ls (difference a b) node e rs ≡ differ_with (seek ls (difference a b) node) (seek ls a i) (seek ls b (1 + node + size a)) e rs) (first-is r node) (seek-difference ls up a b node e rs h fits) in
      subst (λ (u : Tree). whole u e rs ≡ differ_with (whole u) (first_seek a) (second_seek b) e rs) (sym p.is) (rw p.after moved)

  -- how a step (a) and a step (b) end: nothing in the first; the first's answer holds; once more from behind it
  module _ (t : Tree) (p : Pair r node t) (s : At t node) (e : ℕ) (rs : Readers) (low : e ≤ top) (long : length rs.places ≡ 48) (x : ℕ) (rs₁ : Readers) (a : found x rs₁ ≡ first_seek p.first e rs) where
    pub both-ended : top ≤ x → found x rs₁ ≡ seek ls t node e rs
    both-ended h = sym (both t p s e rs low long ∙ first_ended (first_seek p.first) e rs x rs₁ a _ h)

    module _ (xt : x < top) (y : ℕ) (rs₂ : Readers) (c : found y rs₂ ≡ second_seek p.second x rs₁) where
      pub both_stopped : (y ≡ x → ⊥) → found x rs₂ ≡ seek ls t node e rs
      both_stopped h = sym (both t p s e rs low long ∙ differ_stop (whole t) (first_seek p.first) (second_seek p.second) e rs x rs₁ a xt y rs₂ c h)

      pub both-turned : y ≡ x → seek ls t node (x + 1) rs₂ ≡ seek ls t node e rs
      both-turned h = ap (λ (n : ℕ). seek ls t node n rs₂) (add-one x) ∙ sym (both t p s e rs low long ∙ differ-turn (whole t) (first_seek p.first) (second_seek p.second) e rs x rs₁ a xt y rs₂ c h)

      pub both-held : holding (whole t) x y rs₂ ≡ seek ls t node e rs
      both-held = go (eqb y x) refl
        where
          go : (b : Bool) → eqb y x ≡ b → holding (whole t) x y rs₂ ≡ seek ls t node e rs
          go true q = let same = eqb-true y x q in holding-turn (whole t) x y rs₂ same ∙ both-turned same
          go false q = let apart = eqb-false y x q in holding_stop (whole t) x y rs₂ apart ∙ both_stopped apart

  -- ---- intersection
  pub record Every (t : Tree) (count : ℕ) : Type 0 where
    pub first : Tree
    pub others : List Tree
    pub split_at : Split r node first others
    pub many : 1 + length others ≡ count
    pub step : (e : ℕ) (rs : Readers) → e ≤ top → length rs.places ≡ 48 → whole t e rs ≡ intersect_with (whole t) (first_seek first) (others_seek others) e rs

  every_of : (count : ℕ) (t : Tree) (ts : Members) → t ≡ intersection ts → kind t ≡ Intersection count → At t node → Every t count
  every_of count t ts q root s =
      let are : below t ≡ head ts ∷ tail ts = ap below q ∙ each-is ts in
      let p = split r node t (head ts) (tail ts) s are in
      record {
        first = head ts;
        others = tail ts;
        split_at = p;
        many = omega (arith, ap length are, many_below t, ap members root);
        step = λ e rs h l.
            let fits : node + size (intersection ts) ≤ length rs.places = omega (arith, inside (length ends) nodes (intersection ts) node (subst (λ (u : Tree). At u node) q s)) in
            let moved = subst (λ (i : ℕ). seek ls (intersection ts) node e rs ≡ intersect_with (seek ls (intersection ts) node) (seek ls (head ts) i) (seek_each ls (tail ts) (1 + node + size (head ts))) e rs) (first-is r node) (intersection_step ls up ts node e rs h fits) in
            subst (λ (u : Tree). whole u e rs ≡ intersect_with (whole u) (first_seek (head ts)) (others_seek (tail ts)) e rs) (sym q) (rw p.after moved);
      }

  pub every : (count : ℕ) → node_of (get_or nodes node 0) ≡ accepted (Intersection count) → (t : Tree) → At t node → Every t count
  every count k t s =
      let root = root_is (length ends) nodes t node (Intersection count) s k in
      let d = intersection_is t count root in
      every_of count t d.trees d.is root s

  -- the first has answered: nothing, which ends it; or the candidate for the others
  module _ (count : ℕ) (t : Tree) (v : Every t count) (e : ℕ) (rs : Readers) (low : e ≤ top) (long : length rs.places ≡ 48) (x : ℕ) (rs₁ : Readers) (a : found x rs₁ ≡ first_seek v.first e rs) where
    pub every-ended : top ≤ x → found x rs₁ ≡ seek ls t node e rs
    every-ended h = sym (v.step e rs low long ∙ first_ended (first_seek v.first) e rs x rs₁ a _ h)

    pub every-begun : x < top → (f : Found) → Comes (length ends) nodes (following ls x) (get_or behind (node + 1) 0) (count - 1) rs₁ f → going (whole t) x f ≡ seek ls t node e rs
    every-begun h f c =
        ap (going (whole t) x) (c v.others (omega (arith, v.many)) v.split_at.others_at)
        ∙ sym (v.step e rs low long ∙ intersect-begin (whole t) (first_seek v.first) (others_seek v.others) e rs x rs₁ a h)

  -- ---- union
  unite-of : (count : ℕ) (t : Tree) (ts : Members) → t ≡ union ts → kind t ≡ Union count → At t node → (e : ℕ) (rs : Readers) → e ≤ top → length rs.places ≡ 48
      → (f : Found) → Comes (length ends) nodes (uniting ls e) (node + 1) count (top, rs) f → f ≡ seek ls t node e rs
  unite-of count t ts q root s e rs h l f c =
      let fits : node + size (union ts) ≤ length rs.places = omega (arith, inside (length ends) nodes (union ts) node (subst (λ (u : Tree). At u node) q s)) in
      let moved = subst (λ (i : ℕ). unite_from ls top (each ts) i e rs ≡ seek ls (union ts) node e rs) (first-is r node) (unite-start ls up ts node e rs h fits) in
      c (below t) (many_below t ∙ ap members root) (below_at r node t s) ∙ rw q moved

  pub unite : (count : ℕ) → node_of (get_or nodes node 0) ≡ accepted (Union count) → (t : Tree) → At t node → (e : ℕ) (rs : Readers) → e ≤ top → length rs.places ≡ 48
      → (f : Found) → Comes (length ends) nodes (uniting ls e) (node + 1) count (top, rs) f → f ≡ seek ls t node e rs
  unite count k t s =
      let root = root_is (length ends) nodes t node (Union count) s k in
      let d = union_is t count root in
      unite-of count t d.trees d.is root s

-- ---- a list
pub read_is : (numbers ends nodes : List ℕ) (node k : ℕ) → node_of (get_or nodes node 0) ≡ accepted (Leaf k) → (e : ℕ) (rs : Readers) (f : Found)
    → f ≡ read (get_or (lists_from numbers 0 ends) k []) node e rs → (t : Tree) → Stands (length ends) nodes t node → f ≡ seek (lists_from numbers 0 ends) t node e rs
unfolding seek_by
read_is numbers ends nodes node k here e rs f is t s = rw (leaf-is t k (root_is (length ends) nodes t node (Leaf k) s here)) is

-- ---- the end of a loop over member nodes: no tree is left
module _ (numbers ends nodes : List ℕ) (e i n : ℕ) (rs : Readers) (h : n ≤ 0) where
  pub unites_last : (least : ℕ) → Comes (length ends) nodes (uniting (lists_from numbers 0 ends) e) i n (least, rs) (found least rs)
  unites_last least = comes_last (length ends) nodes (uniting (lists_from numbers 0 ends) e) i n (least, rs) (found least rs) (sym (unite-end (lists_from numbers 0 ends) least i e rs)) h

  pub follows_last : e < top → Comes (length ends) nodes (following (lists_from numbers 0 ends) e) i n rs (found e rs)
  follows_last low = comes_last (length ends) nodes (following (lists_from numbers 0 ends) e) i n rs (found e rs) (sym (each-end (lists_from numbers 0 ends) i e rs low)) h

-- ---- one turn of a loop over member nodes: the tree at the node i, sought to e, has answered x
module _ (numbers ends nodes behind : List ℕ) (table : Behind nodes behind) (e i n : ℕ) (rs : Readers) (h : 0 < n) (x : ℕ) (rs₁ : Readers)
    (a : (t : Tree) → Stands (length ends) nodes t i → found x rs₁ ≡ seek (lists_from numbers 0 ends) t i e rs) where
  abbrev lists : List (List ℕ)
  lists = lists_from numbers 0 ends

  pub unites_on : (least new : ℕ) (f : Found) → least ≤ top → x ≤ top → new ≡ min least x
      → Comes (length ends) nodes (uniting lists e) (get_or behind i 0) (n - 1) (new, rs₁) f → Comes (length ends) nodes (uniting lists e) i n (least, rs) f
  unites_on least new f lt xt m = comes_on (length ends) nodes (uniting lists e) i n (least, rs) f behind table (new, rs₁) (λ t ts many s. sym (unite-turn lists least t ts i e rs x rs₁ new (a t s) lt xt m)) h

  pub follows_stop : e < x → Comes (length ends) nodes (following lists e) i n rs (found x rs₁)
  follows_stop lt = comes_now (length ends) nodes (following lists e) i n rs (found x rs₁) (λ t ts many s. sym (each_stop lists t ts i e rs x rs₁ (a t s) lt)) h

  pub follows_on : (f : Found) → e < top → x ≡ e → Comes (length ends) nodes (following lists e) (get_or behind i 0) (n - 1) rs₁ f → Comes (length ends) nodes (following lists e) i n rs f
  follows_on f low same = comes_on (length ends) nodes (following lists e) i n rs f behind table rs₁ (λ t ts many s. sym (each_turn lists t ts i e rs x rs₁ (a t s) low same)) h
