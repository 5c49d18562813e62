-- The checks of member nodes until a reply: none left, one that says so, one that does not; and those of an operator are the
-- model's. Assumes nothing.
use mathlib.Core.Path.{◌≡◌, refl}
use mathlib.Core.Bool.{Bool, true, false, not, ◌&&◌, beq}
use mathlib.Core.List.{List, [], ◌∷◌}
use Prim.Native.Nat.{ℕ, ◌+◌, ◌-◌, ◌<◌, ◌≤◌}
use native.Mathlib.Omega.{arith}
use borrow.Author.Tests.{eq-eqb, ne_eqb}
use lib.Dec.{eqb}
use lib.ListN.{length, get_or}
use Rattle.model.specs.Lists.{lists_from}
use Rattle.model.specs.Expression.{Tree, difference, union, intersection, Members, one, more, size}
use Rattle.model.specs.Steps.{Readers, Check, Checked, says, turned, on_yes, on_no, check_node, check_union, check_intersection, check_by}
use Rattle.reader.specs.Rows.{Stands, Behind}
use Rattle.reader.proofs.Standing.{each}
use Rattle.reader.proofs.Members.{Comes, comes_last, comes_now, comes_on}
use Rattle.checks.specs.Telling.{unless, turned_last, check_until}

-- a union, which checks until a yes, or an intersection, which checks until a no
abbrev pub operator : Bool → Members → Tree
operator true ts = union ts
operator false ts = intersection ts

-- the model's checks of its member nodes
abbrev checks_of : Bool → List (List ℕ) → Members → ℕ → Check
checks_of true = check_union
checks_of false = check_intersection

unless-last : (b : Bool) (c : Checked) → unless b c (says (not b)) ≡ c
unfolding on_yes on_no
unless-last true (says true rs) = refl
unless-last true (says false rs) = refl
unless-last false (says true rs) = refl
unless-last false (says false rs) = refl

unless-same : (b : Bool) (c : Checked) (f g : Readers → Checked) → ((rs : Readers) → f rs ≡ g rs) → unless b c f ≡ unless b c g
unfolding on_yes on_no
unless-same true (says true rs) f g e = refl
unless-same true (says false rs) f g e = e rs
unless-same false (says true rs) f g e = e rs
unless-same false (says false rs) f g e = refl

unless-sought : (b y : Bool) (rs : Readers) (next : Readers → Checked) → beq y b ≡ true → unless b (says y rs) next ≡ says y rs
unfolding on_yes on_no
unless-sought true true rs next h = refl
unless-sought true false rs next h = cc h
unless-sought false true rs next h = cc h
unless-sought false false rs next h = refl

unless-other : (b y : Bool) (rs : Readers) (next : Readers → Checked) → beq y b ≡ false → unless b (says y rs) next ≡ next rs
unfolding on_yes on_no
unless-other true true rs next h = cc h
unless-other true false rs next h = refl
unless-other false true rs next h = refl
unless-other false false rs next h = cc h

-- what a reply is said as with n trees left: turned round where replies are and it is the last
abbrev pub said : Bool → ℕ → Bool → Bool
said z n y = elim (z && eqb n 1) [ true ↦ not y | false ↦ y ]

last-said : (z : Bool) (ts : List Tree) (n : ℕ) (y : Bool) (rs : Readers) → 1 + length ts ≡ n → turned_last z ts (says y rs) ≡ says (said z n y) rs
unfolding turned
last-said false ts n y rs h = refl
last-said true [] n y rs h = rw (said, eq-eqb n 1 (omega arith)) refl
last-said true (t ∷ ts) n y rs h = rw (said, ne_eqb n 1 (λ e. omega arith)) refl

-- of a union, an intersection or a difference they are the model's
module _ (ls : List (List ℕ)) where
  until_members : (b : Bool) (ts : Members) (i d : ℕ) (rs : Readers) → check_until b false ls (each ts) i d rs ≡ checks_of b ls ts i d rs
  unfolding check_until each check_by
  until_members true (one t) i d rs = unless-last true (check_node ls t i d rs)
  until_members false (one t) i d rs = unless-last false (check_node ls t i d rs)
  until_members true (more t ts) i d rs = unless-same true (check_node ls t i d rs) _ _ (until_members true ts (i + size t) d)
  until_members false (more t ts) i d rs = unless-same false (check_node ls t i d rs) _ _ (until_members false ts (i + size t) d)

  pub until_operator : (b : Bool) (ts : Members) (i d : ℕ) (rs : Readers) → check_until b false ls (each ts) (1 + i) d rs ≡ check_node ls (operator b ts) i d rs
  unfolding check_by
  until_operator true ts i d rs = until_members true ts (1 + i) d rs
  until_operator false ts i d rs = until_members false ts (1 + i) d rs

  pub until_pair : (s t : Tree) (i d : ℕ) (rs : Readers) → check_until false true ls (s ∷ t ∷ []) (1 + i) d rs ≡ check_node ls (difference s t) i d rs
  unfolding check_until check_by
  until_pair s t i d rs = unless-same false (check_node ls s (1 + i) d rs) _ _ (λ rs₁. unless-last false (turned (check_node ls t (1 + i + size s) d rs₁)))

-- what the check of the node i says, whatever stands there
abbrev pub Says : List ℕ → List ℕ → List ℕ → ℕ → ℕ → Readers → Checked → Type 0
Says numbers ends nodes d i rs c = (t : Tree) → Stands (length ends) nodes t i → c ≡ check_node (lists_from numbers 0 ends) t i d rs

-- ---- the checks of trees from a node on
module _ (numbers ends nodes : List ℕ) (d : ℕ) (b z : Bool) where
  abbrev pub from_node : List Tree → ℕ → Readers → Checked
  from_node ts i rs = check_until b z (lists_from numbers 0 ends) ts i d rs

  -- what those of n trees that stand there say
  abbrev pub Say : ℕ → ℕ → Readers → Checked → Type 0
  Say = Comes (length ends) nodes from_node

  module _ (i n : ℕ) (rs : Readers) where
    -- none left: nobody has said so
    pub none_left : n ≤ 0 → Say i n rs (says (not b) rs)
    unfolding check_until
    none_left h = comes_last (length ends) nodes from_node i n rs (says (not b) rs) refl h

    module _ (y : Bool) (rs₁ : Readers) (h : 0 < n) (a : Says numbers ends nodes d i rs (says y rs₁)) where
      -- the first says so, and the checks end
      pub sought : beq (said z n y) b ≡ true → Say i n rs (says (said z n y) rs₁)
      unfolding check_until
      sought same = comes_now (length ends) nodes from_node i n rs (says (said z n y) rs₁) (λ t ts many s. rw (← (a t s), last-said z ts n y rs₁ many, unless-sought b (said z n y) rs₁ _ same)) h

      -- it does not, and they go on at the node behind it
      pub not_sought : (behind : List ℕ) → Behind nodes behind → (c : Checked) → beq (said z n y) b ≡ false → Say (get_or behind i 0) (n - 1) rs₁ c → Say i n rs c
      unfolding check_until
      not_sought behind table c other = comes_on (length ends) nodes from_node i n rs c behind table rs₁ (λ t ts many s. rw (← (a t s), last-said z ts n y rs₁ many, unless-other b (said z n y) rs₁ _ other)) h
