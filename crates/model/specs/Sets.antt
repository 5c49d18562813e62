-- The set that an expression denotes, by union, intersection and difference alone. It knows nothing of the steps.
use Rattle.std.specs.Prelude.{Bool, true, false, not, ◌&&◌, ◌||◌, List, [], ◌∷◌, ◌++◌, ℕ, ltb, eqb, get_or}
use Rattle.model.specs.Expression.{Tree, leaf, difference, union, intersection, Members, one, more}

-- does x stand in the list?
unfoldable pub among : ℕ → List ℕ → Bool
among x [] = false
among x (y ∷ ys) = eqb x y || among x ys

-- is x a member of the denoted set?
unfoldable mutual
  pub member : List (List ℕ) → Tree → ℕ → Bool
  member ls (leaf k) x = among x (get_or ls k [])
  member ls (difference s t) x = member ls s x && not (member ls t x)
  member ls (union ts) x = member_some ls ts x
  member ls (intersection ts) x = member_all ls ts x

  pub member_some : List (List ℕ) → Members → ℕ → Bool
  member_some ls (one t) x = member ls t x
  member_some ls (more t ts) x = member ls t x || member_some ls ts x

  pub member_all : List (List ℕ) → Members → ℕ → Bool
  member_all ls (one t) x = member ls t x
  member_all ls (more t ts) x = member ls t x && member_all ls ts x

-- all numbers of all lists: each member is one of them
unfoldable pub all_numbers : List (List ℕ) → List ℕ
all_numbers [] = []
all_numbers (l ∷ ls) = l ++ all_numbers ls

-- the numbers of a row that pass a test, ascending, each once
unfoldable pub insert : ℕ → List ℕ → List ℕ
insert x [] = x ∷ []
insert x (y ∷ ys) = elim (ltb x y) [ true ↦ x ∷ y ∷ ys | false ↦ elim (eqb x y) [ true ↦ y ∷ ys | false ↦ y ∷ insert x ys ] ]

unfoldable pub select : (ℕ → Bool) → List ℕ → List ℕ
select p [] = []
select p (x ∷ xs) = elim (p x) [ true ↦ insert x (select p xs) | false ↦ select p xs ]

-- the denoted set as a row: its members, ascending
unfoldable pub members : List (List ℕ) → Tree → List ℕ
members ls t = select (member ls t) (all_numbers ls)
