-- Request Seven, "The regroupings, anywhere inside the tree": one relation between trees. It knows nothing of lists, of what an
-- expression denotes or of its limits.
use Rattle.std.specs.Prelude.{List, [], ◌∷◌, ◌++◌}
use Rattle.model.specs.Expression.{Tree, difference, union, intersection, Members, one, more}

-- a node and others behind it, as member nodes
unfoldable pub several : Tree → List Tree → Members
several t [] = one t
several t (y ∷ ys) = more t (several y ys)

-- the member nodes `ts` with others behind them, and with others ahead of them too
unfoldable pub behind : Members → List Tree → Members
behind (one t) ys = several t ys
behind (more t ts) ys = more t (behind ts ys)

unfoldable pub between : List Tree → Members → List Tree → Members
between [] ts ys = behind ts ys
between (x ∷ xs) ts ys = more x (between xs ts ys)

-- the member nodes as a list
unfoldable pub listed : Members → List Tree
listed (one t) = t ∷ []
listed (more t ts) = t ∷ listed ts

-- something done to each member node
unfoldable pub on_each : (Tree → Tree) → Members → Members
on_each f (one t) = one (f t)
on_each f (more t ts) = more (f t) (on_each f ts)

-- one after the other taken away: (a − b) − c
unfoldable pub less_each : Tree → Members → Tree
less_each a (one b) = difference a b
less_each a (more b bs) = less_each (difference a b) bs

-- in another order, any: the first stands anywhere among the others, and those are in any order
pub data Reordered : List Tree → List Tree → Type 0 where
  none : Reordered [] []
  first : (t : Tree) (ts xs ys : List Tree) → Reordered ts (xs ++ ys) → Reordered (t ∷ ts) (xs ++ (t ∷ ys))

pub data Regrouped : Tree → Tree → Type 0 where
  -- "members of a union or an intersection in another order"
  union_reordered : (ts us : Members) → Reordered (listed ts) (listed us) → Regrouped (union ts) (union us)
  intersection_reordered : (ts us : Members) → Reordered (listed ts) (listed us) → Regrouped (intersection ts) (intersection us)
  -- "a union within a union opened out, and the same for intersections": at any place among the members
  union_opened : (xs : List Tree) (ts : Members) (ys : List Tree) → Regrouped (union (between xs (one (union ts)) ys)) (union (between xs ts ys))
  intersection_opened : (xs : List Tree) (ts : Members) (ys : List Tree) → Regrouped (intersection (between xs (one (intersection ts)) ys)) (intersection (between xs ts ys))
  -- "a − (b ∪ c) as (a − b) − c": of a union of any number
  difference_of_union : (a : Tree) (bs : Members) → Regrouped (difference a (union bs)) (less_each a bs)
  -- "a ∩ (b ∪ c) as (a ∩ b) ∪ (a ∩ c)": of a union of any number, with any others in the intersection
  intersection_of_union : (xs : List Tree) (bs : Members) (ys : List Tree)
      → Regrouped (intersection (between xs (one (union bs)) ys)) (union (on_each (λ b. intersection (between xs (one b) ys)) bs))
  -- "anywhere inside the tree"
  in_first : (s s' t : Tree) → Regrouped s s' → Regrouped (difference s t) (difference s' t)
  in_second : (s t t' : Tree) → Regrouped t t' → Regrouped (difference s t) (difference s t')
  in_union : (xs : List Tree) (t t' : Tree) (ys : List Tree) → Regrouped t t' → Regrouped (union (between xs (one t) ys)) (union (between xs (one t') ys))
  in_intersection : (xs : List Tree) (t t' : Tree) (ys : List Tree) → Regrouped t t' → Regrouped (intersection (between xs (one t) ys)) (intersection (between xs (one t') ys))
  -- any number of them, in either direction
  unchanged : (t : Tree) → Regrouped t t
  back : (s t : Tree) → Regrouped s t → Regrouped t s
  then : (s t u : Tree) → Regrouped s t → Regrouped t u → Regrouped s u
