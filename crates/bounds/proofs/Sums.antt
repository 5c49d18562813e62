-- Sums and the least of a row, and that no row of nodes comes to more than its leaves can hold. Assumes nothing.
use mathlib.Core.Path.{◌≡◌, refl}
use mathlib.Core.List.{List, [], ◌∷◌}
use Prim.Native.Nat.{ℕ, zero, suc, ◌+◌, ◌*◌, ◌≤◌, min}
use native.Mathlib.Nat.{mul-suc}
use native.Mathlib.Omega.{arith}
use lib.ListN.{length, get_or, take, drop, drop_of_length-le, length-drop}
use Rattle.model.specs.declared.Node.{Node}
use Rattle.model.specs.declared.Node.TheVariants.{Leaf, Difference, Union, Intersection}
use Rattle.model.specs.Outcome.{Outcome, refused, accepted}
use Rattle.model.specs.Forms.{node_of}
use Rattle.model.specs.Demands.{sum}
use Rattle.expression.specs.Reading.{members}
use Rattle.bounds.specs.Backwards.{least, bound, grown, trees, leaf_length, length_at, leaf_lengths}

pub sum-split : (n : ℕ) (l : List ℕ) → sum (take n l) + sum (drop n l) ≡ sum l
unfolding sum
sum-split zero l = omega arith
sum-split (suc n) [] = refl
sum-split (suc n) (x ∷ l) = omega (arith, sum-split n l)

pub least-joins : (x y : ℕ) (l : List ℕ) → least (x ∷ y ∷ l) ≡ least (min x y ∷ l)
unfolding least
least-joins x y [] = refl
least-joins x y (z ∷ l) = omega arith

-- ---- what a row comes to is within its sum

first-within : (l : List ℕ) → get_or l 0 0 ≤ sum l
unfolding sum
first-within [] = omega arith
first-within (x ∷ l) = omega arith

least-within : (l : List ℕ) → least l ≤ sum l
unfolding least sum
least-within [] = omega arith
least-within (x ∷ []) = omega arith
least-within (x ∷ y ∷ l) = omega (arith, least-within (y ∷ l))

-- ---- a row of nodes over lists of at most 65,535 numbers
module _ (ns : List ℕ) (few : (k : ℕ) → get_or ns k 0 ≤ 65535) where
  bound-within : (node : Node) (parts : List ℕ) → bound ns node parts ≤ sum parts + 65535
  bound-within (Leaf k) parts = omega (arith, few k)
  bound-within Difference parts = omega (arith, first-within parts)
  bound-within (Union n) parts = omega arith
  bound-within (Intersection n) parts = omega (arith, least-within parts)

  grown-within : (o : Outcome Node) (behind : List ℕ) → sum (grown ns o behind) ≤ sum behind + 65535
  unfolding sum
  grown-within (refused n) behind = omega arith
  grown-within (accepted node) behind = omega (arith, bound-within node (take (members node) behind), sum-split (members node) behind)

  pub trees-within : (bs : List ℕ) → sum (trees ns bs) ≤ 65535 * length bs
  unfolding trees sum
  trees-within [] = omega arith
  trees-within (b ∷ bs) = omega (arith, grown-within (node_of b) (trees ns bs), trees-within bs, mul-suc 65535 (length bs))

  leaf-within : (node : Node) → leaf_length ns node ≤ 65535
  leaf-within (Leaf k) = few k
  leaf-within Difference = omega arith
  leaf-within (Union n) = omega arith
  leaf-within (Intersection n) = omega arith

  length-within : (o : Outcome Node) → length_at ns o ≤ 65535
  length-within (refused n) = omega arith
  length-within (accepted node) = leaf-within node

  pub leaves-within : (bs : List ℕ) → leaf_lengths ns bs ≤ 65535 * length bs
  unfolding leaf_lengths
  leaves-within [] = omega arith
  leaves-within (b ∷ bs) = omega (arith, length-within (node_of b), leaves-within bs, mul-suc 65535 (length bs))

pub leaves-end : (ns bs : List ℕ) (i : ℕ) → length bs ≤ i → leaf_lengths ns (drop i bs) ≡ 0
unfolding leaf_lengths
leaves-end ns bs i h = rw (drop_of_length-le bs h)

-- no more trees than nodes
grown-few : (ns : List ℕ) (o : Outcome Node) (behind : List ℕ) → length (grown ns o behind) ≤ suc (length behind)
grown-few ns (refused n) behind = omega arith
grown-few ns (accepted node) behind = omega (arith, length-drop (members node) behind)

pub trees-few : (ns bs : List ℕ) → length (trees ns bs) ≤ length bs
unfolding trees
trees-few ns [] = omega arith
trees-few ns (b ∷ bs) = omega (arith, grown-few ns (node_of b) (trees ns bs), trees-few ns bs)
