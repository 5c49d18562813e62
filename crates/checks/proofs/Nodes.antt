-- The check of a node is that of a list or of member nodes, by the node's kind. Assumes nothing.
use mathlib.Core.Path.{◌≡◌, ap, ◌∙◌}
use mathlib.Core.Bool.{Bool, true, false}
use mathlib.Core.List.{List, []}
use Prim.Native.Nat.{ℕ, ◌+◌}
use lib.ListN.{length, get_or}
use Rattle.model.specs.declared.Node.{Node}
use Rattle.model.specs.declared.Node.TheVariants.{Leaf, Difference, Union, Intersection}
use Rattle.model.specs.Outcome.{accepted}
use Rattle.model.specs.Lists.{lists_from}
use Rattle.model.specs.Expression.{Tree}
use Rattle.model.specs.Forms.{node_of}
use Rattle.model.specs.Steps.{Readers, Checked, read, is_at, check_node, check_by}
use Rattle.expression.specs.Reading.{members}
use Rattle.reader.specs.Rows.{Ready}
use Rattle.reader.proofs.Standing.{kind, below, many_below, leaf-is, difference_is, union_is, intersection_is, root_is}
use Rattle.reader.proofs.Members.{first-is, below_at}
use Rattle.checks.specs.Telling.{check_until}
use Rattle.checks.proofs.Until.{until_operator, until_pair, Says, Say}

-- the node of a union or an intersection of so many
abbrev pub joins : Bool → ℕ → Node
joins true n = Union n
joins false n = Intersection n

many : (b : Bool) (t : Tree) (n : ℕ) → kind t ≡ joins b n → length (below t) ≡ n
many true t n e = many_below t ∙ ap members e
many false t n e = many_below t ∙ ap members e

until_below : (b : Bool) (ls : List (List ℕ)) (t : Tree) (n i d : ℕ) (rs : Readers) → kind t ≡ joins b n → check_until b false ls (below t) (1 + i) d rs ≡ check_node ls t i d rs
until_below true ls t n i d rs e = let u = union_is t n e in rw u.is (until_operator ls true u.trees i d rs)
until_below false ls t n i d rs e = let u = intersection_is t n e in rw u.is (until_operator ls false u.trees i d rs)

module _ {numbers ends nodes behind : List ℕ} (ready : Ready numbers ends nodes behind) (i : ℕ) where
  -- ---- what its check says
  module _ (d : ℕ) (rs : Readers) where
    pub of_list : (k : ℕ) (c : Checked) → node_of (get_or nodes i 0) ≡ accepted (Leaf k)
        → c ≡ is_at d (read (get_or (lists_from numbers 0 ends) k []) i d rs) → Says numbers ends nodes d i rs c
    unfolding check_by
    of_list k c e a t s = rw (leaf-is t k (root_is (length ends) nodes t i (Leaf k) s e)) a

    pub of_members : (b : Bool) (n : ℕ) (c : Checked) → node_of (get_or nodes i 0) ≡ accepted (joins b n)
        → Say numbers ends nodes d b false (i + 1) n rs c → Says numbers ends nodes d i rs c
    of_members b n c e a t s =
        let k = root_is (length ends) nodes t i (joins b n) s e in
        a (below t) (many b t n k) (below_at ready i t s) ∙ rw (← first-is ready i) (until_below b (lists_from numbers 0 ends) t n i d rs k)

    pub of_difference : (c : Checked) → node_of (get_or nodes i 0) ≡ accepted Difference → Say numbers ends nodes d false true (i + 1) 2 rs c → Says numbers ends nodes d i rs c
    of_difference c e a t s =
        let k = root_is (length ends) nodes t i Difference s e in
        let p = difference_is t k in
        a (below t) (many_below t ∙ ap members k) (below_at ready i t s) ∙ rw (← first-is ready i, p.is) (until_pair (lists_from numbers 0 ends) p.first p.second i d rs)
