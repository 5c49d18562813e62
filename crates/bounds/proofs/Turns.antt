-- One turn of the loops over the nodes: what is known of the node at a place of a row in which every operator has its member nodes behind
-- it, and what the row from there on comes to. Assumes nothing.
use mathlib.Core.Path.{◌≡◌, refl, sym, ap, ap₂, ◌∙◌}
use mathlib.Core.List.{List, [], ◌∷◌}
use Prim.Native.Nat.{ℕ, zero, suc, ◌+◌, ◌-◌, ◌≤◌, ◌<◌}
use native.Mathlib.Omega.{arith}
use lib.ListN.{length, get_or, take, drop, set, length-set, length-take, length-drop}
use lib.Seq.{drop-cons, drop-drop, get_or-set_same, drop-set-lt}
use Rattle.model.specs.declared.Node.{Node}
use Rattle.model.specs.declared.Node.TheVariants.{Leaf, Difference, Union, Intersection}
use Rattle.model.specs.Outcome.{Outcome, refused, accepted}
use Rattle.model.specs.Forms.{node_of}
use Rattle.model.specs.Demands.{sum}
use Rattle.expression.specs.Reading.{members}
use Rattle.lists.proofs.Left.{left-cons}
use Rattle.bounds.specs.Backwards.{bound, grown, trees, Fed, Feeds, Whole, leaf_length, length_at, leaf_lengths}
use Rattle.bounds.proofs.Sums.{sum-split, trees-within, trees-few}

pub record Turn (ns bs : List ℕ) (i : ℕ) : Type 0 where
  pub node : Node
  pub is : node_of (get_or bs i 0) ≡ accepted node
  pub fed : Fed (length ns) (length (trees ns (drop (i + 1) bs))) node
  pub comes : trees ns (drop i bs) ≡ bound ns node (take (members node) (trees ns (drop (i + 1) bs))) ∷ drop (members node) (trees ns (drop (i + 1) bs))
  pub leaves : leaf_lengths ns (drop i bs) ≡ leaf_length ns node + leaf_lengths ns (drop (i + 1) bs)

whole_drop : (ns bs : List ℕ) (i : ℕ) → Whole ns bs → Whole ns (drop i bs)
unfolding Whole
whole_drop ns bs zero w = w
whole_drop ns [] (suc i) w = w
whole_drop ns (b ∷ bs) (suc i) w = whole_drop ns bs i w.1

pub turn : (ns bs : List ℕ) (i : ℕ) → Whole ns bs → i < length bs → Turn ns bs i
unfolding Whole trees leaf_lengths
turn ns bs i w h =
    let s : drop i bs ≡ get_or bs i 0 ∷ drop (i + 1) bs = left-cons bs i h in
    go (node_of (get_or bs i 0)) refl (rw s at (whole_drop ns bs i w)).0
  where
    go : (o : Outcome Node) → node_of (get_or bs i 0) ≡ o → Feeds (length ns) (length (trees ns (drop (i + 1) bs))) o → Turn ns bs i
    go (refused n) e f = absurd f
    go (accepted node) e f = record {
      node = node;
      is = e;
      fed = f;
      comes = ap (trees ns) (left-cons bs i h) ∙ ap (λ (o : Outcome Node). grown ns o (trees ns (drop (i + 1) bs))) e;
      leaves = ap (leaf_lengths ns) (left-cons bs i h) ∙ ap (λ (o : Outcome Node). length_at ns o + leaf_lengths ns (drop (i + 1) bs)) e;
    }

-- a node has its member nodes behind it
fed-enough : (lists behind : ℕ) (node : Node) → Fed lists behind node → members node ≤ behind
fed-enough lists behind (Leaf k) f = omega arith
fed-enough lists behind Difference f = f
fed-enough lists behind (Union n) f = f
fed-enough lists behind (Intersection n) f = f.1

-- and is as well off with these alone
fed_alone : (lists behind : ℕ) (node : Node) → Fed lists behind node → Fed lists (members node) node
fed_alone lists behind (Leaf k) f = f
fed_alone lists behind Difference f = omega arith
fed_alone lists behind (Union n) f = omega arith
fed_alone lists behind (Intersection n) f = (f.0, omega arith)

pub fed-leaf : (lists behind : ℕ) (node : Node) → Fed lists behind node → (k : ℕ) → node ≡ Leaf k → k < lists
fed-leaf lists behind node f k e = rw e at f

pub fed-some : (lists behind : ℕ) (node : Node) → Fed lists behind node → (n : ℕ) → node ≡ Intersection n → 1 ≤ behind
fed-some lists behind node f n e = let g : Fed lists behind (Intersection n) = rw e at f in omega (arith, g.0, g.1)

-- a bound in the place of the last of its member nodes, in front of what stands behind them
stacked : (bounds : List ℕ) (at m b : ℕ) → at + m ≤ length bounds → 1 ≤ at + m → drop (at + m - 1) (set bounds (at + m - 1) b) ≡ b ∷ drop m (drop at bounds)
stacked bounds at m b h p =
    let j : ℕ = at + m - 1 in
    let e : suc j ≡ at + m = omega arith in
    drop-cons (set bounds j b) j 0 (omega (arith, length-set bounds j b))
    ∙ ap₂ (λ (x : ℕ) (xs : List ℕ). x ∷ xs) (get_or-set_same bounds j b 0 (omega arith)) (drop-set-lt (suc j) bounds j b (omega arith) ∙ ap (λ (k : ℕ). drop k bounds) e ∙ sym (drop-drop m at bounds))

-- ---- the turn of the loop that keeps the bounds of the trees from node i on, behind `at`

module _ (ns nodes : List ℕ) (bounds : List ℕ) (at i : ℕ) where
  pub record Kept : Type 0 where
    pub inside : i ≤ length nodes
    pub low : at ≤ 48
    pub long : length bounds ≡ 48
    pub stand : drop at bounds ≡ trees ns (drop i nodes)

  -- the node ahead, with its m member nodes: what is asked of their bounds, and what stands there once its own is put
  pub record Puts (node : Node) (m : ℕ) : Type 0 where
    pub room : at + m ≤ 48
    pub place : 1 ≤ at + m
    pub small : sum (take (at + m - at) (drop at bounds)) < 4294967296
    pub many : length (take (at + m - at) (drop at bounds)) ≡ members node
    pub fed : Fed (length ns) (length (take (at + m - at) (drop at bounds))) node
    pub then : (b : ℕ) → b ≡ bound ns node (take (at + m - at) (drop at bounds)) → drop (at + m - 1) (set bounds (at + m - 1) b) ≡ trees ns (drop (i - 1) nodes)

pub puts : (ns nodes bounds : List ℕ) (at i : ℕ) → ((k : ℕ) → get_or ns k 0 ≤ 65535) → Whole ns nodes → length nodes ≤ 48 → 0 < i → Kept ns nodes bounds at i
    → (node : Node) → ((n : Node) → node_of (get_or nodes (i - 1) 0) ≡ accepted n → node ≡ n) → (m : ℕ) → m ≡ members node → Puts ns nodes bounds at i node m
puts ns nodes bounds at i few w short some k node says m is =
    record {
      room = omega (arith, high, enough, length-drop at bounds, k.long, k.low);
      place = omega (arith, high, enough, length-drop at bounds, k.long, trees-few ns (drop i nodes), length-drop i nodes);
      small = rw width (omega (arith, sum-split m (drop at bounds), ap sum k.stand, trees-within ns few (drop i nodes), length-drop i nodes));
      many = rw width (parts ∙ is);
      fed = rw width (rw (parts ∙ is) (fed_alone (length ns) _ node fed));
      then = λ b e. stacked bounds at m b (omega (arith, high, enough, length-drop at bounds, k.long, k.low)) (omega (arith, high, length-drop at bounds, k.long, trees-few ns (drop i nodes), length-drop i nodes)) ∙ rw (e, width, k.stand, is) (sym comes);
    }
  where
    before : i - 1 + 1 ≡ i
    before = omega arith

    here : Turn ns nodes (i - 1)
    here = turn ns nodes (i - 1) w (omega (arith, k.inside))

    width : at + m - at ≡ m
    width = omega arith

    fed : Fed (length ns) (length (trees ns (drop i nodes))) node
    fed = rw (says here.node here.is) (rw before at here.fed)

    comes : trees ns (drop (i - 1) nodes) ≡ bound ns node (take (members node) (trees ns (drop i nodes))) ∷ drop (members node) (trees ns (drop i nodes))
    comes = rw (says here.node here.is) (rw before at here.comes)

    high : length (drop at bounds) ≡ length (trees ns (drop i nodes))
    high = ap length k.stand

    enough : members node ≤ length (trees ns (drop i nodes))
    enough = fed-enough (length ns) _ node fed

    parts : length (take m (drop at bounds)) ≡ m
    parts = omega (arith, length-take m (drop at bounds), high, enough)
