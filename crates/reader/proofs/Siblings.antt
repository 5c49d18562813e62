-- Siblings by a table of ends: over trees that stand one after the other they lead to the node behind all of them.
-- Assumes nothing.
use mathlib.Core.Path.{◌≡◌, sym, ap, ◌∙◌}
use mathlib.Core.List.{List, [], ◌∷◌}
use Prim.Native.Nat.{ℕ, zero, suc, ◌+◌, ◌-◌, ◌≤◌, ◌<◌}
use native.Mathlib.Omega.{arith}
use native.Mathlib.Decide.{ℕ_discrete}
use borrow.Author.Tests.{lt-ltb, le-ltb}
use lib.ListN.{length, get_or, set}
use lib.Seq.{get_or-set_same, get_or-set_other}
use Rattle.model.specs.declared.Node.{Node}
use Rattle.model.specs.Outcome.{accepted}
use Rattle.model.specs.Expression.{Tree, size}
use Rattle.model.specs.Forms.{node_of}
use Rattle.expression.specs.Reading.{members}
use Rattle.reader.specs.Rows.{Stands, StandEach, siblings}
use Rattle.reader.proofs.Standing.{kind, below, span, many_below, size_below, there, root, below_stand}

-- ---- one sibling

pub siblings-none : (behind : List ℕ) (n at : ℕ) → n ≡ 0 → at ≡ siblings behind n at
unfolding siblings
siblings-none behind n at h = rw h

pub sibling_inside : (behind : List ℕ) (n at : ℕ) → 0 < n → at < 48 → siblings behind (n - 1) (get_or behind at 0) ≡ siblings behind n at
unfolding siblings
sibling_inside behind zero at h lt = absurd (omega arith)
sibling_inside behind (suc n) at h lt = let e : suc n - 1 ≡ n = omega arith in rw (e, lt-ltb at 48 lt)

pub sibling_outside : (behind : List ℕ) (n at : ℕ) → 0 < n → 48 ≤ at → siblings behind (n - 1) at ≡ siblings behind n at
unfolding siblings
sibling_outside behind zero at h le = absurd (omega arith)
sibling_outside behind (suc n) at h le = let e : suc n - 1 ≡ n = omega arith in rw (e, le-ltb at 48 le)

-- ---- the table from a node on

-- it says where the trees end that stand at or above the node
abbrev pub BehindFrom : List ℕ → List ℕ → ℕ → Type 0
BehindFrom nodes behind from = (lists : ℕ) (t : Tree) (i : ℕ) → from ≤ i → Stands lists nodes t i → get_or behind i 0 ≡ i + size t

module _ (nodes behind : List ℕ) (from : ℕ) (table : BehindFrom nodes behind from) where
  -- as many siblings as trees
  through : (lists : ℕ) (ts : List Tree) (i : ℕ) → from ≤ i → StandEach lists nodes ts i → siblings behind (length ts) i ≡ i + span ts
  unfolding siblings span StandEach
  through lists [] i h s = omega arith
  through lists (t ∷ ts) i h s =
      let sibling : siblings behind (suc (length ts)) i ≡ siblings behind (length ts) (get_or behind i 0) = rw (lt-ltb i 48 (there lists nodes t i s.0), siblings) in
      let rest : siblings behind (length ts) (i + size t) ≡ i + size t + span ts = through lists ts (i + size t) (omega arith) s.1 in
      sibling ∙ ap (siblings behind (length ts)) (table lists t i h s.0) ∙ rest ∙ omega arith

-- one node more: behind it are its members, as many as it says
pub behind_more : (nodes behind : List ℕ) (node many end : ℕ) → node < length behind → ((n : Node) → node_of (get_or nodes node 0) ≡ accepted n → many ≡ members n)
    → end ≡ siblings behind many (node + 1) → BehindFrom nodes behind (node + 1) → BehindFrom nodes (set behind node end) node
behind_more nodes behind node many end lt m e table lists t i h s = go (ℕ_discrete i node)
  where
    go : Dec (i ≡ node) → get_or (set behind node end) i 0 ≡ i + size t
    go (yes q) =
        let at : Stands lists nodes t node = rw q at s in
        let next : node + 1 ≡ 1 + node = omega arith in
        let below_it : StandEach lists nodes (below t) (node + 1) = rw next (below_stand lists nodes t node at) in
        let n : many ≡ length (below t) = m (kind t) (root lists nodes t node at) ∙ sym (many_below t) in
        rw (q, get_or-set_same behind node end 0 lt, e, n) (omega (arith, through nodes behind (node + 1) table lists (below t) (node + 1) (omega arith) below_it, size_below t))
    go (no q) = rw (get_or-set_other behind node i end 0 q) (table lists t i (omega arith) s)

-- no tree stands at or above 48
pub behind_none : (nodes behind : List ℕ) → BehindFrom nodes behind 48
behind_none nodes behind lists t i h s = absurd (omega (arith, there lists nodes t i s))
