-- What reading an expression has handed back: a refusal, or its nodes at the start of a row of 48. Assumes nothing.
use mathlib.Core.Path.{◌≡◌, refl, sym}
use Prim.Native.Nat.{ℕ, ◌-◌, ◌≤◌}
use native.Mathlib.Omega.{arith}
use lib.ListN.{length, take, replicate, length-append, length-replicate}
use lib.Seq.{take_at}
use Rattle.model.specs.Outcome.{Outcome, refused, accepted}
use Rattle.model.specs.Expression.{Tree, size}
use Rattle.model.specs.Forms.{row, LeafTest}
use Rattle.model.specs.Demands.{Expression}
use Rattle.model.proofs.Accepted.{never_accepted, accepted-same}
use Rattle.model.proofs.Shape.{row-long}
use Rattle.expression.specs.declared.Expression.{Expression as Read}
use Rattle.expression.specs.Reading.{expression_of}

-- an expression, if any
abbrev pub Holds : LeafTest → Outcome Tree → Type 0
Holds test o = (t : Tree) → o ≡ accepted t → Expression test t

-- its tree, and the bytes of this at the start of a row of 48
pub record Handed (o : Outcome Tree) (r : Read) : Type 0 where
  pub tree : Tree
  pub is : o ≡ accepted tree
  pub count : r.count ≡ size tree
  pub few : r.count ≤ 48
  pub all : length r.nodes ≡ 48
  pub nodes : take r.count r.nodes ≡ row tree

pub handed : {test : LeafTest} (o : Outcome Tree) {r : Read} → Holds test o → accepted r ≡ expression_of o → Handed o r
unfolding expression_of
handed (refused n) h e = never_accepted (sym e)
handed (accepted t) h e =
    rw (accepted-same e) (record {
      tree = t;
      is = refl;
      count = refl;
      few = (h t refl).nodes;
      all = omega (arith, length-append (row t) (replicate (48 - size t) 0), length-replicate {A = ℕ} (48 - size t) 0, row-long t, (h t refl).nodes);
      nodes = take_at (row t) _ (size t) (row-long t);
    })

-- and what is refused is what reading it refuses
pub refuses : (o : Outcome Tree) {n : ℕ} → refused n ≡ expression_of o → o ≡ refused n
unfolding expression_of
refuses (refused n) e = cc
refuses (accepted t) e = never_accepted e
