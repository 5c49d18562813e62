-- The step of a member node in its operator's own copy of the readers: what it leaves is what the seek of that node leaves. And where
-- a difference stands after two such steps. Of any readers (a difference's with 48 places), then of tallied ones. Assumes nothing.
use mathlib.Core.Path.{◌≡◌, refl, ◌∙◌}
use mathlib.Core.List.{List}
use Prim.Native.Nat.{ℕ, ◌+◌, ◌≤◌, ◌<◌}
use native.Mathlib.Omega.{arith}
use lib.ListN.{length, get_or}
use Rattle.model.specs.declared.Node.TheVariants.{Difference}
use Rattle.model.specs.Outcome.{accepted}
use Rattle.model.specs.Lists.{top, Numbers, lists_from}
use Rattle.model.specs.Expression.{Tree}
use Rattle.model.specs.Forms.{node_of}
use Rattle.model.specs.Steps.{Readers, Found, seek}
use Rattle.reader.specs.declared.SeekResult.{SeekResult}
use Rattle.reader.specs.declared.ReadResult.{ReadResult}
use Rattle.reader.specs.Rows.{Stands, Ready}
use Rattle.reader.specs.Sought.{readers_of, found, found_of, Sound, has_read, Read, Stays, Named}
use Rattle.reader.proofs.Moves.{AreTallied, stepped_tallied}
use Rattle.reader.proofs.Members.{pair}
use Rattle.seeks.proofs.Turns.{holding, holding_stop}
use Rattle.seeks.proofs.Nodes.{read_is, both-ended, both-held}

-- what the seek of the node i to e leaves, from readers: an answer and readers
pub record Leaves (numbers ends nodes : List ℕ) (i e : ℕ) (start : Readers) (x : ℕ) (after : Readers) : Type 0 where
  pub above : e ≤ x
  pub low : x ≤ top
  pub finds : (u : Tree) → Stands (length ends) nodes u i → found x after ≡ seek (lists_from numbers 0 ends) u i e start

module _ (numbers ends nodes : List ℕ) (i e : ℕ) (start : Readers) where
  -- a list, whose reader stays
  pub still : (x : ℕ) → Named numbers ends (get_or nodes i 0) (λ l. Stays l (get_or start.places i 0) e x) → Leaves numbers ends nodes i e start x start
  still x n = record { above = n.of.above; low = n.of.low; finds = read_is numbers ends nodes i n.list n.named e start _ (n.of.is i start refl) }

  -- a list, whose reader moves
  pub moves : (r : ReadResult) → Named numbers ends (get_or nodes i 0) (λ l. Read l (get_or start.places i 0) e r) → Leaves numbers ends nodes i e start r.answer (has_read i r start)
  moves r n = record { above = n.of.above; low = n.of.low; finds = read_is numbers ends nodes i n.list n.named e start _ (n.of.is i start refl) }

-- an operator, which is sought
pub left_by : {numbers ends nodes : List ℕ} {i e : ℕ} {start : Readers} {r : SeekResult} → Sound e r
    → ((u : Tree) → Stands (length ends) nodes u i → found_of r ≡ seek (lists_from numbers 0 ends) u i e start) → Leaves numbers ends nodes i e start r.answer (readers_of r.readers)
left_by sound finds = record { above = sound.above; low = sound.low; finds = finds }

-- where a difference stands after a step (a) and a step (b): its first's answer x, not below e, its second's answer y or, where the
-- first has finished, anything below x, and the readers; it goes on from there to f, whatever tree stands at the node
pub record Holds (numbers ends nodes : List ℕ) (node e : ℕ) (f : Tree → Found) (x y : ℕ) (after : Readers) : Type 0 where
  pub above : e ≤ x
  pub low : x ≤ top
  pub not_finished : y ≡ x → x < top
  pub goes_on : (u : Tree) → Stands (length ends) nodes u node → holding (seek (lists_from numbers 0 ends) u node) x y after ≡ f u

module _ (numbers ends nodes behind : List ℕ) (n : Numbers numbers) (r : Ready numbers ends nodes behind) (node : ℕ) (k : node_of (get_or nodes node 0) ≡ accepted Difference)
    (e : ℕ) (low : e ≤ top) (start : Readers) (long : length start.places ≡ 48) (x : ℕ) (after : Readers) (a : Leaves numbers ends nodes (node + 1) e start x after) where
  -- the seek to e
  abbrev sought : Tree → Found
  sought u = seek (lists_from numbers 0 ends) u node e start

  -- the first has finished, which ends it
  pub holds_ended : (y : ℕ) → top ≤ x → y < x → Holds numbers ends nodes node e sought x y after
  holds_ended y h apart = record {
    above = a.above;
    low = a.low;
    not_finished = λ same. absurd (omega (arith, same, apart));
    goes_on = λ u s. let p = pair r node k u s in
        holding_stop _ x y _ (λ same. omega (arith, same, apart)) ∙ both-ended numbers ends nodes behind n r node u p s e _ low long x _ (a.finds p.first p.first_at) h;
  }

  -- the second has answered
  pub holds_both : x < top → (y : ℕ) (last : Readers) → Leaves numbers ends nodes (get_or behind (node + 1) 0) x after y last → Holds numbers ends nodes node e sought x y last
  holds_both h y last b = record {
    above = a.above;
    low = a.low;
    not_finished = λ same. h;
    goes_on = λ u s. let p = pair r node k u s in
        both-held numbers ends nodes behind n r node u p s e _ low long x _ (a.finds p.first p.first_at) h y _ (b.finds p.second p.second_at);
  }

-- ---- readers that are tallied stay so

-- what that seek leaves, and tallied readers
pub record LeavesTallied (numbers ends nodes : List ℕ) (i e : ℕ) (start : Readers) (x : ℕ) (after : Readers) : Type 0 where
  pub leaves : Leaves numbers ends nodes i e start x after
  pub tallied : AreTallied after

module _ (numbers ends nodes : List ℕ) (i e : ℕ) (start : Readers) (t : AreTallied start) where
  -- a list, whose reader stays
  pub still_tallied : (x : ℕ) → Named numbers ends (get_or nodes i 0) (λ l. Stays l (get_or start.places i 0) e x) → LeavesTallied numbers ends nodes i e start x start
  still_tallied x n = record { leaves = still numbers ends nodes i e start x n; tallied = t }

  -- a list, whose reader moves
  pub moves_tallied : (r : ReadResult) → i < 48 → Named numbers ends (get_or nodes i 0) (λ l. Read l (get_or start.places i 0) e r) → LeavesTallied numbers ends nodes i e start r.answer (has_read i r start)
  moves_tallied r here n = record { leaves = moves numbers ends nodes i e start r n; tallied = stepped_tallied start i n.of here t }

-- an operator, which is sought
pub left_by_tallied : {numbers ends nodes : List ℕ} {i e : ℕ} {start : Readers} {r : SeekResult} → Sound e r
    → ((u : Tree) → Stands (length ends) nodes u i → found_of r ≡ seek (lists_from numbers 0 ends) u i e start) → LeavesTallied numbers ends nodes i e start r.answer (readers_of r.readers)
left_by_tallied {r = r} sound finds = record { leaves = left_by sound finds; tallied = r.readers.tallied }

-- where the difference stands, and tallied readers
pub record HoldsTallied (numbers ends nodes : List ℕ) (node e : ℕ) (f : Tree → Found) (x y : ℕ) (after : Readers) : Type 0 where
  pub holds : Holds numbers ends nodes node e f x y after
  pub tallied : AreTallied after

module _ (numbers ends nodes behind : List ℕ) (n : Numbers numbers) (r : Ready numbers ends nodes behind) (node : ℕ) (k : node_of (get_or nodes node 0) ≡ accepted Difference)
    (e : ℕ) (low : e ≤ top) (start : Readers) (t : AreTallied start) (x : ℕ) (after : Readers) (a : LeavesTallied numbers ends nodes (node + 1) e start x after) where
  -- the first has finished, which ends it
  pub holds_ended_tallied : (y : ℕ) → top ≤ x → y < x → HoldsTallied numbers ends nodes node e (λ u. seek (lists_from numbers 0 ends) u node e start) x y after
  holds_ended_tallied y h apart = record { holds = holds_ended numbers ends nodes behind n r node k e low start t.many x after a.leaves y h apart; tallied = a.tallied }

  -- the second has answered
  pub holds_both_tallied : x < top → (y : ℕ) (last : Readers) → LeavesTallied numbers ends nodes (get_or behind (node + 1) 0) x after y last
      → HoldsTallied numbers ends nodes node e (λ u. seek (lists_from numbers 0 ends) u node e start) x y last
  holds_both_tallied h y last b = record { holds = holds_both numbers ends nodes behind n r node k e low start t.many x after a.leaves h y last b.leaves; tallied = b.tallied }
