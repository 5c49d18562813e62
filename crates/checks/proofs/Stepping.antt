-- The step of a member node in its operator's own copy of the readers: what it leaves is what the check of that node leaves.
-- Assumes nothing.
use mathlib.Core.Path.{◌≡◌, refl, ap, ◌∙◌}
use mathlib.Core.List.{List}
use Prim.Native.Nat.{ℕ, ◌<◌}
use native.Mathlib.Omega.{arith}
use borrow.Author.Tests.{ne_eqb}
use lib.Dec.{eqb}
use lib.ListN.{get_or}
use Rattle.model.specs.Lists.{top}
use Rattle.model.specs.Steps as model
use Rattle.model.specs.Steps.{says, is_at}
use Rattle.model.proofs.Order.{split}
use Rattle.reader.specs.declared.ReadResult.{ReadResult}
use Rattle.reader.specs.Rows.{Ready}
use Rattle.reader.specs.Sought.{found, has_read, Read, Stays, Named}
use Rattle.reader.proofs.Answers.{found_at, found-end}
use Rattle.checks.proofs.Until.{Says}
use Rattle.checks.proofs.Nodes.{of_list}

-- a number is never "finished", so the answer is the number where the code's test says so
is_found : (d x : ℕ) (rs : model.Readers) → d < top → says (eqb x d) rs ≡ is_at d (found x rs)
unfolding is_at
is_found d x rs h = split (says (eqb x d) rs ≡ is_at d (found x rs)) x top
    (λ lt. rw (found_at x rs lt))
    (λ ge. rw (found-end x rs ge, ne_eqb x d (λ e. omega arith)))

module _ {numbers ends nodes behind : List ℕ} (ready : Ready numbers ends nodes behind) (i d : ℕ) (low : d < top) (start : model.Readers) where
  -- a list, whose reader stays
  pub still : (x : ℕ) → Named numbers ends (get_or nodes i 0) (λ l. Stays l (get_or start.places i 0) d x) → Says numbers ends nodes d i start (says (eqb x d) start)
  still x n = of_list ready i d start n.list _ n.named (is_found d x start low ∙ ap (is_at d) (n.of.is i start refl))

  -- a list, whose reader moves
  pub moves : (r : ReadResult) → Named numbers ends (get_or nodes i 0) (λ l. Read l (get_or start.places i 0) d r) → Says numbers ends nodes d i start (says (eqb r.answer d) (has_read i r start))
  moves r n = of_list ready i d start n.list _ n.named (is_found d r.answer _ low ∙ ap (is_at d) (n.of.is i start refl))
