-- What the checks hand back, by the steps of the model, whatever trees stand at the node.
use Rattle.std.specs.Prelude.{◌≡◌, Bool, true, false, not, List, [], ◌∷◌, ℕ, ◌+◌, length}
use Rattle.model.specs.Lists.{lists_from}
use Rattle.model.specs.Expression.{Tree, size}
use Rattle.model.specs.Steps as model
use Rattle.model.specs.Steps.{Check, says, turned, on_yes, on_no, check_node}
use Rattle.reader.specs.declared.readers.Readers.{Readers}
use Rattle.reader.specs.Rows.{Stands, StandEach}
use Rattle.reader.specs.Sought.{readers_of}
use Rattle.checks.specs.declared.CheckResult.{CheckResult}

-- yes or no, and the readers
abbrev pub checked_of : CheckResult → model.Checked
checked_of c = says c.yes (readers_of c.readers)

-- the check of the node i for d: `Steps.check_node` of the tree that stands there
abbrev pub Tells : (numbers ends nodes : List ℕ) → ℕ → ℕ → Readers → CheckResult → Type 0
Tells numbers ends nodes i d start r = (t : Tree) → Stands (length ends) nodes t i → checked_of r ≡ check_node (lists_from numbers 0 ends) t i d (readers_of start)

-- the reply holds where it is the one sought, else the next is checked too: on no for a union, on yes for an intersection
abbrev pub unless : Bool → model.Checked → (model.Readers → model.Checked) → model.Checked
unless true c next = on_no c next
unless false c next = on_yes c next

-- where replies are turned round, the last one is: there are no trees behind it
abbrev pub turned_last : Bool → List Tree → model.Checked → model.Checked
turned_last true [] c = turned c
turned_last true (t ∷ ts) c = c
turned_last false ts c = c

-- `Steps.check_union` (until a yes) and `Steps.check_intersection` (until a no) over any number of trees from the node i
-- on: with none left, no one has said so; the two of a difference until a no, with the last reply turned round
unfoldable pub check_until : Bool → Bool → List (List ℕ) → List Tree → ℕ → Check
check_until b z ls [] i d rs = says (not b) rs
check_until b z ls (t ∷ ts) i d rs = unless b (turned_last z ts (check_node ls t i d rs)) (check_until b z ls ts (i + size t) d)

-- the checks of n member nodes from the node i on
abbrev pub TellsIn : Bool → Bool → (numbers ends nodes : List ℕ) → ℕ → ℕ → ℕ → Readers → CheckResult → Type 0
TellsIn b z numbers ends nodes i n d start r = (ts : List Tree) → length ts ≡ n → StandEach (length ends) nodes ts i
    → checked_of r ≡ check_until b z (lists_from numbers 0 ends) ts i d (readers_of start)
