-- A page of members: drawn by next until its row is full or a reply is finished.
use Rattle.std.specs.Prelude.{◌≡◌, Bool, true, false, List, [], ◌∷◌, ℕ, zero, suc, length}
use Rattle.model.specs.declared.Reply.{Reply}
use Rattle.model.specs.declared.Reply.TheVariants.{Member, Finished, Yes, No, Unknown}
use Rattle.model.specs.Lists.{lists_from}
use Rattle.model.specs.Expression.{Tree}
use Rattle.model.specs.Machine.{next}
use Rattle.model.specs.Run.{State, step}
use Rattle.fields.specs.Rows.{lay}
use Rattle.reader.specs.Rows.{Stands}
use Rattle.engine.specs.States.{state_of}
use Rattle.pages.specs.declared.Page.{Page}

-- the members, the last state, and whether finished came
abbrev pub Drawing : Type 0
Drawing = List ℕ × State × Bool

-- a member is drawn and the rest behind it; any other reply ends it (to a next only finished is one)
unfoldable pub go_on : (State → Drawing) → Reply × State → Drawing
go_on rest (Member x, s) = let d = rest s in (x ∷ d.0, d.1, d.2)
go_on rest (Finished, s) = ([], s, true)
go_on rest (Yes, s) = ([], s, true)
go_on rest (No, s) = ([], s, true)
go_on rest (Unknown, s) = ([], s, true)

-- into so many places
unfoldable pub page : List (List ℕ) → Tree → State → ℕ → Drawing
page ls t s zero = ([], s, false)
page ls t s (suc n) = go_on (λ s. page ls t s n) (step ls t s next)

-- what is handed back of it, with the row as it is left
abbrev pub Handed : Type 0
Handed = ℕ × State × Bool × List ℕ

abbrev pub page_of : Page → List ℕ → Handed
page_of r row = (r.count, state_of r.floor r.readers, r.finished, row)

unfoldable pub laid_down : Drawing → List ℕ → Handed
laid_down d lent = (length d.0, d.1, d.2, lay lent 0 d.0)

-- whatever tree stands at the first node
abbrev pub PagesTo : (numbers ends nodes : List ℕ) → State → List ℕ → Page → List ℕ → Type 0
PagesTo numbers ends nodes s lent r row = (t : Tree) → Stands (length ends) nodes t 0 → page_of r row ≡ laid_down (page (lists_from numbers 0 ends) t s (length lent)) lent
