-- What one call leaves to the next, as the code has it.
use Rattle.std.specs.Prelude.{◌≡◌, List, ℕ, suc, max, length}
use Rattle.model.specs.declared.Reply.{Reply}
use Rattle.model.specs.Outcome.{Sent}
use Rattle.model.specs.Lists.{lists_from}
use Rattle.model.specs.Expression.{Tree}
use Rattle.model.specs.Machine.{calls}
use Rattle.model.specs.Run.{State, Start, run}
use Rattle.model.specs.Demands.{ran_all}
use Rattle.reader.specs.declared.readers.Readers.{Readers}
use Rattle.reader.specs.Rows.{Stands}
use Rattle.reader.specs.Sought.{readers_of}
use Rattle.engine.specs.declared.StepResult.{StepResult}

-- what the codes 0 to 2 raise a floor to
abbrev pub Raises : (floor code d to : ℕ) → Type 0
Raises floor code d to = (code ≡ 0 → to ≡ floor) × (code ≡ 1 → to ≡ max floor d) × (code ≡ 2 → to ≡ max floor (suc d))

-- floor and readers
abbrev pub state_of : ℕ → Readers → State
state_of floor r = record { floor = floor; readers = readers_of r }

-- a reply, and the state after it
abbrev pub stepped_of : StepResult → Reply × State
stepped_of s = (s.reply, state_of s.floor s.readers)

-- what a draw leaves, whatever tree stands at the first node
abbrev pub StepsTo : (numbers ends nodes : List ℕ) → (List (List ℕ) → Tree → Reply × State) → StepResult → Type 0
StepsTo numbers ends nodes of r = (t : Tree) → Stands (length ends) nodes t 0 → stepped_of r ≡ of (lists_from numbers 0 ends) t

-- what a run that has passed its tests sends back: `Run.run`, over the reply row that it was lent
abbrev pub Answers : (numbers ends nodes : List ℕ) → Start → (codes ds lent : List ℕ) → Sent → Type 0
Answers numbers ends nodes start codes ds lent back = (t : Tree) → Stands (length ends) nodes t 0 → back ≡ ran_all (run (lists_from numbers 0 ends) t start (calls codes ds)) lent
