-- What the seeks hand back, by the steps of the model, whatever tree stands at the node.
use Rattle.std.specs.Prelude.{◌≡◌, List, ℕ, length}
use Rattle.model.specs.Lists.{lists_from}
use Rattle.model.specs.Expression.{Tree}
use Rattle.model.specs.Steps.{seek}
use Rattle.reader.specs.declared.readers.Readers.{Readers}
use Rattle.reader.specs.declared.SeekResult.{SeekResult}
use Rattle.reader.specs.Rows.{Stands}
use Rattle.reader.specs.Sought.{readers_of, found_of}

-- the seek of the node i to e: `Steps.seek` of the tree that stands there
abbrev pub Finds : (numbers ends nodes : List ℕ) → ℕ → ℕ → Readers → SeekResult → Type 0
Finds numbers ends nodes i e start r = (t : Tree) → Stands (length ends) nodes t i → found_of r ≡ seek (lists_from numbers 0 ends) t i e (readers_of start)
