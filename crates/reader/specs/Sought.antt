-- The readers as the code has them, what a seek hands back, and what a list's own step does.
use Rattle.std.specs.Prelude.{◌≡◌, Bool, true, false, ◌&&◌, List, [], ℕ, ◌+◌, ◌*◌, ◌≤◌, ◌<◌, ltb, length, get_or, set, drop, replicate}
use Rattle.model.specs.declared.Node.TheVariants.{Leaf}
use Rattle.model.specs.Outcome.{accepted}
use Rattle.model.specs.Lists.{top, lists_from}
use Rattle.model.specs.Forms.{node_of}
use Rattle.model.specs.Steps as model
use Rattle.model.specs.Steps.{Found, end, at, hops, hopping, read}
use Rattle.reader.specs.declared.readers.Readers.{Readers}
use Rattle.reader.specs.declared.SeekResult.{SeekResult}
use Rattle.reader.specs.declared.ReadResult.{ReadResult}
use Rattle.reader.specs.declared.MemberRead.{MemberRead}
use Rattle.reader.specs.declared.MemberRead.TheVariants.{Still, Moved, Operator}

-- places and moves: the same as the record of the definitions
abbrev pub readers_of : Readers → model.Readers
readers_of r = record { places = r.places; moves = r.moves }

-- readers at the start of their lists
abbrev pub none_read : model.Readers
none_read = record { places = replicate 48 0; moves = 0 }

-- the reader of the node i has made a step
abbrev pub has_read : ℕ → ReadResult → model.Readers → model.Readers
has_read i r rs = record { places = set rs.places i r.place; moves = rs.moves + r.moves }

-- an answer: "finished" is 4,294,967,296, which no number reaches
unfoldable pub found : ℕ → model.Readers → Found
found x rs = elim (ltb x top) [ true ↦ at x rs | false ↦ end rs ]

abbrev pub found_of : SeekResult → Found
found_of s = found s.answer (readers_of s.readers)

-- what a seek to e hands back: an answer not below e
pub record Sound (e : ℕ) (s : SeekResult) : Type 0 where
  pub above : e ≤ s.answer
  pub low : s.answer ≤ top

-- "the place is inside the list and the number there is below E"
unfoldable pub below : List ℕ → ℕ → ℕ → Bool
below l place e = ltb place (length l) && ltb (get_or l place 0) e

-- where a reader stands after its hops to e, from a place in the list l: it made so many, each where it hops, and hops no more
pub record Hopped (l : List ℕ) (place e at moves : ℕ) : Type 0 where
  pub far : at ≡ place + 64 * moves
  pub each : (k : ℕ) → k < moves → hops (drop (place + 64 * k) l) e ≡ true
  pub ended : hops (drop at l) e ≡ false

-- where a reader comes to, and by how many moves: `Steps.hopping`
pub record Advanced (l : List ℕ) (place e at moves : ℕ) : Type 0 where
  pub comes : at ≡ place + (hopping (drop place l) e).grown
  pub counts : moves ≡ (hopping (drop place l) e).moves

-- what a reader's step to e hands back, from a place in the list l: of whichever node's reader it is, its step by `Steps.read`
pub record Read (l : List ℕ) (place e : ℕ) (r : ReadResult) : Type 0 where
  pub above : e ≤ r.answer
  pub low : r.answer ≤ top
  pub small : r.place ≤ 65535
  pub within : place + r.moves ≤ r.place
  pub still : r.moves ≡ 0 → r.place ≡ place
  pub is : (i : ℕ) (rs : model.Readers) → get_or rs.places i 0 ≡ place
      → found r.answer (has_read i r rs) ≡ read l i e rs

-- a step that leaves the reader at its place, with the answer x
pub record Stays (l : List ℕ) (place e x : ℕ) : Type 0 where
  pub above : e ≤ x
  pub low : x ≤ top
  pub is : (i : ℕ) (rs : model.Readers) → get_or rs.places i 0 ≡ place → found x rs ≡ read l i e rs

-- something of the list that a byte names
pub record Named (numbers ends : List ℕ) (byte : ℕ) (Of : List ℕ → Type 0) : Type 0 where
  pub list : ℕ
  pub named : node_of byte ≡ accepted (Leaf list)
  pub of : Of (get_or (lists_from numbers 0 ends) list [])

-- what a member node comes to, by its byte: its list's reader stays, or moves; or it is no list
abbrev pub Reads : (numbers ends : List ℕ) → (byte place e : ℕ) → MemberRead → Type 0
Reads numbers ends byte place e (Still x) = Named numbers ends byte (λ l. Stays l place e x)
Reads numbers ends byte place e (Moved r) = (0 < r.moves) × Named numbers ends byte (λ l. Read l place e r)
Reads numbers ends byte place e Operator = (k : ℕ) → node_of byte ≡ accepted (Leaf k) → ⊥
