-- "Generator steps": readers, seek and check (the report's A3 and A4). They know nothing of the set.
use Rattle.std.specs.Prelude.{Bool, true, false, not, ◌&&◌, List, [], ◌∷◌, ℕ, zero, suc, ◌+◌, min, ltb, leb, eqb, length, get_or, set, drop}
use Rattle.model.specs.Lists.{top}
use Rattle.model.specs.Expression.{Tree, leaf, difference, union, intersection, Members, one, more, size}

-- the readers of a run: "one place for each of the 48 possible nodes in expression order, 0 at operators and unused
-- nodes", and the moves made so far
pub record Readers : Type 0 where
  pub places : List ℕ
  pub moves : ℕ

-- what a seek answers, with the readers after it: finished, or a number
pub data Found : Type 0 where
  end : Readers → Found
  at : ℕ → Readers → Found

-- to seek to a number, from readers
abbrev pub Seek : Type 0
Seek = ℕ → Readers → Found

-- goes on with what a seek answers
abbrev pub on : Found → (Readers → Found) → (ℕ → Readers → Found) → Found
on (end rs) f g = f rs
on (at x rs) f g = g x rs

-- "move while the place is inside the list and the number there is below E": how often, over what is left of the list
unfoldable pub passed : List ℕ → ℕ → ℕ
passed [] e = 0
passed (x ∷ xs) e = elim (ltb x e) [ true ↦ suc (passed xs e) | false ↦ 0 ]

-- how a reader goes to E over what is left of its list: by how much its place grows, and how many moves that counts
pub record Progress : Type 0 where
  pub grown : ℕ
  pub moves : ℕ

abbrev pub Advance : Type 0
Advance = List ℕ → ℕ → Progress

-- 01's: "A move adds 1 to a place"
unfoldable pub singly : Advance
singly left e = record { grown = passed left e; moves = passed left e }

-- Five's: "while at least 64 numbers remain from its place and the 64th of them is below E"
unfoldable pub hops : List ℕ → ℕ → Bool
hops left e = leb 64 (length left) && ltb (get_or left 63 0) e

-- "the place grows by 64 and that counts one move"
unfoldable pub hopped : Progress → Progress
hopped p = record { grown = 64 + p.grown; moves = 1 + p.moves }

-- "a reader seeking E first hops [..]. Then it moves singly as before", with n hops at most
unfoldable pub hop_up_to : ℕ → Advance
hop_up_to zero left e = singly left e
hop_up_to (suc n) left e = elim (hops left e) [ true ↦ hopped (hop_up_to n (drop 64 left) e) | false ↦ singly left e ]

-- a hop takes 64 numbers off what is left, so that it hops as often as it may (proofs/Hops.antt)
unfoldable pub hopping : Advance
hopping left e = hop_up_to (length left) left e

-- "At the list's end it is finished, else it answers the number"
unfoldable pub answer : List ℕ → Readers → Found
answer [] rs = end rs
answer (x ∷ xs) rs = at x rs

-- A3(1), the reader of the node i over the list l, by the way it goes
unfoldable pub read_by : Advance → List ℕ → ℕ → Seek
read_by advance l i e rs =
    let place = get_or rs.places i 0 in
    let went = advance (drop place l) e in
    let after = place + went.grown in
    answer (drop after l) (record { places = set rs.places i after; moves = rs.moves + went.moves })

-- how often a step may repeat: it repeats at a higher number, and no seek answers past 4,294,967,295, so that the
-- clauses at zero below are never come to (proofs/Fuel.antt)
unfoldable pub fuel : ℕ
fuel = suc top

-- A3(2), difference: "seek the first to E; finished ends it. Seek the second to that answer. If equal, E becomes the
-- answer plus 1 and the step repeats; else the first's answer holds"
unfoldable pub differ : ℕ → Seek → Seek → Seek
differ zero first second e rs = end rs
differ (suc n) first second e rs =
    on (first e rs) end λ x rs₁.
    on (second x rs₁) (at x) λ y rs₂.
    elim (eqb x y) [ true ↦ differ n first second (suc x) rs₂ | false ↦ at x rs₂ ]

-- A3(3), union, one member node and those after it: "Seek every member node to E, in order. The least answer holds;
-- finished if all are"
unfoldable pub unite : Seek → Seek → Seek
unite first rest e rs =
    on (first e rs) (rest e) λ x rs₁.
    on (rest e rs₁) (at x) λ y rs₂.
    at (min x y) rs₂

-- A3(4), intersection, one member node after the first and those after it: the first answer above the candidate e, or
-- e itself when the last has answered it; "Finished anywhere is finished"
unfoldable pub follow : Seek → Seek → Seek
follow first rest e rs =
    on (first e rs) end λ x rs₁.
    elim (ltb e x) [ true ↦ at x rs₁ | false ↦ rest e rs₁ ]

-- the first member node and those after it: the first's answer becomes the candidate; "An answer above the candidate
-- becomes the candidate, and unless it came from the first, begin again at the first"
unfoldable pub intersect : ℕ → Seek → Seek → Seek
intersect zero first rest e rs = end rs
intersect (suc n) first rest e rs =
    on (first e rs) end λ x rs₁.
    on (rest x rs₁) end λ y rs₂.
    elim (ltb x y) [ true ↦ intersect n first rest y rs₂ | false ↦ at x rs₂ ]

-- "To seek to E": the node i, and the member nodes from i on, by the way readers go
module _ (advance : Advance) where
  unfoldable mutual
    pub seek_by : List (List ℕ) → Tree → ℕ → Seek
    seek_by ls (leaf k) i = read_by advance (get_or ls k []) i
    seek_by ls (difference s t) i = differ fuel (seek_by ls s (1 + i)) (seek_by ls t (1 + i + size s))
    seek_by ls (union ts) i = seek_union_by ls ts (1 + i)
    seek_by ls (intersection ts) i = seek_intersection_by ls ts (1 + i)

    pub seek_union_by : List (List ℕ) → Members → ℕ → Seek
    seek_union_by ls (one t) i = seek_by ls t i
    seek_union_by ls (more t ts) i = unite (seek_by ls t i) (seek_union_by ls ts (i + size t))

    pub seek_intersection_by : List (List ℕ) → Members → ℕ → Seek
    seek_intersection_by ls (one t) i = seek_by ls t i
    seek_intersection_by ls (more t ts) i = intersect fuel (seek_by ls t i) (seek_rest_by ls ts (i + size t))

    pub seek_rest_by : List (List ℕ) → Members → ℕ → Seek
    seek_rest_by ls (one t) i = seek_by ls t i
    seek_rest_by ls (more t ts) i = follow (seek_by ls t i) (seek_rest_by ls ts (i + size t))

-- what a check says, yes or no, with the readers after it
pub data Checked : Type 0 where
  says : Bool → Readers → Checked

abbrev pub Check : Type 0
Check = ℕ → Readers → Checked

-- A4(1): "a reader seeks D, yes if it answers D"
unfoldable pub is_at : ℕ → Found → Checked
is_at d (end rs) = says false rs
is_at d (at x rs) = says (eqb x d) rs

-- "whose reply it turns round"
unfoldable pub turned : Checked → Checked
turned (says b rs) = says (not b) rs

-- on yes the next is checked too, else no holds; on no the next is checked too, else yes holds
unfoldable pub on_yes : Checked → (Readers → Checked) → Checked
on_yes (says true rs) next = next rs
on_yes (says false rs) next = says false rs

unfoldable pub on_no : Checked → (Readers → Checked) → Checked
on_no (says true rs) next = says true rs
on_no (says false rs) next = next rs

-- A4(2) to (4), "To check D": "A difference checks its first, and on yes its second, whose reply it turns round. A
-- union checks in order until a yes, an intersection until a no"
module _ (advance : Advance) where
  unfoldable mutual
    pub check_by : List (List ℕ) → Tree → ℕ → Check
    check_by ls (leaf k) i = λ d rs. is_at d (read_by advance (get_or ls k []) i d rs)
    check_by ls (difference s t) i = λ d rs. on_yes (check_by ls s (1 + i) d rs) (λ rs₁. turned (check_by ls t (1 + i + size s) d rs₁))
    check_by ls (union ts) i = check_union_by ls ts (1 + i)
    check_by ls (intersection ts) i = check_intersection_by ls ts (1 + i)

    pub check_union_by : List (List ℕ) → Members → ℕ → Check
    check_union_by ls (one t) i = check_by ls t i
    check_union_by ls (more t ts) i = λ d rs. on_no (check_by ls t i d rs) (check_union_by ls ts (i + size t) d)

    pub check_intersection_by : List (List ℕ) → Members → ℕ → Check
    check_intersection_by ls (one t) i = check_by ls t i
    check_intersection_by ls (more t ts) i = λ d rs. on_yes (check_by ls t i d rs) (check_intersection_by ls ts (i + size t) d)

-- the steps, by readers that hop
abbrev pub read : List ℕ → ℕ → Seek
read = read_by hopping

abbrev pub seek : List (List ℕ) → Tree → ℕ → Seek
seek = seek_by hopping

abbrev pub seek_union : List (List ℕ) → Members → ℕ → Seek
seek_union = seek_union_by hopping

abbrev pub seek_intersection : List (List ℕ) → Members → ℕ → Seek
seek_intersection = seek_intersection_by hopping

abbrev pub seek_rest : List (List ℕ) → Members → ℕ → Seek
seek_rest = seek_rest_by hopping

abbrev pub check_node : List (List ℕ) → Tree → ℕ → Check
check_node = check_by hopping

abbrev pub check_union : List (List ℕ) → Members → ℕ → Check
check_union = check_union_by hopping

abbrev pub check_intersection : List (List ℕ) → Members → ℕ → Check
check_intersection = check_intersection_by hopping
