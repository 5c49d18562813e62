-- What is asked ahead of a change, whatever tree stands at the first node.
use Rattle.std.specs.Prelude.{◌≡◌, Bool, true, false, Result, is_ok, List, [], ◌∷◌, map, ℕ, ◌+◌, ◌≤◌, length, get_or, take, replicate}
use Rattle.model.specs.declared.Reply.{Reply}
use Rattle.model.specs.declared.Reply.TheVariants.{Member, Finished, Yes, No, Unknown}
use Rattle.model.specs.Lists.{lists_from}
use Rattle.model.specs.Expression.{Tree}
use Rattle.model.specs.Sets.{among, member, members}
use Rattle.model.specs.Steps.{passed}
use Rattle.model.specs.Calls.{ends_from}
use Rattle.model.specs.Update.{Change, new_lists, same}
use Rattle.fields.specs.Rows.{lay}
use Rattle.reader.specs.Rows.{Stands}
use Rattle.shifts.specs.Shift.{place_of}

abbrev pub as_change : ℕ → ℕ → Bool → Change
as_change list number adds = record { list = list; number = number; adds = adds }

-- a reply that is no member: to a next only finished is one
abbrev pub none_drawn : Reply → Bool
none_drawn (Member x) = false
none_drawn Finished = true
none_drawn Yes = true
none_drawn No = true
none_drawn Unknown = true

-- the row holds the members
abbrev pub Shows : (numbers ends nodes kept : List ℕ) → Bool → Type 0
Shows numbers ends nodes kept r = (t : Tree) → Stands (length ends) nodes t 0 → r ≡ same kept (members (lists_from numbers 0 ends) t)

-- the number in list k, by its place in the whole row
abbrev pub Finds : (numbers ends : List ℕ) → ℕ → ℕ → Result ℕ ℕ → Type 0
Finds numbers ends k x r = let l = get_or (lists_from numbers 0 ends) k [] in (place_of r ≡ get_or (0 ∷ ends) k 0 + passed l x) × (is_ok r ≡ among x l)

-- and after the change
abbrev pub WillHold : (numbers ends : List ℕ) → ℕ → Change → Bool → Type 0
WillHold numbers ends k c r = r ≡ among c.number (get_or (new_lists c (lists_from numbers 0 ends)) k [])

-- a truth value as a number
abbrev pub truth_number : Bool → ℕ
truth_number true = 1
truth_number false = 0

-- a list cut down to one number: it stands there, or nothing does
unfoldable pub cut : ℕ → List ℕ → List ℕ
cut x l = elim (among x l) [ true ↦ x ∷ [] | false ↦ [] ]

abbrev pub cut_lists : Change → List (List ℕ) → List (List ℕ)
cut_lists c ls = map (cut c.number) (new_lists c ls)

abbrev pub Cuts : (numbers ends : List ℕ) → Change → List ℕ → Type 0
Cuts numbers ends c stops = stops ≡ lay (replicate 32 0) 0 (ends_from 0 (cut_lists c (lists_from numbers 0 ends)))

-- the number is a member after the change
abbrev pub WillBe : (numbers ends nodes : List ℕ) → Change → Bool → Type 0
WillBe numbers ends nodes c r = (t : Tree) → Stands (length ends) nodes t 0 → r ≡ member (new_lists c (lists_from numbers 0 ends)) t c.number

-- the first `count` of a kept row are the members
abbrev pub Kept : (numbers ends nodes kept : List ℕ) → ℕ → Type 0
Kept numbers ends nodes kept count = (count ≤ length kept) × ((t : Tree) → Stands (length ends) nodes t 0 → take count kept ≡ members (lists_from numbers 0 ends) t)
