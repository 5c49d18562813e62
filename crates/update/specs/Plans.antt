-- What the tests of the call find, ahead of any change, whatever tree stands at the first node.
use Rattle.std.specs.Prelude.{◌≡◌, Bool, true, false, List, ◌∷◌, ℕ, zero, suc, ◌+◌, ◌-◌, leb, length, get_or, take, Result, Ok, Err}
use Rattle.model.specs.Outcome.{Outcome, refused, accepted, ◌>>=◌, ◌>>◌, require}
use Rattle.model.specs.Lists.{lists_from, Lent, lend}
use Rattle.model.specs.Expression.{Tree}
use Rattle.model.specs.Sets.{member}
use Rattle.model.specs.Steps.{passed}
use Rattle.model.specs.Run.{Source, named_in, source_of}
use Rattle.model.specs.Update.{Change, old_list, new_lists, changed, shown, shows, is_new, has_room, fits}
use Rattle.reader.specs.Rows.{Stands}
use Rattle.refusals.specs.declared.Refusal.{Refusal}
use Rattle.refusals.specs.Numbers.{number}
use Rattle.update.specs.declared.Plan.{Plan}

-- 16, then 6 for the row of numbers, of so many places: only where a number is added
abbrev pub room_number : (adds full short : Bool) → ℕ
room_number false full short = 0
room_number true true short = 16
room_number true false true = 6
room_number true false false = 0

abbrev pub room_test : ℕ → List ℕ → ℕ → Bool → ℕ
room_test size ends k adds = room_number adds (leb 65535 (get_or ends k 0 - get_or (0 ∷ ends) k 0)) (leb size (get_or (0 ∷ ends) (length ends) 0))

-- 15, then what lacks room, then 6 for the kept row
abbrev pub first_number : (news : Bool) → ℕ → (fits : Bool) → ℕ
first_number false room fits = 15
first_number true (suc n) fits = suc n
first_number true zero true = 0
first_number true zero false = 6

-- where the number stands or belongs, how far the numbers are used, and whether it was a member and will be one
pub record Placed : Type 0 where
  pub at : ℕ
  pub used : ℕ
  pub place : ℕ
  pub was : Bool
  pub will : Bool

-- what the tests find, or the number of what they refuse
abbrev pub plan_says : Result Plan Refusal → Outcome Placed
plan_says (Ok p) = accepted (record { at = p.at; used = p.used; place = p.place; was = p.was; will = p.will })
plan_says (Err r) = refused (number r)

-- the tests behind 17, and what they find; the word is no part of what fits
unfoldable pub plan_of : (numbers ends : List ℕ) → Change → (kept : List ℕ) → ℕ → Tree → Outcome Placed
plan_of numbers ends c kept count t =
    let ls = lists_from numbers 0 ends in
    let s : Source = record { lists = ls; tree = t } in
    require 15 (is_new c ls) >> (require 16 (has_room c ls) >> (require 6 (fits (lend numbers ends 0) kept (changed c s)) >> accepted (record {
      at = get_or (0 ∷ ends) c.list 0 + passed (old_list c ls) c.number;
      used = get_or (0 ∷ ends) (length ends) 0;
      place = passed (take count kept) c.number;
      was = member ls t c.number;
      will = member (new_lists c ls) t c.number;
    })))

abbrev pub Plans : (numbers ends nodes : List ℕ) → Change → (kept : List ℕ) → ℕ → Result Plan Refusal → Type 0
Plans numbers ends nodes c kept count r = (t : Tree) → Stands (length ends) nodes t 0 → plan_says r ≡ plan_of numbers ends c kept count t

-- all tests, in the order of `Update.update_of`
unfoldable pub placed_of : Lent → List ℕ → Change → List ℕ → ℕ → Outcome Placed
placed_of l expression c kept count = do
  s ← source_of l expression
  named_in l c.list
  require 17 (shows kept count (shown s))
  plan_of l.numbers l.ends c kept count s.tree
