-- "The plain machine": its state is a floor and the denoted set, which is here the row of its members, ascending.
use Rattle.std.specs.Prelude.{true, false, cond, ◌&&◌, List, [], ◌∷◌, ℕ, zero, suc, max, ltb, leb}
use Rattle.model.specs.declared.Reply.{Reply}
use Rattle.model.specs.declared.Reply.TheVariants.{Member, Finished, Yes, No, Unknown}
use Rattle.model.specs.Lists.{top}
use Rattle.model.specs.Sets.{among}

-- "A call is a code byte and a number D (ignored by next)": 0, 1, 2, 3, and any other
pub data Call : Type 0 where
  next : Call
  at_or_past past check : ℕ → Call
  other : Call

unfoldable pub call : ℕ → ℕ → Call
call zero d = next
call (suc zero) d = at_or_past d
call (suc (suc zero)) d = past d
call (suc (suc (suc zero))) d = check d
call (suc (suc (suc (suc code)))) d = other

-- the calls of a row of codes and a row of numbers, which refusal 13 keeps equally long
unfoldable pub calls : List ℕ → List ℕ → List Call
calls [] ds = []
calls (c ∷ cs) [] = []
calls (c ∷ cs) (d ∷ ds) = call c d ∷ calls cs ds

-- "reply the least member not below the floor; the floor becomes that member plus 1. If there is none: finished, and
-- the floor becomes 4,294,967,296": of members that ascend the least is the first
unfoldable pub draw : List ℕ → ℕ → Reply × ℕ
draw [] floor = (Finished, top)
draw (x ∷ set) floor = elim (ltb x floor) [ true ↦ draw set floor | false ↦ (Member x, suc x) ]

-- a reply, and the floor after it: code 0, 1, 2, 3, any other
unfoldable pub reply : List ℕ → ℕ → Call → Reply × ℕ
reply set floor next = draw set floor
reply set floor (at_or_past d) = draw set (max floor d)
reply set floor (past d) = draw set (max floor (suc d))
reply set floor (check d) = (cond (leb floor d && among d set) Yes No, max floor d)
reply set floor other = (Unknown, floor)

-- a whole list of calls: the replies in order, and the last floor
unfoldable pub machine : List ℕ → ℕ → List Call → List Reply × ℕ
machine set floor [] = ([], floor)
machine set floor (c ∷ cs) =
    let (r, raised) = reply set floor c in
    let (rs, last) = machine set raised cs in
    (r ∷ rs, last)

-- "In the lent 64-bit row a member stands as itself, no is 4294967296, yes .., finished .., unknown .."
unfoldable pub encode : Reply → ℕ
encode (Member x) = x
encode No = 4294967296
encode Yes = 4294967297
encode Finished = 4294967298
encode Unknown = 4294967299
