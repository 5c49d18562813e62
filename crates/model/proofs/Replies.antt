-- A reply that is a member is a number, so the 64-bit row tells the five kinds apart. Assumes nothing.
use mathlib.Core.Path.{◌≡◌, refl, ap}
use mathlib.Core.Bool.{Bool, true, false, ◌&&◌, cond}
use mathlib.Core.List.{List, [], ◌∷◌}
use Prim.Native.Nat.{ℕ, zero, suc, ◌-◌, ◌≤◌, ◌<◌, max}
use lib.Dec.{ltb, leb}
use borrow.Author.Tests.{lt-ltb}
use lib.ListN.{get_or}
use Rattle.model.specs.declared.Reply.{Reply}
use Rattle.model.specs.declared.Reply.TheVariants.{Member, Finished, Yes, No, Unknown}
use Rattle.model.specs.Lists.{top}
use Rattle.model.specs.Expression.{Tree, size}
use Rattle.model.specs.Sets.{among, members}
use Rattle.model.specs.Machine.{Call, next, at_or_past, past, check, other, draw, reply, machine, encode}
use Rattle.model.specs.Run.{Start, Low, run}
use Rattle.model.proofs.Order.{Up}
use Rattle.model.proofs.Denoted.{members_up}
use Rattle.model.proofs.Join.{AllSmall, join}

abbrev pub Number : Reply → Type 0
Number (Member x) = x < top
Number Finished = Unit {0}
Number Yes = Unit {0}
Number No = Unit {0}
Number Unknown = Unit {0}

abbrev pub AllNumbers : List Reply → Type 0
AllNumbers [] = Unit {0}
AllNumbers (r ∷ rs) = Number r × AllNumbers rs

-- a set of numbers
module _ (set : List ℕ) (lo : ℕ) (up : Up lo set) where
  draw_number : (floor : ℕ) → Number (draw set floor).0
  unfolding draw
  draw_number floor = go lo set up
    where
      turn : ℕ → Reply × ℕ → Bool → Reply × ℕ
      turn x rest b = elim b [ true ↦ rest | false ↦ (Member x, suc x) ]

      test : (x : ℕ) → x < top → (rest : Reply × ℕ) → Number rest.0 → (b : Bool) → Number (turn x rest b).0
      test x h rest n true = n
      test x h rest n false = h

      go : (lo : ℕ) (set : List ℕ) → Up lo set → Number (draw set floor).0
      go lo [] u = tt
      go lo (x ∷ set) u = test x u.1 (draw set floor) (go (suc x) set u.2) (ltb x floor)

  check_number : (b : Bool) → Number (cond b Yes No)
  check_number true = tt
  check_number false = tt

  reply_number : (floor : ℕ) (c : Call) → Number (reply set floor c).0
  unfolding reply
  reply_number floor next = draw_number floor
  reply_number floor (at_or_past d) = draw_number (max floor d)
  reply_number floor (past d) = draw_number (max floor (suc d))
  reply_number floor (check d) = check_number (leb floor d && among d set)
  reply_number floor other = tt

  machine_numbers : (cs : List Call) (floor : ℕ) → AllNumbers (machine set floor cs).0
  unfolding machine
  machine_numbers [] floor = tt
  machine_numbers (c ∷ cs) floor = (reply_number floor c, machine_numbers cs (reply set floor c).1)

-- every member that a run replies is a number
pub replies_numbers : (ls : List (List ℕ)) → ((k : ℕ) → Up 0 (get_or ls k [])) → (t : Tree) (b : Start) → Low b → size t ≤ 48 → (cs : List Call) → AllSmall cs → AllNumbers (run ls t b cs).replies
replies_numbers ls up t b bt st cs h = rw (ap (λ p. p.0) (join ls up t b bt st cs h)) (machine_numbers (members ls t) 0 (members_up ls up t) cs b.bookmark)

-- the reply that a 64-bit number stands for
kind : ℕ → Reply
kind zero = No
kind (suc zero) = Yes
kind (suc (suc zero)) = Finished
kind (suc (suc (suc n))) = Unknown

decoded : ℕ → Reply
decoded n = cond (ltb n top) (Member n) (kind (n - top))

-- the encoding tells replies apart
decoded-encode : (r : Reply) → Number r → decoded (encode r) ≡ r
unfolding decoded kind encode
decoded-encode (Member x) h = rw (lt-ltb x top h)
decoded-encode Finished h = refl
decoded-encode Yes h = refl
decoded-encode No h = refl
decoded-encode Unknown h = refl

pub encode_apart : (r q : Reply) → Number r → Number q → encode r ≡ encode q → r ≡ q
encode_apart r q hr hq e = cc (decoded-encode r hr, decoded-encode q hq, ap decoded e)
