-- The plain machine replies no member twice: the members in its replies are no more than those of its set at or above the floor, each draw
-- taking one of them. Assumes nothing.
use mathlib.Core.Path.{◌≡◌, refl}
use mathlib.Core.Bool.{Bool, true, false, ◌&&◌, cond}
use mathlib.Core.List.{List, [], ◌∷◌, map}
use Prim.Native.Nat.{ℕ, suc, ◌≤◌, max}
use native.Mathlib.Omega.{arith}
use lib.Dec.{ltb, leb}
use borrow.Author.Tests.{ltb-true, ltb-false}
use lib.ListN.{length, drop}
use Rattle.model.specs.declared.Reply.TheVariants.{Yes, No}
use Rattle.model.specs.Lists.{top}
use Rattle.model.specs.Sets.{among}
use Rattle.model.specs.Machine.{Call, next, at_or_past, past, check, other, draw, reply, machine, encode}
use Rattle.model.specs.RequestFour.{member_replies}
use Rattle.model.proofs.Order.{Up}
use Rattle.model.proofs.Denoted.{from, from_up}
use Rattle.model.proofs.Plain.{first_of, draw-first, draw-rest}
use Rattle.model.proofs.Join.{AllSmall}

pub from-most : (floor : ℕ) (set : List ℕ) → length (from floor set) ≤ length set
unfolding from
from-most floor [] = omega arith
from-most floor (x ∷ set) = go (ltb x floor) (from-most floor set)
  where
    go : (b : Bool) → length (from floor set) ≤ length set → length {A = ℕ} (elim b [ true ↦ from floor set | false ↦ x ∷ set ]) ≤ suc (length set)
    go true h = omega arith
    go false h = omega arith

-- a higher floor leaves no more
from_fewer : (low high : ℕ) (set : List ℕ) → low ≤ high → length (from high set) ≤ length (from low set)
unfolding from
from_fewer low high [] h = omega arith
from_fewer low high (x ∷ set) h = go (ltb x low) refl (ltb x high) refl (from_fewer low high set h) (from-most high set)
  where
    go : (a : Bool) → ltb x low ≡ a → (b : Bool) → ltb x high ≡ b → length (from high set) ≤ length (from low set) → length (from high set) ≤ length set
        → length {A = ℕ} (elim b [ true ↦ from high set | false ↦ x ∷ set ]) ≤ length {A = ℕ} (elim a [ true ↦ from low set | false ↦ x ∷ set ])
    go true p true q ih m = ih
    go true p false q ih m = absurd (omega (arith, ltb-true x low p, ltb-false x high q))
    go false p true q ih m = omega arith
    go false p false q ih m = omega arith

-- one reply more is one member more at most
one_more : (r : ℕ) (rows : List ℕ) → member_replies (r ∷ rows) ≤ suc (member_replies rows)
unfolding member_replies
one_more r rows = go (ltb r top)
  where
    go : (b : Bool) → elim b [ true ↦ suc (member_replies rows) | false ↦ member_replies rows ] ≤ suc (member_replies rows)
    go true = omega arith
    go false = omega arith

module _ (set : List ℕ) (up : Up 0 set) where
  -- the floor after a draw
  draw-low : (floor : ℕ) → (draw set floor).1 ≤ top
  draw-low floor = rw (draw-first set floor) (go (from floor set) (from_up floor 0 set up))
    where
      go : (ms : List ℕ) → Up floor ms → (first_of ms).1 ≤ top
      go [] u = omega arith
      go (m ∷ ms) u = u.1

  -- a draw takes one off
  drawn : (floor : ℕ) → floor ≤ top → (rows : List ℕ) → member_replies rows ≤ length (from (draw set floor).1 set) → member_replies (encode (draw set floor).0 ∷ rows) ≤ length (from floor set)
  unfolding member_replies encode
  drawn floor low rows h = rw (draw-first set floor) (go (from floor set) (rw (draw-rest 0 set up floor low) at h))
    where
      go : (ms : List ℕ) → member_replies rows ≤ length (drop 1 ms) → member_replies (encode (first_of ms).0 ∷ rows) ≤ length ms
      go [] h = h
      go (m ∷ ms) h = omega (arith, one_more m rows)

  drawn-from : (low floor : ℕ) → low ≤ floor → floor ≤ top → (rows : List ℕ) → member_replies rows ≤ length (from (draw set floor).1 set) → member_replies (encode (draw set floor).0 ∷ rows) ≤ length (from low set)
  drawn-from low floor le h rows m = omega (arith, drawn floor h rows m, from_fewer low floor set le)

  -- a check tells yes or no
  told : (b : Bool) (rows : List ℕ) → member_replies (encode (cond b Yes No) ∷ rows) ≡ member_replies rows
  unfolding member_replies encode
  told true rows = refl
  told false rows = refl

  -- the replies behind that of a draw
  abbrev behind : List Call → ℕ → List ℕ
  behind cs floor = map encode (machine set (draw set floor).1 cs).0

  pub replies-few : (cs : List Call) → AllSmall cs → (floor : ℕ) → floor ≤ top → member_replies (map encode (machine set floor cs).0) ≤ length (from floor set)
  unfolding machine reply member_replies encode
  replies-few [] small floor low = omega arith
  replies-few (next ∷ cs) small floor low = drawn floor low (behind cs floor) (replies-few cs small.1 (draw set floor).1 (draw-low floor))
  replies-few (at_or_past d ∷ cs) small floor low = drawn-from floor (max floor d) (omega arith) (omega (arith, small.0)) (behind cs (max floor d)) (replies-few cs small.1 (draw set (max floor d)).1 (draw-low (max floor d)))
  replies-few (past d ∷ cs) small floor low = drawn-from floor (max floor (suc d)) (omega arith) (omega (arith, small.0)) (behind cs (max floor (suc d))) (replies-few cs small.1 (draw set (max floor (suc d))).1 (draw-low (max floor (suc d))))
  replies-few (check d ∷ cs) small floor low =
      omega (arith, told (leb floor d && among d set) (map encode (machine set (max floor d) cs).0), replies-few cs small.1 (max floor d) (omega (arith, small.0)), from_fewer floor (max floor d) set (omega arith))
  replies-few (other ∷ cs) small floor low = replies-few cs small.1 floor low
