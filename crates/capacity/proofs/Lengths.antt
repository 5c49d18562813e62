-- Lengths by the ends: what 10 says of them where no row is lent, and what they are of accepted lists. Assumes nothing.
use mathlib.Core.Path.{◌≡◌, refl, sym, ap, ap₂, ◌∙◌}
use mathlib.Core.Bool.{Bool, true, false, ◌&&◌}
use mathlib.Core.List.{List, [], ◌∷◌, map}
use Prim.Native.Nat.{ℕ, zero, suc, ◌+◌, ◌-◌, ◌*◌, ◌≤◌, ◌<◌}
use native.Mathlib.Nat.{mul-suc}
use native.Mathlib.Omega.{arith}
use lib.Dec.{leb}
use borrow.Author.Tests.{leb-true, leb-false, le-leb}
use lib.ListN.{length, get_or, take, drop, length-take, length-drop}
use Rattle.model.specs.Outcome.{accepted}
use Rattle.model.specs.Lists.{part, lists_from, ends_hold, Lent, lists_of}
use Rattle.model.specs.Bounds.{lengths_from, ends_rise}
use Rattle.model.proofs.Order.{and_true}
use Rattle.model.proofs.Accepted.{lists_accepted}

-- ---- one end more

pub record Next (start stop : ℕ) (ends : List ℕ) : Type 0 where
  pub order : start ≤ stop
  pub few : stop - start ≤ 65535
  pub rest : ends_rise stop ends ≡ true

pub rise_next : (start stop : ℕ) (ends : List ℕ) → ends_rise start (stop ∷ ends) ≡ true → Next start stop ends
unfolding ends_rise
rise_next start stop ends e =
    let a = and_true (leb start stop) _ e in
    let b = and_true (leb (stop - start) 65535) _ a.1 in
    record { order = leb-true start stop a.0; few = leb-true (stop - start) 65535 b.0; rest = b.1 }

next-rise : (start stop : ℕ) (ends : List ℕ) → start ≤ stop → stop - start ≤ 65535 → ends_rise start (stop ∷ ends) ≡ ends_rise stop ends
unfolding ends_rise
next-rise start stop ends h f = rw (le-leb start stop h, le-leb (stop - start) 65535 f)

-- ---- list by list

module _ (start : ℕ) (ends : List ℕ) where
  -- list k, from where the one before it ends
  abbrev At : ℕ → Type 0
  At k = (get_or (start ∷ ends) k 0 ≤ get_or ends k 0) × (get_or ends k 0 - get_or (start ∷ ends) k 0 ≤ 65535)

pub rises_at : (start : ℕ) (ends : List ℕ) → ends_rise start ends ≡ true → (k : ℕ) → k < length ends → At start ends k
rises_at start [] e k h = absurd (omega arith)
rises_at start (stop ∷ ends) e zero h = let n = rise_next start stop ends e in (n.order, n.few)
rises_at start (stop ∷ ends) e (suc k) h = rises_at stop ends (rise_next start stop ends e).rest k (omega arith)

pub at-rises : (start : ℕ) (ends : List ℕ) → ((k : ℕ) → k < length ends → At start ends k) → ends_rise start ends ≡ true
unfolding ends_rise
at-rises start [] h = refl
at-rises start (stop ∷ ends) h = let a = h 0 (omega arith) in next-rise start stop ends a.0 a.1 ∙ at-rises stop ends (λ k q. h (suc k) (omega arith))

pub lengths-many : (start : ℕ) (ends : List ℕ) → length (lengths_from start ends) ≡ length ends
unfolding lengths_from
lengths-many start [] = refl
lengths-many start (stop ∷ ends) = ap suc (lengths-many stop ends)

pub length_at : (start : ℕ) (ends : List ℕ) (k : ℕ) → k < length ends → get_or (lengths_from start ends) k 0 ≡ get_or ends k 0 - get_or (start ∷ ends) k 0
unfolding lengths_from
length_at start [] k h = absurd (omega arith)
length_at start (stop ∷ ends) zero h = refl
length_at start (stop ∷ ends) (suc k) h = length_at stop ends k (omega arith)

-- no list is over 65,535
pub lengths-few : (start : ℕ) (ends : List ℕ) → ends_rise start ends ≡ true → (k : ℕ) → get_or (lengths_from start ends) k 0 ≤ 65535
unfolding lengths_from
lengths-few start [] e k = omega arith
lengths-few start (stop ∷ ends) e zero = (rise_next start stop ends e).few
lengths-few start (stop ∷ ends) e (suc k) = lengths-few stop ends (rise_next start stop ends e).rest k

-- ---- beside the tests of lists

-- beside a row as long as so many lists can be, no end passes it unless a list is too long: as good as no row
pub no_row : (size start : ℕ) (ends : List ℕ) → start + 65535 * length ends ≤ size → ends_hold size start ends ≡ ends_rise start ends
unfolding ends_hold ends_rise
no_row size start [] h = refl
no_row size start (stop ∷ ends) h = go (leb start stop) (leb (stop - start) 65535) refl (leb stop size) refl (λ few. no_row size stop ends (omega (arith, mul-suc 65535 (length ends), leb-true (stop - start) 65535 few)))
  where
    short : (a b : Bool) → a && (false && b) ≡ false && b
    short true b = refl
    short false b = refl

    go : (a b : Bool) → leb (stop - start) 65535 ≡ b → (c : Bool) → leb stop size ≡ c → (leb (stop - start) 65535 ≡ true → ends_hold size stop ends ≡ ends_rise stop ends)
        → a && (c && (b && ends_hold size stop ends)) ≡ a && (b && ends_rise stop ends)
    go false b e c f rest = refl
    go true false e c f rest = short c (ends_hold size stop ends)
    go true true e true f rest = rest e
    go true true e false f rest = absurd (omega (arith, leb-false stop size f, leb-true (stop - start) 65535 e, mul-suc 65535 (length ends)))

-- ends that hold beside a row rise
hold-rise : (size start : ℕ) (ends : List ℕ) → ends_hold size start ends ≡ true → ends_rise start ends ≡ true
unfolding ends_hold ends_rise
hold-rise size start [] e = refl
hold-rise size start (stop ∷ ends) e =
    let a = and_true (leb start stop) _ e in
    let b = and_true (leb stop size) _ a.1 in
    let c = and_true (leb (stop - start) 65535) _ b.1 in
    rw (a.0, c.0) (hold-rise size stop ends c.1)

-- the lengths are those of the lists
hold-lengths : (numbers : List ℕ) (start : ℕ) (ends : List ℕ) → ends_hold (length numbers) start ends ≡ true → map length (lists_from numbers start ends) ≡ lengths_from start ends
unfolding ends_hold lengths_from lists_from part
hold-lengths numbers start [] e = refl
hold-lengths numbers start (stop ∷ ends) e =
    let a = and_true (leb start stop) _ e in
    let b = and_true (leb stop (length numbers)) _ a.1 in
    let c = and_true (leb (stop - start) 65535) _ b.1 in
    let long : length (take (stop - start) (drop start numbers)) ≡ stop - start = omega (arith, length-take (stop - start) (drop start numbers), length-drop start numbers, leb-true stop (length numbers) b.0) in
    ap₂ (λ (n : ℕ) (ns : List ℕ). n ∷ ns) long (hold-lengths numbers stop ends c.1)

module _ (l : Lent) (ls : List (List ℕ)) (e : lists_of l ≡ accepted ls) where
  pub accepted-rise : ends_rise 0 l.ends ≡ true
  accepted-rise = hold-rise (length l.numbers) 0 l.ends (lists_accepted l ls e).hold

  pub accepted-lengths : map length ls ≡ lengths_from 0 l.ends
  accepted-lengths = let a = lists_accepted l ls e in ap (λ (xs : List (List ℕ)). map length xs) (sym a.are) ∙ hold-lengths l.numbers 0 l.ends a.hold
