-- Lists of any lengths whose gaps have 32 bits: 0, 1, 2 and so on, and 4,294,967,295 as the last. Laid one after the other they have the ends
-- that the lengths were taken from. Assumes nothing.
use mathlib.Core.Path.{◌≡◌, refl, ap}
use mathlib.Core.Bool.{true}
use mathlib.Core.List.{List, [], ◌∷◌, map}
use Prim.Native.Nat.{ℕ, zero, suc, ◌+◌, ◌-◌, ◌^◌, ◌≤◌, ◌<◌}
use native.Mathlib.Omega.{arith}
use lib.Pow.{pow_mono}
use lib.ListN.{length, get_or}
use Rattle.model.specs.Lists.{top}
use Rattle.model.specs.Delivery.{largest_gap, width}
use Rattle.model.specs.Calls.{ends_from}
use Rattle.model.specs.Bounds.{lengths_from, ends_rise}
use Rattle.model.specs.RequestFour.{Widest}
use Rattle.model.proofs.Order.{split, Up}
use Rattle.model.proofs.Deliveries.{Storable, width_is}
use Rattle.capacity.proofs.Lengths.{rise_next}

-- so many numbers from a first on, and the largest
unfoldable pub ramp : ℕ → ℕ → List ℕ
ramp first zero = 4294967295 ∷ []
ramp first (suc n) = first ∷ ramp (suc first) n

unfoldable pub widest : ℕ → List ℕ
widest zero = []
widest (suc n) = ramp 0 n

ramp-long : (first n : ℕ) → length (ramp first n) ≡ suc n
unfolding ramp
ramp-long first zero = refl
ramp-long first (suc n) = ap suc (ramp-long (suc first) n)

widest-long : (n : ℕ) → length (widest n) ≡ n
unfolding widest
widest-long zero = refl
widest-long (suc n) = ramp-long 0 n

ramp_up : (first n : ℕ) → first + n ≤ 4294967295 → Up first (ramp first n)
unfolding ramp
ramp_up first zero h = (omega arith, omega arith, tt)
ramp_up first (suc n) h = (omega arith, omega arith, ramp_up (suc first) n (omega arith))

widest_up : (n : ℕ) → n ≤ 65535 → Up 0 (widest n)
unfolding widest
widest_up zero h = tt
widest_up (suc n) h = ramp_up 0 n (omega arith)

-- ---- the width

-- the last gap minus 1 has 32 bits
ramp-gap : (last n : ℕ) → last + n ≤ 65535 → (2147483648 ≤ largest_gap last (ramp (suc last) n)) × (largest_gap last (ramp (suc last) n) < top)
unfolding ramp largest_gap
ramp-gap last zero h = (omega arith, omega arith)
ramp-gap last (suc n) h = let a = ramp-gap (suc last) n (omega arith) in (omega (arith, a.0), omega (arith, a.1))

wide : (m : ℕ) → 2147483648 ≤ m → m < top → width m ≡ 32
wide m h t =
    let w = width_is m t in
    split (width m ≡ 32) (width m) 32
    (λ lt. let p : 2 ^ width m ≤ 2 ^ 31 = pow_mono {i = width m} {j = 31} (omega arith) in absurd (omega (arith, w.holds)))
    (λ ge. omega (arith, w.least 32 (omega arith) t))

widest_is : (n : ℕ) → n ≤ 65535 → Widest (widest n)
unfolding widest ramp
widest_is zero h = tt
widest_is (suc zero) h = tt
widest_is (suc (suc zero)) h = let g = ramp-gap 0 0 (omega arith) in wide _ g.0 g.1
widest_is (suc (suc (suc n))) h = let g = ramp-gap 0 (suc n) (omega arith) in wide _ g.0 g.1

-- ---- laid one after the other

pub widest-ends : (start : ℕ) (ends : List ℕ) → ends_rise start ends ≡ true → ends_from start (map widest (lengths_from start ends)) ≡ ends
unfolding ends_from lengths_from
widest-ends start [] e = refl
widest-ends start (stop ∷ ends) e =
    let n = rise_next start stop ends e in
    let there : start + length (widest (stop - start)) ≡ stop = omega (arith, widest-long (stop - start), n.order) in
    rw there (ap (λ (r : List ℕ). stop ∷ r) (widest-ends stop ends n.rest))

-- a delivery can hold them
pub widest_storable : (start : ℕ) (ends : List ℕ) → ends_rise start ends ≡ true → Storable (map widest (lengths_from start ends))
unfolding lengths_from
widest_storable start [] e = tt
widest_storable start (stop ∷ ends) e =
    let n = rise_next start stop ends e in
    ((widest_up (stop - start) n.few, omega (arith, widest-long (stop - start), n.few)), widest_storable stop ends n.rest)

pub widest_all : (start : ℕ) (ends : List ℕ) → ends_rise start ends ≡ true → (k : ℕ) → Widest (get_or (map widest (lengths_from start ends)) k [])
unfolding lengths_from
widest_all start [] e k = tt
widest_all start (stop ∷ ends) e zero = widest_is (stop - start) (rise_next start stop ends e).few
widest_all start (stop ∷ ends) e (suc k) = widest_all stop ends (rise_next start stop ends e).rest k
