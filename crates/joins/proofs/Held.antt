-- How much a delivery can hold: in one list, in all, and in bytes. Assumes nothing.
use mathlib.Core.Path.{◌≡◌, ap}
use mathlib.Core.Bool.{true}
use mathlib.Core.List.{List, [], ◌∷◌, map}
use Prim.Native.Nat.{ℕ, zero, suc, ◌*◌, ◌≤◌}
use native.Mathlib.Nat.{mul-suc}
use native.Mathlib.Omega.{arith}
use lib.ListN.{length, get_or, length-append, length-map, get_or-map}
use Rattle.model.specs.Lists.{count_holds}
use Rattle.model.specs.Sets.{all_numbers}
use Rattle.model.specs.Delivery.{Supplied, supplied_numbers, delivery, supplied, word_of}
use Rattle.model.specs.Bounds.{most_bytes}
use Rattle.model.proofs.Deliveries.{Storable, storable_up}
use Rattle.model.proofs.Word.{word_said, supplied-back}
use Rattle.model.proofs.Laid.{at_most_32}
use Rattle.capacity.proofs.Bytes.{bits-within, delivery-most}

pub storable-few : (ls : List (List ℕ)) → Storable ls → (k : ℕ) → length (get_or ls k []) ≤ 65535
storable-few [] s k = omega arith
storable-few (l ∷ ls) s zero = s.0.1
storable-few (l ∷ ls) s (suc k) = storable-few ls s.1 k

pub numbers-few : (ls : List (List ℕ)) → Storable ls → length (all_numbers ls) ≤ 65535 * length ls
unfolding all_numbers
numbers-few [] s = omega arith
numbers-few (l ∷ ls) s = omega (arith, length-append l (all_numbers ls), s.0.1, numbers-few ls s.1, mul-suc 65535 (length ls))

pub bytes-few : (ss : List Supplied) → count_holds (length ss) ≡ true → Storable (map supplied_numbers ss) → length (delivery ss) ≤ 8388569
unfolding most_bytes
bytes-few ss c s =
    let ls : List (List ℕ) = map supplied_numbers ss in
    let few = at_most_32 (length ss) c in
    let back : supplied (word_of ss) ls ≡ ss = supplied-back (word_of ss) 0 ss (word_said ss few) in
    omega (arith, ap (λ (r : List Supplied). length (delivery r)) back, delivery-most (word_of ss) ls (storable_up ls s), bits-within (map length ls) (λ k. omega (arith, get_or-map length ls k [], storable-few ls s k)), length-map ls length, length-map ss supplied_numbers)
