-- `most_bytes` meets its contract: the bits so far and those of the lists that are left come to all. Assumes nothing.
use mathlib.Core.Path.{◌≡◌, sym, ap, ◌∙◌}
use mathlib.Core.List.{List}
use Prim.Native.Nat.{ℕ, ◌+◌, ◌≤◌}
use native.Mathlib.Omega.{arith}
use lib.ListN.{get_or, drop}
use Rattle.model.specs.Delivery.{list_size}
use Rattle.model.specs.Bounds.{lengths_from, most_bits, most_bytes}
use Rattle.capacity.proofs.Lengths.{rises_at, length_at, lengths-many, lengths-few}
use Rattle.capacity.proofs.Bytes.{bits_left, bits-end, bits-within}
use Rattle.bounds.proofs.most_bytes.Goals as goal
use Rattle.bounds.proofs.most_bytes.Goals.{After-bits_of-bits, After-length_of, After-loop-k, At-loop-k}

few : (c : At-loop-k) → (k : ℕ) → get_or (lengths_from 0 c.args.ends.now) k 0 ≤ 65535
few c = lengths-few 0 c.args.ends.now c.requires.0

within : (c : At-loop-k) → most_bits (lengths_from 0 c.args.ends.now) ≤ 67108544
within c = omega (arith, bits-within (lengths_from 0 c.args.ends.now) (few c), lengths-many 0 c.args.ends.now, c.requires.1)

pub length_of-requires : goal.length_of-requires
length_of-requires c = (omega arith, (rises_at 0 c.args.ends.now c.requires.0 c.loop-k.k (omega arith)).0)

-- the length of this turn's list, and its bits in front of those that are left
size : (c : After-length_of) → c.length_of.result ≡ get_or (lengths_from 0 c.args.ends.now) c.loop-k.k 0
size c = c.length_of.ensures ∙ sym (length_at 0 c.args.ends.now c.loop-k.k (omega arith))

left : (c : After-bits_of-bits) → c.length_of.result ≡ get_or (lengths_from 0 c.args.ends.now) c.loop-k.k 0 → let ns = lengths_from 0 c.args.ends.now in
    most_bits (drop c.loop-k.k ns) ≡ c.bits_of-bits.result + most_bits (drop (c.loop-k.k + 1) ns)
left c long =
    let ends : List ℕ = c.args.ends.now in
    omega (arith, c.bits_of-bits.ensures, ap (λ (n : ℕ). list_size 17 n 32) long, bits_left (lengths_from 0 ends) c.loop-k.k (omega (arith, lengths-many 0 ends)))

pub bits_of-bits-requires : goal.bits_of-bits-requires
bits_of-bits-requires c = (omega (arith, size c, few (goal.at.bits_of-bits-requires c).At-loop-k c.loop-k.k), omega arith)

pub overflow_add-bits : goal.overflow_add-bits
overflow_add-bits c = omega (arith, left (goal.at.overflow_add-bits c).After-bits_of-bits (size (goal.at.overflow_add-bits c).After-length_of), within (goal.at.overflow_add-bits c).At-loop-k, c.loop-k.invariant)

pub loop-k-preserved : goal.loop-k-preserved
loop-k-preserved c = omega (arith, left (goal.at.loop-k-preserved c).After-bits_of-bits (size (goal.at.loop-k-preserved c).After-length_of), c.loop-k.invariant)

-- all of them
all : (c : After-loop-k) → c.loop-k.bits ≡ 6 + most_bits (lengths_from 0 c.args.ends.now)
all c =
    let ends : List ℕ = c.args.ends.now in
    let l = c.loop-k in
    omega (arith, l.invariant, bits-end (lengths_from 0 ends) l.k (omega (arith, lengths-many 0 ends)))

pub overflow_add-result : goal.overflow_add-result
overflow_add-result c = omega (arith, within (goal.at.overflow_add-result c).At-loop-k, all c)

pub returns : goal.returns
unfolding most_bytes
returns c = omega (arith, all c)
