-- `convert::store` meets its contract: 19, 6, or the number of lists, the pieces and the fill are put, which together are all of it
-- (`put-filled`). Assumes nothing.
use mathlib.Core.Path.{◌≡◌, sym, ap, ap₂, ◌∙◌}
use mathlib.Core.Bool.{Bool}
use mathlib.Core.List.{List, ◌++◌}
use Prim.Native.Nat.{ℕ, ◌+◌, ◌-◌, ◌/◌, ◌≤◌, ◌<◌}
use native.Mathlib.Omega.{arith}
use borrow.Author.Rules.{rules}
use lib.ListN.{length, length-append}
use borrow.Author.Tests.{eq-eqb, ne_eqb, le-leb, lt-leb}
use Rattle.model.specs.Outcome.{over, sent}
use Rattle.model.specs.Fields.{field, bits, bytes}
use Rattle.model.specs.Calls.{written, stored}
use Rattle.model.proofs.Bits.{field-length, bytes-length}
use Rattle.fields.proofs.Puts.{put-filled}
use Rattle.convert.specs.Pieces.{pieces, store_pieces}
use Rattle.convert.proofs.store.Goals as goal
use Rattle.convert.proofs.store.Goals.{Start}

-- so many bytes, and a row
wrote : (n : ℕ) {k : ℕ} {r row : List ℕ} → k ≡ n → r ≡ row → written (record { number = 0; count = k }) r ≡ written (record { number = 0; count = n }) row
wrote n e f = ap₂ (λ (k : ℕ) (r : List ℕ). written (record { number = 0; count = k }) r) e f

-- how many lists there are
abbrev lists : Start → ℕ
lists c = length c.args.stops.now - 1

-- the pieces, and the bytes that they fill with the number of lists ahead of them
abbrev put_in : Start → List Bool
put_in c = pieces c.args.bit (bits c.args.from.now) (lists c) c.args.stops.now

abbrev all : Start → List ℕ
all c = bytes (field 6 (lists c) ++ put_in c)

count_is : (c : Start) → (c.args.size + 7) / 8 ≡ length (all c)
count_is c = ap (λ (k : ℕ). (k + 7) / 8) long ∙ sym (bytes-length (field 6 (lists c) ++ put_in c))
  where
    long : c.args.size ≡ length (field 6 (lists c) ++ put_in c)
    long = omega (arith, c.requires.3, length-append (field 6 (lists c)) (put_in c), field-length 6 (lists c))

pub returns-then-missing-ne0 : goal.returns-then-missing-ne0
unfolding store_pieces sent
returns-then-missing-ne0 c =
    rw (ne_eqb c.args.missing 0 (λ z. omega arith))

pub returns-then-to-count : goal.returns-then-to-count
unfolding store_pieces stored sent
returns-then-to-count c =
    let short : length c.args.to.now < length (all (goal.at.returns-then-to-count c).Start) = omega (arith, count_is (goal.at.returns-then-to-count c).Start) in
    rw (eq-eqb c.args.missing 0 (omega arith), lt-leb (length (all (goal.at.returns-then-to-count c).Start)) (length c.args.to.now) short)

pub returns : goal.returns
unfolding store_pieces stored sent over
returns c =
    let count = count_is (goal.at.returns c).Start in
    let put = c.copy_lists-put.ensures in
    let room : length (all (goal.at.returns c).Start) ≤ length c.args.to.now = omega (arith, count, c.if-to-count.false) in
    let row = put-filled c.args.to.now 6 (lists (goal.at.returns c).Start) (put_in (goal.at.returns c).Start) _ (search rules) room
    c.put_field.ensures put.1 put.0 c.put_field-2.ensures (omega (arith, count, put.0, c.requires.3)) in
    wrote (length (all (goal.at.returns c).Start)) (omega (arith, count)) row ∙ rw (eq-eqb c.args.missing 0 (omega (arith, c.if-missing-ne0.false)), le-leb (length (all (goal.at.returns c).Start)) (length c.args.to.now) room)
