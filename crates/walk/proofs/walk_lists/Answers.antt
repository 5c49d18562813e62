-- `walk::walk_lists` meets its contract. The loop's invariant: what all lists are counted as is what was counted, joined with
-- what those that are left are; and the bits have places for the lists that are left.
-- Assumes nothing.
use mathlib.Core.Path.{◌≡◌, sym, ap, ap₂, ◌∙◌}
use mathlib.Core.Bool.{Bool, true, false, cond}
use mathlib.Core.List.{List, ◌∷◌, map}
use mathlib.Core.Option.{some}
use Prim.Native.Nat.{ℕ, zero, suc, ◌+◌, ◌-◌, ◌*◌, ◌^◌, ◌≤◌, ◌<◌}
use native.Mathlib.Nat.{mul-le-mul_right, pow-suc}
use native.Mathlib.Omega.{arith}
use lib.Pow.{pow_pos, pow_mono}
use lib.ListN.{length, length-append, length-map}
use borrow.Author.Tests.{leb-true}
use Rattle.model.specs.Outcome.{accepted}
use Rattle.model.specs.Fields.{value}
use Rattle.model.specs.Sets.{all_numbers}
use Rattle.model.specs.Delivery.{Supplied, supplied_numbers, is_delivered, by_bit}
use Rattle.fields.specs.Positions.{take_at}
use Rattle.walk.specs.Counts.{one_counted, all_counted, read_list, read_lists}
use Rattle.walk.specs.Answers.{only}
use Rattle.walk.proofs.Reading.{Kept, kept, lost, only_stop, only-is, only_same, only-made}
use Rattle.walk.proofs.Counting.{counted_up, lists-none, lists_stop, lists-more}
use Rattle.walk.proofs.Bounds.{list_next, by_bit_ahead}
use Rattle.walk.proofs.walk_lists.Goals as goal
use Rattle.walk.proofs.walk_lists.Invariants.{joined}
use Rattle.walk.proofs.walk_lists.Goals.{In_ok-list}

joined-first : (ss : List Supplied) → all_counted ss ≡ joined 0 0 ss
unfolding joined
joined-first ss = let b : (all_counted ss).0 ≡ 0 * 2 ^ length ss + (all_counted ss).0 = omega arith in let n : (all_counted ss).1 ≡ 0 + (all_counted ss).1 = omega arith in ap₂ (λ (x y : ℕ). (x, y)) b n

joined-more : (bits count bit more : ℕ) (a : Supplied) (ss : List Supplied) → one_counted a ≡ (bit, more) → joined bits count (a ∷ ss) ≡ joined (2 * bits + bit) (count + more) ss
unfolding joined one_counted all_counted value all_numbers
joined-more bits count bit more a ss e =
    let b : cond (is_delivered a) 1 0 ≡ bit = ap (λ (p : ℕ × ℕ). p.0) e in
    let n : length (supplied_numbers a) ≡ more = ap (λ (p : ℕ × ℕ). p.1) e in
    let len = length-map ss is_delivered in
    let app = length-append (supplied_numbers a) (all_numbers (map supplied_numbers ss)) in
    ap₂ (λ (x y : ℕ). (x, y))
    (ap₂ (λ (c m : ℕ). bits * 2 ^ suc (length ss) + (c * 2 ^ m + value (map is_delivered ss))) b len
    ∙ ap (λ (p : ℕ). bits * p + (bit * 2 ^ length ss + value (map is_delivered ss))) (pow-suc 2 (length ss)) ∙ shift bits bit (2 ^ length ss) (value (map is_delivered ss)))
    (ap (λ (m : ℕ). count + m) app ∙ ap (λ (m : ℕ). count + (m + length (all_numbers (map supplied_numbers ss)))) n ∙ omega arith)
  where
    shift : (x y p v : ℕ) → x * (p * 2) + (y * p + v) ≡ (2 * x + y) * p + v
    shift x y p v = omega arith

-- the room that is left
room-left : (room count : ℕ) (a : Supplied) {bit more : ℕ} → one_counted a ≡ (bit, more) → room - count - length (supplied_numbers a) ≡ room - (count + more)
unfolding one_counted
room-left room count a {bit} {more} e = let n : length (supplied_numbers a) ≡ more = ap (λ (p : ℕ × ℕ). p.1) e in omega arith

-- as many places as lists are left
places : (bits bit left : ℕ) → 0 < left → bit ≤ 1 → (bits + 1) * 2 ^ left ≤ 2 ^ 32 → (2 * bits + bit + 1 ≤ 2 ^ 32) × ((2 * bits + bit + 1) * 2 ^ (left - 1) ≤ 2 ^ 32)
places bits bit zero h l e = absurd (omega arith)
places bits bit (suc n) h l e =
    let p : ℕ = 2 ^ n in
    let one : suc n - 1 ≡ n = omega arith in
    let all : (bits + 1) * (p * 2) ≤ 2 ^ 32 = rw (← pow-suc 2 n) e in
    let some : 1 * (2 * bits + 2) ≤ p * (2 * bits + 2) = mul-le-mul_right (2 * bits + 2) (pow_pos n) in
    let this : (2 * bits + bit + 1) * p ≤ (2 * bits + 2) * p = mul-le-mul_right p (omega arith) in
    (omega (arith, all, some), rw one (omega (arith, all, this)))

-- the list that was walked through
list_walked : (c : In_ok-list) → let l = c.loop-i in let args = c.args in Kept one_counted (read_list (take_at args.s.now) (args.room - l.count) l.next) (c.in_ok-list.list.bits, c.in_ok-list.list.count) c.in_ok-list.behind
list_walked c = kept _ _ _ _ (sym c.in_ok-list.ensures)

-- its bounds
record Walked (room next bit more q : ℕ) : Type 0 where
  near : q ≤ next + 4194304
  few : more < 65536
  held : more ≤ room
  one : bit ≤ 1

walked_next : (s : List ℕ) (room next bit more q : ℕ) → Kept one_counted (read_list (take_at s) room next) (bit, more) q → Walked room next bit more q
unfolding one_counted
walked_next s room next bit more q k =
    let b = list_next by_bit s (by_bit_ahead s) (some room) next _ k.read in
    let n : length (supplied_numbers k.got) ≡ more = ap (λ (p : ℕ × ℕ). p.1) k.is in
    let held = leb-true (length (supplied_numbers k.got)) room b.held in
    record { near = b.near; few = omega (arith, b.few); held = omega arith; one = rw (← ap (λ (p : ℕ × ℕ). p.0) k.is) (least (is_delivered k.got)) }
  where
    least : (b : Bool) → cond {A = ℕ} b 1 0 ≤ 1
    least true = omega arith
    least false = omega arith

this_next : (c : In_ok-list) → let l = c.loop-i in let args = c.args in Walked (args.room - l.count) l.next c.in_ok-list.list.bits c.in_ok-list.list.count c.in_ok-list.behind
this_next c = let args = c.args in walked_next args.s.now _ _ _ _ _ (list_walked c)

pub loop-i-init : goal.loop-i-init
loop-i-init c =
    let args = c.args in
    let all : args.room ≡ args.room - 0 = omega arith in
    let every : args.n ≡ args.n - 0 = omega arith in
    (omega arith, omega arith, omega arith, rw (← every) (omega (arith, pow_mono c.requires.0)), ap₂ (λ (n k : ℕ). only all_counted (read_lists (take_at args.s.now) n k args.at)) every all ∙ only_same all_counted _ (read_lists (take_at args.s.now) (args.n - 0) (args.room - 0) args.at) joined-first)

pub overflow_sub-room : goal.overflow_sub-room
overflow_sub-room c = omega (arith, c.loop-i.invariant.1)

pub returns-in_err-list : goal.returns-in_err-list
returns-in_err-list c =
    let l = c.loop-i in
    let args = c.args in
    counted_up _ _ c.from_residual.ensures.1 ∙ sym (l.invariant.4 ∙ only_stop _ (lists_stop by_bit (take_at args.s.now) (args.n - l._i) (some (args.room - l.count)) l.next (omega arith) (lost one_counted _ _ (sym c.in_err-list.ensures))))

pub overflow_mul-bits : goal.overflow_mul-bits
overflow_mul-bits c = let l = c.loop-i in omega (arith, (places l.bits _ (c.args.n - l._i) (omega arith) (this_next (goal.at.overflow_mul-bits c).In_ok-list).one l.invariant.3).0)

pub overflow_add-bits : goal.overflow_add-bits
overflow_add-bits c = let l = c.loop-i in omega (arith, (places l.bits _ (c.args.n - l._i) (omega arith) (this_next (goal.at.overflow_add-bits c).In_ok-list).one l.invariant.3).0)

pub overflow_add-count : goal.overflow_add-count
overflow_add-count c = omega (arith, (this_next (goal.at.overflow_add-count c).In_ok-list).few)

pub loop-i-preserved : goal.loop-i-preserved
loop-i-preserved c =
    let l = c.loop-i in
    let args = c.args in
    let left : ℕ = args.n - l._i in
    let list = c.in_ok-list.list in
    let k = list_walked (goal.at.loop-i-preserved c).In_ok-list in
    let b = this_next (goal.at.loop-i-preserved c).In_ok-list in
    let fewer : left - 1 ≡ args.n - (l._i + 1) = omega arith in
    let room : args.room - l.count - length (supplied_numbers k.got) ≡ args.room - (l.count + list.count) = room-left args.room l.count k.got k.is in (
      omega (arith, b.near),
      omega (arith, b.held),
      omega (arith, b.few),
      rw (← fewer) (omega (arith, (places l.bits list.bits left (omega arith) b.one l.invariant.3).1)),
      l.invariant.4
          ∙ ap (only (joined l.bits l.count)) (lists-more by_bit (take_at args.s.now) left (some (args.room - l.count)) l.next (omega arith) k.read)
          ∙ only-made (joined l.bits l.count) (λ ss. k.got ∷ ss) (read_lists (take_at args.s.now) (left - 1) (args.room - l.count - length (supplied_numbers k.got)) c.in_ok-list.behind)
          ∙ ap₂ (λ (n m : ℕ). only (λ ss. joined l.bits l.count (k.got ∷ ss)) (read_lists (take_at args.s.now) n m c.in_ok-list.behind)) fewer room
          ∙ only_same _ _ (read_lists (take_at args.s.now) (args.n - (l._i + 1)) (args.room - (l.count + list.count)) c.in_ok-list.behind) (λ ss. joined-more l.bits l.count list.bits list.count k.got ss k.is),
    )

pub returns : goal.returns
unfolding joined all_counted value all_numbers
returns c =
    let l = c.loop-i in
    let args = c.args in
    let bits : l.bits * 1 + 0 ≡ l.bits = omega arith in
    let all : l.count + 0 ≡ l.count = omega arith in
    sym (l.invariant.4 ∙ only-is _ (lists-none by_bit (take_at args.s.now) (args.n - l._i) (some (args.room - l.count)) l.next (omega arith)) ∙ ap₂ (λ (b n : ℕ). accepted ((b, n), l.next)) bits all)
