-- `encode::put_gaps` meets its contract. The loop's invariant, said backwards: what is to be put from the start is what is still
-- to be put from here on. Assumes nothing.
use mathlib.Core.Path.{◌≡◌, sym, ap, ap₂, ◌∙◌, subst}
use mathlib.Core.Bool.{Bool}
use mathlib.Core.List.{List}
use Prim.Native.Nat.{ℕ, ◌+◌, ◌-◌, ◌*◌, ◌^◌, ◌≤◌, ◌<◌}
use native.Mathlib.Omega.{arith}
use lib.ListN.{length, get_or, take, drop, drop_of_length-le, length-take, length-drop}
use Rattle.model.specs.Fields.{Bytes, field}
use Rattle.model.specs.Delivery.{gap_bits}
use Rattle.model.proofs.Bits.{field-length}
use Rattle.lists.proofs.Left.{left-cons}
use Rattle.fields.specs.Positions.{put_bits}
use Rattle.fields.proofs.Puts.{put_small, put-nil, put-append}
use Rattle.encode.proofs.Sizes.{more-bits, up_next, UpNext}
use Rattle.encode.proofs.put_gaps.Goals as goal
use Rattle.encode.proofs.put_gaps.Goals.{In-loop-x}

-- the numbers behind the first
abbrev behind : List ℕ → List ℕ
behind list = take (length list - 1) (drop 1 list)

as_many : (list : List ℕ) → length (behind list) ≡ length list - 1
as_many list = omega (arith, length-take (length list - 1) (drop 1 list), length-drop 1 list)

-- the next number, and what is left behind it
this : (c : In-loop-x) → let l = c.loop-x in let args = c.args in
    UpNext args.w l.last (get_or (behind args.list.now) l.x-index 0) (drop (l.x-index + 1) (behind args.list.now))
this c =
    let l = c.loop-x in
    let cons = left-cons (behind c.args.list.now) l.x-index (omega arith) in
    up_next c.args.w l.last _ _ (rw cons at l.invariant.4) (rw cons at l.invariant.5)

-- there is room for its field
room : (c : In-loop-x) → let l = c.loop-x in let args = c.args in
    (l.next + args.w ≤ 8 * length l.s) × (l.next + args.w ≡ args.at + args.w * (l.x-index + 1)) × (l.next < 2 ^ 62)
room c =
    let args = c.args in
    let m = more-bits args.w c.loop-x.x-index (length args.list.now - 1) (omega (arith, as_many args.list.now)) (omega arith) in
    (omega arith, omega arith, omega arith)

pub overflow_sub-x : goal.overflow_sub-x
overflow_sub-x c = omega (arith, (this (goal.at.overflow_sub-x c).In-loop-x).above)

pub overflow_sub-x-in-loop-x : goal.overflow_sub-x-in-loop-x
overflow_sub-x-in-loop-x c = omega (arith, (this (goal.at.overflow_sub-x-in-loop-x c).In-loop-x).above)

pub put_field-requires : goal.put_field-requires
put_field-requires c = (omega arith, (this (goal.at.put_field-requires c).In-loop-x).fits, (room (goal.at.put_field-requires c).In-loop-x).0)

pub loop-x-preserved : goal.loop-x-preserved
unfolding gap_bits
loop-x-preserved c =
    let l = c.loop-x in
    let args = c.args in
    let xs : List ℕ = behind args.list.now in
    let x : ℕ = get_or xs l.x-index 0 in
    let n = this (goal.at.loop-x-preserved c).In-loop-x in
    let r = room (goal.at.loop-x-preserved c).In-loop-x in
    let gap : List Bool = field args.w (x - l.last - 1) in
    let rest : List Bool = gap_bits args.w x (drop (l.x-index + 1) xs) in
    let put = c.put_field.ensures in
    let wide : l.next + length gap ≡ l.next + args.w = ap (λ (k : ℕ). l.next + k) (field-length args.w (x - l.last - 1)) in (
      r.1,
      c.put_field.auto.s ∙ l.invariant.1,
      subst Bytes (sym put) (put_small l.s l.next gap),
      l.invariant.3 ∙ ap (λ (ys : List ℕ). put_bits l.s l.next (gap_bits args.w l.last ys)) (left-cons xs l.x-index (omega arith))
          ∙ sym (put-append l.s l.next gap rest (omega (arith, wide, r.0)))
          ∙ ap₂ (λ (row : List ℕ) (p : ℕ). put_bits row p rest) (sym put) wide,
      n.rest,
      n.rest-fits,
    )

pub returns : goal.returns
unfolding gap_bits
returns c =
    let l = c.loop-x in
    let args = c.args in
    let xs : List ℕ = behind args.list.now in
    let all : l.x-index ≡ length args.list.now - 1 = omega (arith, as_many args.list.now) in (
      l.invariant.0 ∙ ap (λ (k : ℕ). args.at + args.w * k) all,
      sym (l.invariant.3 ∙ ap (λ (ys : List ℕ). put_bits l.s l.next (gap_bits args.w l.last ys)) (drop_of_length-le xs {i = l.x-index} (omega arith)) ∙ put-nil l.s l.next l.invariant.2),
    )
