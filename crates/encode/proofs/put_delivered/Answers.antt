-- `encode::put_delivered` meets its contract: bit and count, first number, width and gaps are put one behind the other, and putting one
-- behind the other is putting both (`put_two`). Assumes nothing.
use mathlib.Core.Path.{◌≡◌, sym, ap, ◌∙◌, subst}
use mathlib.Core.Bool.{Bool}
use mathlib.Core.List.{List, ◌++◌, append_assoc}
use Prim.Native.Nat.{ℕ, ◌+◌, ◌-◌, ◌^◌, ◌≤◌, ◌<◌}
use native.Mathlib.Omega.{arith}
use lib.ListN.{length, get_or, drop, length-append}
use Rattle.model.specs.Fields.{field}
use Rattle.model.specs.Delivery.{gap_bits, came, list_size}
use Rattle.model.proofs.Bits.{field-length}
use Rattle.model.proofs.Sizes.{size-more}
use Rattle.lists.specs.Rise.{largest}
use Rattle.fields.specs.Positions.{put_bits}
use Rattle.fields.proofs.Puts.{put_two}
use Rattle.encode.specs.Measures.{list_bits, gap_width}
use Rattle.encode.proofs.Sizes.{Wide, gap_width_wide, bits_none, bits-one, bits-more, list_size-is, size_any, size-some, from_first, largest-first}
use Rattle.encode.proofs.put_delivered.Goals as goal
use Rattle.encode.proofs.put_delivered.Goals.{After-put_field, After-put_field-2}

-- what is required, as it is used
sized : (l : List ℕ) {w : ℕ} → w ≡ gap_width l → length (list_bits (came l)) ≡ list_size 17 (length l) w
sized l wide = list_size-is l ∙ ap (list_size 17 (length l)) (sym wide)

wide : (c : After-put_field) → Wide (largest c.args.list.now) c.args.w
wide c =
    subst (Wide (largest c.args.list.now)) (sym c.requires.wide) (gap_width_wide c.args.list.now (λ i. (c.type_inv.list i).fits))

-- the row up to behind the first number
begun : (c : After-put_field-2) → let args = c.args in
    c.put_field-2.new.s ≡ put_bits args.s.now args.at (field 17 (65536 + length args.list.now) ++ field 32 (get_or args.list.now 0 0))
begun c =
    let args = c.args in
    put_two args.s.now args.at 17 (field 17 (65536 + length args.list.now)) _ (field-length 17 (65536 + length args.list.now)) (omega (arith, sized args.list.now c.requires.wide, size_any (length args.list.now) args.w, c.requires.room)) c.put_field.ensures c.put_field-2.ensures

-- a list of two or more
many : (c : After-put_field-2) → (length c.args.list.now ≡ 1 → ⊥) → 2 ≤ length c.args.list.now
many c h = omega (arith, c.if-list-eq0.false)

pub put_field-requires : goal.put_field-requires
put_field-requires c =
    let args = c.args in
    (omega arith, omega (arith, c.requires.few), omega (arith, sized args.list.now c.requires.wide, size_any (length args.list.now) args.w, c.requires.room))

pub returns-then-list-eq0 : goal.returns-then-list-eq0
returns-then-list-eq0 c =
    let args = c.args in
    let none = bits_none args.list.now c.if-list-eq0.true in
    (omega (arith, ap length none, field-length 17 (65536 + length args.list.now)), c.put_field.ensures ∙ ap (put_bits args.s.now args.at) (sym none))

pub put_field-requires-2 : goal.put_field-requires-2
put_field-requires-2 c =
    let args = c.args in (
      omega arith,
      (c.type_inv.list 0).fits,
      omega (arith, sized args.list.now c.requires.wide, size-some (length args.list.now) args.w (omega (arith, c.if-list-eq0.false)), c.requires.room, c.put_field.auto.s),
    )

pub returns-then-list-eq1 : goal.returns-then-list-eq1
returns-then-list-eq1 c =
    let args = c.args in
    let one = bits-one args.list.now c.if-list-eq1.true in (
      omega (arith, ap length one, length-append (field 17 (65536 + length args.list.now)) (field 32 (get_or args.list.now 0 0)), field-length 17 (65536 + length args.list.now), field-length 32 (get_or args.list.now 0 0)),
      begun (goal.at.returns-then-list-eq1 c).After-put_field-2 ∙ ap (put_bits args.s.now args.at) (sym one),
    )

pub overflow_sub-w : goal.overflow_sub-w
overflow_sub-w c = omega (arith, (wide (goal.at.overflow_sub-w c).After-put_field).one)

pub overflow_cast-w : goal.overflow_cast-w
overflow_cast-w c = omega (arith, (wide (goal.at.overflow_cast-w c).After-put_field).most)

pub put_field-requires-3 : goal.put_field-requires-3
put_field-requires-3 c =
    let args = c.args in
    let w = wide (goal.at.put_field-requires-3 c).After-put_field in (
      omega arith,
      omega (arith, w.one, w.most),
      omega (arith, sized args.list.now c.requires.wide, size-more 17 (length args.list.now) args.w (many (goal.at.put_field-requires-3 c).After-put_field-2 c.if-list-eq1.false), c.requires.room, c.put_field.auto.s, c.put_field-2.auto.s),
    )

pub put_gaps-requires : goal.put_gaps-requires
put_gaps-requires c =
    let args = c.args in
    let w = wide (goal.at.put_gaps-requires c).After-put_field in
    let more = many (goal.at.put_gaps-requires c).After-put_field-2 c.if-list-eq1.false in
    record {
      some = omega arith;
      few = c.requires.few;
      most = w.most;
      low = omega (arith, c.requires.low);
      room = omega (arith, sized args.list.now c.requires.wide, size-more 17 (length args.list.now) args.w more, c.requires.room, c.put_field.auto.s, c.put_field-2.auto.s, c.put_field-3.auto.s);
      rise = from_first args.list.now (omega arith) c.requires.ascends;
      hold = subst (λ (m : ℕ). m < 2 ^ args.w) (largest-first args.list.now (omega arith)) w.holds;
    }

pub returns : goal.returns
returns c =
    let args = c.args in
    let l : List ℕ = args.list.now in
    let more = many (goal.at.returns c).After-put_field-2 c.if-list-eq1.false in
    let size = size-more 17 (length l) args.w more in
    let head : List Bool = field 17 (65536 + length l) ++ field 32 (get_or l 0 0) in
    let long : length head ≡ 49 = omega (arith, length-append (field 17 (65536 + length l)) (field 32 (get_or l 0 0)), field-length 17 (65536 + length l), field-length 32 (get_or l 0 0)) in
    let less : List Bool = field 5 (gap_width l - 1) in
    let gaps : List Bool = gap_bits (gap_width l) (get_or l 0 0) (drop 1 l) in
    let tail : c.put_field-3.new.s ≡ put_bits args.s.now args.at (head ++ less) =
    put_two args.s.now args.at 49 head less long (omega (arith, sized args.list.now c.requires.wide, c.requires.room)) (begun (goal.at.returns c).After-put_field-2)
    (c.put_field-3.ensures ∙ ap (λ (n : ℕ). put_bits c.put_field-2.new.s (args.at + 49) (field 5 n)) (ap (λ (n : ℕ). n - 1) c.requires.wide)) in (
      c.put_gaps.ensures.0 ∙ omega (arith, sized args.list.now c.requires.wide),
      put_two args.s.now args.at 54 (head ++ less) gaps (omega (arith, length-append head less, field-length 5 (gap_width l - 1))) (omega (arith, sized args.list.now c.requires.wide, c.requires.room)) tail
          (c.put_gaps.ensures.1 ∙ ap (λ (n : ℕ). put_bits c.put_field-3.new.s (args.at + 54) (gap_bits n (get_or l 0 0) (drop 1 l))) c.requires.wide)
          ∙ ap (put_bits args.s.now args.at)
          (append_assoc head less gaps ∙ append_assoc (field 17 (65536 + length l)) (field 32 (get_or l 0 0)) (less ++ gaps) ∙ sym (bits-more l more c.requires.few)),
    )
