-- `join::Deliveries::put_came` meets its contract: bit and count, first number, width and gaps are put one behind the other, and putting one behind the
-- other is putting both (`put-append`). Assumes nothing.
use mathlib.Core.Path.{◌≡◌, sym, ap, ap₂, ◌∙◌, subst}
use mathlib.Core.Bool.{Bool}
use mathlib.Core.List.{List, ◌∷◌, ◌++◌, append_assoc}
use Prim.Native.Nat.{ℕ, ◌+◌, ◌-◌, ◌*◌, ◌^◌, ◌≤◌, ◌<◌}
use native.Mathlib.Omega.{arith}
use lib.ListN.{length, get_or, drop, length-append}
use Rattle.model.specs.Fields.{field}
use Rattle.model.specs.Delivery.{gap_bits, came, list_size}
use Rattle.model.proofs.Bits.{field-length}
use Rattle.model.proofs.Sizes.{size-more}
use Rattle.lists.specs.Rise.{largest}
use Rattle.fields.specs.Positions.{put_bits}
use Rattle.fields.proofs.Puts.{put_two}
use Rattle.encode.specs.Measures.{list_bits, gap_width}
use Rattle.encode.proofs.Sizes.{Wide, gap_width_wide, bits_none, bits-one, bits-more, list_size-is, size_any, size-some}
use Rattle.join.specs.declared.Pair.{Pair}
use Rattle.join.specs.Streams.{union_left}
use Rattle.join.specs.declared.Shape.{Shape}
use Rattle.join.specs.Fits.{CameFits}
use Rattle.join.specs.declared.Places.{Places}
use Rattle.join.proofs.Streams.{pair-ascending, pair_numbers, none_left}
use Rattle.join.proofs.Lists.{first-rises, first_number, first-largest, nothing_left, something_left}
use Rattle.join.proofs.Deliveries.put_came.Goals as goal

-- the bits of a list of two or more numbers, from its first on
bits_from : {l : List ℕ} {x : ℕ} {xs : List ℕ} → l ≡ x ∷ xs → 2 ≤ length l → length l ≤ 65535
    → list_bits (came l) ≡ field 17 (65536 + length l) ++ (field 32 x ++ (field 5 (gap_width l - 1) ++ gap_bits (gap_width l) x xs))
bits_from {l} {x} {xs} e h f =
    bits-more l h f ∙ ap₂ (λ (y : ℕ) (ys : List ℕ). field 17 (65536 + length l) ++ (field 32 y ++ (field 5 (gap_width l - 1) ++ gap_bits (gap_width l) y ys))) (ap (λ (r : List ℕ). get_or r 0 0) e) (ap (drop 1) e)

module _ (full daily : List ℕ) (pair : Pair) (s : List ℕ) (at : ℕ) (shape : Shape) (pre : CameFits full daily pair s at shape) where
  -- the numbers of the list
  abbrev numbers : List ℕ
  numbers = union_left full daily pair

  -- what is required, as it is used
  sized : length (list_bits (came numbers)) ≡ list_size 17 shape.count shape.width
  sized = list_size-is numbers ∙ ap₂ (list_size 17) (sym pre.many) (sym pre.wide)

  wide : Wide (largest numbers) shape.width
  wide = subst (Wide (largest numbers)) (sym pre.wide) (gap_width_wide numbers (pair_numbers full daily pair pre.draws))

  -- the row up to behind the count, and up to behind the first number
  counted : {r : List ℕ} → r ≡ put_bits s at (field 17 (65536 + shape.count)) → r ≡ put_bits s at (field 17 (65536 + length numbers))
  counted e = e ∙ ap (λ (n : ℕ). put_bits s at (field 17 (65536 + n))) pre.many

  begun : {r t : List ℕ} (x : ℕ) → r ≡ put_bits s at (field 17 (65536 + shape.count)) → t ≡ put_bits r (at + 17) (field 32 x) → t ≡ put_bits s at (field 17 (65536 + length numbers) ++ field 32 x)
  begun x e f =
      put_two s at 17 (field 17 (65536 + length numbers)) (field 32 x) (field-length 17 (65536 + length numbers)) (omega (arith, sized, size_any shape.count shape.width, pre.room)) (counted e) f

  -- the gaps of a list of two or more take what is left of its size
  gaps_size : {x : ℕ} {xs : List ℕ} → numbers ≡ x ∷ xs → 2 ≤ shape.count → 54 + shape.width * length xs ≡ length (list_bits (came numbers))
  gaps_size {x} {xs} e many =
      let rest : length xs ≡ shape.count - 1 = omega (arith, pre.many, ap length e) in
      omega (arith, ap (λ (n : ℕ). shape.width * n) rest, sized, size-more 17 shape.count shape.width many)

pub put_field-requires : goal.put_field-requires
put_field-requires c =
    let args = c.args in
    (omega arith, omega (arith, c.requires.few), omega (arith, sized _ _ args.pair _ args.at args.shape c.requires, size_any args.shape.count args.shape.width, c.requires.room))

pub returns-then-shape-eq0 : goal.returns-then-shape-eq0
returns-then-shape-eq0 c =
    let args = c.args in
    let l : List ℕ = union_left args.self.now.full.now args.self.now.daily.now args.pair in
    let empty : length l ≡ 0 = omega (arith, c.requires.many, c.if-shape-eq0.true) in
    let none = none_left args.self.now.full.now args.self.now.daily.now args.pair (nothing_left args.self.now.full.now args.self.now.daily.now args.pair c.requires.draws empty) in
    let bits = bits_none l empty in
    record {
      full_end = ap (λ (p : Places). p.full) c.places.ensures ∙ sym none.1;
      daily_end = ap (λ (p : Places). p.daily) c.places.ensures ∙ sym none.2;
      next = omega (arith, ap length bits, field-length 17 (65536 + length l));
      put = counted _ _ args.pair _ args.at args.shape c.requires c.put_field.ensures ∙ ap (put_bits args.s.now args.at) (sym bits);
    }

pub draw-drawn-requires : goal.draw-drawn-requires
draw-drawn-requires c =
    (c.requires.draws, something_left c.args.self.now.full.now c.args.self.now.daily.now c.args.pair (λ z. c.if-shape-eq0.false (c.requires.many ∙ z)))

pub put_field-requires-2 : goal.put_field-requires-2
put_field-requires-2 c =
    let args = c.args in (
      omega arith,
      first_number c.draw-drawn.ensures.numbers (pair_numbers args.self.now.full.now args.self.now.daily.now args.pair c.requires.draws),
      omega (arith, sized _ _ args.pair _ args.at args.shape c.requires, size-some args.shape.count args.shape.width (omega (arith, c.if-shape-eq0.false)), c.requires.room, c.put_field.auto.s),
    )

pub returns-then-shape-eq1 : goal.returns-then-shape-eq1
returns-then-shape-eq1 c =
    let d = c.draw-drawn in
    let args = c.args in
    let l : List ℕ = union_left args.self.now.full.now args.self.now.daily.now args.pair in
    let x : ℕ = d.result.number in
    let one : length l ≡ 1 = omega (arith, c.requires.many, c.if-shape-eq1.true) in
    let none = none_left args.self.now.full.now args.self.now.daily.now d.result.pair (nothing_left args.self.now.full.now args.self.now.daily.now d.result.pair d.ensures.draws (omega (arith, ap length d.ensures.numbers))) in
    let bits : list_bits (came l) ≡ field 17 (65536 + length l) ++ field 32 x = bits-one l one ∙ ap (λ (r : List ℕ). field 17 (65536 + length l) ++ field 32 (get_or r 0 0)) d.ensures.numbers in
    record {
      full_end = ap (λ (p : Places). p.full) c.places-then-shape-eq1.ensures ∙ sym none.1 ∙ d.ensures.full_end;
      daily_end = ap (λ (p : Places). p.daily) c.places-then-shape-eq1.ensures ∙ sym none.2 ∙ d.ensures.daily_end;
      next = omega (arith, ap length bits, length-append (field 17 (65536 + length l)) (field 32 x), field-length 17 (65536 + length l), field-length 32 x);
      put = begun _ _ args.pair _ args.at args.shape c.requires x c.put_field.ensures c.put_field-2.ensures ∙ ap (put_bits args.s.now args.at) (sym bits);
    }

pub overflow_sub-shape : goal.overflow_sub-shape
overflow_sub-shape c = omega (arith, (wide _ _ _ _ _ c.args.shape c.requires).one)

pub put_field-requires-3 : goal.put_field-requires-3
put_field-requires-3 c =
    let args = c.args in
    let w = wide _ _ _ _ _ args.shape c.requires in
    let many : 2 ≤ args.shape.count = omega (arith, c.if-shape-eq1.false, c.if-shape-eq0.false) in (
      omega arith,
      omega (arith, w.one, w.most),
      omega (arith, sized _ _ args.pair _ args.at args.shape c.requires, size-more 17 args.shape.count args.shape.width many, c.requires.room, c.put_field.auto.s, c.put_field-2.auto.s),
    )

pub put_gaps-requires : goal.put_gaps-requires
put_gaps-requires c =
    let d = c.draw-drawn in
    let args = c.args in
    let w = wide _ _ _ _ _ args.shape c.requires in
    let many : 2 ≤ args.shape.count = omega (arith, c.if-shape-eq1.false, c.if-shape-eq0.false) in
    record {
      draws = d.ensures.draws;
      rise = first-rises d.ensures.numbers (pair-ascending args.self.now.full.now args.self.now.daily.now args.pair c.requires.draws);
      most = w.most;
      low = omega (arith, c.requires.low);
      room = omega (arith, gaps_size _ _ _ _ args.at args.shape c.requires d.ensures.numbers many, c.requires.room, c.put_field.auto.s, c.put_field-2.auto.s, c.put_field-3.auto.s);
      hold = subst (λ (m : ℕ). m < 2 ^ args.shape.width) (first-largest d.ensures.numbers) w.holds;
    }

pub returns : goal.returns
returns c =
    let d = c.draw-drawn in
    let args = c.args in
    let l : List ℕ = union_left args.self.now.full.now args.self.now.daily.now args.pair in
    let x : ℕ = d.result.number in
    let xs : List ℕ = union_left args.self.now.full.now args.self.now.daily.now d.result.pair in
    let many : 2 ≤ args.shape.count = omega (arith, c.if-shape-eq1.false, c.if-shape-eq0.false) in
    let size = gaps_size _ _ args.pair _ args.at args.shape c.requires d.ensures.numbers many in
    let head : List Bool = field 17 (65536 + length l) ++ field 32 x in
    let long : length head ≡ 49 = omega (arith, length-append (field 17 (65536 + length l)) (field 32 x), field-length 17 (65536 + length l), field-length 32 x) in
    let less : List Bool = field 5 (gap_width l - 1) in
    let gaps : List Bool = gap_bits (gap_width l) x xs in
    let tail : c.put_field-3.new.s ≡ put_bits args.s.now args.at (head ++ less) =
    put_two args.s.now args.at 49 head less long (omega (arith, size, c.requires.room)) (begun _ _ args.pair _ args.at args.shape c.requires x c.put_field.ensures c.put_field-2.ensures)
    (c.put_field-3.ensures ∙ ap (λ (n : ℕ). put_bits c.put_field-2.new.s (args.at + 49) (field 5 (n - 1))) c.requires.wide) in
    record {
      full_end = c.put_gaps.ensures.full_end ∙ d.ensures.full_end;
      daily_end = c.put_gaps.ensures.daily_end ∙ d.ensures.daily_end;
      next = c.put_gaps.ensures.next ∙ omega (arith, size);
      put =
          put_two args.s.now args.at 54 (head ++ less) gaps (omega (arith, long, length-append head less, field-length 5 (gap_width l - 1))) (omega (arith, size, c.requires.room)) tail
          (c.put_gaps.ensures.put ∙ ap (λ (n : ℕ). put_bits c.put_field-3.new.s (args.at + 54) (gap_bits n x xs)) c.requires.wide)
          ∙ ap (put_bits args.s.now args.at)
          (append_assoc head less gaps ∙ append_assoc (field 17 (65536 + length l)) (field 32 x) (less ++ gaps) ∙ sym (bits_from d.ensures.numbers (omega (arith, c.requires.many, many)) (omega (arith, c.requires.many, c.requires.few))));
    }
