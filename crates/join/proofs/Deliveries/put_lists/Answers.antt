-- `join::Deliveries::put_lists` meets its contract. The loop's invariant, said backwards: what is to be put from the start is what is still
-- to be put from here on, and the shapes from here on are those of the lists that are left. Assumes nothing.
use mathlib.Core.Path.{◌≡◌, refl, sym, ap, ap₂, ◌∙◌, subst}
use mathlib.Core.List.{List, ◌∷◌, flat_map}
use Prim.Native.Nat.{ℕ, ◌+◌, ◌-◌, ◌*◌, ◌≤◌}
use native.Mathlib.Numerals.{add-one}
use native.Mathlib.Omega.{arith}
use borrow.Author.Tests.{leb-true}
use lib.Dec.{leb}
use lib.ListN.{length, get_or, drop}
use lib.Seq.{drop-cons}
use Rattle.model.specs.Fields.{Bytes}
use Rattle.model.specs.Delivery.{Supplied}
use Rattle.model.specs.Joined.{lengths_hold}
use Rattle.model.proofs.Order.{and_true}
use Rattle.fields.specs.Positions.{put_bits}
use Rattle.fields.proofs.Puts.{put_small, put-nil, put-append}
use Rattle.encode.specs.Measures.{list_bits, lists_bits}
use Rattle.encode.proofs.Rest.{bits-cons}
use Rattle.join.specs.declared.Shape.{Shape}
use Rattle.join.specs.Streams.{list_end, joined_at}
use Rattle.join.specs.Measures.{joined, count_of, shape_of}
use Rattle.join.proofs.Lists.{BothRead, joined_on, Turn, turn, joined_end}
use Rattle.join.proofs.Deliveries.put_lists.Goals as goal
use Rattle.join.proofs.Deliveries.put_lists.Invariants.{Left}
use Rattle.join.proofs.Deliveries.put_lists.Goals.{In-loop-shape}

module _ (s₀ : List ℕ) (all : List Supplied) (a : Supplied) (rest : List Supplied) (s : List ℕ) (shape : Shape) (behind : List Shape) (next : ℕ) (l : Left s₀ all (a ∷ rest) s (shape ∷ behind) next) where
  -- the first of those that are left
  record First : Type 0 where
    few : count_of a ≤ 65535
    is : shape ≡ shape_of a
    ends : next + length (list_bits a) + length (lists_bits rest) ≡ 6 + length (lists_bits all)

  first : First
  unfolding lengths_hold
  first = record {
    few = leb-true (count_of a) 65535 (and_true (leb (count_of a) 65535) (lengths_hold rest) l.hold).0;
    is = ap (λ (xs : List Shape). get_or xs 0 shape) l.are;
    ends = omega (arith, l.long, bits-cons a rest);
  }

  -- and it put
  more : (after : List ℕ) (end : ℕ) → next + length (list_bits a) ≤ 8 * length s → end ≡ next + length (list_bits a) → after ≡ put_bits s next (list_bits a) → Left s₀ all rest after behind end
  unfolding lengths_hold flat_map
  more after end room e p = record {
    hold = (and_true (leb (count_of a) 65535) (lengths_hold rest) l.hold).1;
    are = ap (drop 1) l.are;
    long = omega (arith, first.ends);
    put = l.put ∙ sym (put-append s next (list_bits a) (lists_bits rest) room) ∙ ap₂ (λ (row : List ℕ) (q : ℕ). put_bits row q (lists_bits rest)) (sym p) (sym e);
  }

-- this turn's list, and those behind it
abbrev this : (c : In-loop-shape) → Supplied
this c = let both = c.args.self.now in joined_at both.full.now both.daily.now c.loop-shape.ends.read.full c.loop-shape.ends.read.daily

abbrev rest : (c : In-loop-shape) (next next_beside : ℕ) → List Supplied
rest c next next_beside = let both = c.args.self.now in joined_on both.full.now both.daily.now (length c.args.shapes.now - (c.loop-shape.shape-index + 1)) next next_beside

module _ (c : In-loop-shape) (next next_beside : ℕ) (e : next ≡ list_end c.args.self.now.full.now c.loop-shape.ends.read.full) (d : next_beside ≡ list_end c.args.self.now.daily.now c.loop-shape.ends.read.daily) where
  here : let l = c.loop-shape in let both = c.args.self.now in let n = length c.args.shapes.now in
      Turn both.full.now both.daily.now (n - l.shape-index) (n - (l.shape-index + 1)) l.ends.read.full l.ends.read.daily next next_beside
  here =
      let l = c.loop-shape in
      let both = c.args.self.now in
      let n : ℕ = length c.args.shapes.now in
      turn both.full.now both.daily.now (n - l.shape-index) (n - (l.shape-index + 1)) l.ends.read.full l.ends.read.daily next next_beside (omega arith) (omega arith) e d l.invariant.4

  left : (z : Shape) → let l = c.loop-shape in let args = c.args in let both = c.args.self.now in
      Left args.s.now (joined both.full.now both.daily.now (length args.shapes.now)) (this c ∷ rest c next next_beside) l.s (get_or args.shapes.now l.shape-index z ∷ drop (l.shape-index + 1) args.shapes.now) l.ends.joined
  left z =
      let l = c.loop-shape in
      let args = c.args in
      let both = c.args.self.now in
      let all : List Supplied = joined both.full.now both.daily.now (length args.shapes.now) in
      let shapes : drop l.shape-index args.shapes.now ≡ get_or args.shapes.now l.shape-index z ∷ drop (l.shape-index + 1) args.shapes.now = rw (add-one, drop-cons args.shapes.now l.shape-index z (omega arith)) in
      subst (λ (xs : List Shape). Left args.s.now all (this c ∷ rest c next next_beside) l.s xs l.ends.joined) shapes
      (subst (λ (ss : List Supplied). Left args.s.now all ss l.s (drop l.shape-index args.shapes.now) l.ends.joined) here.are l.invariant.5)

pub loop-shape-init : goal.loop-shape-init
loop-shape-init c =
    let args = c.args in
    let both = c.args.self.now in
    let pre = c.requires in
    let all : length args.shapes.now ≡ length args.shapes.now - 0 = omega arith in
    let ss : List Supplied = joined both.full.now both.daily.now (length args.shapes.now) in
    let r = subst (λ (m : ℕ). BothRead both.full.now both.daily.now m 6 6 × Left args.s.now ss (joined_on both.full.now both.daily.now m 6 6) args.s.now args.shapes.now 6) all
    ((pre.full_reads, pre.daily_reads), record { hold = pre.hold; are = pre.are; long = refl; put = refl }) in
    (omega arith, omega arith, refl, λ i. (c.type_inv.s i).fits, r.0, r.1)

pub put_list-ends-requires : goal.put_list-ends-requires
put_list-ends-requires c =
    let l = c.loop-shape in
    let t = here (goal.at.put_list-ends-requires c).In-loop-shape _ _ refl refl in
    let f = first _ _ _ _ _ _ _ _ (left (goal.at.put_list-ends-requires c).In-loop-shape _ _ refl refl (record { count = 0; width = 0 })) in
    record {
      full_low = omega (arith, l.invariant.0, c.requires.few);
      full_reads = t.of_full;
      daily_low = omega (arith, l.invariant.1, c.requires.few);
      daily_reads = t.of_daily;
      few = omega (arith, f.few, ap (λ (x : Shape). x.count) f.is);
      is = f.is;
      low = omega (arith, f.ends, c.requires.low);
      room = omega (arith, f.ends, c.requires.room, l.invariant.2);
    }

pub loop-shape-preserved : goal.loop-shape-preserved
loop-shape-preserved c =
    let l = c.loop-shape in
    let e = c.put_list-ends.ensures in
    let t = here (goal.at.loop-shape-preserved c).In-loop-shape _ _ e.full_end e.daily_end in
    let was = left (goal.at.loop-shape-preserved c).In-loop-shape _ _ e.full_end e.daily_end (record { count = 0; width = 0 }) in
    let f = first _ _ _ _ _ _ _ _ was in (
      omega (arith, t.near),
      omega (arith, t.near_beside),
      c.put_list-ends.auto.s ∙ l.invariant.2,
      subst Bytes (sym e.put) (put_small l.s l.ends.joined (list_bits (this (goal.at.loop-shape-preserved c).In-loop-shape))),
      t.rest,
      more _ _ _ _ _ _ _ _ was _ _ (omega (arith, f.ends, c.requires.room, l.invariant.2)) e.next e.put,
    )

pub returns : goal.returns
unfolding flat_map
returns c =
    let l = c.loop-shape in
    let args = c.args in
    let both = c.args.self.now in
    let n : ℕ = length args.shapes.now in
    let left = subst (λ (ss : List Supplied). Left args.s.now (joined both.full.now both.daily.now n) ss l.s (drop l.shape-index args.shapes.now) l.ends.joined) (joined_end both.full.now both.daily.now (n - l.shape-index) l.ends.read.full l.ends.read.daily (omega arith)) l.invariant.5 in
    record { end = omega (arith, left.long); put = sym (left.put ∙ put-nil l.s l.ends.joined l.invariant.3) }
