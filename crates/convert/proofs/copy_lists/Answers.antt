-- `convert::copy_lists` meets its contract. The loop's invariant, said backwards: what is to be put from the start is what is
-- still to be put from here on. Assumes nothing.
use mathlib.Core.Path.{sym, ap, ap₂, ◌∙◌, subst}
use mathlib.Core.Bool.{Bool}
use mathlib.Core.List.{List}
use Prim.Native.Nat.{ℕ, ◌-◌}
use native.Mathlib.Omega.{arith}
use lib.ListN.{length, get_or}
use Rattle.std.specs.Slice.Iter.{windows_rest}
use Rattle.model.specs.Fields.{Bytes, bits}
use Rattle.fields.specs.Positions.{put_bits}
use Rattle.fields.proofs.Puts.{put_small, put-nil, put-append}
use Rattle.convert.specs.Pieces.{piece, pieces}
use Rattle.convert.proofs.Pieces.{Turn, turn, pieces_none}
use Rattle.convert.proofs.copy_lists.Goals as goal
use Rattle.convert.proofs.copy_lists.Goals.{In-Some}

-- this turn's piece, and those behind it
this : (c : In-Some) → let args = c.args in let list = c.in-Some.list.now in
    Turn (length args.from.now) args.bit (bits args.from.now) (windows_rest c.loop-list.list-iterator) (windows_rest c.next.new.self) (get_or list 0 0) (get_or list 1 0)
this c = let i = c.loop-list.invariant in let s = c.in-Some.ensures.steps.1 in turn _ _ _ _ _ _ i.0 s.0 s.1 s.2 i.3

pub copy_list-put-requires : goal.copy_list-put-requires
copy_list-put-requires c =
    let l = c.loop-list in
    let t = this (goal.at.copy_list-put-requires c).In-Some in
    (t.some, t.inside, t.small, omega (arith, l.invariant.4), omega (arith, l.invariant.4, l.invariant.1, t.long))

pub loop-list-preserved : goal.loop-list-preserved
loop-list-preserved c =
    let l = c.loop-list in
    let args = c.args in
    let t = this (goal.at.loop-list-preserved c).In-Some in
    let put = c.copy_list-put.ensures in
    let list = c.in-Some.list.now in
    let next : List ℕ = windows_rest c.next.new.self in
    let here : List Bool = piece args.bit (bits args.from.now) (get_or list 0 0) (get_or list 1 0) in
    let rest : List Bool = pieces args.bit (bits args.from.now) (length next - 1) next in (
      c.in-Some.ensures.steps.0 ∙ l.invariant.0,
      c.copy_list-put.auto.to ∙ l.invariant.1,
      subst Bytes (sym put.1) (put_small l.to l.put here),
      t.rest,
      omega (arith, l.invariant.4, t.long, put.0),
      l.invariant.5 ∙ ap (put_bits l.to l.put) t.more ∙ sym (put-append l.to l.put here rest (omega (arith, l.invariant.4, l.invariant.1, t.long)))
          ∙ ap₂ (λ (r : List ℕ) (q : ℕ). put_bits r q rest) (sym put.1) (sym put.0),
    )

pub returns : goal.returns
returns c =
    let l = c.loop-list in
    let args = c.args in
    let none = pieces_none args.bit (bits args.from.now) (windows_rest l.list-iterator) (omega (arith, l.invariant.0, c.in-None.ensures.steps.1.0)) in (
      omega (arith, l.invariant.4, ap length none),
      sym (l.invariant.5 ∙ ap (put_bits l.to l.put) none ∙ put-nil l.to l.put l.invariant.2),
    )
