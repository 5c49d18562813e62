-- `draw_page` meets its contract. The loop's invariant, said backwards: what is handed back from here on is what is handed back
-- from the start. Assumes nothing.
use mathlib.Core.Path.{◌≡◌, refl, ◌∙◌}
use Prim.Native.Nat.{ℕ}
use native.Mathlib.Omega.{arith}
use lib.ListN.{length, length-set}
use Rattle.engine.specs.States.{state_of, stepped_of}
use Rattle.pages.proofs.Pages.{hands_start, hands_full, hands-member, hands-ended}
use Rattle.pages.proofs.draw_page.Goals as goal

pub loop-i-init : goal.loop-i-init
loop-i-init c = (c.requires.bookmark_le_top, refl, λ t h. refl)

pub draw-s-requires : goal.draw-s-requires
draw-s-requires c = record { standing = c.requires.standing; floor_le_top = c.loop-i.invariant.0 }

pub returns-in_default : goal.returns-in_default
returns-in_default c =
    let l = c.loop-i in
    let s = c.draw-s in record {
      floor_le_top = s.ensures.floor_le_top_2;
      pages_to = λ t h. hands-ended _ t (state_of l.floor l.readers) l.row l.i (stepped_of s.result) (omega arith) c.in_default.not-Member (s.ensures.steps_to t h) ∙ (l.invariant.2 t h ∙ hands_start _ t _ _);
    }

pub loop-i-preserved : goal.loop-i-preserved
loop-i-preserved c =
    let l = c.loop-i in
    let s = c.draw-s in
    let x : ℕ = c.in-Member.x in (
      s.ensures.floor_le_top_2,
      length-set l.row l.i x ∙ l.invariant.1,
      λ t h. hands-member _ t (state_of l.floor l.readers) l.row l.i (stepped_of s.result) x (omega arith) c.in-Member.is (s.ensures.steps_to t h) ∙ l.invariant.2 t h,
    )

pub returns : goal.returns
returns c =
    let l = c.loop-i in
    let all : l.i ≡ length l.row = omega arith in
    record { floor_le_top = l.invariant.0; pages_to = λ t h. rw (← all) (hands_full _ t (state_of l.floor l.readers) l.row l.i (omega arith)) ∙ (l.invariant.2 t h ∙ hands_start _ t _ _) }
