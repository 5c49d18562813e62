-- One call's reply and state, by the answer that a seek or a check hands back as a number or a truth value. Assumes nothing.
use mathlib.Core.Path.{◌≡◌, refl, ap}
use mathlib.Core.Bool.{Bool, true, false, cond, ◌&&◌}
use mathlib.Core.List.{List}
use Prim.Native.Nat.{ℕ, zero, suc, ◌+◌, ◌≤◌, ◌<◌}
use native.Mathlib.Numerals.{add-one}
use native.Mathlib.Omega.{arith}
use lib.Dec.{leb, eqb}
use borrow.Author.Tests.{leb-true, leb-false, eqb-true, lt-ltb, le-ltb, ne_eqb}
use Rattle.model.specs.Lists.{top}
use Rattle.model.specs.Expression.{Tree}
use Rattle.model.specs.Machine.{call}
use Rattle.model.specs.Steps as model
use Rattle.model.specs.Steps.{says, seek, check_node}
use Rattle.model.specs.declared.Reply.{Reply}
use Rattle.model.specs.declared.Reply.TheVariants.{Member, Finished, Yes, No, Unknown}
use Rattle.model.specs.Run.{State, drawn, told, step, step_by}
use Rattle.model.proofs.Order.{and_true, split}
use Rattle.reader.specs.Sought.{found}
use Rattle.reader.proofs.Answers.{found_at, found-end}
use Rattle.engine.specs.States.{Raises}

-- an answer is finished, or a member: the reply to it, and the floor after it
module _ (x : ℕ) (rs : model.Readers) where
  pub none_drawn : x ≡ top → Finished ≡ (drawn (found x rs)).0
  unfolding drawn
  none_drawn h = rw (found-end x rs (omega arith))

  pub one-drawn : (y : ℕ) → y ≡ x → x < top → Member y ≡ (drawn (found x rs)).0
  unfolding drawn
  one-drawn y e h = rw (found_at x rs h, e)

  pub floor-last : x ≡ top → x ≡ (drawn (found x rs)).1.floor
  unfolding drawn
  floor-last h = rw (found-end x rs (omega arith)) h

  pub floor-next : x < top → x + 1 ≡ (drawn (found x rs)).1.floor
  unfolding drawn
  floor-next h = rw (found_at x rs h) (add-one x)

  pub floor-low : (drawn (found x rs)).1.floor ≤ top
  unfolding drawn
  floor-low = split ((drawn (found x rs)).1.floor ≤ top) x top (λ lt. rw (found_at x rs lt) (omega (arith, lt))) (λ ge. rw (found-end x rs ge) (omega arith))

  -- the two together
  pub draws : ◌≡◌ {A = Reply × State} ((drawn (found x rs)).0, record { floor = (drawn (found x rs)).1.floor; readers = rs }) (drawn (found x rs))
  unfolding drawn
  draws = split (((drawn (found x rs)).0, record { floor = (drawn (found x rs)).1.floor; readers = rs }) ≡ drawn (found x rs)) x top (λ lt. rw (found_at x rs lt)) (λ ge. rw (found-end x rs ge))

module _ (ls : List (List ℕ)) (t : Tree) (s : State) where
  -- a draw, at what the codes 0 to 2 raise the floor to
  pub code_drawn : (code d to : ℕ) → code ≤ 2 → Raises s.floor code d to → drawn (seek ls t 0 to s.readers) ≡ step ls t s (call code d)
  unfolding step_by call
  code_drawn zero d to h e = ap (λ (n : ℕ). drawn (seek ls t 0 n s.readers)) (e.0 refl)
  code_drawn (suc zero) d to h e = ap (λ (n : ℕ). drawn (seek ls t 0 n s.readers)) (e.1 refl)
  code_drawn (suc (suc zero)) d to h e = ap (λ (n : ℕ). drawn (seek ls t 0 n s.readers)) (e.2 refl)
  code_drawn (suc (suc (suc code))) d to h e = absurd (omega arith)

  -- a check that is made
  pub code_made : (code d to : ℕ) (b : Bool) (rs : model.Readers) → eqb code 3 && leb s.floor d ≡ true → to ≡ d → says b rs ≡ check_node ls t 0 d s.readers
      → ◌≡◌ {A = Reply × State} (cond b Yes No, record { floor = to; readers = rs }) (step ls t s (call code d))
  unfolding step_by call told
  code_made code d to b rs made e c =
      let (three, up) = and_true (eqb code 3) (leb s.floor d) made in
      rw (eqb-true code 3 three, step_by, le-ltb d s.floor (leb-true s.floor d up), ← c, e)

  -- a call that moves nothing: a check below the floor, or any other code
  pub code_idle : (code d : ℕ) → 3 ≤ code → eqb code 3 && leb s.floor d ≡ false → ◌≡◌ {A = Reply × State} (cond (eqb code 3) No Unknown, s) (step ls t s (call code d))
  unfolding step_by call
  code_idle zero d h idle = absurd (omega arith)
  code_idle (suc zero) d h idle = absurd (omega arith)
  code_idle (suc (suc zero)) d h idle = absurd (omega arith)
  code_idle (suc (suc (suc zero))) d h idle = rw (step_by, lt-ltb d s.floor (leb-false s.floor d idle))
  code_idle (suc (suc (suc (suc code)))) d h idle = rw (ne_eqb (suc (suc (suc (suc code)))) 3 (λ e. omega arith))
