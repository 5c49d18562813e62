-- `answer` meets its contract. The loop's invariant, said backwards: what is sent back from here on is what is sent back from the
-- start. Assumes nothing.
use mathlib.Core.Path.{◌≡◌, refl, sym, ◌∙◌}
use mathlib.Core.List.{List}
use Prim.Native.Nat.{ℕ, ◌≤◌}
use native.Mathlib.Omega.{arith}
use lib.ListN.{length, get_or, length-set}
use Rattle.model.specs.Lists.{top, lists_from}
use Rattle.model.specs.Expression.{Tree}
use Rattle.model.specs.declared.Reply.{Reply}
use Rattle.model.specs.Machine.{call, encode}
use Rattle.model.specs.Run.{State, step}
use Rattle.reader.specs.declared.readers.Readers.{Readers}
use Rattle.reader.specs.Rows.{Stands}
use Rattle.engine.specs.States.{state_of}
use Rattle.engine.proofs.Replies.{code_drawn, code_made, code_idle}
use Rattle.engine.proofs.Sends.{sends-start, sends_none, sends-one}
use Rattle.engine.proofs.answer.Goals as goal
use Rattle.engine.proofs.answer.Goals.{Joined-code-lt3, then-code-lt3, else-code-lt3+then-asks, else-code-lt3+else-asks}

pub loop-i-init : goal.loop-i-init
loop-i-init c = (c.requires.bookmark_le_top, refl, λ t h. rw c.first-readers.ensures (sends-start _ t _ _ _ _))

pub target-to-requires : goal.target-to-requires
target-to-requires c = (c.loop-i.invariant.0, c.if-code-lt3.true)

pub draw-s-requires : goal.draw-s-requires
draw-s-requires c = record { standing = c.requires.standing; floor_le_top = c.target-to.ensures.upper_bound }

-- what each branch leaves: a reply's word, floor and readers, as the step has them
record Turned (numbers ends nodes : List ℕ) (s : State) (code d : ℕ) (readers : Readers) (floor word : ℕ) : Type 0 where
  reply : Reply
  low : floor ≤ top
  steps : (t : Tree) → Stands (length ends) nodes t 0 → ◌≡◌ {A = Reply × State} (reply, state_of floor readers) (step (lists_from numbers 0 ends) t s (call code d))
  says : word ≡ encode reply

turned : (c : Joined-code-lt3) → let l = c.loop-i in let args = c.args in
    Turned args.generator.now.numbers.now args.generator.now.ends.now args.generator.now.nodes.now (state_of l.floor l.readers) (get_or args.codes.now l.i 0) (get_or args.arguments.now l.i 0) c.if-code-lt3.readers c.if-code-lt3.floor c.if-code-lt3.word
turned c =
    let l = c.loop-i in
    elim c.if-code-lt3.branch [
      | then-code-lt3 w ↦ rw (w.readers-is, w.floor-is, w.word-is) (record {
        reply = w.draw-s.result.reply;
        low = w.draw-s.ensures.floor_le_top_2;
        steps = λ t h. w.draw-s.ensures.steps_to t h ∙ code_drawn _ t _ _ _ _ (omega (arith, w.if-code-lt3.true)) w.target-to.ensures.raises;
        says = w.encode-word.ensures;
      })
      | else-code-lt3+then-asks w ↦ rw (w.readers-is, w.floor-is, w.word-is) (record {
        reply = w.told_reply-reply.result;
        low = omega (arith, w.from-floor.ensures, (c.type_inv.arguments l.i).fits);
        steps = λ t h. rw w.told_reply-reply.ensures (code_made _ t _ _ _ _ w.check-a.result.yes _ (sym w.asks.ensures ∙ w.if-asks.true) w.from-floor.ensures (w.check-a.ensures t h));
        says = w.encode-word-then-asks.ensures;
      })
      | else-code-lt3+else-asks w ↦ rw (w.readers-is, w.floor-is, w.word-is) (record {
        reply = w.idle_reply-reply.result;
        low = l.invariant.0;
        steps = λ t h. rw w.idle_reply-reply.ensures (code_idle _ t _ _ _ w.if-code-lt3.false (sym w.asks.ensures ∙ w.if-asks.false));
        says = w.encode-word-else-asks.ensures;
      })
    ]

pub loop-i-preserved : goal.loop-i-preserved
loop-i-preserved c =
    let l = c.loop-i in
    let inside = c.loop-i-test.true in
    let r = turned (goal.at.loop-i-preserved c).Joined-code-lt3 in (
      r.low,
      length-set l.replies l.i c.if-code-lt3.word ∙ l.invariant.1,
      λ t h. sends-one _ t (state_of l.floor l.readers) c.args.codes.now c.args.arguments.now l.replies l.i (r.reply, state_of c.if-code-lt3.floor c.if-code-lt3.readers) c.if-code-lt3.word
          (omega (arith, inside)) c.requires.codes_len.0 (omega (arith, inside, c.requires.codes_len.1, l.invariant.1)) (r.steps t h) r.says
          ∙ l.invariant.2 t h,
    )

pub returns : goal.returns
returns c =
    let l = c.loop-i in
    λ t h. sends_none _ t (state_of l.floor l.readers) c.args.codes.now c.args.arguments.now l.replies l.i (omega arith) ∙ l.invariant.2 t h
