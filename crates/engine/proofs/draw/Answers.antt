-- `draw` meets its contract: what the seek answers is `found` of a number that is at most 4,294,967,296, and reply and floor are
-- those of `drawn`. Assumes nothing.
use mathlib.Core.Path.{ap, ◌∙◌}
use Rattle.model.specs.Run.{drawn}
use Rattle.reader.specs.Sought.{readers_of}
use Rattle.engine.proofs.Replies.{floor-low, draws}
use Rattle.engine.proofs.draw.Goals as goal

pub returns : goal.returns
returns c =
    let s = c.seek-a in
    let rs = readers_of s.result.readers in
    rw (c.drawn_floor.ensures rs, c.drawn_reply-reply.ensures rs) (record {
      floor_le_top_2 = floor-low s.result.answer rs;
      steps_to = λ t h. draws s.result.answer rs ∙ ap drawn (s.ensures.finds t h);
    })
