-- `encode::put_list` meets its contract: a list that came is put as such, and of one that did not, its bit. Assumes nothing.
use mathlib.Core.Path.{◌≡◌, sym, ap, ◌∙◌}
use mathlib.Core.Bool.{Bool}
use native.Mathlib.Omega.{arith}
use lib.ListN.{length}
use Rattle.model.specs.Fields.{field}
use Rattle.model.proofs.Bits.{field-length}
use Rattle.model.proofs.Sizes.{undelivered-bits}
use Rattle.fields.specs.Positions.{put_bits}
use Rattle.encode.specs.Measures.{as_supplied, list_bits}
use Rattle.encode.proofs.put_list.Goals as goal
use Rattle.encode.proofs.put_list.Goals.{Else-delivered}

-- the bits of a list that did not come
alone : (c : Else-delivered) → let args = c.args in list_bits (as_supplied args.delivered args.list.now) ≡ field 1 0
alone c = ap (λ (b : Bool). list_bits (as_supplied b c.args.list.now)) c.if-delivered.false ∙ undelivered-bits

pub put_field-requires : goal.put_field-requires
put_field-requires c = (omega arith, omega arith, omega (arith, ap length (alone (goal.at.put_field-requires c).Else-delivered), field-length 1 0, c.requires.room))

pub returns : goal.returns
returns c =
    let args = c.args in
    let one = alone (goal.at.returns c).Else-delivered in
    (omega (arith, ap length one, field-length 1 0), c.put_field.ensures ∙ ap (put_bits args.s.now args.at) (sym one))
