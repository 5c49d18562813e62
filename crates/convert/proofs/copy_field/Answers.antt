-- `convert::copy_field` meets its contract: bits are the field of the number that they write. Assumes nothing.
use mathlib.Core.Path.{ap, ◌∙◌}
use Prim.Native.Nat.{ℕ}
use native.Mathlib.Omega.{arith}
use Rattle.model.specs.Fields.{field, bits}
use Rattle.model.proofs.Bits.{bits-length}
use Rattle.fields.specs.Positions.{put_bits}
use Rattle.convert.specs.Copies.{copied}
use Rattle.convert.proofs.Copies.{Taken, taken}
use Rattle.convert.proofs.copy_field.Goals as goal
use Rattle.convert.proofs.copy_field.Goals.{After-field_at}

there : (c : After-field_at) → let args = c.args in Taken (bits args.from.now) args.at args.w
there c = let args = c.args in taken (bits args.from.now) args.at args.w (omega (arith, bits-length args.from.now))

pub put_field-requires : goal.put_field-requires
put_field-requires c = (omega arith, rw c.field_at.ensures (there c).small, omega arith)

pub returns : goal.returns
unfolding copied
returns c =
    let args = c.args in
    c.put_field.ensures ∙ ap (λ (v : ℕ). put_bits args.to.now args.put (field args.w v)) c.field_at.ensures ∙ ap (put_bits args.to.now args.put) (there (goal.at.returns c).After-field_at).are
