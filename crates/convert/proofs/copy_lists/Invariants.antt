-- `convert::copy_lists` meets its contract. The loop's invariant, said backwards: what is to be put from the start is what is
-- still to be put from here on. Assumes nothing.
use mathlib.Core.Path.{◌≡◌}
use mathlib.Core.List.{List}
use Prim.Native.Nat.{ℕ, ◌+◌, ◌-◌}
use lib.ListN.{length}
use Rattle.std.specs.Slice.Iter.{windows_size, windows_rest}
use Rattle.model.specs.Fields.{Bytes, bits}
use Rattle.fields.specs.Positions.{put_bits}
use Rattle.convert.specs.Pieces.{pieces, Rising}
use Rattle.convert.proofs.copy_lists.Given as goal

abbrev pub invariant-loop-list : goal.invariant-loop-list
invariant-loop-list l =
    let rest : List ℕ = windows_rest l.list-iterator in
    (windows_size l.list-iterator ≡ 2) × (length l.to ≡ length l.initial.to) × Bytes l.to × Rising (length l.from) (length rest - 1) rest
    × (l.put + length (pieces l.bit (bits l.from) (length rest - 1) rest) ≡ 6 + length (pieces l.bit (bits l.from) (length l.stops - 1) l.stops))
    × (put_bits l.initial.to 6 (pieces l.bit (bits l.from) (length l.stops - 1) l.stops) ≡ put_bits l.to l.put (pieces l.bit (bits l.from) (length rest - 1) rest))
