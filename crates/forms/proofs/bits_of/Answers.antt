-- `forms::bits_of` meets its contract: the two fields of a node are one (`field-join`); an unknown byte has none. Assumes nothing.
use mathlib.Core.Path.{◌≡◌, refl, sym, ap, ap₂, ◌∙◌}
use mathlib.Core.List.{◌++◌}
use Prim.Native.Nat.{ℕ, ◌+◌, ◌-◌, ◌*◌, ◌^◌, ◌<◌}
use native.Mathlib.Omega.{arith}
use lib.ListN.{length}
use Rattle.model.specs.declared.Node.{Node}
use Rattle.model.specs.declared.Node.TheVariants.{Leaf, Union, Intersection}
use Rattle.model.specs.Outcome.{Outcome, accepted}
use Rattle.model.specs.Fields.{field, value}
use Rattle.model.specs.Forms.{packed_node, node_of}
use Rattle.model.proofs.Bits.{field-length, value-field}
use Rattle.fields.proofs.Fields.{field-join}
use Rattle.forms.specs.declared.Bits.{Bits}
use Rattle.forms.specs.Packing.{said_bits, byte_bits, bits_of}
use Rattle.forms.proofs.Nodes.{said_writable}
use Rattle.forms.proofs.bits_of.Goals as goal

abbrev bits : ℕ → ℕ → Bits
bits w v = record { width = w; value = v }

-- how a byte is packed, from what it says
packs : (b : ℕ) {o : Outcome Node} (w v : ℕ) → node_of b ≡ o → said_bits o ≡ field w v → v < 2 ^ w → bits w v ≡ bits_of b
unfolding bits_of byte_bits
packs b w v e f small =
    let same : field w v ≡ said_bits (node_of b) = sym (ap said_bits e ∙ f) in
    ap₂ (λ (n m : ℕ). bits n m) (sym (field-length w v) ∙ ap length same) (sym (value-field w v small) ∙ ap value same)

-- an operator of this kind, of n member nodes
packs_operator : (b kind n : ℕ) (node : Node) → packed_node node ≡ field 2 kind ++ field 3 (n - 1) → node_of b ≡ accepted node → n - 1 < 8 → kind < 4 → bits 5 (kind * 8 + (n - 1)) ≡ bits_of b
unfolding said_bits
packs_operator b kind n node packed e few four = packs b 5 (kind * 8 + (n - 1)) e (packed ∙ sym (field-join 2 3 kind (n - 1) few)) (omega arith)

pub returns-in-Err : goal.returns-in-Err
unfolding said_bits field
returns-in-Err c = packs c.args.b 0 0 (sym c.in-Err.ensures) refl (omega arith)

-- a member count is 1 to 8
pub overflow_sub-result : goal.overflow_sub-result
overflow_sub-result c = omega (arith, (said_writable _ (Union c.in-Ok-Union.n) (sym (rw c.in-Ok-Union.field-0-is at c.in-Ok-Union.ensures))).0)

pub overflow_sub-result-in-Ok-Intersection : goal.overflow_sub-result-in-Ok-Intersection
overflow_sub-result-in-Ok-Intersection c =
    omega (arith, (said_writable _ (Intersection c.in-Ok-Intersection.n) (sym (rw c.in-Ok-Intersection.field-0-is at c.in-Ok-Intersection.ensures))).0)

pub returns-in-Ok-Leaf : goal.returns-in-Ok-Leaf
unfolding said_bits packed_node
returns-in-Ok-Leaf c =
    let k : ℕ = c.in-Ok-Leaf.k in
    let named : node_of c.args.b ≡ accepted (Leaf k) = sym (rw c.in-Ok-Leaf.field-0-is at c.in-Ok-Leaf.ensures) in
    let small = said_writable _ (Leaf k) named in
    packs _ 7 k named (sym (field-join 2 5 0 k small) ∙ ap (field 7) (omega arith)) (omega (arith, small))

pub returns-in-Ok-Difference : goal.returns-in-Ok-Difference
unfolding said_bits packed_node
returns-in-Ok-Difference c = packs _ 2 1 (sym (rw c.in-Ok-Difference.field-0-is at c.in-Ok-Difference.ensures)) refl (omega arith)

pub returns-in-Ok-Union : goal.returns-in-Ok-Union
unfolding packed_node
returns-in-Ok-Union c =
    let k : ℕ = c.in-Ok-Union.n in
    let named : node_of c.args.b ≡ accepted (Union k) = sym (rw c.in-Ok-Union.field-0-is at c.in-Ok-Union.ensures) in
    packs_operator _ 2 k (Union k) refl named (omega (arith, (said_writable _ (Union k) named).1)) (omega arith)

pub returns-in-Ok-Intersection : goal.returns-in-Ok-Intersection
unfolding packed_node
returns-in-Ok-Intersection c =
    let k : ℕ = c.in-Ok-Intersection.n in
    let named : node_of c.args.b ≡ accepted (Intersection k) = sym (rw c.in-Ok-Intersection.field-0-is at c.in-Ok-Intersection.ensures) in
    packs_operator _ 3 k (Intersection k) refl named (omega (arith, (said_writable _ (Intersection k) named).1)) (omega arith)
