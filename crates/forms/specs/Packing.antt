-- From the row form to the packed form, byte by byte.
use Rattle.std.specs.Prelude.{Bool, List, [], ◌∷◌, ◌++◌, ℕ, length}
use Rattle.model.specs.declared.Node.{Node}
use Rattle.model.specs.Outcome.{Outcome, refused, accepted}
use Rattle.model.specs.Fields.{value}
use Rattle.model.specs.Forms.{packed_node, node_of}
use Rattle.forms.specs.declared.Bits.{Bits}

-- the packed bits of what a byte says; an unknown byte has none
unfoldable pub said_bits : Outcome Node → List Bool
said_bits (refused n) = []
said_bits (accepted node) = packed_node node

-- the packed bits of a byte of the row form
unfoldable pub byte_bits : ℕ → List Bool
byte_bits b = said_bits (node_of b)

-- how many they are, and the number that they write
unfoldable pub bits_of : ℕ → Bits
bits_of b = record { width = length (byte_bits b); value = value (byte_bits b) }

-- the packed bits of a row, node after node
unfoldable pub row_bits : List ℕ → List Bool
row_bits [] = []
row_bits (b ∷ bs) = byte_bits b ++ row_bits bs
