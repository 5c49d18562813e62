-- The text computed: the paper's example, and numbers of one, two and ten digits. Assumes nothing.
use mathlib.Core.Path.{◌≡◌, refl}
use mathlib.Core.List.{[], ◌∷◌}
use Rattle.model.specs.Outcome.{refused, accepted}
use Rattle.report.specs.Text.{digits, decimal, line, lines, text}

computes : Unit {0}
unfolding digits decimal line lines text
computes = tt

pub record Texts : Type 0 where
  -- the lines 2, 3, 5 and moves 3, of what the model's `Table.example` lists
  example : text (accepted (record { members = 2 ∷ 3 ∷ 5 ∷ []; moves = 3 })) ≡ 0x32 ∷ 0x0A ∷ 0x33 ∷ 0x0A ∷ 0x35 ∷ 0x0A ∷ 0x6D ∷ 0x6F ∷ 0x76 ∷ 0x65 ∷ 0x73 ∷ 0x20 ∷ 0x33 ∷ 0x0A ∷ []
  -- no member, and ten digits
  longest : text (accepted (record { members = []; moves = 4294967295 })) ≡ 0x6D ∷ 0x6F ∷ 0x76 ∷ 0x65 ∷ 0x73 ∷ 0x20 ∷ 0x34 ∷ 0x32 ∷ 0x39 ∷ 0x34 ∷ 0x39 ∷ 0x36 ∷ 0x37 ∷ 0x32 ∷ 0x39 ∷ 0x35 ∷ 0x0A ∷ []
  zeros : text (accepted (record { members = 0 ∷ []; moves = 0 })) ≡ 0x30 ∷ 0x0A ∷ 0x6D ∷ 0x6F ∷ 0x76 ∷ 0x65 ∷ 0x73 ∷ 0x20 ∷ 0x30 ∷ 0x0A ∷ []
  refusal : text (refused 10) ≡ 0x72 ∷ 0x65 ∷ 0x66 ∷ 0x75 ∷ 0x73 ∷ 0x65 ∷ 0x64 ∷ 0x20 ∷ 0x31 ∷ 0x30 ∷ 0x0A ∷ []

pub texts : Texts
unfolding computes
texts = record { example = refl; longest = refl; zeros = refl; refusal = refl }
