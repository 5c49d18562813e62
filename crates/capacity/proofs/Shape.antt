-- The call hands back three parts beside its number, whatever it is given, and lends no row. Assumes nothing.
use mathlib.Core.Path.{refl}
use mathlib.Core.List.{List, []}
use Prim.Native.Nat.{ℕ}
use Rattle.model.specs.RequestTwo.{refused_by}
use Rattle.model.specs.Bounds.{bounds}
use Rattle.model.proofs.Shape.{Shape}
use Rattle.capacity.proofs.Said.{said_case}

three : {n : ℕ} → Shape 3 [] (refused_by n 3 [])
three = record { parts-long = refl; rows_long = refl }

pub bounds_shape : (ends expression : List ℕ) → Shape 3 [] (bounds ends expression)
bounds_shape ends expression = said_case (Shape 3 []) ends expression (λ h. three) (λ h r. three) (λ h r n e. three) (λ h r t e. record { parts-long = refl; rows_long = refl })
