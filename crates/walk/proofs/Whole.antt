-- A delivery read whole, by bit positions: the same as reading its bits (`Sources.lists-seen`). In any form whose heads are read
-- alike, with rows lent or none. Assumes nothing.
use mathlib.Core.Path.{◌≡◌, refl, ap, ◌∙◌}
use mathlib.Core.Bool.{Bool, true, false}
use mathlib.Core.List.{List}
use mathlib.Core.Option.{Option, none, some}
use Prim.Native.Nat.{ℕ}
use lib.Dec.{leb}
use lib.ListN.{drop}
use Rattle.model.specs.Outcome.{Outcome, refused, accepted, ◌>>=◌, ◌>>◌, require}
use Rattle.model.specs.Lists.{count_holds}
use Rattle.model.specs.Fields.{bits, take_field, only_fill}
use Rattle.model.specs.Delivery.{Form, read_lists, read_in}
use Rattle.model.proofs.Sources.{seen, lists-seen}
use Rattle.fields.specs.Positions.{take_at}
use Rattle.fields.proofs.Fields.{taken-there}

-- the bits from a position on, and that fields are taken off them alike
abbrev pub from : List ℕ → ℕ → List Bool
from s q = drop q (bits s)

pub alike : (s : List ℕ) (w q : ℕ) → take_field w (from s q) ≡ seen (from s) (take_at s w q)
alike s w q = taken-there s w q

-- room for so many, where a row is lent
abbrev pub fits : ℕ → Option ℕ → Bool
fits n room = elim room [ none ↦ true | some r ↦ leb n r ]

module _ {A : Type 0} (form : Form A) (s : List ℕ) (head-seen : (p : ℕ) → form.take_head take_field (from s p) ≡ seen (from s) (form.take_head (take_at s) p)) (numbers_room ends_room : Option ℕ) where
  pub reads_no_number : {k : ℕ} → take_at s 6 0 ≡ refused k → read_in form numbers_room ends_room s ≡ refused k
  unfolding read_in seen
  reads_no_number e = rw (alike s 6 0 ∙ ap (seen (from s)) e)

  module _ {n p : ℕ} (e : take_at s 6 0 ≡ accepted (n, p)) where
    number_read : take_field 6 (bits s) ≡ accepted (n, from s p)
    unfolding seen
    number_read = alike s 6 0 ∙ ap (seen (from s)) e

    pub reads_wrong_number : count_holds n ≡ false → read_in form numbers_room ends_room s ≡ refused 7
    unfolding read_in
    reads_wrong_number h = rw (number_read, h)

    pub reads_too_many : count_holds n ≡ true → fits n ends_room ≡ false → read_in form numbers_room ends_room s ≡ refused 6
    unfolding read_in
    reads_too_many h l = rw (number_read, h, l)

    pub reads_on : count_holds n ≡ true → fits n ends_room ≡ true → {o : Outcome (List A × ℕ)} → read_lists (take_at s) form n numbers_room p ≡ o
        → read_in form numbers_room ends_room s ≡ (o >>= λ r. (require 5 (only_fill (from s r.1)) >> accepted r.0))
    unfolding read_in seen
    reads_on h l {o} f = rw (number_read, h, l, lists-seen (from s) (take_at s) take_field (alike s) form head-seen n numbers_room p, f) (turned o)
      where
        turned : (o : Outcome (List A × ℕ)) → (seen (from s) o >>= λ r. (require 5 (only_fill r.1) >> accepted r.0)) ≡ (o >>= λ r. (require 5 (only_fill (from s r.1)) >> accepted r.0))
        turned (refused k) = refl
        turned (accepted r) = refl
