-- The call by its tests: which of them refuses, and what is said where none does. Assumes nothing.
use mathlib.Core.Path.{◌≡◌, refl}
use mathlib.Core.Bool.{Bool, true, false}
use mathlib.Core.List.{List, [], ◌∷◌}
use Prim.Native.Nat.{ℕ}
use lib.ListN.{length}
use Rattle.model.specs.Outcome.{Outcome, refused, accepted, Sent, sent, over}
use Rattle.model.specs.Lists.{count_holds}
use Rattle.model.specs.Expression.{Tree}
use Rattle.model.specs.Forms.{there, read_packed}
use Rattle.model.specs.RequestTwo.{refused_by, every_bit}
use Rattle.model.specs.Bounds.{lengths_from, ends_rise, most_members, most_moves, most_bytes, bounds_of, bounds}

module _ (ends expression : List ℕ) where
  pub says_7 : count_holds (length ends) ≡ false → bounds ends expression ≡ refused_by 7 3 []
  unfolding bounds bounds_of sent
  says_7 h = rw h

  pub says_10 : count_holds (length ends) ≡ true → ends_rise 0 ends ≡ false → bounds ends expression ≡ refused_by 10 3 []
  unfolding bounds bounds_of sent
  says_10 h r = rw (h, r)

  module _ (h : count_holds (length ends) ≡ true) (r : ends_rise 0 ends ≡ true) where
    pub says-refusal : (n : ℕ) → read_packed (there (length ends) every_bit) expression ≡ refused n → bounds ends expression ≡ refused_by n 3 []
    unfolding bounds bounds_of sent
    says-refusal n e = rw (h, r, e)

    pub says_all : (t : Tree) → read_packed (there (length ends) every_bit) expression ≡ accepted t
        → let ns = lengths_from 0 ends in bounds ends expression ≡ record { number = 0; parts = most_members ns t ∷ most_moves ns t ∷ most_bytes ns ∷ []; rows = [] }
    unfolding bounds bounds_of sent over
    says_all t e = rw (h, r, e)

-- whatever is said, by which test was the last
pub said_case : (P : Sent → Type 0) (ends expression : List ℕ) → (count_holds (length ends) ≡ false → P (refused_by 7 3 [])) → (count_holds (length ends) ≡ true → ends_rise 0 ends ≡ false → P (refused_by 10 3 []))
    → (count_holds (length ends) ≡ true → ends_rise 0 ends ≡ true → (n : ℕ) → read_packed (there (length ends) every_bit) expression ≡ refused n → P (refused_by n 3 []))
    → (count_holds (length ends) ≡ true → ends_rise 0 ends ≡ true → (t : Tree) → read_packed (there (length ends) every_bit) expression ≡ accepted t
    → let ns = lengths_from 0 ends in P (record { number = 0; parts = most_members ns t ∷ most_moves ns t ∷ most_bytes ns ∷ []; rows = [] }))
    → P (bounds ends expression)
said_case P ends expression p₇ p₁₀ p q = go (count_holds (length ends)) refl (ends_rise 0 ends) refl (read_packed (there (length ends) every_bit) expression) refl
  where
    go : (a : Bool) → count_holds (length ends) ≡ a → (b : Bool) → ends_rise 0 ends ≡ b → (o : Outcome Tree) → read_packed (there (length ends) every_bit) expression ≡ o → P (bounds ends expression)
    go false h b r o e = rw (says_7 ends expression h) (p₇ h)
    go true h false r o e = rw (says_10 ends expression h r) (p₁₀ h r)
    go true h true r (refused n) e = rw (says-refusal ends expression h r n e) (p h r n e)
    go true h true r (accepted t) e = rw (says_all ends expression h r t e) (q h r t e)
