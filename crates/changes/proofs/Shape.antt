-- The call keeps the lengths of its rows. Assumes nothing.
use mathlib.Core.Path.{◌≡◌, refl}
use mathlib.Core.Bool.{Bool, true, false}
use mathlib.Core.List.{List, [], ◌∷◌}
use Prim.Native.Nat.{ℕ}
use lib.Dec.{eqb}
use borrow.Author.Tests.{eqb-true, eqb-false}
use Rattle.model.specs.Lists.{Lent}
use Rattle.model.specs.Update.{Change, update}
use Rattle.model.proofs.Shape.{Shape}
use Rattle.model.proofs.DemandThree.{source-accepted}
use Rattle.changes.proofs.RequestOne.{written-many, ends_many, refused-leaves, update_accepted}

pub update_shape : (l : Lent) (expression : List ℕ) (c : Change) (kept : List ℕ) (count : ℕ) → Shape 0 (l.numbers ∷ l.ends ∷ kept ∷ (count ∷ []) ∷ []) (update l expression c kept count)
update_shape l expression c kept count = go (eqb (update l expression c kept count).number 0) refl
  where
    rows : List (List ℕ)
    rows = l.numbers ∷ l.ends ∷ kept ∷ (count ∷ []) ∷ []

    go : (b : Bool) → eqb (update l expression c kept count).number 0 ≡ b → Shape 0 rows (update l expression c kept count)
    go true h =
        let a = update_accepted l expression c kept count (eqb-true _ 0 h) in
        rw a.leaves (record {
          parts-long = refl;
          rows_long = cc (written-many _ l.numbers a.passed.numbers_fit, ends_many l c a.source.lists (source-accepted l expression a.source a.is-source).0, written-many _ kept a.passed.members_fit);
        })
    go false h = rw (unchanged (eqb-false _ 0 h)) (record { parts-long = refl; rows_long = refl })
      where
        unchanged : ((update l expression c kept count).number ≡ 0 → ⊥) → update l expression c kept count ≡ record { number = (update l expression c kept count).number; parts = []; rows = rows }
        unchanged ne = unfold update in refused-leaves rows _ ne
