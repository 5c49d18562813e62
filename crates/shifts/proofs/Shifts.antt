-- A part of a row copied within it; ends moved one store after another, where what is left to store, laid from here on, is all of it.
-- Assumes nothing.
use mathlib.Core.Path.{◌≡◌, sym, ap, ◌∙◌}
use mathlib.Core.Bool.{Bool}
use mathlib.Core.List.{List, [], ◌++◌, map, append-nil, append_assoc}
use Prim.Native.Nat.{ℕ, ◌+◌, ◌-◌, ◌≤◌, ◌<◌}
use native.Mathlib.Omega.{arith}
use lib.ListN.{length, get_or, take, drop, set, length-take, length-drop, drop_of_length-le}
use Rattle.std.specs.List.{copy_within}
use Rattle.std.proofs.lemmas.List.{drop-take, drop-map, length-map, get_or-map}
use Rattle.model.specs.RequestOne.{moved}
use Rattle.fields.specs.Rows.{lay}
use Rattle.fields.proofs.Rows.{lay-copied, lay-all}
use Rattle.shifts.specs.Shift.{ends_moved}

-- the used part of a row from one place on, copied to another
pub copied : (row : List ℕ) (from to used : ℕ) → from ≤ used → used ≤ length row → copy_within row from used to ≡ lay row to (drop from (take used row))
unfolding lay
copied row from to used le fits =
    let xs : List ℕ = take (used - from) (drop from row) in
    let many : used ≡ from + (used - from) = omega arith in
    let long : length xs ≡ used - from = omega (arith, length-take (used - from) (drop from row), length-drop from row) in
    let part : drop from (take used row) ≡ xs = ap (λ (n : ℕ). drop from (take n row)) many ∙ drop-take from (used - from) row in
    rw part (append_assoc (take to row) xs _ ∙ ap (λ (n : ℕ). take to row ++ (xs ++ drop (to + n) row)) (sym long))

-- ---- ends that move
module _ (before : List ℕ) (adds : Bool) where
  -- all of them, moved
  abbrev pub all_moved : List ℕ
  all_moved = map (moved adds) before

  pub move_step : (ends : List ℕ) (i : ℕ) → i < length ends → length ends ≡ length before → get_or ends i 0 ≡ get_or before i 0
      → lay (set ends i (moved adds (get_or ends i 0))) (i + 1) (drop (i + 1) all_moved) ≡ lay ends i (drop i all_moved)
  move_step ends i h long as_was =
      ap (λ (x : ℕ). lay (set ends i x) (i + 1) (drop (i + 1) all_moved)) (ap (moved adds) as_was ∙ sym (get_or-map (moved adds) before i 0 0 (omega arith)))
      ∙ lay-copied ends all_moved i i 0 (omega (arith, length-map before (moved adds))) h

  pub move_end : (ends : List ℕ) (i : ℕ) → length ends ≤ i → length ends ≡ length before → ends ≡ lay ends i (drop i all_moved)
  move_end ends i h long = lay-all ends all_moved i i (omega (arith, length-map before (moved adds)))

  pub move_all : (k : ℕ) → lay before k (drop k all_moved) ≡ ends_moved adds k before
  unfolding ends_moved lay
  move_all k =
      let rest : drop (k + length (drop k all_moved)) before ≡ [] = drop_of_length-le before {i = k + length (drop k all_moved)} (omega (arith, length-drop k all_moved, length-map before (moved adds))) in
      ap (λ (l : List ℕ). take k before ++ (drop k all_moved ++ l)) rest
      ∙ ap (λ (l : List ℕ). take k before ++ l) (append-nil (drop k all_moved) ∙ drop-map (moved adds) k before)
