-- A page, turn by turn. Assumes nothing.
use mathlib.Core.Path.{◌≡◌, refl, sym, ap, ap₂, ◌∙◌}
use mathlib.Core.Logic.{inl, inr}
use mathlib.Core.Bool.{true, false}
use mathlib.Core.List.{List, [], ◌∷◌}
use Prim.Native.Nat.{ℕ, suc, ◌+◌, ◌-◌, ◌≤◌, ◌<◌}
use native.Mathlib.Nat.{add-zero, zero-add}
use native.Mathlib.Omega.{arith}
use denote.Enum.Declared.{tag_of}
use types.Run.{OneOf}
use lib.ListN.{length, set, length-set}
use Rattle.model.specs.declared.Reply.{Reply}
use Rattle.model.specs.declared.Reply.TheVariants.{Member, Finished, Yes, No, Unknown}
use Rattle.model.specs.contracts.Reply.{the_type}
use Rattle.model.specs.Expression.{Tree}
use Rattle.model.specs.Steps.{seek}
use Rattle.model.specs.Run.{State, drawn, step_by}
use Rattle.fields.specs.Rows.{lay}
use Rattle.fields.proofs.Rows.{lay-nil, lay-cons}
use Rattle.pages.specs.Pages.{Drawing, go_on, page, Handed, laid_down}

-- a reply that is none of the first variant, as a match tells it, is no member
tagged : (n : ℕ) → OneOf (1 ∷ 2 ∷ 3 ∷ 4 ∷ []) n → 1 ≤ n
tagged n (inl e) = omega arith
tagged n (inr (inl e)) = omega arith
tagged n (inr (inr (inl e))) = omega arith
tagged n (inr (inr (inr e))) = omega arith

pub no_member : (r : Reply) → OneOf (1 ∷ 2 ∷ 3 ∷ 4 ∷ []) (tag_of the_type r) → (x : ℕ) → r ≡ Member x → ⊥
no_member r h x e = omega (arith, tagged (tag_of the_type r) h, ap (tag_of the_type) e)

-- a drawing laid down from place i on
abbrev placed : Drawing → List ℕ → ℕ → Handed
placed d row i = (i + length d.0, d.1, d.2, lay row i d.0)

abbrev told : Drawing → ℕ → List ℕ → Handed
told d n row = (n, d.1, d.2, row)

abbrev pub more : ℕ → Drawing → Drawing
more x d = (x ∷ d.0, d.1, d.2)

-- by the reply
pub goes_on : (rest : State → Drawing) (p : Reply × State) (x : ℕ) → p.0 ≡ Member x → go_on rest p ≡ more x (rest p.1)
unfolding go_on
goes_on rest (r, s) x e = ap (λ (q : Reply). go_on rest (q, s)) e

pub goes_no_further : (rest : State → Drawing) (p : Reply × State) → p.0 ≡ Finished → go_on rest p ≡ ([], p.1, true)
unfolding go_on
goes_no_further rest (r, s) e = ap (λ (q : Reply). go_on rest (q, s)) e

module _ (ls : List (List ℕ)) (t : Tree) where
  -- what is handed back from here on, where i members stand in the row
  unfoldable pub hands : State → List ℕ → ℕ → Handed
  hands s row i = placed (page ls t s (length row - i)) row i

  pub hands_start : (s : State) (row : List ℕ) → hands s row 0 ≡ laid_down (page ls t s (length row)) row
  unfolding hands laid_down
  hands_start s row =
      let all : length row - 0 ≡ length row = omega arith in
      rw (all, zero-add (length (page ls t s (length row)).0))

  -- the row is full
  pub hands_full : (s : State) (row : List ℕ) (i : ℕ) → length row ≤ i → ◌≡◌ {A = Handed} (i, s, false, row) (hands s row i)
  unfolding hands page
  hands_full s row i h =
      let none : length row - i ≡ 0 = omega arith in
      rw (none, lay-nil row i, add-zero i)

  -- a turn
  turn : (s : State) (row : List ℕ) (i : ℕ) (p : Reply × State) → i < length row → p ≡ drawn (seek ls t 0 s.floor s.readers)
      → placed (go_on (λ s. page ls t s (length row - (i + 1))) p) row i ≡ hands s row i
  unfolding hands page step_by
  turn s row i p h e =
      let left : length row - i ≡ suc (length row - (i + 1)) = omega arith in
      ap (λ (q : Reply × State). placed (go_on (λ s. page ls t s (length row - (i + 1))) q) row i) e
      ∙ sym (ap (λ (n : ℕ). placed (page ls t s n) row i) left)

  -- one member more
  pub hands-member : (s : State) (row : List ℕ) (i : ℕ) (p : Reply × State) (x : ℕ) → i < length row → p.0 ≡ Member x → p ≡ drawn (seek ls t 0 s.floor s.readers)
      → hands p.1 (set row i x) (i + 1) ≡ hands s row i
  unfolding hands
  hands-member s row i p x h m e =
      let d = page ls t p.1 (length row - (i + 1)) in
      let one : i + 1 + length d.0 ≡ i + suc (length d.0) = omega arith in
      ap (λ (n : ℕ). placed (page ls t p.1 (n - (i + 1))) (set row i x) (i + 1)) (length-set row i x)
      ∙ ap₂ (told d) one (sym (lay-cons row i x d.0 h))
      ∙ ap (λ (d : Drawing). placed d row i) (sym (goes_on (λ s. page ls t s (length row - (i + 1))) p x m))
      ∙ turn s row i p h e

  -- no member: the page ends
  pub hands-ended : (s : State) (row : List ℕ) (i : ℕ) (p : Reply × State) → i < length row → ((x : ℕ) → p.0 ≡ Member x → ⊥) → p ≡ drawn (seek ls t 0 s.floor s.readers)
      → ◌≡◌ {A = Handed} (i, p.1, true, row) (hands s row i)
  unfolding go_on
  hands-ended s row i p h other e = ends p other ∙ turn s row i p h e
    where
      ends : (p : Reply × State) → ((x : ℕ) → p.0 ≡ Member x → ⊥) → ◌≡◌ {A = Handed} (i, p.1, true, row) (placed (go_on (λ s. page ls t s (length row - (i + 1))) p) row i)
      ends (Member x, after) other = absurd (other x refl)
      ends (Finished, after) other = rw (lay-nil row i, add-zero i)
      ends (Yes, after) other = rw (lay-nil row i, add-zero i)
      ends (No, after) other = rw (lay-nil row i, add-zero i)
      ends (Unknown, after) other = rw (lay-nil row i, add-zero i)
