-- A kept row beside what is drawn: what is left of it is compared with the members that are left. Assumes nothing.
use mathlib.Core.Path.{◌≡◌, refl, sym, ap, ◌∙◌}
use mathlib.Core.Bool.{false}
use mathlib.Core.List.{List, [], ◌∷◌}
use Prim.Native.Nat.{ℕ, ◌+◌, ◌≤◌, ◌<◌}
use borrow.Author.Tests.{eq-eqb, ne_eqb}
use lib.ListN.{length, get_or, drop, drop_of_length-le}
use Rattle.model.specs.declared.Reply.{Reply}
use Rattle.model.specs.declared.Reply.TheVariants.{Member, Finished, Yes, No, Unknown}
use Rattle.model.specs.Expression.{Tree}
use Rattle.model.specs.Steps.{seek}
use Rattle.model.specs.Run.{State, drawn, step_by}
use Rattle.model.specs.Update.{same}
use Rattle.kept.specs.Kept.{none_drawn}
use Rattle.model.proofs.Order.{not_both}
use Rattle.model.proofs.Denoted.{members_from}
use Rattle.model.proofs.Join.{Between, NextDrawn, draws_next}
use Rattle.lists.proofs.Left.{left-cons}

-- a reply is one member, or another one, or none
number : Reply → ℕ
number (Member x) = x
number Finished = 0
number Yes = 0
number No = 0
number Unknown = 0

member-same : (x y : ℕ) → Member x ≡ Member y → x ≡ y
unfolding number
member-same x y e = ap number e

not_finished : (x : ℕ) → Member x ≡ Finished → ⊥
not_finished x e = not_both refl (sym (ap none_drawn e))

module _ (ls : List (List ℕ)) (t : Tree) (kept : List ℕ) (i : ℕ) (s : State) (between : Between ls t s) (p : Reply × State) (e : p ≡ drawn (seek ls t 0 s.floor s.readers)) where
  abbrev ms : List ℕ
  ms = members_from ls t s.floor

  drew : NextDrawn ls t ms p
  unfolding step_by
  drew = rw e (draws_next ls t s between)

  pub goes_between : Between ls t p.1
  goes_between = drew.between

  -- by the members that are left
  module _ (h : i < length kept) where
    -- none is drawn where one is kept
    pub none_left : ((x : ℕ) → p.0 ≡ Member x → ⊥) → false ≡ same (drop i kept) ms
    unfolding same
    none_left nothing = rw (left-cons kept i h) (go ms drew)
      where
        go : (ms : List ℕ) → NextDrawn ls t ms p → false ≡ same (get_or kept i 0 ∷ drop (i + 1) kept) ms
        go [] d = refl
        go (m ∷ ms) d = absurd (nothing m d.says)

    -- another one is drawn
    pub another : (x : ℕ) → p.0 ≡ Member x → (x ≡ get_or kept i 0 → ⊥) → false ≡ same (drop i kept) ms
    unfolding same
    another x is other = rw (left-cons kept i h) (go ms drew)
      where
        go : (ms : List ℕ) → NextDrawn ls t ms p → false ≡ same (get_or kept i 0 ∷ drop (i + 1) kept) ms
        go [] d = refl
        go (m ∷ ms) d = rw (ne_eqb (get_or kept i 0) m (λ q. other (member-same x m (sym is ∙ d.says) ∙ sym q)))

    -- the kept one is drawn
    pub that_one : (x : ℕ) → p.0 ≡ Member x → x ≡ get_or kept i 0 → same (drop (i + 1) kept) (members_from ls t p.1.floor) ≡ same (drop i kept) ms
    unfolding same
    that_one x is this = rw (left-cons kept i h, drew.left) (go ms drew)
      where
        go : (ms : List ℕ) → NextDrawn ls t ms p → same (drop (i + 1) kept) (drop 1 ms) ≡ same (get_or kept i 0 ∷ drop (i + 1) kept) ms
        go [] d = absurd (not_finished x (sym is ∙ d.says))
        go (m ∷ ms) d = rw (eq-eqb (get_or kept i 0) m (sym this ∙ member-same x m (sym is ∙ d.says)))

  -- behind the last that is kept: none may be drawn
  pub all-drawn : length kept ≤ i → none_drawn p.0 ≡ same (drop i kept) ms
  unfolding same
  all-drawn h = rw (drop_of_length-le kept h) (go ms drew)
    where
      go : (ms : List ℕ) → NextDrawn ls t ms p → none_drawn p.0 ≡ same [] ms
      go [] d = ap none_drawn d.says
      go (m ∷ ms) d = ap none_drawn d.says
