-- `walk::walk_body` meets its contract: the header, then the gaps; the width is tested with their largest. Assumes nothing.
use mathlib.Core.Path.{◌≡◌, refl, sym, ap, ◌∙◌}
use mathlib.Core.Bool.{Bool, true, false}
use mathlib.Core.List.{List, ◌∷◌}
use Prim.Native.Nat.{ℕ, zero, suc, ◌-◌, ◌≤◌, ◌<◌}
use native.Mathlib.Omega.{arith}
use lib.Dec.{eqb}
use lib.ListN.{length}
use borrow.Author.Tests.{eq-eqb, ne_eqb}
use Rattle.model.specs.Outcome.{accepted, require, ◌>>◌}
use Rattle.model.specs.Delivery.{largest_gap, width, read_gaps, read_body}
use Rattle.fields.specs.Positions.{take_at}
use Rattle.walk.specs.Heads.{header}
use Rattle.refusals.proofs.Up.{up}
use Rattle.walk.specs.Answers.{only}
use Rattle.walk.proofs.Reading.{Kept, kept, lost, only_stop, only-is, follow, body-short, body_more, follow-none, follow_one, follow-more}
use Rattle.walk.proofs.Bounds.{header_next, gaps_next}
use Rattle.walk.proofs.walk_body.Goals as goal
use Rattle.walk.proofs.walk_body.Goals.{In_ok-header, In_ok-largest}

-- the header that was read, and what follows it
head_read : (c : In_ok-header) → let args = c.args in header (take_at args.s.now) args.count args.at ≡ accepted (c.in_ok-header.header, c.in_ok-header.next)
head_read c = sym c.in_ok-header.ensures

numbers_read : (c : In_ok-header) → let args = c.args in read_body (take_at args.s.now) args.count args.at ≡ follow (take_at args.s.now) args.count c.in_ok-header.header.first c.in_ok-header.header.width c.in_ok-header.next
numbers_read c = let args = c.args in body_more (take_at args.s.now) args.count args.at (head_read c)

-- fewer than two numbers have no gaps
few : (s : List ℕ) (n first w p : ℕ) → n < 2 → only length (follow (take_at s) n first w p) ≡ accepted (n, p)
few s zero first w p h = only-is length (follow-none (take_at s) 0 first w p refl)
few s (suc zero) first w p h = only-is length (follow_one (take_at s) 1 first w p refl)
few s (suc (suc n)) first w p h = absurd (omega arith)

-- the gaps that were walked through
walked : (c : In_ok-largest) → let args = c.args in Kept (largest_gap c.in_ok-header.header.first) (read_gaps (take_at args.s.now) c.in_ok-header.header.width (args.count - 1) c.in_ok-header.header.first c.in_ok-header.next) c.in_ok-largest.largest c.in_ok-largest.behind
walked c = kept _ _ _ _ (sym c.in_ok-largest.ensures)

-- the width, tested with the largest of those gaps
tested : (s : List ℕ) (n first w p largest q : ℕ) → 2 ≤ n → Kept (largest_gap first) (read_gaps (take_at s) w (n - 1) first p) largest q
    → only length (follow (take_at s) n first w p) ≡ (require 9 (eqb w (width largest)) >> accepted (n, q))
unfolding only
tested s n first w p largest q h k =
    let g = gaps_next s w (n - 1) first p (k.got, q) k.read in
    ap (only length) (follow-more (take_at s) n first w p h k.read)
    ∙ ap (λ (m : ℕ). only length (require 9 (eqb w (width m)) >> accepted (first ∷ k.got, q))) k.is
    ∙ counted (eqb w (width largest)) (omega (arith, g.many))
  where
    counted : (b : Bool) → suc (length k.got) ≡ n → only length (require 9 b >> accepted (first ∷ k.got, q)) ≡ (require 9 b >> accepted (n, q))
    counted true e = ap (λ (m : ℕ). accepted (m, q)) e
    counted false e = refl

pub returns-in_err-header : goal.returns-in_err-header
returns-in_err-header c =
    let args = c.args in
    up _ _ c.from_residual.ensures.1 ∙ sym (only_stop length (body-short (take_at args.s.now) args.count args.at (sym c.in_err-header.ensures)))

pub returns-then-count-lt2 : goal.returns-then-count-lt2
returns-then-count-lt2 c =
    let args = c.args in
    sym (ap (only length) (numbers_read (goal.at.returns-then-count-lt2 c).In_ok-header) ∙ few args.s.now args.count c.in_ok-header.header.first c.in_ok-header.header.width c.in_ok-header.next c.if-count-lt2.true)

pub walk_gaps-requires : goal.walk_gaps-requires
walk_gaps-requires c =
    let args = c.args in
    let b = header_next args.s.now args.count args.at _ (head_read (goal.at.walk_gaps-requires c).In_ok-header) in
    let w = b.wide c.if-count-lt2.false in
    (w.0, w.1, omega (arith, c.requires), omega (arith, b.near))

pub returns-in_err-largest : goal.returns-in_err-largest
returns-in_err-largest c =
    let args = c.args in
    let h = c.in_ok-header.header in
    up _ _ c.from_residual-in_err-largest.ensures.1 ∙ sym (only_stop length (numbers_read (goal.at.returns-in_err-largest c).In_ok-header ∙ follow-more (take_at args.s.now) args.count h.first h.width c.in_ok-header.next c.if-count-lt2.false (lost _ _ _ (sym c.in_err-largest.ensures))))

pub returns-then-width_of-header : goal.returns-then-width_of-header
returns-then-width_of-header c =
    let args = c.args in
    let other : eqb c.in_ok-header.header.width (width c.in_ok-largest.largest) ≡ false = ne_eqb _ _ (λ q. c.if-width_of-header.true (c.width_of.ensures ∙ sym q)) in
    sym (ap (only length) (numbers_read (goal.at.returns-then-width_of-header c).In_ok-header) ∙ tested args.s.now args.count c.in_ok-header.header.first c.in_ok-header.header.width c.in_ok-header.next _ _ c.if-count-lt2.false (walked (goal.at.returns-then-width_of-header c).In_ok-largest) ∙ rw other)

pub returns : goal.returns
returns c =
    let args = c.args in
    let least : eqb c.in_ok-header.header.width (width c.in_ok-largest.largest) ≡ true = eq-eqb _ _ (sym c.if-width_of-header.false ∙ c.width_of.ensures) in
    sym (ap (only length) (numbers_read (goal.at.returns c).In_ok-header) ∙ tested args.s.now args.count c.in_ok-header.header.first c.in_ok-header.header.width c.in_ok-header.next _ _ c.if-count-lt2.false (walked (goal.at.returns c).In_ok-largest) ∙ rw least)
