-- A list that has been walked through, from its bit and count on: whether it came, and a stream of its numbers. Assumes nothing.
use mathlib.Core.Path.{◌≡◌, refl, sym, ap, ◌∙◌}
use mathlib.Core.Bool.{Bool, true, false, cond}
use mathlib.Core.List.{List, [], ◌∷◌}
use mathlib.Core.Option.{some}
use Prim.Native.Nat.{ℕ, ◌-◌, ◌^◌, ◌<◌}
use native.Mathlib.Omega.{arith}
use lib.Dec.{eqb}
use lib.ListN.{length}
use Rattle.model.specs.Outcome.{Outcome, refused, accepted}
use Rattle.model.specs.Lists.{top}
use Rattle.model.specs.Delivery.{largest_gap, width, Supplied, supplied_numbers, is_delivered, by_bit, read_gaps, read_body, read_list}
use Rattle.model.proofs.Order.{split}
use Rattle.model.proofs.Accepted.{never_accepted, accepted-same, bound, required}
use Rattle.fields.specs.Positions.{take_at}
use Rattle.walk.specs.Heads.{header}
use Rattle.walk.specs.Counts.{one_counted, list_head}
use Rattle.walk.proofs.Reading.{only-is, body-short, body_more, follow-none, follow_one, follow-more, gaps_none}
use Rattle.walk.proofs.Counting.{supply, supply-numbers, list-short, list-more}
use Rattle.walk.proofs.Bounds.{body_next, header_next, head_next}
use Rattle.join.specs.declared.Stream.{Stream}
use Rattle.join.specs.Streams.{ended_at, coming, list_at, list_end, ListReads, Draws, Opens}
use Rattle.join.proofs.Lists.{list-room}
use Rattle.join.proofs.Streams.{value-is, end_is, reads_is, coming-more, coming-none}

module _ (s : List ℕ) (at : ℕ) (reads : ListReads s at) where
  roomy : read_list (take_at s) by_bit (some 65535) at ≡ accepted (list_at s at, list_end s at)
  roomy = list-room s 65535 at (omega arith) ∙ reads

  pub never_short : {A : Type 0} {k : ℕ} → list_head (take_at s) 65535 at ≡ refused k → A
  never_short e = never_accepted (sym (list-short (take_at s) 65535 at e) ∙ roomy)

  module _ {bit n p : ℕ} (h : list_head (take_at s) 65535 at ≡ accepted ((bit, n), p)) where
    record Body : Type 0 where
      read : read_body (take_at s) n p ≡ accepted (supplied_numbers (list_at s at), list_end s at)
      came : bit ≡ cond (is_delivered (list_at s at)) 1 0

    body : Body
    unfolding one_counted
    body =
        let b = bound (read_body (take_at s) n p) _ (list_at s at, list_end s at) (sym (list-more (take_at s) 65535 at h refl) ∙ roomy) in
        let xs : List ℕ = b.got.0 in
        let many : length xs ≡ n = (body_next s n p b.got b.first).many in
        let same : ◌≡◌ {A = Supplied × ℕ} (supply bit xs, b.got.1) (list_at s at, list_end s at) = accepted-same b.rest in
        let a : supply bit xs ≡ list_at s at = ap (λ (t : Supplied × ℕ). t.0) same in
        let counted = (head_next s 65535 at _ h).is xs many in
        let is : xs ≡ supplied_numbers (list_at s at) = sym (supply-numbers bit xs (counted ∙ ap (λ (k : ℕ). (bit, k)) (sym many))) ∙ ap supplied_numbers a in
        record {
          read = b.first ∙ ap (λ (t : List ℕ × ℕ). accepted t) (ap (λ (l : List ℕ). (l, b.got.1)) is ∙ ap (λ (q : ℕ). (supplied_numbers (list_at s at), q)) (ap (λ (t : Supplied × ℕ). t.1) same));
          came = sym (ap (λ (t : ℕ × ℕ). t.0) counted) ∙ ap (λ (a : Supplied). cond (is_delivered a) 1 0) a;
        }

    pub head-came : eqb bit 1 ≡ is_delivered (list_at s at)
    head-came = ap (λ (b : ℕ). eqb b 1) body.came ∙ go (is_delivered (list_at s at))
      where
        go : (b : Bool) → eqb (cond b 1 0) 1 ≡ b
        go true = refl
        go false = refl

    pub never_headless : {A : Type 0} {k : ℕ} → header (take_at s) n p ≡ refused k → A
    never_headless e = never_accepted (sym (body-short (take_at s) n p e) ∙ body.read)

    module _ {first w r : ℕ} (e : header (take_at s) n p ≡ accepted (record { first = first; width = w }, r)) (low : at < 2 ^ 40) where
      abbrev StreamOpens : Stream → Type 0
      StreamOpens st = Opens s at (record { came = eqb bit 1; stream = st })

      opens : (st : Stream) → Draws s st → {xs : List ℕ} {q : ℕ} → coming s st ≡ accepted (xs, q) → ◌≡◌ {A = Outcome (List ℕ × ℕ)} (accepted (xs, q)) (accepted (supplied_numbers (list_at s at), list_end s at)) → StreamOpens st
      opens st d {xs} {q} c f =
          let same : ◌≡◌ {A = List ℕ × ℕ} (xs, q) (supplied_numbers (list_at s at), list_end s at) = accepted-same f in
          record { came = head-came; draws = d; numbers = value-is [] c ∙ ap (λ (t : List ℕ × ℕ). t.0) same; end = end_is c ∙ ap (λ (t : List ℕ × ℕ). t.1) same }

      pub opens_none : n ≡ 0 → StreamOpens (ended_at r)
      opens_none z =
          let c = coming-none s (ended_at r) (omega arith) in
          let b = head_next s 65535 at _ h in
          let g = header_next s n p _ e in
          opens (ended_at r) (record { reads = reads_is [] c; wide = λ l. absurd (omega arith); few = omega arith; low = omega (arith, b.near, g.near) }) c
          (sym (follow-none (take_at s) n first w r z) ∙ sym (body_more (take_at s) n p e) ∙ body.read)

      pub opens_some : 0 < n → first < top → StreamOpens (record { number = first; left = n - 1; width = w; next = r })
      opens_some any small =
          let st : Stream = record { number = first; left = n - 1; width = w; next = r } in
          let b = head_next s 65535 at _ h in
          let g = header_next s n p _ e in
          let follows = sym (body_more (take_at s) n p e) ∙ body.read in
          let draws : (xs : List ℕ) (q : ℕ) → coming s st ≡ accepted (xs, q) → Draws s st =
          λ xs q c. record { reads = reads_is [] c; wide = λ l. g.wide (omega arith); few = omega (arith, b.few); low = omega (arith, b.near, b.few, g.near) } in
          split (StreamOpens st) n 2
          (λ l.
          let c : coming s st ≡ accepted (first ∷ [], r) = coming-more s st small ∙ only-is (λ (xs : List ℕ). first ∷ xs) (gaps_none (take_at s) w (n - 1) first r (omega arith)) in
          opens st (draws _ _ c) c (sym (follow_one (take_at s) n first w r (omega arith)) ∙ follows))
          (λ l.
          let a = bound (read_gaps (take_at s) w (n - 1) first r) _ _ (sym (follow-more (take_at s) n first w r l refl) ∙ follows) in
          let t = required 9 (eqb w (width (largest_gap first a.got.0))) _ _ a.rest in
          let c : coming s st ≡ accepted (first ∷ a.got.0, a.got.1) = coming-more s st small ∙ only-is (λ (xs : List ℕ). first ∷ xs) a.first in
          opens st (draws _ _ c) c t.1)
