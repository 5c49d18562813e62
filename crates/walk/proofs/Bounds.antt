-- Where reading at a bit position gets to, and the bounds of what it finds: so positions never leave a machine word, and
-- never pass the delivery's end. Assumes nothing.
use mathlib.Core.Path.{◌≡◌, refl, sym, ap, ◌∙◌, subst}
use mathlib.Core.Bool.{true}
use mathlib.Core.List.{List}
use mathlib.Core.Option.{Option, none, some}
use Prim.Native.Nat.{ℕ, zero, suc, ◌+◌, ◌*◌, ◌≤◌, ◌<◌}
use native.Mathlib.Nat.{mul-suc, mul-zero, mul-le-mul_right}
use native.Mathlib.Omega.{arith}
use lib.Dec.{ltb, leb, eqb}
use lib.ListN.{length}
use borrow.Author.Tests.{leb-true, ltb-true}
use Rattle.model.specs.Outcome.{accepted}
use Rattle.model.specs.Lists.{top}
use Rattle.model.specs.Delivery.{largest_gap, width, read_gaps, read_body, read_list, read_lists, Form, Supplied, supplied_numbers, take_count, by_bit}
use Rattle.model.proofs.Accepted.{accepted-same, bound, required}
use Rattle.fields.specs.Positions.{take_at}
use Rattle.fields.proofs.Fields.{took}
use Rattle.walk.specs.declared.Header.{Header}
use Rattle.walk.specs.Heads.{header_width, header, gap}
use Rattle.walk.specs.Counts.{one_counted, list_head}
use Rattle.walk.proofs.Reading.{follow, behind, body_is}
use Rattle.walk.proofs.Counting.{left, supply, head_counted}

-- the number behind `last`, and the position behind its gap
pub record Next (s : List ℕ) (w last p x q : ℕ) : Type 0 where
  pub moved : q ≡ p + w
  pub above : last < x
  pub small : x < top

pub gap_next : (s : List ℕ) (w last p x q : ℕ) → gap (take_at s) w last p ≡ accepted (x, q) → Next s w last p x q
unfolding gap
gap_next s w last p x q e =
    let a = bound (take_at s w p) _ (x, q) e in
    let t = took s w p a.got a.first in
    let b = required 8 (ltb (last + a.got.0 + 1) top) _ (x, q) a.rest in
    let same : ◌≡◌ {A = ℕ × ℕ} (last + a.got.0 + 1, a.got.1) (x, q) = accepted-same b.1 in
    let ex : last + a.got.0 + 1 ≡ x = ap (λ (r : ℕ × ℕ). r.0) same in
    let eq : a.got.1 ≡ q = ap (λ (r : ℕ × ℕ). r.1) same in
    let fits = ltb-true (last + a.got.0 + 1) top b.0 in
    record { moved = omega (arith, t.next); above = omega arith; small = omega arith }

-- a header of n numbers, and the position behind it, at most k bits on
pub record Headed (s : List ℕ) (n k p : ℕ) (r : Header × ℕ) : Type 0 where
  pub near : r.1 ≤ p + k
  pub inside : p ≤ 8 * length s → r.1 ≤ 8 * length s
  pub wide : 2 ≤ n → (1 ≤ r.0.width) × (r.0.width ≤ 32)

width_next : (s : List ℕ) (n first p : ℕ) (r : Header × ℕ) → header_width (take_at s) n first p ≡ accepted r → Headed s (suc n) 5 p r
unfolding header_width
width_next s zero first p r e = subst (Headed s 1 5 p) (accepted-same e) (record { near = omega arith; inside = λ h. h; wide = λ l. absurd (omega arith) })
width_next s (suc n) first p r e =
    let a = bound (take_at s 5 p) _ r e in
    let t = took s 5 p a.got a.first in
    subst (Headed s (suc (suc n)) 5 p) (accepted-same a.rest) (record {
      near = omega (arith, t.next);
      inside = λ h. omega (arith, t.next, t.inside);
      wide = λ l. (omega arith, omega (arith, t.small));
    })

pub header_next : (s : List ℕ) (n p : ℕ) (r : Header × ℕ) → header (take_at s) n p ≡ accepted r → Headed s n 37 p r
unfolding header
header_next s zero p r e = subst (Headed s 0 37 p) (accepted-same e) (record { near = omega arith; inside = λ h. h; wide = λ l. absurd (omega arith) })
header_next s (suc n) p r e =
    let a = bound (take_at s 32 p) _ r e in
    let t = took s 32 p a.got a.first in
    let b = width_next s n a.got.0 a.got.1 r a.rest in
    record { near = omega (arith, t.next, b.near); inside = λ h. b.inside (omega (arith, t.next, t.inside)); wide = b.wide }

-- n numbers, and the position behind them
pub record Gone (s : List ℕ) (w n last p : ℕ) (r : List ℕ × ℕ) : Type 0 where
  pub moved : r.1 ≡ p + w * n
  pub many : length r.0 ≡ n
  pub inside : 1 ≤ w → p ≤ 8 * length s → r.1 ≤ 8 * length s

pub gaps_next : (s : List ℕ) (w n last p : ℕ) (r : List ℕ × ℕ) → read_gaps (take_at s) w n last p ≡ accepted r → Gone s w n last p r
unfolding read_gaps
gaps_next s w zero last p r e = subst (Gone s w 0 last p) (accepted-same e) (record { moved = omega (arith, mul-zero w); many = refl; inside = λ _ h. h })
gaps_next s w (suc n) last p r e =
    let a = bound (take_at s w p) _ r e in
    let t = took s w p a.got a.first in
    let x : ℕ = last + a.got.0 + 1 in
    let b = required 8 (ltb x top) _ r a.rest in
    let g = bound (read_gaps (take_at s) w n x a.got.1) _ r b.1 in
    let k = gaps_next s w n x a.got.1 g.got g.first in
    subst (Gone s w (suc n) last p) (accepted-same g.rest) (record {
      moved = omega (arith, k.moved, t.next, mul-suc w n);
      many = ap suc k.many;
      inside = λ h l. k.inside h (omega (arith, t.next, t.inside));
    })

-- the numbers of a list of n, and the position behind them
pub record Numbered (s : List ℕ) (n p : ℕ) (r : List ℕ × ℕ) : Type 0 where
  pub near : n < 65536 → r.1 ≤ p + 2097157
  pub inside : p ≤ 8 * length s → r.1 ≤ 8 * length s
  pub many : length r.0 ≡ n

follow-next : (s : List ℕ) (n first w p : ℕ) (r : List ℕ × ℕ) → follow (take_at s) n first w p ≡ accepted r → (2 ≤ n → (1 ≤ w) × (w ≤ 32))
    → (n < 65536 → r.1 ≤ p + 2097120) × (p ≤ 8 * length s → r.1 ≤ 8 * length s) × (length r.0 ≡ n)
unfolding follow
follow-next s zero first w p r e h = subst (λ (r : List ℕ × ℕ). (0 < 65536 → r.1 ≤ p + 2097120) × (p ≤ 8 * length s → r.1 ≤ 8 * length s) × (length r.0 ≡ 0)) (accepted-same e) (λ _. omega arith, λ l. l, refl)
follow-next s (suc zero) first w p r e h = subst (λ (r : List ℕ × ℕ). (1 < 65536 → r.1 ≤ p + 2097120) × (p ≤ 8 * length s → r.1 ≤ 8 * length s) × (length r.0 ≡ 1)) (accepted-same e) (λ _. omega arith, λ l. l, refl)
follow-next s (suc (suc n)) first w p r e h =
    let a = bound (read_gaps (take_at s) w (suc n) first p) _ r e in
    let g = gaps_next s w (suc n) first p a.got a.first in
    let b = required 9 (eqb w (width (largest_gap first a.got.0))) _ r a.rest in
    let k = h (omega arith) in
    subst (λ (r : List ℕ × ℕ). (suc (suc n) < 65536 → r.1 ≤ p + 2097120) × (p ≤ 8 * length s → r.1 ≤ 8 * length s) × (length r.0 ≡ suc (suc n))) (accepted-same b.1)
    (λ f. omega (arith, g.moved, mul-le-mul_right (suc n) k.1), g.inside k.0, ap suc g.many)

pub body_next : (s : List ℕ) (n p : ℕ) (r : List ℕ × ℕ) → read_body (take_at s) n p ≡ accepted r → Numbered s n p r
body_next s n p r e =
    let a = bound (header (take_at s) n p) (behind (take_at s) n) r (sym (body_is (take_at s) n p) ∙ e) in
    let h = header_next s n p a.got a.first in
    let f = follow-next s n a.got.0.first a.got.0.width a.got.1 r a.rest h.wide in
    record { near = λ l. omega (arith, h.near, f.0 l); inside = λ l. f.1 (h.inside l); many = f.2 }

-- ---- lists

-- what a form has ahead of a list's numbers, and the position behind it
pub record Ahead {A : Type 0} (form : Form A) (s : List ℕ) (p : ℕ) (r : (ℕ × (List ℕ → A)) × ℕ) : Type 0 where
  pub near : r.1 ≤ p + 17
  pub inside : r.1 ≤ 8 * length s
  pub few : r.0.0 < 65536
  pub many : (xs : List ℕ) → length xs ≡ r.0.0 → length (form.numbers_of (r.0.1 xs)) ≡ r.0.0

-- a list, and the position behind it
pub record Listed {A : Type 0} (form : Form A) (s : List ℕ) (room : Option ℕ) (p : ℕ) (r : A × ℕ) : Type 0 where
  pub near : r.1 ≤ p + 4194304
  pub inside : r.1 ≤ 8 * length s
  pub few : length (form.numbers_of r.0) < 65536
  pub held : elim room [ none ↦ true | some k ↦ leb (length (form.numbers_of r.0)) k ] ≡ true

-- n lists, and the position behind them
pub record All {A : Type 0} (s : List ℕ) (n p : ℕ) (r : List A × ℕ) : Type 0 where
  pub near : r.1 ≤ p + 4194304 * n
  pub inside : r.1 ≤ 8 * length s
  pub many : length r.0 ≡ n

module _ {A : Type 0} (form : Form A) (s : List ℕ) (ahead : (p : ℕ) (r : (ℕ × (List ℕ → A)) × ℕ) → form.take_head (take_at s) p ≡ accepted r → Ahead form s p r) where
  pub list_next : (room : Option ℕ) (p : ℕ) (r : A × ℕ) → read_list (take_at s) form room p ≡ accepted r → Listed form s room p r
  unfolding read_list
  list_next room p r e =
      let a = bound (form.take_head (take_at s) p) _ r e in
      let h = ahead p a.got a.first in
      let b = required 6 (elim room [ none ↦ true | some k ↦ leb a.got.0.0 k ]) _ r a.rest in
      let c = bound (read_body (take_at s) a.got.0.0 a.got.1) _ r b.1 in
      let n = body_next s a.got.0.0 a.got.1 c.got c.first in
      let m = h.many c.got.0 n.many in
      subst (Listed form s room p) (accepted-same c.rest) (record {
        near = omega (arith, h.near, n.near h.few);
        inside = n.inside h.inside;
        few = omega (arith, m, h.few);
        held = ap (λ (k : ℕ). elim room [ none ↦ true | some j ↦ leb k j ]) m ∙ b.0;
      })

  pub lists_next : (n : ℕ) (room : Option ℕ) (p : ℕ) (r : List A × ℕ) → read_lists (take_at s) form n room p ≡ accepted r → p ≤ 8 * length s → All s n p r
  unfolding read_lists
  lists_next zero room p r e h = subst (All s 0 p) (accepted-same e) (record { near = omega arith; inside = h; many = refl })
  lists_next (suc n) room p r e h =
      let a = bound (read_list (take_at s) form room p) _ r e in
      let l = list_next room p a.got a.first in
      let less : Option ℕ = left form room a.got.0 in
      let b = bound (read_lists (take_at s) form n less a.got.1) _ r a.rest in
      let k = lists_next n less a.got.1 b.got b.first l.inside in
      subst (All s (suc n) p) (accepted-same b.rest) (record { near = omega (arith, l.near, k.near); inside = k.inside; many = ap suc k.many })

-- ---- of Two's form

pub by_bit_ahead : (s : List ℕ) (p : ℕ) (r : (ℕ × (List ℕ → Supplied)) × ℕ) → by_bit.take_head (take_at s) p ≡ accepted r → Ahead by_bit s p r
unfolding take_count supplied_numbers
by_bit_ahead s p r e =
    let a = bound (take_at s 1 p) _ r e in
    let t = took s 1 p a.got a.first in
    by a.got.0 a.got.1 t.next (omega (arith, t.next, t.inside)) a.rest
  where
    by : (bit q : ℕ) → q ≡ p + 1 → q ≤ 8 * length s → take_count (take_at s) bit q ≡ accepted r → Ahead by_bit s p r
    by zero q e₁ l f = subst (Ahead by_bit s p) (accepted-same f) (record { near = omega arith; inside = l; few = omega arith; many = λ xs m. refl })
    by (suc bit) q e₁ l f =
        let b = bound (take_at s 16 q) _ r f in
        let t = took s 16 q b.got b.first in
        subst (Ahead by_bit s p) (accepted-same b.rest) (record { near = omega (arith, t.next); inside = omega (arith, t.next, t.inside); few = omega (arith, t.small); many = λ xs m. m })

-- what stands ahead of a list's numbers, as it is counted
pub record Counted (s : List ℕ) (room p : ℕ) (r : (ℕ × ℕ) × ℕ) : Type 0 where
  pub near : r.1 ≤ p + 17
  pub few : r.0.1 < 65536
  pub held : r.0.1 ≤ room
  pub is : (xs : List ℕ) → length xs ≡ r.0.1 → one_counted (supply r.0.0 xs) ≡ r.0

pub head_next : (s : List ℕ) (room p : ℕ) (r : (ℕ × ℕ) × ℕ) → list_head (take_at s) room p ≡ accepted r → Counted s room p r
unfolding list_head
head_next s room p r e =
    let a = bound (by_bit.take_head (take_at s) p) _ r e in
    let h = by_bit_ahead s p a.got a.first in
    let b = required 6 (leb a.got.0.0 room) _ r a.rest in
    subst (Counted s room p) (accepted-same b.1) (record { near = h.near; few = h.few; held = leb-true a.got.0.0 room b.0; is = head_counted (take_at s) p a.got a.first })
