-- The plain machine: it reads of its set only what stands at and above the floor; broken off and resumed; drawn to the
-- end. Its state is the floor alone, its set a row of members that ascend. Assumes nothing.
use mathlib.Core.Path.{◌≡◌, refl, sym, ap, ◌∙◌}
use mathlib.Core.Bool.{Bool, true, false, ◌&&◌, ◌||◌, cond}
use mathlib.Core.List.{List, [], ◌∷◌, ◌++◌, map}
use Prim.Native.Nat.{ℕ, zero, suc, ◌-◌, ◌≤◌, ◌<◌, max}
use native.Mathlib.Omega.{arith}
use native.Mathlib.Nat.{zero-sub, sub-zero, suc-sub-suc}
use lib.Dec.{ltb, leb, eqb}
use borrow.Author.Tests.{ltb-true, ltb-false, leb-true, le-leb, ne_eqb, eq-eqb}
use lib.ListN.{length, take, drop, replicate}
use Rattle.model.specs.declared.Reply.{Reply}
use Rattle.model.specs.declared.Reply.TheVariants.{Member, Finished, Yes, No}
use Rattle.model.specs.Lists.{top}
use Rattle.model.specs.Sets.{among}
use Rattle.model.specs.Machine.{Call, next, at_or_past, past, check, other, draw, reply, machine}
use Rattle.model.proofs.Order.{not_both, split, Up, up_none}
use Rattle.model.proofs.Denoted.{from, from_on, from_all, from_up, from-among}

-- one turn of a draw
abbrev turn : ℕ → List ℕ → ℕ → Bool → Reply × ℕ
turn x set floor b = elim b [ true ↦ draw set floor | false ↦ (Member x, suc x) ]

-- ---- a draw takes the first of the members at or above the floor, and leaves the others

abbrev pub first_of : List ℕ → Reply × ℕ
first_of [] = (Finished, top)
first_of (m ∷ ms) = (Member m, suc m)

pub draw-first : (set : List ℕ) (floor : ℕ) → draw set floor ≡ first_of (from floor set)
unfolding draw from
draw-first [] floor = refl
draw-first (x ∷ set) floor = go (ltb x floor) (draw-first set floor)
  where
    go : (b : Bool) → draw set floor ≡ first_of (from floor set) → turn x set floor b ≡ first_of (elim b [ true ↦ from floor set | false ↦ x ∷ set ])
    go true e = e
    go false e = refl

pub draw-rest : (lo : ℕ) (set : List ℕ) → Up lo set → (floor : ℕ) → floor ≤ top → from (draw set floor).1 set ≡ drop 1 (from floor set)
unfolding draw from
draw-rest lo [] u floor low = refl
draw-rest lo (x ∷ set) u floor low = go (ltb x floor) refl (draw-rest (suc x) set u.2 floor low)
  where
    -- a draw leaves no lower floor
    raised : (p : Reply × ℕ) → p ≡ first_of (from floor set) → (ms : List ℕ) → Up floor ms → from floor set ≡ ms → floor ≤ p.1
    raised p e [] v q = rw (e, q) low
    raised p e (m ∷ ms) v q = rw (e, q) (omega (arith, v.0))

    go : (b : Bool) → ltb x floor ≡ b → from (draw set floor).1 set ≡ drop 1 (from floor set)
        → from (turn x set floor b).1 (x ∷ set) ≡ drop 1 (elim b [ true ↦ from floor set | false ↦ x ∷ set ])
    go true h e = from_on (draw set floor).1 x set (omega (arith, ltb-true x floor h, raised (draw set floor) (draw-first set floor) (from floor set) (from_up floor (suc x) set u.2) refl)) ∙ e
    go false h e = from_on (suc x) x set (omega arith) ∙ from_all (suc x) set u.2

-- ---- the least member not below the floor

-- no member from the floor up; or a member there, and none between
abbrev pub NoMember : List ℕ → ℕ → Type 0
NoMember set floor = (x : ℕ) → floor ≤ x → among x set ≡ false

pub record LeastMember (set : List ℕ) (floor a : ℕ) : Type 0 where
  pub above : floor ≤ a
  pub is : among a set ≡ true
  pub gap : (x : ℕ) → floor ≤ x → x < a → among x set ≡ false

-- a number that does not stand in a row does not stand behind its first
behind_none : (x y : ℕ) (set : List ℕ) → among x (y ∷ set) ≡ false → among x set ≡ false
unfolding among
behind_none x y set h = go (eqb x y) (among x set) h
  where
    go : (a b : Bool) → a || b ≡ false → b ≡ false
    go true b h = absurd (not_both refl h)
    go false b h = h

first-there : (x : ℕ) (set : List ℕ) → among x (x ∷ set) ≡ true
unfolding among
first-there x set = cc (eq-eqb x x refl)

pub draw-none : (set : List ℕ) (floor : ℕ) → NoMember set floor → draw set floor ≡ (Finished, top)
unfolding draw
draw-none [] floor n = refl
draw-none (x ∷ set) floor n = go (ltb x floor) refl (draw-none set floor (λ y q. behind_none y x set (n y q)))
  where
    go : (b : Bool) → ltb x floor ≡ b → draw set floor ≡ (Finished, top) → turn x set floor b ≡ (Finished, top)
    go true h e = e
    go false h e = absurd (not_both (first-there x set) (n x (ltb-false x floor h)))

pub draw-some : (lo : ℕ) (set : List ℕ) → Up lo set → (floor a : ℕ) → LeastMember set floor a → draw set floor ≡ (Member a, suc a)
unfolding draw among
draw-some lo [] u floor a m = absurd (not_both m.is refl)
draw-some lo (x ∷ set) u floor a m = go (ltb x floor) refl (λ lt. draw-some (suc x) set u.2 floor a (later lt))
  where
    later : x < floor → LeastMember set floor a
    later lt = record {
      above = m.above;
      is = cc (m.is, ne_eqb a x (λ e. omega (arith, m.above)));
      gap = λ y h h'. behind_none y x set (m.gap y h h');
    }

    first : floor ≤ x → x ≡ a
    first le = split (x ≡ a) a x
        (λ lt. absurd (not_both m.is (up_none x a (x ∷ set) (omega arith, u.1, u.2) lt)))
        (λ ge. split (x ≡ a) x a (λ lt. absurd (not_both (first-there x set) (m.gap x le lt))) (λ ge'. omega arith))

    go : (b : Bool) → ltb x floor ≡ b → (x < floor → draw set floor ≡ (Member a, suc a)) → turn x set floor b ≡ (Member a, suc a)
    go true h e = e (ltb-true x floor h)
    go false h e = ap (λ (y : ℕ). (Member y, suc y)) (first (ltb-false x floor h))

-- one of the two is so
pub draw_case : (P : Type 0) (set : List ℕ) → Up 0 set → (floor : ℕ) → (NoMember set floor → P) → ((a : ℕ) → LeastMember set floor a → P) → P
unfolding among
draw_case P set u floor p q = go (from floor set) (from_up floor 0 set u) (from-among floor 0 set u)
  where
    stands : (x : ℕ) → floor ≤ x → (b : Bool) → b ≡ leb floor x && among x set → among x set ≡ b
    stands x h b e = sym (e ∙ ap (λ (t : Bool). t && among x set) (le-leb floor x h))

    go : (ms : List ℕ) → Up floor ms → ((x : ℕ) → among x ms ≡ leb floor x && among x set) → P
    go [] v e = p (λ x h. stands x h false (e x))
    go (m ∷ ms) v e = q m (record {
      above = v.0;
      is = stands m v.0 _ (e m) ∙ first-there m ms;
      gap = λ x h lt. stands x h _ (e x) ∙ up_none m x (m ∷ ms) (omega arith, v.1, v.2) lt;
    })

-- ---- sets that agree at and above the floor

module _ (s t : List ℕ) (us : Up 0 s) (ut : Up 0 t) (floor : ℕ) (low : floor ≤ top) (same : (x : ℕ) → floor ≤ x → among x s ≡ among x t) where
  draw_agrees : (f : ℕ) → floor ≤ f → draw s f ≡ draw t f
  draw_agrees f h = draw_case (draw s f ≡ draw t f) s us f
      (λ n. draw-none s f n ∙ sym (draw-none t f (λ x q. sym (same x (omega arith)) ∙ n x q)))
      (λ a m. draw-some 0 s us f a m ∙ sym (draw-some 0 t ut f a (record {
        above = m.above;
        is = sym (same a (omega (arith, m.above))) ∙ m.is;
        gap = λ x q lt. sym (same x (omega arith)) ∙ m.gap x q lt;
      })))

  reply_agrees : (f : ℕ) → floor ≤ f → (c : Call) → reply s f c ≡ reply t f c
  unfolding reply
  reply_agrees f h next = draw_agrees f h
  reply_agrees f h (at_or_past d) = draw_agrees (max f d) (omega arith)
  reply_agrees f h (past d) = draw_agrees (max f (suc d)) (omega arith)
  reply_agrees f h (check d) = ap (λ (b : Bool). (cond b Yes No, max f d)) (go (leb f d) refl)
    where
      go : (b : Bool) → leb f d ≡ b → b && among d s ≡ b && among d t
      go true e = same d (omega (arith, leb-true f d e))
      go false e = refl
  reply_agrees f h other = refl

  -- no floor falls below the first
  draw-stays : (f : ℕ) → floor ≤ f → floor ≤ (draw s f).1
  draw-stays f h = draw_case (floor ≤ (draw s f).1) s us f (λ n. rw (draw-none s f n) low) (λ a m. rw (draw-some 0 s us f a m) (omega (arith, m.above)))

  reply-stays : (f : ℕ) → floor ≤ f → (c : Call) → floor ≤ (reply s f c).1
  unfolding reply
  reply-stays f h next = draw-stays f h
  reply-stays f h (at_or_past d) = draw-stays (max f d) (omega arith)
  reply-stays f h (past d) = draw-stays (max f (suc d)) (omega arith)
  reply-stays f h (check d) = omega arith
  reply-stays f h other = h

  agrees_from : (cs : List Call) (f : ℕ) → floor ≤ f → machine s f cs ≡ machine t f cs
  unfolding machine
  agrees_from [] f h = refl
  agrees_from (c ∷ cs) f h =
      ap (λ (p : List Reply × ℕ). ((reply s f c).0 ∷ p.0, p.1)) (agrees_from cs (reply s f c).1 (reply-stays f h c))
      ∙ ap (λ (r : Reply × ℕ). (r.0 ∷ (machine t r.1 cs).0, (machine t r.1 cs).1)) (reply_agrees f h c)

  -- machines over sets that agree at and above the floor reply alike, and leave the same floor
  pub agree : (cs : List Call) → machine s floor cs ≡ machine t floor cs
  agree cs = agrees_from cs floor (omega arith)

-- ---- broken off, and drawn to the end

module _ (set : List ℕ) where
  -- broken off anywhere and resumed from the bookmark: the same replies and the same last bookmark
  pub machine_append : (cs ds : List Call) (b : ℕ) → machine set b (cs ++ ds)
      ≡ ((machine set b cs).0 ++ (machine set (machine set b cs).1 ds).0, (machine set (machine set b cs).1 ds).1)
  unfolding machine reply
  machine_append [] ds b = refl
  machine_append (c ∷ cs) ds b = cc (machine_append cs ds (reply set b c).1)

  -- no member is left: finished, as often as asked
  spent : (n b : ℕ) → b ≤ top → NoMember set b → (machine set b (replicate n next)).0 ≡ replicate n Finished
  unfolding machine reply
  spent zero b bt h = refl
  spent (suc n) b bt h = rw (draw-none set b h) (ap (λ (rs : List Reply). Finished ∷ rs) (spent n top (omega arith) (λ x q. h x (omega arith))))

  -- ms are the members at or above the bookmark, ascending: n nexts reply the first n of these, and finished behind them
  drawn-by : Up 0 set → (n : ℕ) (ms : List ℕ) (b : ℕ) → b ≤ top → Up b ms → ((x : ℕ) → b ≤ x → among x set ≡ among x ms)
      → (machine set b (replicate n next)).0 ≡ map Member (take n ms) ++ replicate (n - length ms) Finished
  unfolding machine reply among
  drawn-by us zero ms b bt u h = rw (zero-sub (length ms))
  drawn-by us (suc n) [] b bt u h = rw (sub-zero (suc n)) (spent (suc n) b bt (λ x q. h x q))
  drawn-by us (suc n) (m ∷ ms) b bt u h =
      rw (draw-some 0 set us b m (record { above = u.0; is = h m u.0 ∙ first-there m ms; gap = gap }), suc-sub-suc n (length ms))
      (ap (λ (rs : List Reply). Member m ∷ rs) (drawn-by us n ms (suc m) (omega (arith, u.1)) u.2 later))
    where
      gap : (x : ℕ) → b ≤ x → x < m → among x set ≡ false
      gap x q q' = h x q ∙ up_none m x (m ∷ ms) (omega arith, u.1, u.2) q'

      later : (x : ℕ) → suc m ≤ x → among x set ≡ among x ms
      later x q = cc (h x (omega (arith, u.0)), ne_eqb x m (λ r. omega arith))

  -- with m members at or above a bookmark the first m nexts reply these, ascending, and each further one finished
  pub draws : Up 0 set → (b : ℕ) → b ≤ top → (n : ℕ) → (machine set b (replicate n next)).0 ≡ map Member (take n (from b set)) ++ replicate (n - length (from b set)) Finished
  draws us b bt n = drawn-by us n (from b set) b bt (from_up b 0 set us) (λ x h. cc (from-among b 0 set us x, le-leb b x h))
