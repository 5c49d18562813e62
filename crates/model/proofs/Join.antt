-- The join: over a whole list of calls the steps reply what the plain machine replies.
--
-- Between two calls a run keeps: at and above the floor, the residual set of the root is the denoted set. A seek keeps
-- it because it leaves everything at and above where it sought to; a check because it leaves everything at and above
-- its number. Assumes nothing.
use mathlib.Core.Path.{◌≡◌, refl, sym, ap, ◌∙◌}
use mathlib.Core.Bool.{Bool, true, false, ◌&&◌, cond}
use mathlib.Core.List.{List, [], ◌∷◌}
use Prim.Native.Nat.{ℕ, suc, ◌+◌, ◌≤◌, ◌<◌, max}
use native.Mathlib.Omega.{arith}
use lib.Dec.{ltb, leb}
use borrow.Author.Tests.{ltb-true, ltb-false, le-leb, lt-leb}
use lib.ListN.{get_or, length, drop}
use Rattle.model.specs.declared.Reply.{Reply}
use Rattle.model.specs.declared.Reply.TheVariants.{Yes, No}
use Rattle.model.specs.Lists.{top}
use Rattle.model.specs.Expression.{Tree, leaf, difference, union, intersection, Members, one, more, size}
use Rattle.model.specs.Sets.{among, member, member_some, member_all, members}
use Rattle.model.specs.Machine.{Call, next, at_or_past, past, check, other, draw, reply, machine}
use Rattle.model.specs.Steps.{Readers, Found, end, at, Checked, says, seek, check_node}
use Rattle.model.specs.Run.{State, drawn, told, step, steps, Start, Low, begin, run, step_by, run_by, steps_by}
use Rattle.model.proofs.Order.{Up, untouched, none_moved}
use Rattle.model.proofs.Residual.{After, Sought, residual, residual_some, residual_all}
use Rattle.model.proofs.Seek.{seek_is}
use Rattle.model.proofs.Check.{Told, check_is}
use Rattle.model.proofs.Denoted.{members_up, members_are, members_from}
use Rattle.model.proofs.Plain.{first_of, draw-first, draw-rest, draw-none, draw-some}

-- readers at the start have everything left
module _ (ls : List (List ℕ)) (ps : List ℕ) (unmoved : (k : ℕ) → get_or ps k 0 ≡ 0) (x : ℕ) where
  mutual
    unfolding member residual

    start : (t : Tree) (i : ℕ) → residual ls t i ps x ≡ member ls t x
    start (leaf k) i = rw (unmoved i)
    start (difference s t) i = cc (start s (1 + i), start t (1 + i + size s))
    start (union ts) i = some-start ts (1 + i)
    start (intersection ts) i = all_start ts (1 + i)

    some-start : (ts : Members) (i : ℕ) → residual_some ls ts i ps x ≡ member_some ls ts x
    some-start (one t) i = start t i
    some-start (more t ts) i = cc (start t i, some-start ts (i + size t))

    all_start : (ts : Members) (i : ℕ) → residual_all ls ts i ps x ≡ member_all ls ts x
    all_start (one t) i = start t i
    all_start (more t ts) i = cc (start t i, all_start ts (i + size t))

-- a call's number is a number
abbrev pub Small : Call → Type 0
Small next = Unit {0}
Small (at_or_past d) = d < top
Small (past d) = d < top
Small (check d) = d < top
Small other = Unit {0}

abbrev pub AllSmall : List Call → Type 0
AllSmall [] = Unit {0}
AllSmall (c ∷ cs) = Small c × AllSmall cs

module _ (ls : List (List ℕ)) (up : (k : ℕ) → Up 0 (get_or ls k [])) (t : Tree) where
  -- the denoted set
  abbrev set : List ℕ
  set = members ls t

  -- between two calls
  record Ok (s : State) : Type 0 where
    fits : size t ≤ length s.readers.places
    low : s.floor ≤ top
    agrees : (x : ℕ) → s.floor ≤ x → residual ls t 0 s.readers.places x ≡ among x set

  -- one call: the machine's reply and floor
  record Joined (a : Reply × State) (b : Reply × ℕ) : Type 0 where
    same : a.0 ≡ b.0
    floors : a.1.floor ≡ b.1
    ok : Ok a.1

  sought_ok : (s : State) → Ok s → (e : ℕ) (rs : Readers) (f : ℕ) → s.floor ≤ e → e ≤ f → f ≤ top → After 0 (0 + size t) (residual ls t 0) e s.readers.places rs.places → Ok (record { floor = f; readers = rs })
  sought_ok s o e rs f fe ef ft a = record {
    fits = omega (arith, o.fits, a.kept.long);
    low = ft;
    agrees = λ x h. a.kept.above x (omega arith) ∙ o.agrees x (omega arith);
  }

  drawn_joined : (s : State) → Ok s → (e : ℕ) → s.floor ≤ e → e ≤ top → (r : Found) → Sought 0 (0 + size t) (residual ls t 0) e s.readers.places r → Joined (drawn r) (draw set e)
  unfolding drawn
  drawn_joined s o e fe et (end rs) q =
      rw (draw-none set e (λ x h. sym (o.agrees x (omega arith)) ∙ q.1 x h))
      (record { same = refl; floors = refl; ok = sought_ok s o e rs top fe et (omega arith) q.0 })
  drawn_joined s o e fe et (at a rs) q =
      rw (draw-some 0 set (members_up ls up t) e a (record {
        above = q.1.from;
        is = sym (o.agrees a (omega (arith, q.1.from))) ∙ q.1.is;
        gap = λ x h h'. sym (o.agrees x (omega arith)) ∙ q.1.gap x h h';
      }))
      (record { same = refl; floors = refl; ok = sought_ok s o e rs (suc a) fe (omega (arith, q.1.from)) (omega (arith, q.1.small)) q.0 })

  seek_joined : (s : State) → Ok s → (e : ℕ) → s.floor ≤ e → e ≤ top → Joined (drawn (seek ls t 0 e s.readers)) (draw set e)
  seek_joined s o e fe et = drawn_joined s o e fe et (seek ls t 0 e s.readers) (seek_is ls up t 0 e s.readers et (omega (arith, o.fits)))

  told_joined : (s : State) → Ok s → (d : ℕ) → d < top → s.floor ≤ d → (r : Checked) → Told (λ b. b) 0 (0 + size t) (residual ls t 0) d s.readers.places r
      → Joined (told d r) (cond (leb s.floor d && among d set) Yes No, max s.floor d)
  unfolding told
  told_joined s o d dt fd (says b rs) q =
      let is : leb s.floor d && among d set ≡ b = cc (le-leb s.floor d fd, q.1, o.agrees d fd) in
      record {
        same = rw is;
        floors = omega arith;
        ok = record { fits = omega (arith, o.fits, q.0.long); low = omega arith; agrees = λ x h. q.0.above x h ∙ o.agrees x (omega arith) };
      }

  step_joined : (s : State) → Ok s → (c : Call) → Small c → Joined (step ls t s c) (reply set s.floor c)
  unfolding step_by reply
  step_joined s o next h = seek_joined s o s.floor (omega arith) o.low
  step_joined s o (at_or_past d) h = seek_joined s o (max s.floor d) (omega arith) (omega (arith, o.low))
  step_joined s o (past d) h = seek_joined s o (max s.floor (suc d)) (omega arith) (omega (arith, o.low))
  step_joined s o (check d) h = go (ltb d s.floor) refl
    where
      go : (b : Bool) → ltb d s.floor ≡ b
          → Joined (elim b [ true ↦ (No, s) | false ↦ told d (check_node ls t 0 d s.readers) ]) (cond (leb s.floor d && among d set) Yes No, max s.floor d)
      go true q = record { same = rw (lt-leb s.floor d (ltb-true d s.floor q)); floors = omega (arith, ltb-true d s.floor q); ok = o }
      go false q = told_joined s o d h (ltb-false d s.floor q) (check_node ls t 0 d s.readers) (check_is ls up t 0 d s.readers (omega arith) (omega (arith, o.fits)))
  step_joined s o other h = record { same = refl; floors = refl; ok = o }

  record AllJoined (a : List Reply × State) (b : List Reply × ℕ) : Type 0 where
    same : a.0 ≡ b.0
    floors : a.1.floor ≡ b.1
    ok : Ok a.1

  joined_cons : (a : Reply × State) (b : Reply × ℕ) → Joined a b → (cs : List Call)
      → AllJoined (steps ls t a.1 cs) (machine set a.1.floor cs)
      → AllJoined (a.0 ∷ (steps ls t a.1 cs).0, (steps ls t a.1 cs).1) (b.0 ∷ (machine set b.1 cs).0, (machine set b.1 cs).1)
  joined_cons a b j cs r = record { same = cc (j.same, j.floors, r.same); floors = cc (j.floors, r.floors); ok = r.ok }

  all_joined : (cs : List Call) → AllSmall cs → (s : State) → Ok s → AllJoined (steps ls t s cs) (machine set s.floor cs)
  unfolding steps_by machine
  all_joined [] h s o = record { same = refl; floors = refl; ok = o }
  all_joined (c ∷ cs) h s o =
      let j = step_joined s o c h.0 in
      joined_cons (step ls t s c) (reply set s.floor c) j cs (all_joined cs h.1 (step ls t s c).1 j.ok)

  from_begin : (b : Start) → Low b → size t ≤ 48 → (cs : List Call) → AllSmall cs → AllJoined (steps ls t (begin b) cs) (machine set b.bookmark cs)
  unfolding begin
  from_begin b bt st cs h = all_joined cs h (begin b) (record { fits = st; low = bt; agrees = λ x q. start ls untouched none_moved x t 0 ∙ sym (members_are ls t x) })

  -- the join: a run's replies and bookmark are the plain machine's
  pub join : (b : Start) → Low b → size t ≤ 48 → (cs : List Call) → AllSmall cs → ((run ls t b cs).replies, (run ls t b cs).last.bookmark) ≡ machine set b.bookmark cs
  unfolding run_by
  join b bt st cs h = let r = from_begin b bt st cs h in λ k. (r.same k, r.floors k)

  -- and where it ends a run can begin again
  pub last_low : (b : Start) → Low b → size t ≤ 48 → (cs : List Call) → AllSmall cs → Low (run ls t b cs).last
  unfolding run_by
  last_low b bt st cs h = (from_begin b bt st cs h).ok.low

-- a check by readers at the start says whether the number is a member
pub first_check : (ls : List (List ℕ)) → ((k : ℕ) → Up 0 (get_or ls k [])) → (t : Tree) → size t ≤ 48 → (d : ℕ) → d < top → (b : Bool) (rs : Readers) (moves : ℕ)
    → says b rs ≡ check_node ls t 0 d (record { places = untouched; moves = moves }) → b ≡ member ls t d
first_check ls up t st d dt b rs moves e =
    (rw (sym e) at (check_is ls up t 0 d (record { places = untouched; moves = moves }) (omega arith) (omega arith))).1 ∙ start ls untouched none_moved d t 0

-- ---- between two calls, for what draws a next at a time

-- a state that a run over ascending lists comes to
pub record Between (ls : List (List ℕ)) (t : Tree) (s : State) : Type 0 where
  pub up : (k : ℕ) → Up 0 (get_or ls k [])
  ok : Ok ls up t s

pub begins : (ls : List (List ℕ)) → ((k : ℕ) → Up 0 (get_or ls k [])) → (t : Tree) (b : Start) → Low b → size t ≤ 48 → Between ls t (begin b)
unfolding steps_by
begins ls up t b bt st = record { up = up; ok = (from_begin ls up t b bt st [] tt).ok }

-- a next, where ms are the members at or above the floor: the first of them, and the others are left
pub record NextDrawn (ls : List (List ℕ)) (t : Tree) (ms : List ℕ) (p : Reply × State) : Type 0 where
  pub says : p.0 ≡ (first_of ms).0
  pub floor : p.1.floor ≡ (first_of ms).1
  pub left : members_from ls t p.1.floor ≡ drop 1 ms
  pub between : Between ls t p.1

module _ (ls : List (List ℕ)) (t : Tree) (s : State) (b : Between ls t s) where
  pub floor-low : s.floor ≤ top
  floor-low = b.ok.low

  pub draws_next : NextDrawn ls t (members_from ls t s.floor) (step ls t s next)
  unfolding reply
  draws_next =
      let j = step_joined ls b.up t s b.ok next tt in
      let first = draw-first (members ls t) s.floor in
      record {
        says = j.same ∙ ap (λ (r : Reply × ℕ). r.0) first;
        floor = j.floors ∙ ap (λ (r : Reply × ℕ). r.1) first;
        left = ap (members_from ls t) j.floors ∙ draw-rest 0 (members ls t) (members_up ls b.up t) s.floor b.ok.low;
        between = record { up = b.up; ok = j.ok };
      }
