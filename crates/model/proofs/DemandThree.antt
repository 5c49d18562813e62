-- Demand 3, proved: the join, the plain machine's two laws and the bounds, gathered for one list of calls.
-- Assumes nothing but that the elements of the rows of numbers are numbers, which their type says.
use mathlib.Core.Path.{◌≡◌, refl, sym, ap, ◌∙◌}
use mathlib.Core.Bool.{◌&&◌}
use mathlib.Core.List.{List, [], ◌∷◌, ◌++◌, map}
use Prim.Native.Nat.{ℕ, zero, suc, ◌≤◌, ◌<◌}
use native.Mathlib.Omega.{arith}
use lib.Dec.{leb, eqb}
use borrow.Author.Tests.{leb-true, eqb-true, le-leb, eq-eqb}
use lib.ListN.{get_or, length, take, drop, replicate, length-take, length-drop, length-map, length-replicate}
use Rattle.model.specs.declared.Reply.{Reply}
use Rattle.model.specs.Outcome.{accepted, sent, over}
use Rattle.model.specs.Lists.{top, Numbers, Lent, lists_of}
use Rattle.model.specs.Expression.{size}
use Rattle.model.specs.Sets.{members}
use Rattle.model.specs.Machine.{Call, next, call, calls, machine, encode}
use Rattle.model.specs.Run.{Start, starting, Low, Result, run, begin, steps, Source, named_in, source_of, run_of, run_by}
use Rattle.model.specs.Forms.{read_packed}
use Rattle.model.specs.Calls.{run_call}
use Rattle.model.specs.Demands.{lengths, ran_all, SoundRun, Drawn, Broken, DemandThree, ThirdDemand, ThirdDemandMet}
use Rattle.model.proofs.Order.{and_true, Up}
use Rattle.model.proofs.Denoted.{up-ascending, members_up, members_from, members_from_up, members_from_are}
use Rattle.model.proofs.Plain.{machine_append, draws}
use Rattle.model.proofs.Join.{Small, AllSmall, join, last_low}
use Rattle.model.proofs.Places.{sum-le, counted_run}
use Rattle.model.proofs.Accepted.{bound, required, accepted_up, packed_reads}

-- ---- calls

small_call : (code d : ℕ) → d < top → Small (call code d)
unfolding call
small_call zero d h = tt
small_call (suc zero) d h = h
small_call (suc (suc zero)) d h = h
small_call (suc (suc (suc zero))) d h = h
small_call (suc (suc (suc (suc code)))) d h = tt

pub small_calls : (codes ds : List ℕ) → Numbers ds → AllSmall (calls codes ds)
unfolding calls
small_calls [] ds h = tt
small_calls (c ∷ cs) [] h = tt
small_calls (c ∷ cs) (d ∷ ds) h = (small_call c d (h 0), small_calls cs ds (λ i. h (suc i)))

small_append : (cs ds : List Call) → AllSmall (cs ++ ds) → AllSmall cs × AllSmall ds
small_append [] ds h = (tt, h)
small_append (c ∷ cs) ds h = let a = small_append cs ds h.1 in ((h.0, a.0), a.1)

pub small_nexts : (n : ℕ) → AllSmall (replicate n next)
small_nexts zero = tt
small_nexts (suc n) = (tt, small_nexts n)

calls-split : (k : ℕ) (codes ds : List ℕ) → calls codes ds ≡ calls (take k codes) (take k ds) ++ calls (drop k codes) (drop k ds)
unfolding calls
calls-split zero codes ds = refl
calls-split (suc k) [] ds = refl
calls-split (suc k) (c ∷ cs) [] = sym (none (drop k cs))
  where
    none : (cs : List ℕ) → calls cs [] ≡ []
    none [] = refl
    none (c ∷ cs) = refl
calls-split (suc k) (c ∷ cs) (d ∷ ds) = ap (λ (r : List Call). call c d ∷ r) (calls-split k cs ds)

pub next-calls : (n : ℕ) (ds : List ℕ) → length ds ≡ n → calls (replicate n 0) ds ≡ replicate n next
unfolding calls call
next-calls zero ds h = refl
next-calls (suc n) [] h = absurd (omega arith)
next-calls (suc n) (d ∷ ds) h = ap (λ (r : List Call). next ∷ r) (next-calls n ds (omega arith))

-- ---- a run and its tests

-- what an accepted run has passed: just the hypotheses of demand 3
pub record AcceptedRun (l : Lent) (expression : List ℕ) (start : Start) (codes ds : List ℕ) (room : ℕ) (r : Result) : Type 0 where
  pub source : Source
  pub is-source : source_of l expression ≡ accepted source
  pub low : Low start
  pub paired : length codes ≡ length ds
  pub fits : length codes ≤ room
  pub are : run source.lists source.tree start (calls codes ds) ≡ r

pub run_accepted : (l : Lent) (expression : List ℕ) (start : Start) (codes ds : List ℕ) (room : ℕ) (r : Result)
    → run_of l expression start codes ds room ≡ accepted r → AcceptedRun l expression start codes ds room r
unfolding run_of
run_accepted l expression start codes ds room r e =
    let a = bound (source_of l expression) _ r e in
    let b = required 12 (leb start.bookmark top) _ r a.rest in
    let c = required 13 (eqb (length codes) (length ds) && leb (length codes) room) _ r b.1 in
    let d = and_true (eqb (length codes) (length ds)) (leb (length codes) room) c.0 in
    record {
      source = a.got;
      is-source = a.first;
      low = leb-true start.bookmark top b.0;
      paired = eqb-true (length codes) (length ds) d.0;
      fits = leb-true (length codes) room d.1;
      are = cc c.1;
    }

-- the call that makes an accepted run sends back its result
pub run-sends : (l : Lent) (expression : List ℕ) (start : Start) (codes ds lent : List ℕ) (r : Result)
    → run_of l expression start codes ds (length lent) ≡ accepted r → run_call l expression start codes ds lent ≡ ran_all r lent
unfolding run_call sent over
run-sends l expression start codes ds lent r e = rw (e, length-map r.replies encode)

pub source-accepted : (l : Lent) (expression : List ℕ) (s : Source) → source_of l expression ≡ accepted s
    → (lists_of l ≡ accepted s.lists) × (read_packed (named_in l) expression ≡ accepted s.tree)
unfolding source_of
source-accepted l expression s e =
    let a = bound (lists_of l) _ s e in
    let b = bound (read_packed (named_in l) expression) _ s a.rest in
    let q : record { lists = a.got; tree = b.got } ≡ s = cc b.rest in
    (rw (← q) a.first, rw (← q) b.first)

-- ---- over one source
module _ (l : Lent) (expression : List ℕ) (n : Numbers l.numbers) (s : Source) (is : source_of l expression ≡ accepted s) where
  pub up : (k : ℕ) → Up 0 (get_or s.lists k [])
  up = accepted_up l s.lists n (source-accepted l expression s is).0

  pub small : size s.tree ≤ 48
  small = (packed_reads (named_in l) expression s.tree (source-accepted l expression s is).1).nodes

  -- nothing but 12 and 13 can refuse a run over it
  accepts : (start : Start) (codes ds : List ℕ) (room : ℕ) → Low start → length codes ≡ length ds → length codes ≤ room
      → run_of l expression start codes ds room ≡ accepted (run s.lists s.tree start (calls codes ds))
  unfolding run_of
  accepts start codes ds room h₁ h₂ h₃ = rw (is, le-leb start.bookmark top h₁, eq-eqb (length codes) (length ds) h₂, le-leb (length codes) room h₃)

  pub ran : (start : Start) (codes ds lent : List ℕ) → Low start → length codes ≡ length ds → length codes ≤ length lent
      → SoundRun l expression s start codes ds lent (run s.lists s.tree start (calls codes ds))
  unfolding run_by
  ran start codes ds lent h₁ h₂ h₃ =
      let a = accepts start codes ds (length lent) h₁ h₂ h₃ in
      let c = counted_run s.lists s.tree small start (calls codes ds) in
      record {
        accepts = a;
        sends = run-sends l expression start codes ds lent _ a;
        by_the_steps = refl;
        bounded = omega (arith, c.covered, sum-le (steps s.lists s.tree (begin start) (calls codes ds)).1.readers.places (lengths (map length s.lists) s.tree) c.within);
        summed = c.covered;
        places = c.long;
        inside = c.within;
      }

  -- the next calls from a bookmark
  unfoldable pub drawn : (start : Start) → Low start → Drawn l expression s start
  drawn start h = record {
    members = ms;
    ascend = up-ascending start.bookmark ms (members_from_up s.lists up s.tree start.bookmark);
    every = members_from_are s.lists up s.tree start.bookmark;
    result = λ k. run s.lists s.tree start (replicate k next);
    ran = λ k ds e lent f. rw (next-calls k ds e) at (ran start (replicate k 0) ds lent h (length-replicate k 0 ∙ sym e) (omega (arith, length-replicate k zero)));
    replies = λ k. ap (λ p. p.0) (join s.lists up s.tree start h small (replicate k next) (small_nexts k)) ∙ draws (members s.lists s.tree) (members_up s.lists up s.tree) start.bookmark h k;
  }
    where
      ms : List ℕ
      ms = members_from s.lists s.tree start.bookmark

  module _ (start : Start) (low : Low start) (codes ds : List ℕ) (paired : length codes ≡ length ds) (nd : Numbers ds) where
    all_of_them : AllSmall (calls codes ds)
    all_of_them = small_calls codes ds nd

    broken : (k : ℕ) → Broken l expression s start codes ds (run s.lists s.tree start (calls codes ds)) k
    broken k =
        record {
          first = one;
          first_ran = λ lent h. ran start (take k codes) (take k ds) lent low (omega (arith, length-take k codes, length-take k ds)) h;
          second = two;
          second_ran = λ lent h. ran one.last (drop k codes) (drop k ds) lent one_low (omega (arith, length-drop k codes, length-drop k ds)) h;
          replies = ap (λ p. p.0) whole;
          last = ap (λ p. starting p.1) whole;
        }
      where
        cs₁ : List Call
        cs₁ = calls (take k codes) (take k ds)

        cs₂ : List Call
        cs₂ = calls (drop k codes) (drop k ds)

        parts : AllSmall cs₁ × AllSmall cs₂
        parts = small_append cs₁ cs₂ (rw (← calls-split k codes ds) all_of_them)

        one : Result
        one = run s.lists s.tree start cs₁

        one_low : Low one.last
        one_low = last_low s.lists up s.tree start low small cs₁ parts.0

        two : Result
        two = run s.lists s.tree one.last cs₂

        whole : ◌≡◌ {A = List Reply × ℕ} ((run s.lists s.tree start (calls codes ds)).replies, (run s.lists s.tree start (calls codes ds)).last.bookmark) (one.replies ++ two.replies, two.last.bookmark)
        whole =
            join s.lists up s.tree start low small (calls codes ds) all_of_them
            ∙ ap (machine (members s.lists s.tree) start.bookmark) (calls-split k codes ds)
            ∙ machine_append (members s.lists s.tree) cs₁ cs₂ start.bookmark
            ∙ rw (← join s.lists up s.tree start low small cs₁ parts.0, ← join s.lists up s.tree one.last one_low small cs₂ parts.1)

    gathered : DemandThree l expression s start codes ds
    gathered = record {
      result = run s.lists s.tree start (calls codes ds);
      ran = λ lent h. ran start codes ds lent low paired h;
      plain = join s.lists up s.tree start low small (calls codes ds) all_of_them;
      drawn = drawn (run s.lists s.tree start (calls codes ds)).last (last_low s.lists up s.tree start low small (calls codes ds) all_of_them);
      broken = broken;
    }

-- demand 3
pub demand_three : ThirdDemand
demand_three l expression n s is start low codes ds nd paired = gathered l expression n s is start low codes ds paired nd

-- and of one call
pub third : (l : Lent) (expression : List ℕ) (start : Start) (codes ds lent : List ℕ) → Numbers l.numbers → Numbers ds
    → ThirdDemandMet l expression start codes ds lent (run_call l expression start codes ds lent)
third l expression start codes ds lent n nd s is low paired fits =
    let d = demand_three l expression n s is start low codes ds nd paired in
    record { demand = d; is_result = (d.ran lent fits).sends }
