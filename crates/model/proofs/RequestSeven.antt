-- Request Seven, proved: both machines are over sets that agree, so they reply alike. Assumes nothing but that the elements of the rows of
-- numbers are numbers, which their type says.
use mathlib.Core.Path.{◌≡◌, refl, sym, ap, ◌∙◌}
use mathlib.Core.Bool.{Bool, true, false, ◌&&◌}
use mathlib.Core.List.{List, [], ◌∷◌, ◌++◌, map}
use Prim.Native.Nat.{ℕ, ◌≤◌}
use native.Mathlib.Omega.{arith}
use lib.Dec.{leb, eqb}
use borrow.Author.Tests.{leb-true, eqb-true}
use lib.ListN.{length, get_or, drop}
use lib.Seq.{get_or-append-add}
use Rattle.model.specs.declared.Reply.{Reply}
use Rattle.model.specs.Outcome.{accepted}
use Rattle.model.specs.Lists.{top, Numbers, Lent}
use Rattle.model.specs.Sets.{members}
use Rattle.model.specs.Machine.{calls, machine, encode}
use Rattle.model.specs.Run.{Start, Low, Result, Source, source_of, run_of}
use Rattle.model.specs.Calls.{run_call}
use Rattle.model.specs.Demands.{ran_all, SoundRun, DemandThree}
use Rattle.model.specs.Regrouped.{Regrouped}
use Rattle.model.specs.RequestSeven.{last_bookmark, RepliedAlike, RequestSeven}
use Rattle.model.proofs.Order.{and_true}
use Rattle.model.proofs.Denoted.{members_up, members_are}
use Rattle.model.proofs.Plain.{agree}
use Rattle.model.proofs.Accepted.{accepted-same}
use Rattle.model.proofs.DemandThree.{source-accepted, up, demand_three}
use Rattle.model.proofs.Regroupings.{one_set}

-- the part behind the moves and the 48 places is the last bookmark
last-part : (r : Result) (lent : List ℕ) → length r.places ≡ 48 → last_bookmark (ran_all r lent) ≡ r.last.bookmark
last-part r lent e = ap (λ (n : ℕ). get_or (r.places ++ (r.last.bookmark ∷ [])) n 0) (omega (arith, e)) ∙ get_or-append-add r.places (r.last.bookmark ∷ []) 0 0

module _ (l : Lent) (expression regrouping : List ℕ) (n : Numbers l.numbers) (s r : Source) (is : source_of l expression ≡ accepted s) (is' : source_of l regrouping ≡ accepted r)
    (regrouped : Regrouped s.tree r.tree) (start : Start) where
  -- both are over the same lists
  one-row : s.lists ≡ r.lists
  one-row = accepted-same (sym (source-accepted l expression s is).0 ∙ (source-accepted l regrouping r is').0)

  -- so both rows of members hold the same
  alike : Low start → (codes ds : List ℕ) → machine (members s.lists s.tree) start.bookmark (calls codes ds) ≡ machine (members r.lists r.tree) start.bookmark (calls codes ds)
  alike low codes ds = agree (members s.lists s.tree) (members r.lists r.tree)
      (members_up s.lists (up l expression n s is) s.tree) (members_up r.lists (up l regrouping n r is') r.tree) start.bookmark low
      (λ x h. members_are s.lists s.tree x ∙ one_set s.lists x regrouped ∙ rw one-row (sym (members_are r.lists r.tree x)))
      (calls codes ds)

  -- an accepted run of each: demand 3 says what both send back
  accepted_alike : Low start → (codes ds lent : List ℕ) → Numbers ds → length codes ≡ length ds → length codes ≤ length lent
      → RepliedAlike (run_call l expression start codes ds lent) (run_call l regrouping start codes ds lent)
  accepted_alike low codes ds lent nd paired fits = rw (a.sends, b.sends) (record {
    number = refl;
    replies = ap (λ (p : List Reply × ℕ). (map encode p.0 ++ drop (length p.0) lent) ∷ []) same;
    last = last-part d.result lent a.places ∙ ap (λ (p : List Reply × ℕ). p.1) same ∙ sym (last-part d'.result lent b.places);
  })
    where
      d : DemandThree l expression s start codes ds
      d = demand_three l expression n s is start low codes ds nd paired

      d' : DemandThree l regrouping r start codes ds
      d' = demand_three l regrouping n r is' start low codes ds nd paired

      a : SoundRun l expression s start codes ds lent d.result
      a = d.ran lent fits

      b : SoundRun l regrouping r start codes ds lent d'.result
      b = d'.ran lent fits

      same : ◌≡◌ {A = List Reply × ℕ} (d.result.replies, d.result.last.bookmark) (d'.result.replies, d'.result.last.bookmark)
      same = d.plain ∙ alike low codes ds ∙ sym d'.plain

  -- neither 12 nor 13 knows of the expression
  replied_alike : (codes ds lent : List ℕ) → Numbers ds → RepliedAlike (run_call l expression start codes ds lent) (run_call l regrouping start codes ds lent)
  unfolding run_call run_of
  replied_alike codes ds lent nd = go (leb start.bookmark top) refl (eqb (length codes) (length ds) && leb (length codes) (length lent)) refl
    where
      go : (b : Bool) → leb start.bookmark top ≡ b → (c : Bool) → eqb (length codes) (length ds) && leb (length codes) (length lent) ≡ c
          → RepliedAlike (run_call l expression start codes ds lent) (run_call l regrouping start codes ds lent)
      go true e true f =
          let g = and_true (eqb (length codes) (length ds)) (leb (length codes) (length lent)) f in
          accepted_alike (leb-true start.bookmark top e) codes ds lent nd (eqb-true (length codes) (length ds) g.0) (leb-true (length codes) (length lent) g.1)
      go true e false f = rw (is, is', e, f) (record { number = refl; replies = refl; last = refl })
      go false e c f = rw (is, is', e) (record { number = refl; replies = refl; last = refl })

pub request_seven : RequestSeven
request_seven = record {
  replied_alike = replied_alike;
  one_set = λ s r regrouped ls x. one_set ls x regrouped;
}
