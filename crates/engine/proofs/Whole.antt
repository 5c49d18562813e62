-- A run whole: its tests one after another, each refusal by its own number. Number 0 is acceptance, since a refusal's number is
-- never 0. Assumes nothing.
use mathlib.Core.Path.{◌≡◌}
use mathlib.Core.List.{List}
use Prim.Native.Nat.{ℕ, ◌≤◌, ◌<◌}
use lib.ListN.{length, length-map}
use borrow.Author.Tests.{le-leb, lt-leb, eq-eqb, ne_eqb}
use Rattle.model.specs.Outcome.{refused, accepted, number_of, Sent, over, sent}
use Rattle.model.specs.Lists.{top, Lent, lists_of}
use Rattle.model.specs.Expression.{Tree}
use Rattle.model.specs.Forms.{read_packed}
use Rattle.model.specs.Machine.{calls, encode}
use Rattle.model.specs.Run.{Start, Low, run, named_in, source_of, run_of}
use Rattle.model.specs.Calls.{ran, ran_refused, run_call}
use Rattle.model.specs.Demands.{ran_all}
use Rattle.model.proofs.Accepted.{lists_accepted}
use Rattle.lists.proofs.Spans.{counts, passed}

-- of accepted lists there are at most 32
pub lists-few : (l : Lent) → number_of (lists_of l) ≡ 0 → length l.ends ≤ 32
lists-few l h = (counts (length l.ends) (lists_accepted l _ (passed l h)).count).1

-- ---- the tests, in the definition's order

module _ (l : Lent) (packed : List ℕ) (start : Start) (codes ds lent : List ℕ) where
  abbrev back : Sent
  back = run_call l packed start codes ds lent

  pub refuses-lists : (n : ℕ) → lists_of l ≡ refused n → ran (ran_refused n) lent ≡ back
  unfolding run_call run_of source_of sent
  refuses-lists n e = rw e

  module _ (ls : List (List ℕ)) (e : lists_of l ≡ accepted ls) where
    pub refuses-expression : (n : ℕ) → read_packed (named_in l) packed ≡ refused n → ran (ran_refused n) lent ≡ back
    unfolding run_call run_of source_of sent
    refuses-expression n f = rw (e, f)

    module _ (t : Tree) (f : read_packed (named_in l) packed ≡ accepted t) where
      pub refuses-bookmark : top < start.bookmark → ran (ran_refused 12) lent ≡ back
      unfolding run_call run_of source_of sent
      refuses-bookmark h = rw (e, f, lt-leb start.bookmark top h)

      module _ (low : Low start) where
        pub refuses_unpaired : (length codes ≡ length ds → ⊥) → ran (ran_refused 13) lent ≡ back
        unfolding run_call run_of source_of sent
        refuses_unpaired h = rw (e, f, le-leb start.bookmark top low, ne_eqb (length codes) (length ds) h)

        module _ (paired : length codes ≡ length ds) where
          pub refuses-short : length lent < length codes → ran (ran_refused 13) lent ≡ back
          unfolding run_call run_of source_of sent
          refuses-short h = rw (e, f, le-leb start.bookmark top low, eq-eqb (length codes) (length ds) paired, lt-leb (length codes) (length lent) h)

          pub accepts : length codes ≤ length lent → ran_all (run ls t start (calls codes ds)) lent ≡ back
          unfolding run_call run_of source_of sent over
          accepts h =
              rw (e, f, le-leb start.bookmark top low, eq-eqb (length codes) (length ds) paired, le-leb (length codes) (length lent) h, length-map (run ls t start (calls codes ds)).replies encode)
