-- Over lists that hold at least what others hold, an expression without a difference is accepted as over those, runs as over those, and
-- denotes at least what it denotes there. Assumes nothing.
use mathlib.Core.Path.{◌≡◌, refl, ap, ap₂, ◌∙◌}
use mathlib.Core.Bool.{Bool, true, false, ◌&&◌, ◌||◌}
use mathlib.Core.List.{List, [], ◌∷◌, map}
use Prim.Native.Nat.{ℕ, ◌<◌}
use lib.Dec.{leb, eqb}
use lib.ListN.{length, get_or}
use Rattle.model.specs.Outcome.{Outcome, accepted, ◌>>=◌, ◌>>◌, require, Success, sent}
use Rattle.model.specs.Lists.{top, delivered, Lent, lists_of, part_of}
use Rattle.model.specs.Expression.{Tree, leaf, difference, union, intersection, Members, one, more}
use Rattle.model.specs.Sets.{among, member, member_some, member_all}
use Rattle.model.specs.Machine.{calls, encode}
use Rattle.model.specs.Run.{Start, Result, run, Source, named_in, source_of, run_of}
use Rattle.model.specs.Forms.{LeafTest, read_packed}
use Rattle.model.specs.Calls.{run_parts, run_size, run_call}
use Rattle.model.specs.Demands.{Named, NamedAll}
use Rattle.model.specs.RequestSix.{no_difference, no_differences, NothingLost}
use Rattle.model.proofs.Order.{or_right, or_true, and_true, not_both}
use Rattle.model.proofs.Accepted.{there-is, there-came, is_there, packed_reads}
use Rattle.model.proofs.DemandThree.{source-accepted}
use Rattle.supplied.proofs.Judged.{judge, judge_all, packed_judged}
use Rattle.joins.proofs.Reading.{part-all}

-- ---- what one leaf's test accepts another does too
module _ (test other : LeafTest) (wider : (k : ℕ) → test k ≡ accepted tt → other k ≡ accepted tt) where
  mutual
    judged : (t : Tree) → Named test t → judge other t ≡ accepted tt
    judged (leaf k) n = wider k n
    judged (difference s t) n = ap₂ (λ (o p : Outcome (Unit {0})). o >> p) (judged s n.0) (judged t n.1)
    judged (union ts) n = judged_all ts n.0
    judged (intersection ts) n = judged_all ts n.0

    judged_all : (ts : Members) → NamedAll test ts → judge_all other ts ≡ accepted tt
    judged_all (one t) n = judged t n
    judged_all (more t ts) n = ap₂ (λ (o p : Outcome (Unit {0})). o >> p) (judged t n.0) (judged_all ts n.1)

  reads_too : (expression : List ℕ) (t : Tree) → read_packed test expression ≡ accepted t → read_packed other expression ≡ accepted t
  reads_too expression t e =
      packed_judged test other expression t e ∙ ap (λ (o : Outcome (Unit {0})). o >> accepted t) (judged t (packed_reads test expression t e).named)

-- ---- the denoted set only grows
module _ (ls ms : List (List ℕ)) (x : ℕ) (held : (k : ℕ) → among x (get_or ls k []) ≡ true → among x (get_or ms k []) ≡ true) where
  mutual
    unfolding member no_difference

    grows : (t : Tree) → no_difference t ≡ true → member ls t x ≡ true → member ms t x ≡ true
    grows (leaf k) h m = held k m
    grows (difference s t) h m = absurd (not_both h refl)
    grows (union ts) h m = grows_some ts h m
    grows (intersection ts) h m = grows_all ts h m

    grows_some : (ts : Members) → no_differences ts ≡ true → member_some ls ts x ≡ true → member_some ms ts x ≡ true
    grows_some (one t) h m = grows t h m
    grows_some (more t ts) h m =
        let n = and_true (no_difference t) (no_differences ts) h in
        or_true (member ls t x) (member_some ls ts x) (λ q. ap (λ (b : Bool). b || member_some ms ts x) (grows t n.0 q)) (λ q. or_right (member ms t x) (member_some ms ts x) (grows_some ts n.1 q)) m

    grows_all : (ts : Members) → no_differences ts ≡ true → member_all ls ts x ≡ true → member_all ms ts x ≡ true
    grows_all (one t) h m = grows t h m
    grows_all (more t ts) h m =
        let n = and_true (no_difference t) (no_differences ts) h in
        let q = and_true (member ls t x) (member_all ls ts x) m in
        ap₂ (λ (a b : Bool). a && b) (grows t n.0 q.0) (grows_all ts n.1 q.1)

-- ---- a run's number does not depend on what the lists hold
run-number : (i j : Lent) (expression : List ℕ) (s t : Source) → source_of i expression ≡ accepted s → source_of j expression ≡ accepted t
    → (start : Start) (codes ds lent : List ℕ) → (run_call i expression start codes ds lent).number ≡ (run_call j expression start codes ds lent).number
unfolding run_call run_of sent
run-number i j expression s t p q start codes ds lent =
    rw (p, q) (go (leb start.bookmark top) (eqb (length codes) (length ds) && leb (length codes) (length lent)) (run s.lists s.tree start (calls codes ds)) (run t.lists t.tree start (calls codes ds)))
  where
    made : Result → Outcome Success
    made r = accepted (record { parts = run_parts r.moves r.places r.last; written = map encode r.replies ∷ [] })

    go : (a b : Bool) (r r' : Result) → (sent run_size (lent ∷ []) ((require 12 a >> (require 13 b >> accepted r)) >>= made)).number ≡ (sent run_size (lent ∷ []) ((require 12 a >> (require 13 b >> accepted r')) >>= made)).number
    go true true r r' = refl
    go true false r r' = refl
    go false b r r' = refl

-- lists and words of which the second say and hold at least what the first do
pub at_least : (i j : Lent) (ls ms : List (List ℕ)) → lists_of i ≡ accepted ls → lists_of j ≡ accepted ms → length i.ends ≡ length j.ends
    → ((k : ℕ) → k < length j.ends → delivered i.word k ≡ true → delivered j.word k ≡ true) → ((x k : ℕ) → among x (part_of i k) ≡ true → among x (part_of j k) ≡ true) → NothingLost i j
unfolding source_of
at_least i j ls ms p q many said held expression s is h =
    let a = source-accepted i expression s is in
    let wider : (k : ℕ) → named_in i k ≡ accepted tt → named_in j k ≡ accepted tt = λ k e.
    let lt : k < length j.ends = rw many at (there-is (length i.ends) i.word k e) in
    is_there (length j.ends) j.word k lt (said k lt (there-came (length i.ends) i.word k e)) in
    let source : source_of j expression ≡ accepted (record { lists = ms; tree = s.tree }) = rw (q, reads_too (named_in i) (named_in j) wider expression s.tree a.1) refl in
    record {
      lists = ms;
      accepts = source;
      runs = λ start codes ds lent z. rw (run-number i j expression s (record { lists = ms; tree = s.tree }) is source start codes ds lent) at z;
      members = λ x m. grows s.lists ms x (λ k e. rw (part-all j ms q k) at (held x k (rw (part-all i s.lists a.0 k) e))) s.tree h m;
    }
