-- `decode::read_delivery` meets its contract: test by test, in the order of `Delivery.read_delivery`; the rows are written only
-- once all of it is known to read. Assumes nothing.
use mathlib.Core.Path.{◌≡◌, sym, ap, ap₂, ◌∙◌, subst}
use mathlib.Core.Bool.{true, false}
use mathlib.Core.List.{List, map}
use mathlib.Core.Option.{some}
use Prim.Native.Nat.{ℕ, ◌-◌, ◌*◌, ◌^◌, ◌≤◌, ◌<◌}
use native.Mathlib.Omega.{arith}
use lib.ListN.{length, length-map, drop}
use Rattle.std.proofs.Common.{Result, Ok, Err}
use Rattle.std.specs.Result.{IsErrAnd}
use Rattle.model.specs.Outcome.{Outcome, accepted, ◌>>=◌, ◌>>◌, require}
use Rattle.model.specs.declared.DecodeResult.{DecodeResult}
use Rattle.model.specs.Lists.{count_holds}
use Rattle.model.specs.Fields.{value, bits, only_fill}
use Rattle.model.specs.Sets.{all_numbers}
use Rattle.model.specs.Delivery.{Supplied, supplied_numbers, is_delivered, by_bit, read_delivery, word_of}
use Rattle.model.specs.Calls.{decoded_refused, decoded}
use Rattle.model.proofs.Accepted.{value-lt}
use Rattle.lists.proofs.Spans.{counts}
use Rattle.refusals.specs.declared.Refusal.{Refusal}
use Rattle.refusals.specs.Numbers.{number}
use Rattle.fields.specs.Positions.{take_at}
use Rattle.fields.proofs.Fields.{took}
use Rattle.walk.specs.Counts.{all_counted, read_lists}
use Rattle.walk.proofs.Reading.{Kept, kept, lost}
use Rattle.walk.proofs.Bounds.{All, lists_next, by_bit_ahead}
use Rattle.decode.specs.Answers.{decoded_as}
use Rattle.decode.proofs.Whole.{reads_no_number, reads_wrong_number, reads_too_many, reads_on, word-is, refuses, success}
use Rattle.decode.proofs.read_delivery.Goals as goal
use Rattle.decode.proofs.read_delivery.Goals.{Else-ends-many, Else-not-count_holds, In_ok-all, In_ok-n}

-- a refusal that goes up by `?`, handed back
handed : (numbers ends : List ℕ) (r : Result DecodeResult Refusal) (e : Refusal) → IsErrAnd r (λ y. y ≡ e) → decoded (decoded_as r) numbers ends ≡ decoded (decoded_refused (number e)) numbers ends
handed numbers ends (Ok d) e h = absurd h
handed numbers ends (Err y) e h = ap (λ (x : Refusal). decoded (decoded_refused (number x)) numbers ends) h

-- what lists are counted as: their bits, which have a place each and make the word, and their numbers
record Told (ss : List Supplied) (n b count : ℕ) : Type 0 where
  small : b < 2 ^ n
  word : b * 2 ^ (32 - n) ≡ word_of ss
  numbers : count ≡ length (all_numbers (map supplied_numbers ss))

told_by : (ss : List Supplied) (n b count : ℕ) → length ss ≡ n → all_counted ss ≡ (b, count) → Told ss n b count
unfolding all_counted
told_by ss n b count many e =
    let bs : value (map is_delivered ss) ≡ b = ap (λ (p : ℕ × ℕ). p.0) e in
    record {
      small = subst (λ (k : ℕ). b < 2 ^ k) (length-map ss is_delivered ∙ many) (subst (λ (v : ℕ). v < 2 ^ length (map is_delivered ss)) bs (value-lt (map is_delivered ss)));
      word = ap₂ (λ (v k : ℕ). v * 2 ^ (32 - k)) (sym bs) (sym many) ∙ sym (word-is ss);
      numbers = sym (ap (λ (p : ℕ × ℕ). p.1) e);
    }

-- how many lists there are
number_read : (c : In_ok-n) → take_at c.args.bytes.now 6 0 ≡ accepted (c.in_ok-n.n, c.in_ok-n.next)
number_read c = sym c.in_ok-n.ensures

six : (c : In_ok-n) → (c.in_ok-n.next ≡ 6) × (6 ≤ 8 * length c.args.bytes.now)
six c = let t = took c.args.bytes.now 6 0 _ (number_read c) in (omega (arith, t.next), omega (arith, t.inside))

holds : (c : Else-not-count_holds) → count_holds c.in_ok-n.n ≡ true
holds c = sym c.count_holds.ensures ∙ c.if-not-count_holds.false

-- reading goes on with the lists
on : (c : Else-ends-many) {o : Outcome (List Supplied × ℕ)} → let args = c.args in
    read_lists (take_at args.bytes.now) c.in_ok-n.n (length args.numbers.now) c.in_ok-n.next ≡ o
    → read_delivery (length args.numbers.now) (length args.ends.now) args.bytes.now ≡ (o >>= λ r. (require 5 (only_fill (drop r.1 (bits args.bytes.now))) >> accepted r.0))
on c e =
    let args = c.args in
    reads_on args.bytes.now (length args.numbers.now) (length args.ends.now) (number_read (record { before = c.before.before.before.before; type_inv = record { ends = c.type_inv.ends; numbers = c.type_inv.numbers; bytes = c.type_inv.bytes } })) (holds (record { before = c.before.before; type_inv = record { ends = c.type_inv.ends; numbers = c.type_inv.numbers; bytes = c.type_inv.bytes } })) (omega arith) e

-- the lists that were walked through
walked : (c : In_ok-all) → Kept all_counted (read_lists (take_at c.args.bytes.now) c.in_ok-n.n (length c.args.numbers.now) c.in_ok-n.next) (c.in_ok-all.all.bits, c.in_ok-all.all.count) c.in_ok-all.end
walked c = kept _ _ _ _ (sym c.in_ok-all.ensures)

walked_next : (c : In_ok-all) → All c.args.bytes.now c.in_ok-n.n c.in_ok-n.next ((walked c).got, c.in_ok-all.end)
walked_next c = lists_next by_bit c.args.bytes.now (by_bit_ahead _) c.in_ok-n.n (some (length c.args.numbers.now)) c.in_ok-n.next _ (walked c).read (omega (arith, six (record { before = c.before.before.before.before.before.before.before; type_inv = record { ends = c.type_inv.ends; numbers = c.type_inv.numbers; bytes = c.type_inv.bytes } })))

lists_told : (c : In_ok-all) → Told (walked c).got c.in_ok-n.n c.in_ok-all.all.bits c.in_ok-all.all.count
lists_told c = told_by (walked c).got _ _ _ (walked_next c).many (walked c).is

pub returns-in_err-n-clause-sent : goal.returns-in_err-n-clause-sent
returns-in_err-n-clause-sent d =
    let args = d.args in
    handed args.numbers.now args.ends.now _ _ d.from_residual.ensures.1
    ∙ refuses args.bytes.now args.numbers.now args.ends.now (reads_no_number args.bytes.now _ _ (sym d.in_err-n.ensures))

pub returns-then-not-count_holds-clause-sent : goal.returns-then-not-count_holds-clause-sent
returns-then-not-count_holds-clause-sent d =
    let args = d.args in
    refuses args.bytes.now args.numbers.now args.ends.now
    (reads_wrong_number args.bytes.now _ _ (number_read (goal.at.returns-then-not-count_holds-clause-sent d).In_ok-n) (sym d.count_holds.ensures ∙ d.if-not-count_holds.true))

pub returns-then-ends-many-clause-sent : goal.returns-then-ends-many-clause-sent
returns-then-ends-many-clause-sent d =
    let args = d.args in
    refuses args.bytes.now args.numbers.now args.ends.now (reads_too_many args.bytes.now _ _ (number_read (goal.at.returns-then-ends-many-clause-sent d).In_ok-n) (holds (goal.at.returns-then-ends-many-clause-sent d).Else-not-count_holds) (omega arith))

pub walk_lists-requires : goal.walk_lists-requires
walk_lists-requires c = ((counts _ (holds (goal.at.walk_lists-requires c).Else-not-count_holds)).1, omega (arith, (six (goal.at.walk_lists-requires c).In_ok-n).0))

pub returns-in_err-all-clause-sent : goal.returns-in_err-all-clause-sent
returns-in_err-all-clause-sent d =
    let args = d.args in
    handed args.numbers.now args.ends.now _ _ d.from_residual-in_err-all.ensures.1
    ∙ refuses args.bytes.now args.numbers.now args.ends.now (on (goal.at.returns-in_err-all-clause-sent d).Else-ends-many (lost _ _ _ (sym d.in_err-all.ensures)))

pub only_fill-requires : goal.only_fill-requires
only_fill-requires c = let w = walked_next (goal.at.only_fill-requires c).In_ok-all in (w.inside, omega (arith, w.near, six (goal.at.only_fill-requires c).In_ok-n))

pub returns-then-not-only_fill-clause-sent : goal.returns-then-not-only_fill-clause-sent
returns-then-not-only_fill-clause-sent d =
    let args = d.args in
    let fill : only_fill (drop d.in_ok-all.end (bits args.bytes.now)) ≡ false = sym d.only_fill.ensures ∙ d.if-not-only_fill.true in
    refuses args.bytes.now args.numbers.now args.ends.now (on (goal.at.returns-then-not-only_fill-clause-sent d).Else-ends-many (walked (goal.at.returns-then-not-only_fill-clause-sent d).In_ok-all).read ∙ rw fill)

pub store_lists-requires : goal.store_lists-requires
store_lists-requires c =
    let w = walked (goal.at.store_lists-requires c).In_ok-all in (
      (counts _ (holds (goal.at.store_lists-requires c).Else-not-count_holds)).1,
      omega (arith, six (goal.at.store_lists-requires c).In_ok-n),
      omega arith,
      record { lists = w.got; next = c.in_ok-all.end; read = w.read },
    )

pub word_of-requires : goal.word_of-requires
word_of-requires c =
    let n = counts _ (holds (goal.at.word_of-requires c).Else-not-count_holds) in
    (n.0, n.1, (lists_told (goal.at.word_of-requires c).In_ok-all).small)

pub returns-clause-sent : goal.returns-clause-sent
returns-clause-sent c =
    let args = c.args in
    let w = walked (goal.at.returns-clause-sent c).In_ok-all in
    let t = lists_told (goal.at.returns-clause-sent c).In_ok-all in
    let ls : List (List ℕ) = map supplied_numbers w.got in
    let rows = c.store_lists.ensures w.got c.in_ok-all.end w.read in
    let fill : only_fill (drop c.in_ok-all.end (bits args.bytes.now)) ≡ true = sym c.only_fill.ensures ∙ c.if-not-only_fill.false in
    let many : c.in_ok-n.n ≡ length w.got = sym (walked_next (goal.at.returns-clause-sent c).In_ok-all).many in
    let word : c.word_of.result ≡ word_of w.got = c.word_of.ensures ∙ t.word in
    ap (λ (x : ℕ). decoded (record { number = 0; word = x; lists = c.in_ok-n.n; numbers = c.in_ok-all.all.count }) c.store_lists.new.numbers c.store_lists.new.ends) word
    ∙ ap₂ (λ (a b : ℕ). decoded (record { number = 0; word = word_of w.got; lists = a; numbers = b }) c.store_lists.new.numbers c.store_lists.new.ends) many t.numbers
    ∙ ap₂ (λ (a b : List ℕ). decoded (record { number = 0; word = word_of w.got; lists = length w.got; numbers = length (all_numbers ls) }) a b) rows.0 rows.1
    ∙ success args.bytes.now args.numbers.now args.ends.now (on (goal.at.returns-clause-sent c).Else-ends-many w.read ∙ rw fill)
