-- The work of `members` whole: its tests one after another, and behind them a page that holds every member. Assumes nothing.
use mathlib.Core.Path.{◌≡◌, refl, sym, ap, ap₂, ◌∙◌}
use mathlib.Core.Bool.{Bool, true}
use mathlib.Core.List.{List, [], ◌∷◌, ◌++◌, map}
use Prim.Native.Nat.{ℕ, suc, ◌+◌, ◌-◌, ◌≤◌, ◌<◌}
use native.Mathlib.Numerals.{add-one}
use native.Mathlib.Omega.{arith}
use borrow.Author.Tests.{le-leb, lt-leb, lt-ltb}
use lib.ListN.{length, get_or, take, drop, replicate, length-take, length-drop, length-map}
use lib.Seq.{take_all}
use Rattle.std.proofs.Common.{Result, Ok, Err}
use Rattle.std.specs.Result.{IsErrAnd}
use Rattle.model.specs.declared.DecodeResult.{DecodeResult}
use Rattle.model.specs.declared.MembersResult.{MembersResult}
use Rattle.model.specs.declared.Reply.{Reply}
use Rattle.model.specs.Outcome.{Outcome, refused, accepted, ◌>>=◌, number_of, Success, Sent, over, sent}
use Rattle.model.specs.Lists.{Numbers, lists_from, lend, lists_of}
use Rattle.model.specs.Expression.{Tree}
use Rattle.model.specs.Sets.{all_numbers, members}
use Rattle.model.specs.Machine.{next}
use Rattle.model.specs.Run.{State, steps, starting, begin, run, run_by}
use Rattle.model.specs.Forms.{there, read_packed}
use Rattle.model.specs.Delivery.{Supplied, supplied_numbers, read_delivery, word_of}
use Rattle.model.specs.Calls.{counted, counted_refused, decoded, ends_from, laid_out, decode_delivery}
use Rattle.model.specs.Program.{halves, listing_of, listing, listed, list_members}
use Rattle.model.proofs.Accepted.{lists_accepted}
use Rattle.model.proofs.Denoted.{members_up, members-few, from_all}
use Rattle.model.proofs.Deliveries.{delivery_holds}
use Rattle.model.proofs.Laid.{ends-length, lists_length, laid-supplied}
use Rattle.model.proofs.RoundTrips.{read-sends, lists-there}
use Rattle.refusals.specs.declared.Refusal.{Refusal}
use Rattle.refusals.specs.Numbers.{number}
use Rattle.lists.proofs.Spans.{counts, readable, readable_up}
use Rattle.reader.specs.Rows.{Stands}
use Rattle.pages.specs.declared.Page.{Page}
use Rattle.pages.specs.Pages.{page, page_of, laid_down}
use Rattle.pages.proofs.Laws.{asked, starts, holds_page}
use Rattle.listing.specs.Answers.{counted_as}
use Rattle.listing.specs.Over.{DeliveredLists, list_over}

-- a refusal that goes up by `?`, handed back
pub handed : (lent : List ℕ) (r : Result MembersResult Refusal) (e : Refusal) → IsErrAnd r (λ y. y ≡ e) → counted (counted_as r) lent ≡ counted (counted_refused (number e)) lent
handed lent (Ok r) e h = absurd h
handed lent (Err y) e h = ap (λ (x : Refusal). counted (counted_refused (number x)) lent) h

-- ---- behind the delivery

-- the moves of one run: a next for each member and one more
abbrev pub moves_of : List (List ℕ) → Tree → ℕ
moves_of ls t = (run ls t (starting 0) (replicate (suc (length (members ls t))) next)).moves

-- a page that holds every member
pub record AllDrawn (ls : List (List ℕ)) (t : Tree) (r : Page) (row : List ℕ) : Type 0 where
  pub count : r.count ≡ length (members ls t)
  pub moved : r.readers.moves ≡ moves_of ls t
  pub holds : take r.count row ≡ members ls t
  pub inside : r.count ≤ length row

module _ (numbers ends : List ℕ) (word : ℕ) (packed lent : List ℕ) where
  abbrev ls : List (List ℕ)
  ls = lists_from numbers 0 ends

  pub over-refuses : (n : ℕ) → read_packed (there (length ends) word) packed ≡ refused n → counted (counted_refused n) lent ≡ list_over word ls packed lent
  unfolding list_over sent
  over-refuses n e = rw (lists_length numbers 0 ends, e)

  module _ (t : Tree) (f : read_packed (there (length ends) word) packed ≡ accepted t) where
    abbrev ms : List ℕ
    ms = members ls t

    pub over-short : length lent < length ms → counted (counted_refused 6) lent ≡ list_over word ls packed lent
    unfolding list_over sent listed listing_of
    over-short h = rw (lists_length numbers 0 ends, f, lt-leb (length ms) (length lent) h)

    pub over-lists : length ms ≤ length lent → counted (record { number = 0; count = length ms; moves = moves_of ls t }) (ms ++ drop (length ms) lent) ≡ list_over word ls packed lent
    unfolding list_over sent listed listing_of over
    over-lists h = rw (lists_length numbers 0 ends, f, le-leb (length ms) (length lent) h)

    module _ (n : Numbers numbers) (d : DeliveredLists numbers ends) where
      few : length ms ≤ 4096
      few = omega (arith, members-few ls t, d.few)

      -- in a page of 4,097 places
      pub draws_all : (nodes : List ℕ) → Stands (length ends) nodes t 0 → (room : List ℕ) → length room ≡ 4097 → (r : Page) (row : List ℕ) → page_of r row ≡ laid_down (page ls t (begin (starting 0)) (length room)) room → AllDrawn ls t r row
      unfolding run_by begin asked
      draws_all nodes h room long r row e =
          let p = rw (from_all 0 ms (members_up ls (readable_up numbers ends n d.lists) t)) at (holds_page ls t (begin (starting 0)) (starts numbers ends nodes n d.lists t h (starting 0) (omega arith)) room r row e) in
          let count : r.count ≡ length ms = omega (arith, p.count, few) in
          let ended : r.finished ≡ true = p.finished ∙ lt-ltb (length ms) (length room) (omega (arith, few)) in
          record {
            count = count;
            moved = ap (λ (q : List Reply × State). q.1.readers.moves) (sym p.ran) ∙ ap₂ (λ (k : ℕ) (f : Bool). (steps ls t (begin (starting 0)) (replicate (asked k f) next)).1.readers.moves) count ended;
            holds = p.holds ∙ take_all r.count ms (omega arith);
            inside = omega (arith, p.count, p.long);
          }

-- ---- the input

-- where the expression ends, and the two parts
abbrev end_of : List ℕ → ℕ
end_of input = get_or input 0 0 + 1

abbrev pub first_part : List ℕ → List ℕ
first_part input = take (end_of input - 1) (drop 1 input)

abbrev pub second_part : List ℕ → List ℕ
second_part input = take (length input - end_of input) (drop (end_of input) input)

halves-none : (input : List ℕ) → length input ≡ 0 → halves input ≡ refused 1
unfolding halves
halves-none [] h = refl
halves-none (b ∷ bs) h = absurd (omega arith)

halves-short : (input : List ℕ) → (length input ≡ 0 → ⊥) → length input < end_of input → halves input ≡ refused 1
unfolding halves
halves-short [] some h = absurd (some refl)
halves-short (b ∷ bs) some h = rw (lt-leb b (length bs) (omega arith))

halves_are : (input : List ℕ) → (length input ≡ 0 → ⊥) → end_of input ≤ length input → halves input ≡ accepted (first_part input, second_part input)
unfolding halves
halves_are [] some h = absurd (some refl)
halves_are (b ∷ bs) some h =
    let first : suc b - 1 ≡ b = omega arith in
    rw (le-leb b (length bs) (omega arith), add-one b, first, take_all (length (b ∷ bs) - suc b) (drop b bs) (omega (arith, length-drop b bs)))

module _ (input lent : List ℕ) where
  pub refuses-size : 65535 < length input → counted (counted_refused 6) lent ≡ list_members input lent
  unfolding list_members listing sent
  refuses-size h = rw (lt-leb (length input) 65535 h)

  module _ (small : length input ≤ 65535) where
    refuses-halves : halves input ≡ refused 1 → counted (counted_refused 1) lent ≡ list_members input lent
    unfolding list_members listing sent
    refuses-halves e = rw (le-leb (length input) 65535 small, e)

    pub refuses-none : length input ≡ 0 → counted (counted_refused 1) lent ≡ list_members input lent
    refuses-none h = refuses-halves (halves-none input h)

    module _ (some : length input ≡ 0 → ⊥) where
      pub refuses-short : length input < end_of input → counted (counted_refused 1) lent ≡ list_members input lent
      refuses-short h = refuses-halves (halves-short input some h)

      module _ (fits : end_of input ≤ length input) where
        pub refuses-delivery : (n : ℕ) → read_delivery 4096 32 (second_part input) ≡ refused n → counted (counted_refused n) lent ≡ list_members input lent
        unfolding list_members listing sent
        refuses-delivery n f = rw (le-leb (length input) 65535 small, halves_are input some fits, f)

        -- behind the delivery
        pub goes_over : (ss : List Supplied) → read_delivery 4096 32 (second_part input) ≡ accepted ss → list_over (word_of ss) (map supplied_numbers ss) (first_part input) lent ≡ list_members input lent
        unfolding list_members listing list_over
        goes_over ss f = rw (le-leb (length input) 65535 small, halves_are input some fits, f, ends-length 0 ls) (go (read_packed (there (length ls) (word_of ss)) (first_part input)))
          where
            ls : List (List ℕ)
            ls = map supplied_numbers ss

            go : (o : Outcome Tree) → sent 2 (lent ∷ []) (o >>= λ t. listed lent (listing_of ls t)) ≡ sent 2 (lent ∷ []) ((o >>= λ t. accepted (listing_of ls t)) >>= listed lent)
            go (refused n) = refl
            go (accepted t) = refl

-- ---- the delivery, read into 4,096 numbers and 32 ends

-- the lists stand in the rows
pub record LaidLists (r : DecodeResult) (row stops : List ℕ) (ss : List Supplied) : Type 0 where
  pub inside : r.lists ≤ length stops
  pub word-is : r.word ≡ word_of ss
  pub lists_are : lists_from row 0 (take r.lists stops) ≡ map supplied_numbers ss
  pub delivered_lists : DeliveredLists row (take r.lists stops)

module _ (bytes numbers ends : List ℕ) (long : length numbers ≡ 4096) (many : length ends ≡ 32) (r : DecodeResult) (row stops : List ℕ) (e : decoded r row stops ≡ decode_delivery bytes numbers ends) where
  -- the number that was handed back
  pub delivered-number : r.number ≡ number_of (read_delivery 4096 32 bytes)
  unfolding decode_delivery sent number_of
  delivered-number = ap (λ (s : Sent). s.number) e ∙ ap₂ (λ (n m : ℕ). (sent 3 (numbers ∷ ends ∷ []) (read_delivery n m bytes >>= whole)).number) long many ∙ go (read_delivery 4096 32 bytes)
    where
      whole : List Supplied → Outcome Success
      whole ss = let l = laid_out ss in accepted (record { parts = l.word ∷ length ss ∷ length l.numbers ∷ []; written = l.numbers ∷ l.ends ∷ [] })

      go : (o : Outcome (List Supplied)) → (sent 3 (numbers ∷ ends ∷ []) (o >>= whole)).number ≡ number_of o
      go (refused n) = refl
      go (accepted ss) = refl

  -- and the lists
  pub lists_laid : (ss : List Supplied) → read_delivery 4096 32 bytes ≡ accepted ss → LaidLists r row stops ss
  lists_laid ss f =
      let ls : List (List ℕ) = map supplied_numbers ss in
      let read : read_delivery (length numbers) (length ends) bytes ≡ accepted ss = ap₂ (λ (n m : ℕ). read_delivery n m bytes) long many ∙ f in
      let whole = e ∙ read-sends bytes numbers ends ss read in
      let holds = delivery_holds 4096 32 bytes ss f in
      let count : r.lists ≡ length ss = ap (λ (s : Sent). get_or s.parts 1 0) whole in
      let stops_are : take r.lists stops ≡ ends_from 0 ls = ap₂ (λ (n : ℕ) (s : Sent). take n (get_or s.rows 1 [])) count whole ∙ lists-there (length ss) ends ls (sym (length-map ss supplied_numbers)) in
      let is : lists_of (lend row (take r.lists stops) (word_of ss)) ≡ accepted ls =
      ap₂ (λ (s : Sent) (k : List ℕ). lists_of (lend (get_or s.rows 0 []) k (word_of ss))) whole stops_are ∙ laid-supplied ss (drop (length (all_numbers ls)) numbers) holds.count holds.storable in
      let are : lists_from row 0 (take r.lists stops) ≡ ls = (lists_accepted (lend row (take r.lists stops) (word_of ss)) ls is).are in
      record {
        word-is = ap (λ (s : Sent). get_or s.parts 0 0) whole;
        inside = omega (arith, length-take r.lists stops, ap (λ (l : List ℕ). length l) stops_are, ends-length 0 ls, length-map ss supplied_numbers);
        lists_are = are;
        delivered_lists = record { lists = readable _ ls is; many = (counts _ (lists_accepted _ ls is).count).1; few = rw are holds.numbers };
      }
