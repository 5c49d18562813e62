-- What `listing::list_members` hands back into a row of 4,096, taken apart: the text of its number, or of the members in the row
-- and the moves. Assumes nothing.
use mathlib.Core.Path.{◌≡◌, refl, sym, ap, ap₂, ◌∙◌}
use mathlib.Core.Bool.{Bool, true, false}
use mathlib.Core.List.{List, [], ◌∷◌, ◌++◌, map}
use Prim.Native.Nat.{ℕ, ◌≤◌}
use native.Mathlib.Omega.{arith}
use borrow.Author.Tests.{le-leb}
use lib.Dec.{leb}
use lib.ListN.{length, get_or, take, drop, length-take}
use lib.Seq.{take-append_seam}
use Rattle.model.specs.declared.MembersResult.{MembersResult}
use Rattle.model.specs.Outcome.{Outcome, refused, accepted, ◌>>=◌, ◌>>◌, require, Sent, over, sent}
use Rattle.model.specs.Run.{named_in}
use Rattle.model.specs.Forms.{read_packed}
use Rattle.model.specs.Delivery.{supplied_numbers, read_delivery, word_of}
use Rattle.model.specs.Calls.{counted, laid_out}
use Rattle.model.specs.Program.{halves, Listing, listing_of, listing, listed, list_members}
use Rattle.model.proofs.Accepted.{never_accepted}
use Rattle.model.proofs.Denoted.{members-few}
use Rattle.model.proofs.Deliveries.{delivery_holds}
use Rattle.model.proofs.Told.{Told, told_right, told_by, told_then, told_test, there_told, packed_told, delivery_told}
use Rattle.report.specs.Text.{line, lines, refused_word, moves_word, text}

-- ---- a listing has at most 4,096 members, as its delivery has numbers

record Few (o : Outcome Listing) : Type 0 where
  pub few : (l : Listing) → o ≡ accepted l → length l.members ≤ 4096

few_then : {A : Type 0} (o : Outcome A) (f : A → Outcome Listing) → ((a : A) → o ≡ accepted a → Few (f a)) → Few (o >>= f)
few_then (refused n) f g = record { few = λ l e. never_accepted e }
few_then (accepted a) f g = g a refl

few_test : (n : ℕ) (b : Bool) (o : Outcome Listing) → Few o → Few (require n b >> o)
few_test n true o h = h
few_test n false o h = record { few = λ l e. never_accepted e }

few_right : (k : Listing) → length k.members ≤ 4096 → Few (accepted k)
few_right k h = record { few = λ l e. let same : k ≡ l = cc in omega (arith, ap (λ (x : Listing). length x.members) same) }

listing_few : (input : List ℕ) → Few (listing input)
unfolding listing listing_of
listing_few input =
    few_test 6 (leb (length input) 65535) _ (few_then (halves input) _ (λ hs _. few_then (read_delivery 4096 32 hs.1) _ (λ ss d. few_then (read_packed (named_in (laid_out ss)) hs.0) _
    (λ t _. few_right (listing_of (map supplied_numbers ss) t) (omega (arith, members-few (map supplied_numbers ss) t, (delivery_holds 4096 32 hs.1 ss d).numbers))))))

-- ---- a refusal's number is not 0

halves_told : (input : List ℕ) → Told (halves input)
unfolding halves
halves_told [] = told_by {n = 1} (omega arith)
halves_told (n ∷ bs) = told_test 1 (leb n (length bs)) _ (omega arith) told_right

listing_told : (input : List ℕ) → Told (listing input)
unfolding listing
listing_told input =
    told_test 6 (leb (length input) 65535) _ (omega arith) (told_then (halves input) _ (halves_told input) (λ hs. told_then (read_delivery 4096 32 hs.1) _ (delivery_told 4096 32 hs.1) (λ ss.
    told_then (read_packed (named_in (laid_out ss)) hs.0) _ (packed_told (named_in (laid_out ss)) (there_told (length (laid_out ss).ends) (word_of ss)) hs.0) (λ t. told_right))))

-- ---- what is handed back

-- the members stand in the row
record Stands (r : MembersResult) (row : List ℕ) (l : Listing) : Type 0 where
  pub number : r.number ≡ 0
  pub count : r.count ≡ length l.members
  pub moved : r.moves ≡ l.moves
  pub holds : take r.count row ≡ l.members

module _ (input lent : List ℕ) (long : length lent ≡ 4096) (r : MembersResult) (row : List ℕ) (e : counted r row ≡ list_members input lent) where
  number_is : (n : ℕ) → listing input ≡ refused n → r.number ≡ n
  unfolding list_members sent
  number_is n f = ap (λ (s : Sent). s.number) e ∙ ap (λ (o : Outcome Listing). (sent 2 (lent ∷ []) (o >>= listed lent)).number) f

  stands : (l : Listing) → listing input ≡ accepted l → Stands r row l
  unfolding list_members sent listed over
  stands l f =
      let fits = le-leb (length l.members) (length lent) (omega (arith, (listing_few input).few l f)) in
      let whole : counted r row ≡ record { number = 0; parts = length l.members ∷ l.moves ∷ []; rows = (l.members ++ drop (length l.members) lent) ∷ [] } =
      e ∙ ap (λ (o : Outcome Listing). sent 2 (lent ∷ []) (o >>= listed lent)) f ∙ ap (λ (b : Bool). sent 2 (lent ∷ []) (require 6 b >> accepted (record { parts = length l.members ∷ l.moves ∷ []; written = l.members ∷ [] }))) fits in
      let count : r.count ≡ length l.members = ap (λ (s : Sent). get_or s.parts 0 0) whole in
      record {
        number = ap (λ (s : Sent). s.number) whole;
        count = count;
        moved = ap (λ (s : Sent). get_or s.parts 1 0) whole;
        holds = ap₂ (λ (n : ℕ) (s : Sent). take n (get_or s.rows 0 [])) count whole ∙ take-append_seam l.members (drop (length l.members) lent);
      }

  pub text-refused : (r.number ≡ 0 → ⊥) → text (listing input) ≡ line refused_word r.number
  unfolding text
  text-refused some = go (listing input) refl
    where
      go : (o : Outcome Listing) → listing input ≡ o → text o ≡ line refused_word r.number
      go (refused n) f = ap (line refused_word) (sym (number_is n f))
      go (accepted l) f = absurd (some (stands l f).number)

  -- and the members are few enough
  pub record AllListed : Type 0 where
    pub text-is : text (listing input) ≡ lines (take r.count row) ++ line moves_word r.moves
    pub few : r.count ≤ 4096
    pub inside : r.count ≤ length row

  pub all_listed : r.number ≡ 0 → AllListed
  unfolding text
  all_listed none = go (listing input) refl
    where
      go : (o : Outcome Listing) → listing input ≡ o → AllListed
      go (refused n) f = absurd (omega (arith, number_is n f, (listing_told input).never n f))
      go (accepted l) f =
          let s = stands l f in
          record {
            text-is = ap text f ∙ ap₂ (λ (ms : List ℕ) (m : ℕ). lines ms ++ line moves_word m) (sym s.holds) (sym s.moved);
            few = omega (arith, s.count, (listing_few input).few l f);
            inside = omega (arith, s.count, length-take r.count row, ap (λ (k : List ℕ). length k) s.holds);
          }
