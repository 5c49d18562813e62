-- A move whole: the pieces between the positions that a walk found are the lists in the other form, and what each outcome of the
-- tests hands back. Assumes nothing.
use mathlib.Core.Path.{◌≡◌, refl, sym, ap, ap₂, ◌∙◌, subst}
use mathlib.Core.Bool.{Bool, true, false, not}
use mathlib.Core.List.{List, [], ◌∷◌, ◌++◌, append_assoc, map, flat_map}
use mathlib.Core.Option.{none}
use Prim.Native.Nat.{ℕ, suc, ◌+◌, ◌-◌, ◌*◌, ◌^◌, ◌≤◌, ◌<◌}
use native.Mathlib.Nat.{zero-add}
use native.Mathlib.Omega.{arith}
use lib.Dec.{eqb}
use lib.ListN.{length, get_or, take, drop, replicate, length-append, length-drop, length-map}
use lib.Seq.{drop-drop, take_at, drop_at}
use borrow.Author.Tests.{eq-eqb, ne_eqb, eqb-true}
use Rattle.model.specs.Outcome.{Outcome, refused, accepted, ◌>>=◌, ◌>>◌, require, sent}
use Rattle.model.specs.Fields.{field, bits, bytes}
use Rattle.model.specs.Delivery.{Supplied, undelivered, came, supplied_numbers, is_delivered, all_delivered, bit_and_count, body_bits, list_bits, delivery_in, read_lists, read_stored, delivery, old_delivery}
use Rattle.model.specs.Calls.{written, written_refused, stored, upgrade_delivery, downgrade_delivery}
use Rattle.model.proofs.Bits.{field-length, bits-length}
use Rattle.fields.specs.Rows.{lay}
use Rattle.fields.specs.Positions.{take_at as take_position}
use Rattle.walk.proofs.Bounds.{lists_next}
use Rattle.convert.specs.Forms.{ListIn, form_of, as_other, lacks, missing, resized, move_delivery}
use Rattle.convert.specs.Walks.{stops_from}
use Rattle.convert.specs.Pieces.{moved, piece, pieces, Rising, store_pieces}
use Rattle.convert.proofs.Reading.{ahead, lists_are}

-- ---- one list

-- without the bit ahead of it, or with one, it is the list of the other form
moved-list : (bit : Bool) (a : ListIn bit) → lacks bit a ≡ 0 → moved bit (list_bits (form_of bit) a) ≡ list_bits (form_of (not bit)) (as_other bit a)
unfolding list_bits bit_and_count supplied_numbers
moved-list true undelivered h = absurd (omega arith)
moved-list true (came l) h =
    let rest : List Bool = field 16 (length l) ++ body_bits l in
    ap (drop 1) (append_assoc (field 1 1) (field 16 (length l)) (body_bits l)) ∙ drop_at (field 1 1) rest 1 (field-length 1 1)
moved-list false l h = sym (append_assoc (field 1 1) (field 16 (length l)) (body_bits l))

-- it takes a bit or more
some_bits : (bit : Bool) (a : ListIn bit) → 1 ≤ length (list_bits (form_of bit) a)
unfolding list_bits bit_and_count supplied_numbers
some_bits true undelivered = omega (arith, length-append (field 1 0) (body_bits []), field-length 1 0)
some_bits true (came l) = omega (arith, length-append (field 1 1 ++ field 16 (length l)) (body_bits l), length-append (field 1 1) (field 16 (length l)), field-length 1 1)
some_bits false l = omega (arith, length-append (field 16 (length l)) (body_bits l), field-length 16 (length l))

-- and one less, or one more, in the other form: of n lists so many bits there, and so many here
abbrev Resized : Bool → ℕ → ℕ → ℕ → Type 0
Resized true n there here = there + n ≡ here
Resized false n there here = there ≡ here + n

one_resized : (bit : Bool) (bs : List Bool) (n there here : ℕ) → 1 ≤ length bs → Resized bit n there here → Resized bit (suc n) (length (moved bit bs) + there) (length bs + here)
one_resized true [] n there here h r = absurd (omega arith)
one_resized true (x ∷ bs) n there here h r = omega arith
one_resized false bs n there here h r = omega (arith, length-append (field 1 1) bs, field-length 1 1)

none_resized : (bit : Bool) → Resized bit 0 0 0
none_resized true = refl
none_resized false = refl

is-resized : (bit : Bool) (n there here : ℕ) → Resized bit n there here → 6 + there ≡ resized bit (6 + here) n
is-resized true n there here r = omega arith
is-resized false n there here r = omega arith

pub resized-small : (bit : Bool) (size n : ℕ) → size < 2 ^ 39 → n ≤ 32 → resized bit size n < 2 ^ 40
resized-small true size n h l = omega arith
resized-small false size n h l = omega arith

-- ---- all lists

module _ (bit : Bool) where
  -- their bits in this form, and in the other
  abbrev here : List (ListIn bit) → List Bool
  here ls = flat_map (list_bits (form_of bit)) ls

  abbrev there : List (ListIn bit) → List Bool
  there ls = flat_map (λ a. moved bit (list_bits (form_of bit) a)) ls

  moved_lists : (ls : List (ListIn bit)) → missing bit ls ≡ 0 → there ls ≡ flat_map (list_bits (form_of (not bit))) (map (as_other bit) ls)
  unfolding flat_map missing
  moved_lists [] m = refl
  moved_lists (a ∷ ls) m = ap₂ (λ (x y : List Bool). x ++ y) (moved-list bit a (omega arith)) (moved_lists ls (omega arith))

  -- the positions of the first, and of those behind it
  first_stop : (at : ℕ) (ls : List (ListIn bit)) → get_or (stops_from (form_of bit) at ls) 0 0 ≡ at
  unfolding stops_from
  first_stop at [] = refl
  first_stop at (a ∷ ls) = refl

  pub stops-length : (at : ℕ) (ls : List (ListIn bit)) → length (stops_from (form_of bit) at ls) ≡ suc (length ls)
  unfolding stops_from
  stops-length at [] = refl
  stops-length at (a ∷ ls) = ap suc (stops-length (at + length (list_bits (form_of bit) a)) ls)

  pub stops_rise : (size at : ℕ) (ls : List (ListIn bit)) → at + length (here ls) ≤ 8 * size → at + length (here ls) < 2 ^ 40 → Rising size (length ls) (stops_from (form_of bit) at ls)
  unfolding stops_from flat_map
  stops_rise size at [] h l = tt
  stops_rise size at (a ∷ ls) h l =
      let next : ℕ = at + length (list_bits (form_of bit) a) in
      let long = length-append (list_bits (form_of bit) a) (here ls) in
      let stop = first_stop next ls in
      (omega (arith, stop, some_bits bit a), omega (arith, stop, long), omega (arith, stop, long), stops_rise size next ls (omega (arith, long)) (omega (arith, long)))

  pub pieces_are : (b : List Bool) (at : ℕ) (ls : List (ListIn bit)) (rest : List Bool) → drop at b ≡ here ls ++ rest → pieces bit b (length ls) (stops_from (form_of bit) at ls) ≡ there ls
  unfolding pieces stops_from flat_map
  pieces_are b at [] rest e = refl
  pieces_are b at (a ∷ ls) rest e =
      let this : List Bool = list_bits (form_of bit) a in
      let next : ℕ = at + length this in
      let cut : drop at b ≡ this ++ (here ls ++ rest) = e ∙ append_assoc this (here ls) rest in
      let more : next - at ≡ length this = omega arith in
      let behind : drop next b ≡ here ls ++ rest = sym (drop-drop (length this) at b) ∙ ap (drop (length this)) cut ∙ drop_at this (here ls ++ rest) (length this) refl in
      ap₂ (λ (x y : List Bool). x ++ y)
      (ap (piece bit b at) (first_stop next ls)
      ∙ ap₂ (λ (k : ℕ) (l : List Bool). moved bit (take k l)) more cut
      ∙ ap (moved bit) (take_at this (here ls ++ rest) (length this) refl))
      (pieces_are b next ls rest behind)

  -- they take one bit less for each, or one more
  lists_resized : (ls : List (ListIn bit)) → Resized bit (length ls) (length (there ls)) (length (here ls))
  unfolding flat_map
  lists_resized [] = none_resized bit
  lists_resized (a ∷ ls) =
      let this : List Bool = list_bits (form_of bit) a in
      let one = one_resized bit this (length ls) (length (there ls)) (length (here ls)) (some_bits bit a) (lists_resized ls) in
      subst (λ (k : ℕ). Resized bit (suc (length ls)) k (length (here (a ∷ ls)))) (sym (length-append (moved bit this) (there ls))) (subst (Resized bit (suc (length ls)) (length (moved bit this) + length (there ls))) (sym (length-append this (here ls))) one)

  pub size-there : (ls : List (ListIn bit)) → 6 + length (there ls) ≡ resized bit (6 + length (here ls)) (length ls)
  size-there ls = is-resized bit (length ls) (length (there ls)) (length (here ls)) (lists_resized ls)

  pub size-here : (ls : List (ListIn bit)) → length ls ≤ length (here ls)
  unfolding flat_map
  size-here [] = omega arith
  size-here (a ∷ ls) = omega (arith, length-append (list_bits (form_of bit) a) (here ls), some_bits bit a, size-here ls)

  -- ---- lists that a walk found in s, so many, up to `end`, and the positions that it kept

  pub record Cut (s : List ℕ) (n end : ℕ) (stops : List ℕ) (ls : List (ListIn bit)) : Type 0 where
    pub many : length ls ≡ n
    pub ends : end ≡ 6 + length (here ls)
    pub near : end < 2 ^ 39
    pub inside : end ≤ 8 * length s
    pub long : length stops ≡ n + 1
    pub rise : Rising (length s) (length stops - 1) stops
    pub are : pieces bit (bits s) (length stops - 1) stops ≡ there ls

  pub cut : (s : List ℕ) (n end : ℕ) (row : List ℕ) (ls : List (ListIn bit)) → n ≤ 32 → 6 ≤ 8 * length s → read_lists (take_position s) (form_of bit) n none 6 ≡ accepted (ls, end)
      → row ≡ lay (replicate 33 0) 0 (stops_from (form_of bit) 6 ls) → Cut s n end (take (n + 1) row) ls
  unfolding lay
  cut s n end row ls few six e er =
      let w = lists_are bit s n 6 ls end e in
      let a = lists_next (form_of bit) s (ahead bit s) n none 6 (ls, end) e six in
      let at : List ℕ = stops_from (form_of bit) 6 ls in
      let tail : List ℕ = drop (0 + length at) (replicate 33 0) in
      let ends : end ≡ 6 + length (here ls) = omega (arith, ap length w.0, length-append (here ls) (drop end (bits s)), length-drop 6 (bits s), length-drop end (bits s), bits-length s, a.inside) in
      let near : end < 2 ^ 39 = omega (arith, a.near) in
      let many : length at ≡ n + 1 = omega (arith, stops-length 6 ls, w.1) in
      let kept : take (n + 1) row ≡ at = ap (take (n + 1)) er ∙ take_at at tail (n + 1) many in
      let long : length (take (n + 1) row) ≡ n + 1 = ap length kept ∙ many in
      let last : length ls ≡ length (take (n + 1) row) - 1 = omega (arith, w.1) in
      record {
        many = w.1;
        ends = ends;
        near = near;
        inside = a.inside;
        long = long;
        rise = subst (λ (k : ℕ). Rising (length s) k (take (n + 1) row)) last (subst (Rising (length s) (length ls)) (sym kept) (stops_rise (length s) 6 ls (omega (arith, ends, a.inside)) (omega (arith, ends))));
        are = ap₂ (λ (k : ℕ) (l : List ℕ). pieces bit (bits s) k l) (sym last) kept ∙ pieces_are (bits s) 6 ls (drop end (bits s)) w.0;
      }

  -- ---- what is handed back

  module _ (s lent : List ℕ) where
    pub refuses : {k : ℕ} → read_stored (form_of bit) s ≡ refused k → written (written_refused k) lent ≡ move_delivery bit s lent
    unfolding move_delivery sent
    refuses e = rw e

    -- the pieces are written, if none is missing
    pub stores : (ls : List (ListIn bit)) {n lacking : ℕ} (stops : List ℕ) → read_stored (form_of bit) s ≡ accepted ls → missing bit ls ≡ lacking → length ls ≡ n → pieces bit (bits s) n stops ≡ there ls
        → store_pieces bit s n stops lacking lent ≡ move_delivery bit s lent
    unfolding move_delivery store_pieces delivery_in
    stores ls {n} {lacking} stops e l m p =
        ap₂ (λ (k : ℕ) (b : List Bool). sent 1 (lent ∷ []) (require 19 (eqb lacking 0) >> stored (bytes (field 6 k ++ b)) lent)) (sym m ∙ sym (length-map ls (as_other bit))) p
        ∙ ap (λ (k : ℕ). sent 1 (lent ∷ []) (require 19 (eqb k 0) >> stored (bytes (field 6 (length (map (as_other bit) ls)) ++ there ls)) lent)) (sym l)
        ∙ rw e (ap (sent 1 (lent ∷ [])) (go (eqb (missing bit ls) 0) refl))
      where
        go : (b : Bool) → eqb (missing bit ls) 0 ≡ b → (require 19 b >> stored (bytes (field 6 (length (map (as_other bit) ls)) ++ there ls)) lent)
            ≡ (require 19 b >> stored (bytes (field 6 (length (map (as_other bit) ls)) ++ flat_map (list_bits (form_of (not bit))) (map (as_other bit) ls))) lent)
        go true h = ap (λ (b : List Bool). stored (bytes (field 6 (length (map (as_other bit) ls)) ++ b)) lent) (moved_lists ls (eqb-true (missing bit ls) 0 h))
        go false h = refl

-- ---- the two calls

came-missing : (ls : List (List ℕ)) → missing false ls ≡ 0
unfolding missing
came-missing [] = refl
came-missing (l ∷ ls) = omega (arith, came-missing ls)

none-missing : (ss : List Supplied) → eqb (missing true ss) 0 ≡ all_delivered ss
unfolding missing all_delivered is_delivered
none-missing [] = refl
none-missing (undelivered ∷ ss) = ne_eqb (1 + missing true ss) 0 (λ q. omega arith)
none-missing (came l ∷ ss) = ap (λ (n : ℕ). eqb n 0) (zero-add (missing true ss)) ∙ none-missing ss

pub is_upgrade : (s lent : List ℕ) → move_delivery false s lent ≡ upgrade_delivery s lent
unfolding move_delivery upgrade_delivery delivery
is_upgrade s lent = ap (sent 1 (lent ∷ [])) (go (read_stored (form_of false) s))
  where
    go : (o : Outcome (List (List ℕ))) → (o >>= λ ls. (require 19 (eqb (missing false ls) 0) >> stored (delivery_in (form_of true) (map came ls)) lent)) ≡ (o >>= λ ls. stored (delivery_in (form_of true) (map came ls)) lent)
    go (refused n) = refl
    go (accepted ls) = rw (eq-eqb (missing false ls) 0 (came-missing ls))

pub is_downgrade : (s lent : List ℕ) → move_delivery true s lent ≡ downgrade_delivery s lent
unfolding move_delivery downgrade_delivery old_delivery
is_downgrade s lent = ap (sent 1 (lent ∷ [])) (go (read_stored (form_of true) s))
  where
    go : (o : Outcome (List Supplied)) → (o >>= λ ss. (require 19 (eqb (missing true ss) 0) >> stored (delivery_in (form_of false) (map supplied_numbers ss)) lent))
        ≡ (o >>= λ ss. (require 19 (all_delivered ss) >> stored (delivery_in (form_of false) (map supplied_numbers ss)) lent))
    go (refused n) = refl
    go (accepted ss) = rw (none-missing ss)
