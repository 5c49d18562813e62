-- Whether a number will be a member rests on which lists will hold it: so it can be checked over lists that are cut down to it. Assumes
-- nothing.
use mathlib.Core.Path.{◌≡◌, refl, sym, ap, ap₂, ◌∙◌}
use mathlib.Core.Bool.{Bool, true, false}
use mathlib.Core.List.{List, [], ◌∷◌, ◌++◌, map}
use Prim.Native.Nat.{ℕ, zero, suc, ◌+◌, ◌-◌, ◌≤◌, ◌<◌}
use native.Mathlib.Numerals.{add-one}
use native.Mathlib.Omega.{arith}
use borrow.Author.Tests.{eq-eqb}
use lib.ListN.{length, get_or, take, drop, set, replicate, length-append, replicate-append-replicate, drop_of_length-le, get_or-map}
use lib.Seq.{drop-cons}
use Rattle.model.specs.Outcome.{accepted}
use Rattle.model.specs.Lists.{top, lists_from, count_holds, Lent, lend, lists_of}
use Rattle.model.specs.Expression.{Tree, size}
use Rattle.model.specs.Sets.{among, member, all_numbers}
use Rattle.model.specs.Steps as model
use Rattle.model.specs.Steps.{says, check_node}
use Rattle.model.specs.Delivery.{came, word_of}
use Rattle.model.specs.Calls.{ends_from}
use Rattle.model.specs.Update.{Change, old_list, new_lists}
use Rattle.model.specs.RequestOne.{in_or_out}
use Rattle.model.proofs.Order.{Up}
use Rattle.model.proofs.Accepted.{lists_accepted}
use Rattle.model.proofs.Deliveries.{Storable, storable_up}
use Rattle.model.proofs.Laid.{ends-length, laid-came}
use Rattle.model.proofs.Join.{first_check}
use Rattle.changes.proofs.Changes.{member_agrees, new_at, new_among}
use Rattle.fields.specs.Rows.{lay}
use Rattle.fields.proofs.Rows.{lay-nil, lay-cons, lay-take}
use Rattle.lists.specs.Readable.{Readable}
use Rattle.lists.proofs.Spans.{counts, readable}
use Rattle.kept.specs.Kept.{truth_number, cut}

-- the list that is changed holds the number as is asked for
pub holds-changed : (c : Change) (ls : List (List ℕ)) → Up 0 (old_list c ls) → c.list < length ls → c.adds ≡ among c.number (get_or (new_lists c ls) c.list [])
holds-changed c ls up lt = sym (ap (among c.number) (new_at c ls lt) ∙ new_among c ls up c.number ∙ rw (eq-eqb c.number c.number refl) (go c.adds (among c.number (old_list c ls))))
  where
    go : (adds stood : Bool) → in_or_out adds true stood ≡ adds
    go true stood = refl
    go false stood = refl

-- a row of one number has only numbers
pub alone-fits : (x n i : ℕ) → x < top → get_or (replicate n x) i 0 < top
alone-fits x zero i h = omega arith
alone-fits x (suc n) zero h = h
alone-fits x (suc n) (suc i) h = alone-fits x n i h

-- ---- one list cut down
module _ (x : ℕ) where
  pub cut-among : (l : List ℕ) → among x (cut x l) ≡ among x l
  unfolding cut among
  cut-among l = go (among x l)
    where
      go : (b : Bool) → among x (elim b [ true ↦ x ∷ [] | false ↦ [] ]) ≡ b
      go true = rw (eq-eqb x x refl)
      go false = refl

  pub cut-long : (l : List ℕ) → length (cut x l) ≡ truth_number (among x l)
  unfolding cut
  cut-long l = go (among x l)
    where
      go : (b : Bool) → length {A = ℕ} (elim b [ true ↦ x ∷ [] | false ↦ [] ]) ≡ truth_number b
      go true = refl
      go false = refl

  cut-is : (l : List ℕ) → cut x l ≡ replicate (length (cut x l)) x
  unfolding cut
  cut-is l = go (among x l)
    where
      go : (b : Bool) → ◌≡◌ {A = List ℕ} (elim b [ true ↦ x ∷ [] | false ↦ [] ]) (replicate (length {A = ℕ} (elim b [ true ↦ x ∷ [] | false ↦ [] ])) x)
      go true = refl
      go false = refl

  cut-few : (l : List ℕ) → length (cut x l) ≤ 1
  cut-few l = rw (cut-long l) (go (among x l))
    where
      go : (b : Bool) → truth_number b ≤ 1
      go true = omega arith
      go false = omega arith

  cut_up : (l : List ℕ) → x < top → Up 0 (cut x l)
  unfolding cut
  cut_up l h = go (among x l)
    where
      go : (b : Bool) → Up 0 (elim b [ true ↦ x ∷ [] | false ↦ [] ])
      go true = (omega arith, h, tt)
      go false = tt

  -- ---- all of them
  abbrev pub cuts : List (List ℕ) → List (List ℕ)
  cuts ms = map (cut x) ms

  cuts-many : (ms : List (List ℕ)) → length (cuts ms) ≡ length ms
  cuts-many [] = refl
  cuts-many (m ∷ ms) = ap suc (cuts-many ms)

  pub cuts-at : (ms : List (List ℕ)) (k : ℕ) → get_or (cuts ms) k [] ≡ cut x (get_or ms k [])
  unfolding cut among
  cuts-at ms k = get_or-map (cut x) ms k []

  cuts-few : (ms : List (List ℕ)) → length (all_numbers (cuts ms)) ≤ length ms
  unfolding all_numbers
  cuts-few [] = omega arith
  cuts-few (m ∷ ms) = omega (arith, length-append (cut x m) (all_numbers (cuts ms)), cut-few m, cuts-few ms)

  cuts_are : (ms : List (List ℕ)) → all_numbers (cuts ms) ≡ replicate (length (all_numbers (cuts ms))) x
  unfolding all_numbers
  cuts_are [] = refl
  cuts_are (m ∷ ms) =
      ap₂ (λ (a b : List ℕ). a ++ b) (cut-is m) (cuts_are ms)
      ∙ replicate-append-replicate (length (cut x m)) (length (all_numbers (cuts ms))) x
      ∙ ap (λ (n : ℕ). replicate n x) (sym (length-append (cut x m) (all_numbers (cuts ms))))

  cuts_storable : (ms : List (List ℕ)) → x < top → Storable (cuts ms)
  cuts_storable [] h = tt
  cuts_storable (m ∷ ms) h = ((cut_up m h, omega (arith, cut-few m)), cuts_storable ms h)

  -- ---- their ends, one after another
  pub cut_step : (ms : List (List ℕ)) (stops : List ℕ) (stop k : ℕ) → k < length ms → k < length stops
      → let here = stop + truth_number (among x (get_or ms k [])) in lay (set stops k here) (k + 1) (ends_from here (drop (k + 1) (cuts ms))) ≡ lay stops k (ends_from stop (drop k (cuts ms)))
  unfolding ends_from
  cut_step ms stops stop k h l =
      let here : length (get_or (cuts ms) k []) ≡ truth_number (among x (get_or ms k [])) = ap (λ (l : List ℕ). length l) (cuts-at ms k) ∙ cut-long (get_or ms k []) in
      let left : drop k (cuts ms) ≡ get_or (cuts ms) k [] ∷ drop (k + 1) (cuts ms) = drop-cons (cuts ms) k [] (omega (arith, cuts-many ms)) ∙ ap (λ (n : ℕ). get_or (cuts ms) k [] ∷ drop n (cuts ms)) (sym (add-one k)) in
      sym (ap (λ (ls : List (List ℕ)). lay stops k (ends_from stop ls)) left
      ∙ ap (λ (n : ℕ). lay stops k ((stop + n) ∷ ends_from (stop + n) (drop (k + 1) (cuts ms)))) here
      ∙ lay-cons stops k _ _ l)

  pub cut-end : (ms : List (List ℕ)) (stops : List ℕ) (stop k : ℕ) → length ms ≤ k → stops ≡ lay stops k (ends_from stop (drop k (cuts ms)))
  unfolding ends_from
  cut-end ms stops stop k h =
      sym (ap (λ (ls : List (List ℕ)). lay stops k (ends_from stop ls)) (drop_of_length-le (cuts ms) {i = k} (omega (arith, cuts-many ms))) ∙ lay-nil stops k)

  -- ---- the check over them, by their ends as they are laid in 32 places
  module _ (ms : List (List ℕ)) (n : ℕ) (many : length ms ≡ n) (count : count_holds n ≡ true) (small : x < top) (stops : List ℕ) (e : stops ≡ lay (replicate 32 0) 0 (ends_from 0 (cuts ms))) where
    abbrev row : List ℕ
    row = replicate 32 x

    abbrev ends : List ℕ
    ends = take n stops

    ends_are : ends ≡ ends_from 0 (cuts ms)
    ends_are =
        let long : n ≡ 0 + length (ends_from 0 (cuts ms)) = omega (arith, ends-length 0 (cuts ms), cuts-many ms) in
        ap₂ (λ (m : ℕ) (l : List ℕ). take m l) long e ∙ lay-take (replicate 32 0) 0 (ends_from 0 (cuts ms)) (omega arith)

    pub ends_many : length ends ≡ n
    ends_many = ap (λ (l : List ℕ). length l) ends_are ∙ ends-length 0 (cuts ms) ∙ cuts-many ms ∙ many

    row_is : row ≡ all_numbers (cuts ms) ++ replicate (32 - length (all_numbers (cuts ms))) x
    row_is =
        let m : ℕ = length (all_numbers (cuts ms)) in
        let all : 32 ≡ m + (32 - m) = omega (arith, cuts-few ms, counts n count) in
        ap (λ (k : ℕ). replicate k x) all ∙ sym (replicate-append-replicate m (32 - m) x) ∙ ap (λ (l : List ℕ). l ++ replicate (32 - m) x) (sym (cuts_are ms))

    -- lists of which all came
    lent : Lent
    lent = lend row ends (word_of (map came (cuts ms)))

    cuts-accepted : lists_of lent ≡ accepted (cuts ms)
    unfolding lent
    cuts-accepted =
        ap₂ (λ (r e : List ℕ). lists_of (lend r e (word_of (map came (cuts ms))))) row_is ends_are
        ∙ laid-came (cuts ms) _ (ap count_holds (cuts-many ms ∙ many) ∙ count) (cuts_storable ms small)

    pub cuts_readable : Readable row ends
    unfolding lent
    cuts_readable = readable lent (cuts ms) cuts-accepted

    -- it says whether the number is a member of the whole lists
    pub cuts-told : (t : Tree) → size t ≤ 48 → (b : Bool) (rs : model.Readers) → says b rs ≡ check_node (lists_from row 0 ends) t 0 x (record { places = replicate 48 0; moves = 0 }) → b ≡ member ms t x
    unfolding lent
    cuts-told t fits b rs e =
        first_check (cuts ms) (storable_up (cuts ms) (cuts_storable ms small)) t fits x small b rs 0
        (e ∙ ap (λ (ls : List (List ℕ)). check_node ls t 0 x (record { places = replicate 48 0; moves = 0 })) (lists_accepted lent (cuts ms) cuts-accepted).are)
        ∙ member_agrees (cuts ms) ms x (λ k. ap (among x) (cuts-at ms k) ∙ cut-among (get_or ms k [])) t
