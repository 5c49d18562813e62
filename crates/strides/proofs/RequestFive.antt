-- Request Five's promise holds: over accepted lists a reader that hops answers as one that moves singly, from the same place to the same
-- place, and by no more moves; so every step and every run is alike in all but the moves. Assumes nothing.
use mathlib.Core.Path.{◌≡◌, refl, ap, ◌∙◌}
use mathlib.Core.List.{List, [], ◌∷◌}
use Prim.Native.Nat.{ℕ, ◌+◌, ◌-◌, ◌≤◌, ◌<◌}
use native.Mathlib.Omega.{arith}
use lib.ListN.{length, get_or, set, drop, length-drop}
use lib.Seq.{drop-drop, get_or-drop, get_or-set_same, set-set}
use Rattle.model.specs.Outcome.{accepted}
use Rattle.model.specs.Lists.{Numbers, Lent}
use Rattle.model.specs.Machine.{Call, calls}
use Rattle.model.specs.Steps.{Readers, singly, hopped, hopping, answer, read_by, seek_by, check_by}
use Rattle.model.specs.Run.{State, Start, starting, Low, begin, run, run_by, Source, source_of}
use Rattle.model.specs.RequestFive.{ReaderHops, StepAsBefore, RunAsBefore, RequestFive}
use Rattle.model.proofs.Order.{Up, up_drop}
use Rattle.model.proofs.Hops.{hops-far, hops-near, hopping-on, hopping_off, hopping-short, grown-same, moves-le}
use Rattle.model.proofs.Places.{summed-run}
use Rattle.model.proofs.DemandThree.{up, small, ran}
use Rattle.strides.proofs.Alike.{Alike, Both, step_alike, steps_alike}

-- ---- the reader, sentence by sentence

reader_hops : (ls : List (List ℕ)) (k i e : ℕ) (rs : Readers) → i < length rs.places → ReaderHops ls k i e rs
unfolding seek_by read_by hopped
reader_hops ls k i e rs inside = record { hops = hops; then_singly = then_singly }
  where
    l : List ℕ
    l = get_or ls k []

    place : ℕ
    place = get_or rs.places i 0

    long : length (drop place l) ≡ length l - place
    long = length-drop place l

    hops : place + 64 ≤ length l → get_or l (place + 63) 0 < e
        → read_by hopping l i e rs ≡ read_by hopping l i e (record { places = set rs.places i (place + 64); moves = rs.moves + 1 })
    hops far low =
        let on : hopping (drop place l) e ≡ hopped (hopping (drop (place + 64) l) e) =
        hopping-on e (drop place l) (hops-far e (drop place l) (omega (arith, long)) (rw (get_or-drop place l 63 0) low)) ∙ ap (λ (r : List ℕ). hopped (hopping r e)) (drop-drop 64 place l) in
        let grown = (hopping (drop (place + 64) l) e).grown in
        let moves = (hopping (drop (place + 64) l) e).moves in
        let p : place + (64 + grown) ≡ place + 64 + grown = omega arith in
        let m : rs.moves + (1 + moves) ≡ rs.moves + 1 + moves = omega arith in
        rw (on, get_or-set_same rs.places i (place + 64) 0 inside, p, m, set-set rs.places i (place + 64) (place + 64 + grown)) refl

    then_singly : (place + 64 ≤ length l → e ≤ get_or l (place + 63) 0) → read_by hopping l i e rs ≡ read_by singly l i e rs
    then_singly near =
        let one = hopping_off e (drop place l) (hops-near e (drop place l) (λ far. rw (get_or-drop place l 63 0) (near (omega (arith, long, far))))) in
        rw one refl

-- ---- over an ascending list: the same place, and no more moves

abbrev SamePlaces : Readers → Readers → Type 0
SamePlaces rs rs' = (rs.places ≡ rs'.places) × (rs.moves ≤ rs'.moves)

answer_alike : (P : Readers → Readers → Type 0) (left : List ℕ) (rs rs' : Readers) → P rs rs' → Alike P (answer left rs) (answer left rs')
unfolding answer
answer_alike P [] rs rs' p = p
answer_alike P (x ∷ xs) rs rs' p = (refl, p)

read_alike : (l : List ℕ) → Up 0 l → (i : ℕ) → Both SamePlaces (read_by hopping l i) (read_by singly l i)
unfolding read_by singly
read_alike l up i e rs rs' p =
    let left = drop (get_or rs.places i 0) l in
    let same = grown-same e 0 left (up_drop 0 (get_or rs.places i 0) l up) in
    rw (← p.0, same) (answer_alike SamePlaces _ _ _ (refl, omega (arith, p.1, same, moves-le e left)))

-- ---- over a short list: the same in all

read_short : (l : List ℕ) → length l < 64 → (i : ℕ) → Both (λ (rs rs' : Readers). rs ≡ rs') (read_by hopping l i) (read_by singly l i)
unfolding read_by
read_short l short i e rs rs' p =
    let same = hopping-short e (drop (get_or rs.places i 0) l) (omega (arith, short, length-drop (get_or rs.places i 0) l)) in
    rw (← p, same) (answer_alike (λ (rs rs' : Readers). rs ≡ rs') _ _ _ refl)

-- ---- every step and every run over one source

module _ (l : Lent) (expression : List ℕ) (n : Numbers l.numbers) (s : Source) (is : source_of l expression ≡ accepted s) where
  every_step : (state : State) (c : Call) → StepAsBefore s state c
  every_step state c =
      let a = step_alike SamePlaces hopping singly s.lists (λ k. read_alike (get_or s.lists k []) (up l expression n s is k)) s.tree c state state refl (refl, omega arith) in
      record { reply = a.reply; floor = a.floor; places = a.readers.0; moves = a.readers.1 }

  module _ (start : Start) (low : Low start) (codes ds lent : List ℕ) (many : length codes ≡ length ds) (room : length codes ≤ length lent) where
    every_run : RunAsBefore l expression s start codes ds lent (run_by singly s.lists s.tree start (calls codes ds))
    unfolding run_by
    every_run =
        let cs = calls codes ds in
        let sound = ran l expression n s is start codes ds lent low many room in
        let a = steps_alike SamePlaces hopping singly s.lists (λ k. read_alike (get_or s.lists k []) (up l expression n s is k)) s.tree cs (begin start) (begin start) refl (refl, omega arith) in
        record {
          result = run s.lists s.tree start cs;
          sends = sound.sends;
          places = a.readers.0;
          replies = a.replies;
          last = ap starting a.floor;
          were_the_sum = summed-run s.lists s.tree (small l expression n s is) start cs;
          short = λ few. ap (λ (rs : Readers). rs.moves) (steps_alike (λ (rs rs' : Readers). rs ≡ rs') hopping singly s.lists (λ k. read_short (get_or s.lists k []) (few k)) s.tree cs (begin start) (begin start) refl refl).readers;
          by_the_steps = refl;
          never_above = sound.summed;
          bounded = sound.bounded;
        }

pub request_five : RequestFive
unfolding seek_by check_by
request_five = record {
  reader = reader_hops;
  in_checks = λ ls k i d rs. refl;
  every_step = every_step;
  every_run = every_run;
}
