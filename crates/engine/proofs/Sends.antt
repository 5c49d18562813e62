-- What a run sends back from a state and a reply row on: call by call, each reply laid behind the one before it. Assumes nothing.
use mathlib.Core.Path.{◌≡◌, sym, ap, ap₂, ◌∙◌}
use mathlib.Core.List.{List, [], ◌∷◌, map}
use Prim.Native.Nat.{ℕ, ◌+◌, ◌≤◌, ◌<◌}
use native.Mathlib.Nat.{zero-add}
use native.Mathlib.Omega.{arith}
use lib.ListN.{length, get_or, set, drop, replicate, drop_of_length-le, length-map}
use Rattle.model.specs.declared.Reply.{Reply}
use Rattle.model.specs.Outcome.{Sent}
use Rattle.model.specs.Expression.{Tree}
use Rattle.model.specs.Machine.{Call, call, calls, encode}
use Rattle.model.specs.Run.{State, step, steps, starting, begin, run, run_by, steps_by}
use Rattle.model.specs.Calls.{run_parts}
use Rattle.model.specs.Demands.{ran_all}
use Rattle.fields.specs.Rows.{lay}
use Rattle.fields.proofs.Rows.{lay-nil, lay-cons}
use Rattle.lists.proofs.Left.{left-cons}

-- a last state and a reply row, as they are sent back
abbrev handed : State → List ℕ → Sent
handed s row = record { number = 0; parts = run_parts s.readers.moves s.readers.places (starting s.floor); rows = row ∷ [] }

-- the calls that are left, from a state, into the reply row from i on
unfoldable pub sends : List (List ℕ) → Tree → State → List Call → List ℕ → ℕ → Sent
sends ls t s cs lent i =
    let r = steps ls t s cs in
    handed r.1 (lay lent i (map encode r.0))

-- from the start
pub sends-start : (ls : List (List ℕ)) (t : Tree) (bookmark : ℕ) (codes ds lent : List ℕ)
    → sends ls t (record { floor = bookmark; readers = record { places = replicate 48 0; moves = 0 } }) (calls codes ds) lent 0 ≡ ran_all (run ls t (starting bookmark) (calls codes ds)) lent
unfolding sends run_by begin lay
sends-start ls t bookmark codes ds lent = let rs = (steps ls t (begin (starting bookmark)) (calls codes ds)).0 in rw (zero-add (length (map encode rs)), length-map rs encode)

-- behind the last call
pub sends_none : (ls : List (List ℕ)) (t : Tree) (s : State) (codes ds lent : List ℕ) (i : ℕ) → length codes ≤ i
    → handed s lent ≡ sends ls t s (calls (drop i codes) (drop i ds)) lent i
unfolding sends steps_by calls
sends_none ls t s codes ds lent i h = rw (drop_of_length-le codes {i = i} h, lay-nil lent i)

-- one call, which leaves its reply x in the row and the state of p
sends-cons : (ls : List (List ℕ)) (t : Tree) (s : State) (c : Call) (cs : List Call) (lent : List ℕ) (i : ℕ) (p : Reply × State) (x : ℕ)
    → i < length lent → p ≡ step ls t s c → x ≡ encode p.0 → sends ls t p.1 cs (set lent i x) (i + 1) ≡ sends ls t s (c ∷ cs) lent i
unfolding sends steps_by
sends-cons ls t s c cs lent i p x h e f =
    let q = steps ls t p.1 cs in
    ap (handed q.1) (ap (λ (y : ℕ). lay (set lent i y) (i + 1) (map encode q.0)) f ∙ sym (lay-cons lent i (encode p.0) (map encode q.0) h))
    ∙ ap (λ (p : Reply × State). let q = steps ls t p.1 cs in handed q.1 (lay lent i (encode p.0 ∷ map encode q.0))) e

pub sends-one : (ls : List (List ℕ)) (t : Tree) (s : State) (codes ds lent : List ℕ) (i : ℕ) (p : Reply × State) (x : ℕ)
    → i < length codes → length codes ≡ length ds → i < length lent → p ≡ step ls t s (call (get_or codes i 0) (get_or ds i 0)) → x ≡ encode p.0
    → sends ls t p.1 (calls (drop (i + 1) codes) (drop (i + 1) ds)) (set lent i x) (i + 1) ≡ sends ls t s (calls (drop i codes) (drop i ds)) lent i
unfolding calls
sends-one ls t s codes ds lent i p x h₁ h₂ h₃ e f =
    sends-cons ls t s (call (get_or codes i 0) (get_or ds i 0)) (calls (drop (i + 1) codes) (drop (i + 1) ds)) lent i p x h₃ e f
    ∙ sym (ap₂ (λ (xs ys : List ℕ). sends ls t s (calls xs ys) lent i) (left-cons codes i h₁) (left-cons ds i (omega arith)))
