-- What every call sends back has one shape, accepted or refused: as many parts as its result has, and every lent row as
-- long as it was. Assumes nothing.
use mathlib.Core.Path.{◌≡◌, refl, ap, ap₂, ◌∙◌, subst}
use mathlib.Core.List.{List, [], ◌∷◌, map}
use Prim.Native.Nat.{ℕ, suc, ◌≤◌}
use native.Mathlib.Omega.{arith}
use lib.Dec.{leb, eqb}
use borrow.Author.Tests.{leb-true}
use lib.ListN.{length, drop, length-append, length-drop, length-map, length-replicate}
use Rattle.model.specs.Outcome.{Outcome, refused, accepted, Sent, Success, over, sent}
use Rattle.model.specs.Lists.{count_holds, Lent, lists_of}
use Rattle.model.specs.Expression.{Tree, leaf, difference, union, intersection, Members, one, more, size, sizes}
use Rattle.model.specs.Machine.{Call, calls, encode}
use Rattle.model.specs.Run.{State, step, steps, Start, starting, begin, Result, run, named_in, run_of, run_by, steps_by}
use Rattle.model.specs.Forms.{nodes, nodes_all, row_byte, row, packed, there, read_row, read_packed}
use Rattle.model.specs.Delivery.{by_count, came, supplied_numbers, all_delivered, by_bit, read_stored, delivery, read_delivery, old_delivery, supplied}
use Rattle.model.specs.Calls.{unpack_expression, pack_expression, decode_delivery, stored, encode_delivery, upgrade_delivery, downgrade_delivery, run_parts, run_size, run_call}
use Rattle.model.specs.Program.{listing, listed, list_members}
use Rattle.model.specs.Joined.{join_lists, lengths_hold, join_deliveries}
use Rattle.model.proofs.Accepted.{accepted-same, bound, required, packed_reads}
use Rattle.model.proofs.Places.{counted_run}
use Rattle.model.proofs.Deliveries.{delivery_holds}
use Rattle.model.proofs.Laid.{ends-length}
use Rattle.model.proofs.DemandThree.{AcceptedRun, run_accepted, source-accepted}

pub record Shape (parts : ℕ) (rows : List (List ℕ)) (s : Sent) : Type 0 where
  pub parts-long : length s.parts ≡ parts
  pub rows_long : map length s.rows ≡ map length rows

-- what is written fits its row
abbrev Fit : List (List ℕ) → List (List ℕ) → Type 0
Fit [] rows = Unit {0}
Fit (w ∷ ws) [] = Unit {0}
Fit (w ∷ ws) (r ∷ rs) = (length w ≤ length r) × Fit ws rs

over-long : (ws rows : List (List ℕ)) → Fit ws rows → map length (over ws rows) ≡ map length rows
unfolding over
over-long [] rows f = refl
over-long (w ∷ ws) [] f = refl
over-long (w ∷ ws) (r ∷ rs) f = ap₂ (λ (n : ℕ) (ns : List ℕ). n ∷ ns) (length-append w (drop (length w) r) ∙ omega (arith, length-drop (length w) r)) (over-long ws rs f.1)

abbrev Fits : ℕ → List (List ℕ) → Success → Type 0
Fits parts rows s = (length s.parts ≡ parts) × Fit s.written rows

sent_shape : (parts : ℕ) (rows : List (List ℕ)) (o : Outcome Success) → ((s : Success) → o ≡ accepted s → Fits parts rows s) → Shape parts rows (sent parts rows o)
unfolding sent
sent_shape parts rows (refused n) h = record { parts-long = length-replicate parts 0; rows_long = refl }
sent_shape parts rows (accepted s) h = record { parts-long = (h s refl).0; rows_long = over-long s.written rows (h s refl).1 }

-- a tree has as many nodes in its row as it has nodes
mutual
  unfolding nodes size

  nodes-long : (t : Tree) → length (nodes t) ≡ size t
  nodes-long (leaf k) = refl
  nodes-long (difference s t) = omega (arith, length-append (nodes s) (nodes t), nodes-long s, nodes-long t)
  nodes-long (union ts) = omega (arith, nodes_all-long ts)
  nodes-long (intersection ts) = omega (arith, nodes_all-long ts)

  nodes_all-long : (ts : Members) → length (nodes_all ts) ≡ sizes ts
  nodes_all-long (one t) = nodes-long t
  nodes_all-long (more t ts) = omega (arith, length-append (nodes t) (nodes_all ts), nodes-long t, nodes_all-long ts)

pub row-long : (t : Tree) → length (row t) ≡ size t
unfolding row
row-long t = length-map (nodes t) row_byte ∙ nodes-long t

-- a run has one reply for each call
steps-long : (ls : List (List ℕ)) (t : Tree) (s : State) (cs : List Call) → length (steps ls t s cs).0 ≡ length cs
unfolding steps_by
steps-long ls t s [] = refl
steps-long ls t s (c ∷ cs) = ap suc (steps-long ls t (step ls t s c).1 cs)

calls-long : (codes ds : List ℕ) → length codes ≡ length ds → length (calls codes ds) ≡ length codes
unfolding calls
calls-long [] ds h = refl
calls-long (c ∷ cs) [] h = absurd (omega arith)
calls-long (c ∷ cs) (d ∷ ds) h = ap suc (calls-long cs ds (omega arith))

pub replies-long : (ls : List (List ℕ)) (t : Tree) (start : Start) (codes ds : List ℕ) → length codes ≡ length ds → length (run ls t start (calls codes ds)).replies ≡ length codes
unfolding run_by
replies-long ls t start codes ds h = steps-long ls t (begin start) (calls codes ds) ∙ calls-long codes ds h

-- ---- the calls

pub unpack_shape : (bytes : List ℕ) (lists word : ℕ) (lent : List ℕ) → Shape 1 (lent ∷ []) (unpack_expression bytes lists word lent)
unfolding unpack_expression
unpack_shape bytes lists word lent = sent_shape 1 (lent ∷ []) _ (λ s e.
    let a = required 7 (count_holds lists) _ s e in
    let b = bound (read_packed (there lists word) bytes) _ s a.1 in
    let c = required 6 (leb (size b.got) (length lent)) _ s b.rest in
    subst (Fits 1 (lent ∷ [])) (accepted-same c.1) (refl, (omega (arith, row-long b.got, leb-true (size b.got) (length lent) c.0), tt)))

pub pack_shape : (bytes : List ℕ) (lists word : ℕ) (lent : List ℕ) → Shape 1 (lent ∷ []) (pack_expression bytes lists word lent)
unfolding pack_expression
pack_shape bytes lists word lent = sent_shape 1 (lent ∷ []) _ (λ s e.
    let a = required 7 (count_holds lists) _ s e in
    let b = bound (read_row (there lists word) bytes) _ s a.1 in
    let c = required 6 (leb (length (packed b.got)) (length lent)) _ s b.rest in
    subst (Fits 1 (lent ∷ [])) (accepted-same c.1) (refl, (leb-true (length (packed b.got)) (length lent) c.0, tt)))

pub decode_shape : (bytes lent_numbers lent_ends : List ℕ) → Shape 3 (lent_numbers ∷ lent_ends ∷ []) (decode_delivery bytes lent_numbers lent_ends)
unfolding decode_delivery
decode_shape bytes lent_numbers lent_ends = sent_shape 3 (lent_numbers ∷ lent_ends ∷ []) _ (λ s e.
    let a = bound (read_delivery (length lent_numbers) (length lent_ends) bytes) _ s e in
    let d = delivery_holds (length lent_numbers) (length lent_ends) bytes a.got a.first in
    subst (Fits 3 (lent_numbers ∷ lent_ends ∷ [])) (accepted-same a.rest) (refl, (d.numbers, (omega (arith, d.ends, ends-length 0 (map supplied_numbers a.got), length-map a.got supplied_numbers), tt))))

-- bytes written
stored_fits : (bytes lent : List ℕ) (s : Success) → stored bytes lent ≡ accepted s → Fits 1 (lent ∷ []) s
unfolding stored
stored_fits bytes lent s e =
    let b = required 6 (leb (length bytes) (length lent)) _ s e in
    subst (Fits 1 (lent ∷ [])) (accepted-same b.1) (refl, (leb-true (length bytes) (length lent) b.0, tt))

pub encode_shape : (l : Lent) (lent : List ℕ) → Shape 1 (lent ∷ []) (encode_delivery l lent)
unfolding encode_delivery
encode_shape l lent = sent_shape 1 (lent ∷ []) _ (λ s e. let a = bound (lists_of l) _ s e in stored_fits (delivery (supplied l.word a.got)) lent s a.rest)

pub upgrade_shape : (bytes lent : List ℕ) → Shape 1 (lent ∷ []) (upgrade_delivery bytes lent)
unfolding upgrade_delivery
upgrade_shape bytes lent = sent_shape 1 (lent ∷ []) _ (λ s e. let a = bound (read_stored by_count bytes) _ s e in stored_fits (delivery (map came a.got)) lent s a.rest)

pub downgrade_shape : (bytes lent : List ℕ) → Shape 1 (lent ∷ []) (downgrade_delivery bytes lent)
unfolding downgrade_delivery
downgrade_shape bytes lent = sent_shape 1 (lent ∷ []) _ (λ s e.
    let a = bound (read_stored by_bit bytes) _ s e in
    let b = required 19 (all_delivered a.got) _ s a.rest in
    stored_fits (old_delivery (map supplied_numbers a.got)) lent s b.1)

pub join_shape : (full daily lent : List ℕ) → Shape 1 (lent ∷ []) (join_deliveries full daily lent)
unfolding join_deliveries
join_shape full daily lent = sent_shape 1 (lent ∷ []) _ (λ s e.
    let a = bound (read_stored by_bit full) _ s e in
    let b = bound (read_stored by_bit daily) _ s a.rest in
    let c = required 20 (eqb (length a.got) (length b.got)) _ s b.rest in
    let d = required 21 (lengths_hold (join_lists a.got b.got)) _ s c.1 in
    stored_fits (delivery (join_lists a.got b.got)) lent s d.1)

-- the parts of a run's result are as many, whatever they are
parts-long : (moves : ℕ) (places : List ℕ) (last : Start) → length places ≡ 48 → length (run_parts moves places last) ≡ run_size
parts-long moves places last h = omega (arith, length-append places (last.bookmark ∷ []), h)

run_fits : (l : Lent) (expression : List ℕ) (start : Start) (codes ds lent : List ℕ) (got : Result) → AcceptedRun l expression start codes ds (length lent) got
    → Fits run_size (lent ∷ []) (record { parts = run_parts got.moves got.places got.last; written = map encode got.replies ∷ [] })
unfolding run_by
run_fits l expression start codes ds lent got r =
    let ls = r.source.lists in
    let t = r.source.tree in
    let last = (steps ls t (begin start) (calls codes ds)).1 in
    let c = counted_run ls t (packed_reads (named_in l) expression t (source-accepted l expression r.source r.is-source).1).nodes start (calls codes ds) in
    subst (λ (g : Result). Fits run_size (lent ∷ []) (record { parts = run_parts g.moves g.places g.last; written = map encode g.replies ∷ [] })) r.are (
      parts-long last.readers.moves last.readers.places (starting last.floor) c.long,
      (omega (arith, length-map (steps ls t (begin start) (calls codes ds)).0 encode, replies-long ls t start codes ds r.paired, r.fits), tt),
    )

pub run_shape : (l : Lent) (expression : List ℕ) (start : Start) (codes ds lent : List ℕ) → Shape run_size (lent ∷ []) (run_call l expression start codes ds lent)
unfolding run_call
run_shape l expression start codes ds lent = sent_shape run_size (lent ∷ []) _ (λ s e.
    let a = bound (run_of l expression start codes ds (length lent)) _ s e in
    subst (Fits run_size (lent ∷ [])) (accepted-same a.rest)
    (run_fits l expression start codes ds lent a.got (run_accepted l expression start codes ds (length lent) a.got a.first)))

pub listing_shape : (input lent : List ℕ) → Shape 2 (lent ∷ []) (list_members input lent)
unfolding list_members listed
listing_shape input lent = sent_shape 2 (lent ∷ []) _ (λ s e.
    let a = bound (listing input) _ s e in
    let b = required 6 (leb (length a.got.members) (length lent)) _ s a.rest in
    subst (Fits 2 (lent ∷ [])) (accepted-same b.1) (refl, (leb-true (length a.got.members) (length lent) b.0, tt)))
