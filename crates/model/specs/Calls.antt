-- The public calls that write into lent rows, whole: what each sends back, for all arguments, with its lent rows to
-- their last element. (The part of a list is `Lists.part_of`, the program `Program.list_members`.)
use Rattle.std.specs.Prelude.{List, [], ◌∷◌, ◌++◌, map, ℕ, ◌+◌, leb, length, replicate}
use Rattle.model.specs.declared.WriteResult.{WriteResult}
use Rattle.model.specs.declared.DecodeResult.{DecodeResult}
use Rattle.model.specs.declared.RunResult.{RunResult}
use Rattle.model.specs.declared.MembersResult.{MembersResult}
use Rattle.model.specs.Outcome.{Outcome, accepted, ◌>>=◌, ◌>>◌, require, Success, Sent, sent}
use Rattle.model.specs.Lists.{count_holds, Lent, lend, lists_of}
use Rattle.model.specs.Expression.{size}
use Rattle.model.specs.Sets.{all_numbers}
use Rattle.model.specs.Machine.{encode}
use Rattle.model.specs.Run.{Start, starting, run_of}
use Rattle.model.specs.Forms.{row, packed, there, read_row, read_packed}
use Rattle.model.specs.Delivery.{by_count, Supplied, came, supplied_numbers, all_delivered, by_bit, read_stored, delivery, read_delivery, old_delivery, supplied, word_of}

-- what a call sends back, from the struct that it hands back and its lent rows as it leaves them
abbrev pub written : WriteResult → List ℕ → Sent
written r row = record { number = r.number; parts = r.count ∷ []; rows = row ∷ [] }

abbrev pub decoded : DecodeResult → List ℕ → List ℕ → Sent
decoded r numbers ends = record { number = r.number; parts = r.word ∷ r.lists ∷ r.numbers ∷ []; rows = numbers ∷ ends ∷ [] }

-- the other parts of a run's result: "the moves, all 48 places and the bookmark"; and how many they are
abbrev pub run_parts : ℕ → List ℕ → Start → List ℕ
run_parts moves places last = moves ∷ (places ++ (last.bookmark ∷ []))

abbrev pub run_size : ℕ
run_size = length (run_parts 0 (replicate 48 0) (starting 0))

abbrev pub ran : RunResult → List ℕ → Sent
ran r row = record { number = r.number; parts = run_parts r.moves r.places (starting r.bookmark); rows = row ∷ [] }

abbrev pub counted : MembersResult → List ℕ → Sent
counted r row = record { number = r.number; parts = r.count ∷ r.moves ∷ []; rows = row ∷ [] }

-- "A refusal hands back its number, every other part of the result 0": as such a struct
abbrev pub written_refused : ℕ → WriteResult
written_refused n = record { number = n; count = 0 }

abbrev pub decoded_refused : ℕ → DecodeResult
decoded_refused n = record { number = n; word = 0; lists = 0; numbers = 0 }

abbrev pub ran_refused : ℕ → RunResult
ran_refused n = record { number = n; moves = 0; places = replicate 48 0; bookmark = 0 }

abbrev pub counted_refused : ℕ → MembersResult
counted_refused n = record { number = n; count = 0; moves = 0 }

-- one end for each list, from lists that start at `start`
unfoldable pub ends_from : ℕ → List (List ℕ) → List ℕ
ends_from start [] = []
ends_from start (l ∷ ls) = (start + length l) ∷ ends_from (start + length l) ls

-- the lists of a delivery laid one after the other, as they are lent with their word
abbrev pub laid_out : List Supplied → Lent
laid_out ss = lend (all_numbers (map supplied_numbers ss)) (ends_from 0 (map supplied_numbers ss)) (word_of ss)

-- packed expression to row form: "Reading checks 7 first"; "After the last: 5, then 6"; the nodes. Two: "Reading an
-- expression takes the word too"
unfoldable pub unpack_expression : List ℕ → ℕ → ℕ → List ℕ → Sent
unpack_expression bytes lists word lent = sent 1 (lent ∷ []) (do
  require 7 (count_holds lists)
  t ← read_packed (there lists word) bytes
  require 6 (leb (size t) (length lent))
  accepted (record { parts = size t ∷ []; written = row t ∷ [] }))

-- row form to packed expression; the bytes
unfoldable pub pack_expression : List ℕ → ℕ → ℕ → List ℕ → Sent
pack_expression bytes lists word lent = sent 1 (lent ∷ []) (do
  require 7 (count_holds lists)
  t ← read_row (there lists word) bytes
  require 6 (leb (length (packed t)) (length lent))
  accepted (record { parts = length (packed t) ∷ []; written = packed t ∷ [] }))

-- a delivery read; the word, "the lists and the numbers"
unfoldable pub decode_delivery : List ℕ → List ℕ → List ℕ → Sent
decode_delivery bytes lent_numbers lent_ends = sent 3 (lent_numbers ∷ lent_ends ∷ []) (do
  ss ← read_delivery (length lent_numbers) (length lent_ends) bytes
  let l = laid_out ss in accepted (record { parts = l.word ∷ length ss ∷ length l.numbers ∷ []; written = l.numbers ∷ l.ends ∷ [] }))

-- bytes written, after the last test, 6; how many
unfoldable pub stored : List ℕ → List ℕ → Outcome Success
stored bytes lent = do
  require 6 (leb (length bytes) (length lent))
  accepted (record { parts = length bytes ∷ []; written = bytes ∷ [] })

-- a delivery written: "Writing checks 7, 10, 11, 6"; the bytes
unfoldable pub encode_delivery : Lent → List ℕ → Sent
encode_delivery l lent = sent 1 (lent ∷ []) (do
  ls ← lists_of l
  stored (delivery (supplied l.word ls)) lent)

-- Two: "Stored deliveries move to the new form, all lists delivered"; "both moves make the reading's own tests bar 6 first,
-- and 6 last"
unfoldable pub upgrade_delivery : List ℕ → List ℕ → Sent
upgrade_delivery bytes lent = sent 1 (lent ∷ []) (do
  ls ← read_stored by_count bytes
  stored (delivery (map came ls)) lent)

-- "and back"; "19 moving back with any list undelivered"
unfoldable pub downgrade_delivery : List ℕ → List ℕ → Sent
downgrade_delivery bytes lent = sent 1 (lent ∷ []) (do
  ss ← read_stored by_bit bytes
  require 19 (all_delivered ss)
  stored (old_delivery (map supplied_numbers ss)) lent)

-- a run: "It writes one reply for each call and nothing behind them"
unfoldable pub run_call : Lent → List ℕ → Start → List ℕ → List ℕ → List ℕ → Sent
run_call l expression start codes ds lent = sent run_size (lent ∷ []) (do
  r ← run_of l expression start codes ds (length lent)
  accepted (record { parts = run_parts r.moves r.places r.last; written = map encode r.replies ∷ [] }))
