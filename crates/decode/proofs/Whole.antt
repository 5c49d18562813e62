-- Reading a delivery whole, into lent rows, by bit positions; the word that it hands back; and what is handed back with each
-- outcome. Assumes nothing.
use mathlib.Core.Path.{◌≡◌, refl, ap₂, ◌∙◌}
use mathlib.Core.Bool.{true, false}
use mathlib.Core.List.{List, map}
use mathlib.Core.Option.{some}
use Prim.Native.Nat.{ℕ, zero, suc, ◌+◌, ◌-◌, ◌*◌, ◌^◌, ◌≤◌, ◌<◌}
use native.Mathlib.Nat.{zero-add, zero-mul, add-zero}
use lib.ListN.{length, replicate, length-replicate}
use borrow.Author.Tests.{le-leb, lt-leb}
use Rattle.model.specs.Outcome.{Outcome, refused, accepted, ◌>>=◌, ◌>>◌, require, over, sent}
use Rattle.model.specs.Lists.{count_holds}
use Rattle.model.specs.Sets.{all_numbers}
use Rattle.model.specs.Fields.{value, take_field, only_fill}
use Rattle.model.specs.Delivery.{Supplied, supplied_numbers, is_delivered, by_bit, read_delivery, word_of}
use Rattle.model.specs.Calls.{decoded, decoded_refused, ends_from, decode_delivery}
use Rattle.model.proofs.Sources.{seen, by_bit-seen}
use Rattle.fields.specs.Rows.{lay}
use Rattle.fields.specs.Positions.{take_at}
use Rattle.fields.proofs.Fields.{value-append}
use Rattle.walk.specs.Counts.{read_lists}
use Rattle.walk.proofs.Whole
use Rattle.walk.proofs.Whole.{from, alike}

module _ (s : List ℕ) (numbers_room ends_room : ℕ) where
  heads_alike : (p : ℕ) → by_bit.take_head take_field (from s p) ≡ seen (from s) (by_bit.take_head (take_at s) p)
  heads_alike p = by_bit-seen (from s) (take_at s) take_field (alike s) p

  pub reads_no_number : {k : ℕ} → take_at s 6 0 ≡ refused k → read_delivery numbers_room ends_room s ≡ refused k
  unfolding read_delivery
  reads_no_number e = Whole.reads_no_number by_bit s heads_alike (some numbers_room) (some ends_room) e

  module _ {n p : ℕ} (e : take_at s 6 0 ≡ accepted (n, p)) where
    pub reads_wrong_number : count_holds n ≡ false → read_delivery numbers_room ends_room s ≡ refused 7
    unfolding read_delivery
    reads_wrong_number h = Whole.reads_wrong_number by_bit s heads_alike (some numbers_room) (some ends_room) e h

    pub reads_too_many : count_holds n ≡ true → ends_room < n → read_delivery numbers_room ends_room s ≡ refused 6
    unfolding read_delivery
    reads_too_many h l = Whole.reads_too_many by_bit s heads_alike (some numbers_room) (some ends_room) e h (lt-leb n ends_room l)

    pub reads_on : count_holds n ≡ true → n ≤ ends_room → {o : Outcome (List Supplied × ℕ)} → read_lists (take_at s) n numbers_room p ≡ o
        → read_delivery numbers_room ends_room s ≡ (o >>= λ r. (require 5 (only_fill (from s r.1)) >> accepted r.0))
    unfolding read_delivery
    reads_on h l f = Whole.reads_on by_bit s heads_alike (some numbers_room) (some ends_room) e h (le-leb n ends_room l) f

-- the word: the lists' bits, and behind them a 0 for each list that is not there
pub word-is : (ss : List Supplied) → word_of ss ≡ value (map is_delivered ss) * 2 ^ (32 - length ss)
unfolding word_of value
word-is ss =
    let behind : ℕ = 32 - length ss in
    value-append (map is_delivered ss) (replicate behind false)
    ∙ ap₂ (λ (k v : ℕ). value (map is_delivered ss) * 2 ^ k + v) (length-replicate behind false) (none behind) ∙ add-zero _
  where
    none : (k : ℕ) → value (replicate k false) ≡ 0
    none zero = refl
    none (suc k) = rw (zero-mul, zero-add) (none k)

-- what is handed back
pub refuses : (s numbers ends : List ℕ) {k : ℕ} → read_delivery (length numbers) (length ends) s ≡ refused k → decoded (decoded_refused k) numbers ends ≡ decode_delivery s numbers ends
unfolding decode_delivery sent
refuses s numbers ends e = rw e

pub success : (s numbers ends : List ℕ) {ss : List Supplied} → read_delivery (length numbers) (length ends) s ≡ accepted ss
    → let ls = map supplied_numbers ss in decoded (record { number = 0; word = word_of ss; lists = length ss; numbers = length (all_numbers ls) }) (lay numbers 0 (all_numbers ls)) (lay ends 0 (ends_from 0 ls)) ≡ decode_delivery s numbers ends
unfolding decode_delivery sent over lay
success s numbers ends e = rw (e, zero-add, zero-add)
