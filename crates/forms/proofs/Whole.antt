-- The two calls whole. Each reads in one form and writes in the other, so both are one argument over what is written of a
-- tree. Assumes nothing.
use mathlib.Core.Path.{◌≡◌, refl, sym, ap, ◌∙◌}
use mathlib.Core.Bool.{Bool, true, false}
use mathlib.Core.List.{List, [], ◌∷◌, ◌++◌}
use Prim.Native.Nat.{ℕ, ◌+◌, ◌-◌, ◌*◌, ◌/◌, ◌≤◌, ◌<◌}
use native.Mathlib.Nat.{zero-add}
use native.Mathlib.Omega.{arith}
use lib.Dec.{leb}
use lib.ListN.{length, take, drop}
use borrow.Author.Tests.{le-leb, lt-leb}
use Rattle.model.specs.Outcome.{Outcome, refused, accepted, ◌>>=◌, ◌>>◌, require, Sent, over, sent}
use Rattle.model.specs.Lists.{count_holds}
use Rattle.model.specs.Expression.{Tree, size}
use Rattle.model.specs.Fields.{Bytes, field, bytes}
use Rattle.model.specs.Forms.{row, packed, there}
use Rattle.model.specs.Calls.{written_refused, written, unpack_expression, pack_expression}
use Rattle.model.specs.Demands.{Expression}
use Rattle.model.proofs.Accepted.{required, there_narrow, packed_reads, row_reads}
use Rattle.model.proofs.Bits.{bytes-length}
use Rattle.model.proofs.Shape.{row-long}
use Rattle.fields.specs.Positions.{put_bits}
use Rattle.fields.proofs.Puts.{put-append, put_whole}
use Rattle.expression.specs.declared.Form.{Form}
use Rattle.expression.specs.declared.Form.TheVariants.{Packed, Row}
use Rattle.expression.specs.declared.Expression.{Expression as Read}
use Rattle.expression.specs.Reading.{read_form}
use Rattle.expression.proofs.Handed.{Holds, Handed}
use Rattle.lists.proofs.Spans.{counts}
use Rattle.forms.specs.Reading.{read_over}
use Rattle.forms.specs.Packing.{row_bits}
use Rattle.forms.proofs.Nodes.{tree-packed, row-few}

-- ---- what is read

pub reads_over : (form : Form) (lists word : ℕ) (s : List ℕ) → Holds (there lists word) (read_over form lists word s)
reads_over form lists word s t e = go form (required 7 (count_holds lists) _ t e).1
  where
    go : (form : Form) → read_form form (there lists word) s ≡ accepted t → Expression (there lists word) t
    go Packed e = packed_reads (there lists word) s t e
    go Row e = row_reads (there lists word) s t e

-- its packed form is the bytes of the bits of its row form
packed-of : (form : Form) (lists word : ℕ) (s : List ℕ) (t : Tree) → read_over form lists word s ≡ accepted t → bytes (row_bits (row t)) ≡ packed t
unfolding packed
packed-of form lists word s t e =
    let few = (counts lists (required 7 (count_holds lists) _ t e).0).1 in
    ap bytes (tree-packed (there lists word) t (there_narrow lists word few) (reads_over form lists word s t e).named)

-- ---- what a call sends back

-- from the reading on, of what is written of a tree and how long it is
abbrev pub sends : (Tree → List ℕ) → (Tree → ℕ) → List ℕ → Outcome Tree → Sent
sends form long lent o = sent 1 (lent ∷ []) (o >>= λ t. (require 6 (leb (long t) (length lent)) >> accepted (record { parts = long t ∷ []; written = form t ∷ [] })))

module _ (form : Tree → List ℕ) (long : Tree → ℕ) (lent : List ℕ) {o : Outcome Tree} where
  pub sends-refusal : {n : ℕ} → o ≡ refused n → written (written_refused n) lent ≡ sends form long lent o
  unfolding sent
  sends-refusal e = rw e

  pub sends-short : {t : Tree} → o ≡ accepted t → length lent < long t → written (written_refused 6) lent ≡ sends form long lent o
  unfolding sent
  sends-short {t} e h = rw (e, lt-leb (long t) (length lent) h)

  pub sends-all : {t : Tree} → o ≡ accepted t → length (form t) ≡ long t → long t ≤ length lent
      → written (record { number = 0; count = long t }) (form t ++ drop (long t) lent) ≡ sends form long lent o
  unfolding sent over
  sends-all {t} e l h = rw (e, le-leb (long t) (length lent) h, l)

-- ---- the two calls

first : {A B : Type 0} (b : Bool) (o : Outcome A) (f : A → Outcome B) → ((require 7 b >> o) >>= f) ≡ (require 7 b >> (o >>= f))
first true o f = refl
first false o f = refl

module _ (s : List ℕ) (lists word : ℕ) (lent : List ℕ) where
  pub unpack_sends : sends row size lent (read_over Packed lists word s) ≡ unpack_expression s lists word lent
  unfolding unpack_expression
  unpack_sends = ap (sent 1 (lent ∷ [])) (first (count_holds lists) _ _)

  pub pack_sends : sends packed (λ t. length (packed t)) lent (read_over Row lists word s) ≡ pack_expression s lists word lent
  unfolding pack_expression
  pack_sends = ap (sent 1 (lent ∷ [])) (first (count_holds lists) _ _)

-- ---- packing what was read

-- its packed bits, and how many of them and of their bytes there are
pub record Counted (t : Tree) (n : ℕ) : Type 0 where
  pub are : bytes (row_bits (row t)) ≡ packed t
  pub bits-long : n ≡ length (row_bits (row t))
  pub bytes-long : (n + 7) / 8 ≡ length (packed t)
  pub few : n ≤ 336

pub counted : (form : Form) (lists word : ℕ) (s : List ℕ) {r : Read} (h : Handed (read_over form lists word s) r) {n : ℕ} → n ≡ length (row_bits (take r.count r.nodes)) → Counted h.tree n
counted form lists word s h {n} e =
    let bits : List Bool = row_bits (row h.tree) in
    let are = packed-of form lists word s h.tree h.is in
    let long : n ≡ length bits = e ∙ ap (λ (l : List ℕ). length (row_bits l)) h.nodes in
    record {
      are = are;
      bits-long = long;
      bytes-long = ap (λ (k : ℕ). (k + 7) / 8) long ∙ sym (bytes-length bits) ∙ ap length are;
      few = omega (arith, row-few (row h.tree), row-long h.tree, h.count, h.few);
    }

-- bits put from the start, and zero bits behind them up to a whole byte
pub put-filled : (s : List ℕ) (bs : List Bool) (n : ℕ) → Bytes s → n ≡ length (bytes bs) → n ≤ length s
    → put_bits (put_bits s 0 bs) (length bs) (field (8 * n - length bs) 0) ≡ bytes bs ++ drop n s
put-filled s bs n h e room =
    let k : ℕ = 8 * n - length bs in
    let long = bytes-length bs in
    ap (λ (p : ℕ). put_bits (put_bits s 0 bs) p (field k 0)) (sym (zero-add (length bs))) ∙ put-append s 0 bs (field k 0) (omega arith)
    ∙ put_whole s bs k h (omega arith) (omega arith) ∙ ap (λ (m : ℕ). bytes bs ++ drop m s) (sym e)
