-- What a walk through lists finds, list by list. Assumes nothing.
use mathlib.Core.Path.{◌≡◌, refl, sym, ap, ap₂, ◌∙◌}
use mathlib.Core.Bool.{Bool, true, false}
use mathlib.Core.List.{List, [], ◌∷◌}
use Prim.Native.Nat.{ℕ, ◌+◌, ◌≤◌, ◌<◌}
use native.Mathlib.Nat.{zero-add, add-zero, add_assoc}
use native.Mathlib.Omega.{arith}
use lib.ListN.{length, set}
use Rattle.model.specs.Outcome.{Outcome, refused, accepted, ◌>>=◌}
use Rattle.model.specs.Delivery.{undelivered, came, list_bits}
use Rattle.model.proofs.Accepted.{never_accepted, accepted-same}
use Rattle.std.proofs.Common.{Result, Ok, Err}
use Rattle.std.specs.Result.{IsErrAnd}
use Rattle.refusals.specs.declared.Refusal.{Refusal}
use Rattle.refusals.specs.Numbers.{number}
use Rattle.convert.specs.declared.Walked.{Walked}
use Rattle.fields.specs.Rows.{lay}
use Rattle.fields.proofs.Rows.{lay-set, lay-cons}
use Rattle.convert.specs.Forms.{ListIn, form_of, lacks, missing}
use Rattle.convert.specs.Walks.{stops_from, walk_says, found}

-- a refusal goes up by `?` as it came
pub walked_up : (r : Result Walked Refusal) (e : Refusal) → IsErrAnd r (λ y. y ≡ e) → walk_says r ≡ refused (number e)
walked_up (Ok a) e h = absurd h
walked_up (Err y) e h = ap (λ (x : Refusal). refused (number x)) h

pub lacks-one : (bit : Bool) (a : ListIn bit) → lacks bit a ≤ 1
lacks-one true undelivered = omega arith
lacks-one true (came l) = omega arith
lacks-one false l = omega arith

module _ (bit : Bool) (before : ℕ) (row : List ℕ) (k at : ℕ) where
  pub found_stop : {o : Outcome (List (ListIn bit) × ℕ)} {n : ℕ} → o ≡ refused n → found bit before row k at o ≡ refused n
  unfolding found
  found_stop e = rw e

  -- one list, and those behind it
  pub found-more : (a : ListIn bit) (o : Outcome (List (ListIn bit) × ℕ)) → k < length row
      → found bit before row k at (o >>= λ t. accepted (a ∷ t.0, t.1)) ≡ found bit (before + lacks bit a) (set row k at) (k + 1) (at + length (list_bits (form_of bit) a)) o
  unfolding found missing stops_from
  found-more a (refused n) h = refl
  found-more a (accepted r) h =
      ap₂ (λ (m : ℕ) (l : List ℕ). accepted (m, r.1, l)) (sym (add_assoc before (lacks bit a) (missing bit r.0))) (lay-cons row k at (stops_from (form_of bit) (at + length (list_bits (form_of bit) a)) r.0) h)

  -- none left
  pub found_none : {o : Outcome (List (ListIn bit) × ℕ)} → o ≡ accepted ([], at) → k < length row → found bit before row k at o ≡ accepted (before, at, set row k at)
  unfolding found missing stops_from
  found_none e h = rw e (ap₂ (λ (m : ℕ) (l : List ℕ). accepted (m, at, l)) (add-zero before) (sym (lay-set row k at h)))

-- ---- what was found

pub record Found (bit : Bool) (row : List ℕ) (k at : ℕ) (o : Outcome (List (ListIn bit) × ℕ)) (lacking end : ℕ) (stops : List ℕ) : Type 0 where
  pub lists : List (ListIn bit)
  pub read : o ≡ accepted (lists, end)
  pub lack : missing bit lists ≡ lacking
  pub are : stops ≡ lay row k (stops_from (form_of bit) at lists)

module _ (bit : Bool) (row : List ℕ) (k at : ℕ) where
  pub was_found : (o : Outcome (List (ListIn bit) × ℕ)) (lacking end : ℕ) (stops : List ℕ) → found bit 0 row k at o ≡ accepted (lacking, end, stops) → Found bit row k at o lacking end stops
  unfolding found
  was_found (refused n) lacking end stops e = never_accepted e
  was_found (accepted r) lacking end stops e =
      let same : ◌≡◌ {A = ℕ × ℕ × List ℕ} (0 + missing bit r.0, r.1, lay row k (stops_from (form_of bit) at r.0)) (lacking, end, stops) = accepted-same e in
      record {
        lists = r.0;
        read = ap (λ (t : ℕ × ℕ × List ℕ). accepted (r.0, t.1)) same;
        lack = sym (zero-add (missing bit r.0)) ∙ ap (λ (t : ℕ × ℕ × List ℕ). t.0) same;
        are = sym (ap (λ (t : ℕ × ℕ × List ℕ). t.2) same);
      }

  pub not_found : (o : Outcome (List (ListIn bit) × ℕ)) (n : ℕ) → found bit 0 row k at o ≡ refused n → o ≡ refused n
  unfolding found
  not_found (refused m) n e = cc
  not_found (accepted r) n e = never_accepted (sym e)
