-- The pieces of a delivery, and that they are its lists in the other form. Assumes nothing.
use mathlib.Core.Path.{◌≡◌, refl, sym, ap, ◌∙◌, subst}
use mathlib.Core.Bool.{Bool, true, false}
use mathlib.Core.List.{List, [], ◌∷◌, ◌++◌}
use Prim.Native.Nat.{ℕ, suc, ◌+◌, ◌-◌, ◌*◌, ◌^◌, ◌≤◌, ◌<◌}
use native.Mathlib.Omega.{arith}
use lib.ListN.{length, get_or, take, drop, length-append}
use lib.Seq.{take-nil, drop-drop}
use Rattle.model.specs.Fields.{field}
use Rattle.model.proofs.Bits.{field-length}
use Rattle.convert.specs.Pieces.{piece, pieces, Rising}
use Rattle.convert.proofs.Copies.{taken}

-- ---- one piece

-- what it is, and how long
pub record Sized (piece are : List Bool) (n : ℕ) : Type 0 where
  pub is : piece ≡ are
  pub long : length piece ≡ n

module _ (b : List Bool) (at end : ℕ) (some : at < end) (there : end ≤ length b) where
  pub without_bit : {bit : Bool} → bit ≡ true → Sized (piece bit b at end) (take (end - at - 1) (drop (at + 1) b)) (end - at - 1)
  without_bit {bit} e =
      let more : end - at ≡ suc (end - at - 1) = omega arith in
      let is : piece bit b at end ≡ take (end - at - 1) (drop (at + 1) b) =
      ap (λ (x : Bool). piece x b at end) e ∙ ap (λ (k : ℕ). drop 1 (take k (drop at b))) more ∙ drop-take (end - at - 1) (drop at b) ∙ ap (take (end - at - 1)) (drop-drop 1 at b) in
      record { is = is; long = ap length is ∙ (taken b (at + 1) (end - at - 1) (omega arith)).long }
    where
      drop-take : (m : ℕ) (l : List Bool) → drop 1 (take (suc m) l) ≡ take m (drop 1 l)
      drop-take m [] = sym (take-nil m)
      drop-take m (x ∷ l) = refl

  pub with_bit : {bit : Bool} → bit ≡ false → Sized (piece bit b at end) (field 1 1 ++ take (end - at) (drop at b)) (1 + (end - at))
  with_bit {bit} e =
      let is : piece bit b at end ≡ field 1 1 ++ take (end - at) (drop at b) = ap (λ (x : Bool). piece x b at end) e in
      record { is = is; long = ap length is ∙ omega (arith, length-append (field 1 1) (take (end - at) (drop at b)), field-length 1 1, (taken b at (end - at) (omega arith)).long) }

-- ---- one piece, and those behind it

-- with these positions left, and the next ones without the first of them
pub record Turn (size : ℕ) (bit : Bool) (b : List Bool) (stops next : List ℕ) (at end : ℕ) : Type 0 where
  pub some : at < end
  pub inside : end ≤ 8 * size
  pub small : end < 2 ^ 40
  pub rest : Rising size (length next - 1) next
  pub more : pieces bit b (length stops - 1) stops ≡ piece bit b at end ++ pieces bit b (length next - 1) next
  pub long : length (pieces bit b (length stops - 1) stops) ≡ length (piece bit b at end) + length (pieces bit b (length next - 1) next)

module _ (size : ℕ) (bit : Bool) (b : List Bool) where
  first : (at end : ℕ) (stops : List ℕ) → Rising size (length (at ∷ end ∷ stops) - 1) (at ∷ end ∷ stops) → Turn size bit b (at ∷ end ∷ stops) (end ∷ stops) at end
  unfolding pieces
  first at end stops r =
      let two : length (at ∷ end ∷ stops) - 1 ≡ suc (length stops) = omega arith in
      let one : length stops ≡ length (end ∷ stops) - 1 = omega arith in
      let rise : Rising size (suc (length stops)) (at ∷ end ∷ stops) = subst (λ (n : ℕ). Rising size n (at ∷ end ∷ stops)) two r in
      let more : pieces bit b (length (at ∷ end ∷ stops) - 1) (at ∷ end ∷ stops) ≡ piece bit b at end ++ pieces bit b (length (end ∷ stops) - 1) (end ∷ stops) =
      ap (λ (n : ℕ). pieces bit b n (at ∷ end ∷ stops)) two ∙ ap (λ (n : ℕ). piece bit b at end ++ pieces bit b n (end ∷ stops)) one in
      record {
        some = rise.0;
        inside = rise.1;
        small = rise.2;
        rest = subst (λ (n : ℕ). Rising size n (end ∷ stops)) one rise.3;
        more = more;
        long = ap length more ∙ length-append (piece bit b at end) (pieces bit b (length (end ∷ stops) - 1) (end ∷ stops));
      }

  -- the first two positions of those that are left, as a window shows them
  pub turn : (stops next window : List ℕ) {n : ℕ} → n ≡ 2 → n ≤ length stops → window ≡ take n stops → next ≡ drop 1 stops → Rising size (length stops - 1) stops → Turn size bit b stops next (get_or window 0 0) (get_or window 1 0)
  turn [] next window two h w e r = absurd (omega arith)
  turn (at ∷ []) next window two h w e r = absurd (omega arith)
  turn (at ∷ end ∷ stops) next window two h w e r =
      let shown : window ≡ at ∷ end ∷ [] = w ∙ ap (λ (n : ℕ). take n (at ∷ end ∷ stops)) two in
      subst (λ (l : List ℕ). Turn size bit b (at ∷ end ∷ stops) l (get_or window 0 0) (get_or window 1 0)) (sym e)
      (subst (λ (l : List ℕ). Turn size bit b (at ∷ end ∷ stops) (end ∷ stops) (get_or l 0 0) (get_or l 1 0)) (sym shown) (first at end stops r))

pub pieces_none : (bit : Bool) (b : List Bool) (stops : List ℕ) → length stops < 2 → pieces bit b (length stops - 1) stops ≡ []
unfolding pieces
pieces_none bit b [] h = refl
pieces_none bit b (at ∷ []) h = refl
pieces_none bit b (at ∷ end ∷ stops) h = absurd (omega arith)
