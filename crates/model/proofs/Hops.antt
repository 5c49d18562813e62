-- How a reader goes over what is left of its list, singly and by hops: over an ascending list it ends at the same place, by at
-- most as many moves, and where there are fewer than 64 numbers it is the same. Assumes nothing.
use mathlib.Core.Path.{◌≡◌, refl, sym, ap, ◌∙◌}
use mathlib.Core.Bool.{Bool, true, false, ◌&&◌}
use mathlib.Core.List.{List, [], ◌∷◌}
use Prim.Native.Nat.{ℕ, zero, suc, ◌+◌, ◌-◌, ◌*◌, ◌≤◌, ◌<◌}
use native.Mathlib.Omega.{arith}
use lib.Dec.{ltb, leb}
use lib.ListN.{length, get_or, drop, length-drop}
use lib.Seq.{drop-drop}
use borrow.Author.Tests.{lt-ltb, le-ltb, le-leb, ltb-true, leb-true}
use Rattle.model.specs.Steps.{passed, Progress, singly, hops, hopped, hop_up_to, hopping}
use Rattle.model.proofs.Order.{and_true, Up, up_drop}

-- ---- one by one

pub passed_on : (y : ℕ) (ys : List ℕ) (e : ℕ) → ltb y e ≡ true → passed (y ∷ ys) e ≡ suc (passed ys e)
unfolding passed
passed_on y ys e h = rw (h, passed)

pub passed_off : (y : ℕ) (ys : List ℕ) (e : ℕ) → ltb y e ≡ false → passed (y ∷ ys) e ≡ 0
unfolding passed
passed_off y ys e h = rw (h, passed)

pub passed-le : (l : List ℕ) (e : ℕ) → passed l e ≤ length l
unfolding passed
passed-le [] e = omega arith
passed-le (x ∷ xs) e = go (ltb x e) (passed-le xs e)
  where
    go : (b : Bool) → passed xs e ≤ length xs → elim b [ true ↦ suc (passed xs e) | false ↦ 0 ] ≤ suc (length xs)
    go true h = omega arith
    go false h = omega arith

-- nothing of an ascending list is below its lower bound, at any place of it
up_at : (lo n : ℕ) (l : List ℕ) → Up lo l → n < length l → lo ≤ get_or l n 0
up_at lo n [] u h = absurd (omega arith)
up_at lo zero (x ∷ xs) u h = u.0
up_at lo (suc n) (x ∷ xs) u h = omega (arith, u.0, up_at (suc x) n xs u.2 (omega arith))

pub up_le : (lo i n : ℕ) (l : List ℕ) → Up lo l → i ≤ n → n < length l → get_or l i 0 ≤ get_or l n 0
up_le lo i n [] u h k = absurd (omega arith)
up_le lo zero zero (x ∷ xs) u h k = omega arith
up_le lo zero (suc n) (x ∷ xs) u h k = omega (arith, up_at (suc x) n xs u.2 (omega arith))
up_le lo (suc i) zero (x ∷ xs) u h k = absurd (omega arith)
up_le lo (suc i) (suc n) (x ∷ xs) u h k = up_le (suc x) i n xs u.2 (omega arith) (omega arith)

-- where the last of n numbers is below e, all of them are passed
passed-many : (lo n : ℕ) (l : List ℕ) (e : ℕ) → Up lo l → n < length l → get_or l n 0 < e → passed l e ≡ suc n + passed (drop (suc n) l) e
passed-many lo n [] e u h k = absurd (omega arith)
passed-many lo zero (x ∷ xs) e u h k = omega (arith, passed_on x xs e (lt-ltb x e k))
passed-many lo (suc n) (x ∷ xs) e u h k =
    let first : ltb x e ≡ true = lt-ltb x e (omega (arith, up_at (suc x) n xs u.2 (omega arith))) in
    omega (arith, passed_on x xs e first, passed-many (suc x) n xs e u.2 (omega arith) k)

-- ---- by hops

module _ (e : ℕ) where
  hops_if : (left : List ℕ) → hops left e ≡ true → (64 ≤ length left) × (get_or left 63 0 < e)
  unfolding hops
  hops_if left h = let both = and_true _ _ h in (leb-true 64 (length left) both.0, ltb-true (get_or left 63 0) e both.1)

  pub hops-far : (left : List ℕ) → 64 ≤ length left → get_or left 63 0 < e → hops left e ≡ true
  unfolding hops
  hops-far left h k = rw (le-leb 64 (length left) h, lt-ltb (get_or left 63 0) e k)

  pub hops-near : (left : List ℕ) → (64 ≤ length left → e ≤ get_or left 63 0) → hops left e ≡ false
  unfolding hops
  hops-near left h = go (leb 64 (length left)) refl
    where
      go : (b : Bool) → leb 64 (length left) ≡ b → b && ltb (get_or left 63 0) e ≡ false
      go true q = le-ltb (get_or left 63 0) e (h (leb-true 64 (length left) q))
      go false q = refl

  -- with n hops at most: once it does not hop, it moves singly; once it does, it has hopped
  hop_stop : (n : ℕ) (left : List ℕ) → hops left e ≡ false → hop_up_to n left e ≡ singly left e
  unfolding hop_up_to
  hop_stop zero left h = refl
  hop_stop (suc n) left h = rw (h, hop_up_to)

  hop_go : (n : ℕ) (left : List ℕ) → hops left e ≡ true → hop_up_to (suc n) left e ≡ hopped (hop_up_to n (drop 64 left) e)
  unfolding hop_up_to
  hop_go n left h = rw (h, hop_up_to)

  -- what every hop keeps, from what holds of single moves
  hop_case : (P : List ℕ → Progress → Type 0) → ((left : List ℕ) → P left (singly left e))
      → ((left : List ℕ) (p : Progress) → 64 ≤ length left → get_or left 63 0 < e → P (drop 64 left) p → P left (hopped p))
      → (n : ℕ) (left : List ℕ) → P left (hop_up_to n left e)
  unfolding hop_up_to
  hop_case P one more zero left = one left
  hop_case P one more (suc n) left = go (hops left e) refl (hop_case P one more n (drop 64 left))
    where
      go : (b : Bool) → hops left e ≡ b → P (drop 64 left) (hop_up_to n (drop 64 left) e) → P left (elim b [ true ↦ hopped (hop_up_to n (drop 64 left) e) | false ↦ singly left e ])
      go true q h = let far = hops_if left q in more left _ far.0 far.1 h
      go false q h = one left

  -- more hops than numbers are left do not matter
  hop_enough : (n m : ℕ) (left : List ℕ) → length left ≤ n → length left ≤ m → hop_up_to n left e ≡ hop_up_to m left e
  unfolding hop_up_to
  hop_enough zero m left h k = sym (hop_stop m left (hops-near left (λ far. absurd (omega arith))))
  hop_enough (suc n) zero left h k = hop_stop (suc n) left (hops-near left (λ far. absurd (omega arith)))
  hop_enough (suc n) (suc m) left h k = go (hops left e) refl (hop_enough n m (drop 64 left))
    where
      go : (b : Bool) → hops left e ≡ b → (length (drop 64 left) ≤ n → length (drop 64 left) ≤ m → hop_up_to n (drop 64 left) e ≡ hop_up_to m (drop 64 left) e) → hop_up_to (suc n) left e ≡ hop_up_to (suc m) left e
      go true q ih =
          let fewer : length (drop 64 left) < length left = omega (arith, (hops_if left q).0, length-drop 64 left) in
          hop_go n left q ∙ ap hopped (ih (omega (arith, fewer)) (omega (arith, fewer))) ∙ sym (hop_go m left q)
      go false q ih = hop_stop (suc n) left q ∙ sym (hop_stop (suc m) left q)

  -- "while at least 64 numbers remain from its place and the 64th of them is below E, the place grows by 64 and that counts one
  -- move. Then it moves singly as before"
  pub hopping-on : (left : List ℕ) → hops left e ≡ true → hopping left e ≡ hopped (hopping (drop 64 left) e)
  unfolding hopping
  hopping-on left h =
      let far = (hops_if left h).0 in
      let one : length left ≡ suc (length left - 1) = omega arith in
      ap (λ (n : ℕ). hop_up_to n left e) one ∙ hop_go (length left - 1) left h ∙ ap hopped (hop_enough (length left - 1) (length (drop 64 left)) (drop 64 left) (omega (arith, length-drop 64 left)) (omega arith))

  pub hopping_off : (left : List ℕ) → hops left e ≡ false → hopping left e ≡ singly left e
  unfolding hopping
  hopping_off left h = hop_stop (length left) left h

  -- its lists being short
  pub hopping-short : (left : List ℕ) → length left < 64 → hopping left e ≡ singly left e
  hopping-short left h = hopping_off left (hops-near left (λ far. absurd (omega arith)))

  -- the place stays within the list, and no move adds less than 1 to it
  pub grown-le : (left : List ℕ) → (hopping left e).grown ≤ length left
  unfolding hopping hopped singly
  grown-le left = hop_case (λ (l : List ℕ) (p : Progress). p.grown ≤ length l) (λ l. passed-le l e) (λ l p far low h. omega (arith, h, length-drop 64 l)) (length left) left

  pub moves-le : (left : List ℕ) → (hopping left e).moves ≤ (hopping left e).grown
  unfolding hopping hopped singly
  moves-le left = hop_case (λ (l : List ℕ) (p : Progress). p.moves ≤ p.grown) (λ l. omega arith) (λ l p far low h. omega (arith, h)) (length left) left

  -- and none more than 64
  pub grown-far : (left : List ℕ) → (hopping left e).grown ≤ 64 * (hopping left e).moves
  unfolding hopping hopped singly
  grown-far left = hop_case (λ (l : List ℕ) (p : Progress). p.grown ≤ 64 * p.moves) (λ l. omega arith) (λ l p far low h. omega (arith, h)) (length left) left

  -- "Places end where they did"
  pub grown-same : (lo : ℕ) (left : List ℕ) → Up lo left → (hopping left e).grown ≡ passed left e
  unfolding hopping hopped singly
  grown-same lo left up = hop_case (λ (l : List ℕ) (p : Progress). Up lo l → p.grown ≡ passed l e) (λ l u. refl)
      (λ l p far low h u. omega (arith, h (up_drop lo 64 l u), passed-many lo 63 l e u (omega (arith, far)) low)) (length left) left up

  -- after n hops it is n moves and 64 places for each ahead
  pub record HoppedOn (n : ℕ) (left rest : List ℕ) : Type 0 where
    pub grown : (hopping left e).grown ≡ 64 * n + (hopping rest e).grown
    pub moves : (hopping left e).moves ≡ n + (hopping rest e).moves

  pub hops_on : (l : List ℕ) (n place : ℕ) → ((k : ℕ) → k < n → hops (drop (place + 64 * k) l) e ≡ true) → HoppedOn n (drop place l) (drop (place + 64 * n) l)
  unfolding hopped
  hops_on l zero place each =
      let here : place + 64 * 0 ≡ place = omega arith in
      rw here (record { grown = omega arith; moves = omega arith })
  hops_on l (suc n) place each =
      let here : place + 64 * 0 ≡ place = omega arith in
      let first = hopping-on (drop place l) (rw here at (each 0 (omega arith))) ∙ ap (λ (r : List ℕ). hopped (hopping r e)) (drop-drop 64 place l) in
      let rest = hops_on l n (place + 64) (λ k h. let on : place + 64 + 64 * k ≡ place + 64 * suc k = omega arith in rw on (each (suc k) (omega arith))) in
      let last : place + 64 + 64 * n ≡ place + 64 * suc n = omega arith in
      let on = rw last at rest in
      record { grown = omega (arith, ap (λ (p : Progress). p.grown) first, on.grown); moves = omega (arith, ap (λ (p : Progress). p.moves) first, on.moves) }
