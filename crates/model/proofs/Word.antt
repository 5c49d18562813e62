-- The word beside the ends: what it says of each list, and how lists and word are those of what was supplied. Assumes nothing.
use mathlib.Core.Path.{◌≡◌, refl, sym, ap, ap₂, ◌∙◌}
use mathlib.Core.Bool.{Bool, true, false, ◌&&◌, ◌||◌, cond}
use mathlib.Core.List.{List, [], ◌∷◌, ◌++◌, map}
use Prim.Native.Nat.{ℕ, zero, suc, ◌+◌, ◌-◌, ◌≤◌, ◌<◌}
use native.Mathlib.Omega.{arith}
use native.Mathlib.Nat.{add-zero, zero-add}
use lib.Dec.{eqb}
use borrow.Author.Tests.{eqb-true, eq-eqb}
use lib.ListN.{length, get_or, take, drop, set, replicate, length-append, length-replicate, length-map}
use Rattle.model.specs.Lists.{part, lists_from, delivered, word_holds}
use Rattle.model.specs.Fields.{field, value}
use Rattle.model.specs.Delivery.{Supplied, undelivered, came, supplied_numbers, is_delivered, supplied_from, supplied, word_of}
use Rattle.model.specs.Calls.{ends_from}
use Rattle.model.specs.Demands.{word_there}
use Rattle.model.proofs.Order.{and_true, not_both}
use Rattle.model.proofs.Bits.{field-length, field-value}

-- ---- a word made of bits

-- bits with zeros behind them
filled-up : (bs : List Bool) (n k : ℕ) → get_or (bs ++ replicate n false) k false ≡ get_or bs k false
filled-up [] zero k = refl
filled-up [] (suc n) zero = refl
filled-up [] (suc n) (suc k) = filled-up [] n k
filled-up (b ∷ bs) n zero = refl
filled-up (b ∷ bs) n (suc k) = filled-up bs n k

-- what a word of so many bits says, 0 in all others
said-by : (bs : List Bool) (k : ℕ) → length bs ≤ 32 → delivered (value (bs ++ replicate (32 - length bs) false)) k ≡ get_or bs k false
unfolding delivered
said-by bs k h =
    let all : List Bool = bs ++ replicate (32 - length bs) false in
    let n : length all ≡ 32 = omega (arith, length-append bs (replicate (32 - length bs) false), length-replicate (32 - length bs) false) in
    ap (λ (l : List Bool). get_or l k false) (ap (λ (w : ℕ). field w (value all)) (sym n) ∙ field-value all) ∙ filled-up bs (32 - length bs) k

-- the word of what was supplied says of each list whether it came
pub word-says : (ss : List Supplied) (k : ℕ) → length ss ≤ 32 → delivered (word_of ss) k ≡ get_or (map is_delivered ss) k false
unfolding word_of
word-says ss k h = let n = length-map ss is_delivered in ap (λ (m : ℕ). delivered (value (map is_delivered ss ++ replicate (32 - m) false)) k) (sym n) ∙ said-by (map is_delivered ss) k (omega (arith, n))

-- "bits for lists that aren't there are 0 in every word handed back"
pub word_absent : (ss : List Supplied) (k : ℕ) → length ss ≤ 32 → length ss ≤ k → delivered (word_of ss) k ≡ false
word_absent ss k h le = word-says ss k h ∙ behind (map is_delivered ss) k (omega (arith, length-map ss is_delivered))
  where
    behind : (bs : List Bool) (k : ℕ) → length bs ≤ k → get_or bs k false ≡ false
    behind [] k h = refl
    behind (b ∷ bs) zero h = absurd (omega arith)
    behind (b ∷ bs) (suc k) h = behind bs k (omega arith)

-- ---- lists and word, and what was supplied

-- a word that says of each list from k on whether it came
abbrev pub Says : ℕ → ℕ → List Supplied → Type 0
Says word k [] = Unit {0}
Says word k (a ∷ ss) = (delivered word k ≡ is_delivered a) × Says word (suc k) ss

says_all : (word k : ℕ) (ss : List Supplied) → ((j : ℕ) → j < length ss → delivered word (k + j) ≡ get_or (map is_delivered ss) j false) → Says word k ss
says_all word k [] h = tt
says_all word k (a ∷ ss) h =
    (ap (delivered word) (sym (add-zero k)) ∙ h 0 (omega arith), says_all word (suc k) ss (λ j lt. ap (delivered word) {x = suc k + j} {y = k + suc j} (omega arith) ∙ h (suc j) (omega arith)))

pub word_said : (ss : List Supplied) → length ss ≤ 32 → Says (word_of ss) 0 ss
word_said ss h = says_all (word_of ss) 0 ss (λ j lt. ap (delivered (word_of ss)) (zero-add j) ∙ word-says ss j h)

-- the lists' numbers and a word that says so are what was supplied
pub supplied-back : (word k : ℕ) (ss : List Supplied) → Says word k ss → supplied_from word k (map supplied_numbers ss) ≡ ss
unfolding supplied_from supplied_numbers is_delivered
supplied-back word k [] h = refl
supplied-back word k (undelivered ∷ ss) h = rw (h.0, supplied-back word (suc k) ss h.1) refl
supplied-back word k (came l ∷ ss) h = rw (h.0, supplied-back word (suc k) ss h.1) refl

-- its word holds over the ends of its lists
pub said-holds : (word k start : ℕ) (ss : List Supplied) → Says word k ss → word_holds word k start (ends_from start (map supplied_numbers ss)) ≡ true
unfolding word_holds ends_from supplied_numbers is_delivered
said-holds word k start [] h = refl
said-holds word k start (undelivered ∷ ss) h = rw (h.0, add-zero start, eq-eqb start start refl, said-holds word (suc k) start ss h.1) refl
said-holds word k start (came l ∷ ss) h = rw (h.0, said-holds word (suc k) (start + length l) ss h.1) refl

-- undelivered lists are empty
abbrev pub EmptyWhere : ℕ → ℕ → List (List ℕ) → Type 0
EmptyWhere word k [] = Unit {0}
EmptyWhere word k (l ∷ ls) = (delivered word k ≡ false → l ≡ []) × EmptyWhere word (suc k) ls

pub undelivered_empty : (word k : ℕ) (numbers : List ℕ) (start : ℕ) (ends : List ℕ) → word_holds word k start ends ≡ true → EmptyWhere word k (lists_from numbers start ends)
unfolding word_holds lists_from part
undelivered_empty word k numbers start [] h = tt
undelivered_empty word k numbers start (stop ∷ ends) h =
    let a = and_true (delivered word k || eqb start stop) (word_holds word (suc k) stop ends) h in
    (λ d. let e : start ≡ stop = eqb-true start stop (rw d at a.0) in let n : stop - start ≡ 0 = omega arith in ap (λ (m : ℕ). take m (drop start numbers)) n, undelivered_empty word (suc k) numbers stop ends a.1)

-- the word holds over the ends of such lists
pub empty_holds : (word k start : ℕ) (ls : List (List ℕ)) → EmptyWhere word k ls → word_holds word k start (ends_from start ls) ≡ true
unfolding word_holds ends_from
empty_holds word k start [] h = refl
empty_holds word k start (l ∷ ls) h = rw (empty_holds word (suc k) (start + length l) ls h.1) (first (delivered word k) h.0)
  where
    first : (b : Bool) → (b ≡ false → l ≡ []) → (b || eqb start (start + length l)) && true ≡ true
    first true e = refl
    first false e = rw (e refl, add-zero start, eq-eqb start start refl) refl

-- and another list in place of a delivered one
pub empty_set : (word k : ℕ) (ls : List (List ℕ)) (i : ℕ) (l : List ℕ) → EmptyWhere word k ls → delivered word (k + i) ≡ true → EmptyWhere word k (set ls i l)
empty_set word k [] i l h d = tt
empty_set word k (m ∷ ls) zero l h d = (λ e. absurd (not_both (sym (ap (delivered word) (add-zero k)) ∙ d) e), h.1)
empty_set word k (m ∷ ls) (suc i) l h d = (h.0, empty_set word (suc k) ls i l h.1 (ap (delivered word) {x = suc k + i} {y = k + suc i} (omega arith) ∙ d))

-- then what was supplied has these lists, and says of each whether it came
pub numbers-supplied : (word k : ℕ) (ls : List (List ℕ)) → EmptyWhere word k ls → map supplied_numbers (supplied_from word k ls) ≡ ls
unfolding supplied_from supplied_numbers
numbers-supplied word k [] h = refl
numbers-supplied word k (l ∷ ls) h = ap₂ (λ (x : List ℕ) (r : List (List ℕ)). x ∷ r) (first (delivered word k) h.0) (numbers-supplied word (suc k) ls h.1)
  where
    first : (b : Bool) → (b ≡ false → l ≡ []) → supplied_numbers (cond b (came l) undelivered) ≡ l
    first true e = refl
    first false e = sym (e refl)

pub supplied-length : (word k : ℕ) (ls : List (List ℕ)) → length (supplied_from word k ls) ≡ length ls
unfolding supplied_from
supplied-length word k [] = refl
supplied-length word k (l ∷ ls) = ap suc (supplied-length word (suc k) ls)

-- and its word is the one that was lent, in the bits of the lists that are there
supplied-bits : (word k : ℕ) (bs : List Bool) (ls : List (List ℕ)) → ((j : ℕ) → get_or bs j false ≡ delivered word (k + j)) → length ls ≤ length bs → map is_delivered (supplied_from word k ls) ≡ take (length ls) bs
unfolding supplied_from is_delivered
supplied-bits word k bs [] h le = refl
supplied-bits word k [] (l ∷ ls) h le = absurd (omega arith)
supplied-bits word k (b ∷ bs) (l ∷ ls) h le =
    ap₂ (λ (x : Bool) (r : List Bool). x ∷ r) (first (delivered word k) ∙ ap (delivered word) (sym (add-zero k)) ∙ sym (h 0)) (supplied-bits word (suc k) bs ls (λ j. h (suc j) ∙ ap (delivered word) {x = k + suc j} {y = suc k + j} (omega arith)) (omega arith))
  where
    first : (b : Bool) → is_delivered (cond b (came l) undelivered) ≡ b
    first true = refl
    first false = refl

pub word_back : (word : ℕ) (ls : List (List ℕ)) → length ls ≤ 32 → word_of (supplied word ls) ≡ word_there (length ls) word
unfolding word_of delivered
word_back word ls h =
    ap₂ (λ (bs : List Bool) (n : ℕ). value (bs ++ replicate (32 - n) false)) (supplied-bits word 0 (field 32 word) ls (λ j. sym (ap (delivered word) (zero-add j))) (omega (arith, field-length 32 word))) (supplied-length word 0 ls)
