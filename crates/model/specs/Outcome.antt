-- "What is sent back, by number": a call accepts what it is given, or refuses it by a number.
use Rattle.std.specs.Prelude.{Bool, true, false, List, [], ◌∷◌, ◌++◌, ℕ, length, drop, replicate}

pub data Outcome (A : Type 0) : Type 0 where
  refused : ℕ → Outcome A
  accepted : A → Outcome A

-- a refusal ends what comes after it: `do` blocks over outcomes test in the order of their lines
infixl 10 ◌>>=◌
abbrev pub ◌>>=◌ : {A B : Type 0} → Outcome A → (A → Outcome B) → Outcome B
◌>>=◌ (refused n) f = refused n
◌>>=◌ (accepted a) f = f a

infixl 10 ◌>>◌
abbrev pub ◌>>◌ : {B : Type 0} → Outcome (Unit {0}) → Outcome B → Outcome B
◌>>◌ (refused n) o = refused n
◌>>◌ (accepted u) o = o

-- one test: its number comes under its condition only
abbrev pub require : ℕ → Bool → Outcome (Unit {0})
require n true = accepted tt
require n false = refused n

-- the number alone, 0 for what is accepted
unfoldable pub number_of : {A : Type 0} → Outcome A → ℕ
number_of (refused n) = n
number_of (accepted a) = 0

-- what a call sends back: the number, the other parts of its result in the order of that paragraph, and its lent rows
pub record Sent : Type 0 where
  pub number : ℕ
  pub parts : List ℕ
  pub rows : List (List ℕ)

-- what success has to say: the other parts, and what is written from the start of each lent row
pub record Success : Type 0 where
  pub parts : List ℕ
  pub written : List (List ℕ)

-- "in a lent row, elements behind the written ones hold what they held"
unfoldable pub over : List (List ℕ) → List (List ℕ) → List (List ℕ)
over [] rows = rows
over (w ∷ ws) [] = []
over (w ∷ ws) (row ∷ rows) = (w ++ drop (length w) row) ∷ over ws rows

-- "A refusal hands back its number, every other part of the result 0, and all lent rows unchanged. [..] Success is
-- number 0 with what was written": this for every call, with so many other parts and these lent rows
unfoldable pub sent : ℕ → List (List ℕ) → Outcome Success → Sent
sent parts rows (refused n) = record { number = n; parts = replicate parts 0; rows = rows }
sent parts rows (accepted s) = record { number = 0; parts = s.parts; rows = over s.written rows }
