-- Reading an expression in either stored form, by its position in the bytes.
use Rattle.std.specs.Prelude.{◌≡◌, Bool, List, ◌++◌, ℕ, ◌+◌, ◌-◌, ltb, eqb, length, get_or, drop, replicate}
use Rattle.model.specs.declared.Node.{Node}
use Rattle.model.specs.declared.Node.TheVariants.{Leaf, Difference, Union, Intersection}
use Rattle.model.specs.Outcome.{Outcome, refused, accepted, ◌>>=◌, ◌>>◌, require}
use Rattle.model.specs.Expression.{Tree, size}
use Rattle.model.specs.Fields.{bits, only_fill}
use Rattle.model.specs.Forms.{row, node_of, take_node, LeafTest, read_row, read_packed}
use Rattle.refusals.specs.declared.Refusal.{Refusal}
use Rattle.refusals.specs.Numbers.{number}
use Rattle.fields.specs.Positions.{take_at}
use Rattle.expression.specs.declared.Form.{Form}
use Rattle.expression.specs.declared.Form.TheVariants.{Packed, Row}
use Rattle.expression.specs.declared.Step.{Step}
use Rattle.expression.specs.declared.Step.TheVariants.{Node as Found, Refused}
use Rattle.expression.specs.declared.Expression.{Expression}

-- the paper's number and values for each case of what reading a node finds
abbrev pub step_says : Step → Outcome (Node × ℕ)
step_says (Found node next) = accepted (node, next)
step_says (Refused r) = refused (number r)

-- it has found no node
abbrev pub IsRefused : Step → Type 0
IsRefused step = (r : Refusal) × (step ≡ Refused r)

-- one node of a row at its place p, with the place behind it
unfoldable pub byte_at : List ℕ → ℕ → Outcome (Node × ℕ)
byte_at s p = do
  require 1 (ltb p (length s))
  node ← node_of (get_or s p 0)
  accepted (node, p + 1)

-- one node at a position of either form, with the position behind it
abbrev pub take_in : Form → List ℕ → ℕ → Outcome (Node × ℕ)
take_in Packed s p = take_node (take_at s) p
take_in Row s p = byte_at s p

-- a leaf's test, of any node
abbrev pub named : LeafTest → Node → Outcome (Unit {0})
named test (Leaf k) = test k
named test Difference = accepted tt
named test (Union n) = accepted tt
named test (Intersection n) = accepted tt

-- how many member nodes follow a node
abbrev pub members : Node → ℕ
members (Leaf k) = 0
members Difference = 2
members (Union n) = n
members (Intersection n) = n

-- 5 does not apply: behind a position no node is left over, of packed bits no byte and no fill bit of 1
abbrev pub at_end : Form → List ℕ → ℕ → Bool
at_end Packed s p = only_fill (drop p (bits s))
at_end Row s p = eqb (length (drop p s)) 0

-- an expression read in either form
abbrev pub read_form : Form → LeafTest → List ℕ → Outcome Tree
read_form Packed test s = read_packed test s
read_form Row test s = read_row test s

-- what is handed back: a refusal, or the nodes' count and row bytes with 0 behind them
unfoldable pub expression_of : Outcome Tree → Outcome Expression
expression_of (refused n) = refused n
expression_of (accepted t) = accepted (record { count = size t; nodes = row t ++ replicate (48 - size t) 0 })
