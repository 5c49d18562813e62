-- The turns of `read_expression`. What is held at each: reading the whole expression is the bytes so far in front of what the
-- open levels still have to come (`still`). A turn closes the innermost level (`close`), or a node is due there: one of 2, 3,
-- 1 or 14, and a leaf's refuses the whole, or its byte is put behind the others and its member nodes are a new level (`step`).
-- Assumes nothing.
use mathlib.Core.Path.{◌≡◌, refl, sym, ap, ap₂, ◌∙◌}
use mathlib.Core.Bool.{true, false}
use mathlib.Core.List.{List, [], ◌∷◌, ◌++◌, map, append_assoc, append-nil}
use Prim.Native.Nat.{ℕ, zero, suc, ◌+◌, ◌-◌, ◌*◌, ◌≤◌, ◌<◌}
use native.Mathlib.Numerals.{add-one}
use native.Mathlib.Omega.{arith}
use lib.ListN.{length, get_or, take, drop, set, replicate, length-set, length-take, take-append-drop}
use lib.Seq.{get_or-set_same, get_or-set_other, take-suc-set, drop-set-lt, drop-drop}
use Rattle.model.specs.declared.Node.{Node}
use Rattle.model.specs.Outcome.{Outcome, refused, accepted, ◌>>=◌, ◌>>◌, require}
use Rattle.model.specs.Expression.{Tree}
use Rattle.model.specs.Forms.{row_byte, row, LeafTest}
use Rattle.model.proofs.Shape.{row-long}
use Rattle.expression.specs.declared.Form.{Form}
use Rattle.expression.specs.declared.Expression.{Expression}
use Rattle.expression.specs.Reading.{take_in, named, members, at_end, read_form, expression_of}
use Rattle.expression.proofs.Levels.{Then, levels, closed, refused_2, refused_3, refused_1, refused-leaf, due}
use Rattle.expression.proofs.Positions.{node_taken, read_by_position}

-- what is handed back, by the row bytes
unfoldable pub laid : Outcome (List ℕ) → Outcome Expression
laid (refused n) = refused n
laid (accepted bs) = accepted (record { count = length bs; nodes = bs ++ replicate (48 - length bs) 0 })

expression-laid : (o : Outcome Tree) → expression_of o ≡ laid (o >>= λ t. accepted (row t))
unfolding expression_of laid
expression-laid (refused n) = refl
expression-laid (accepted t) = rw (row-long t)

-- the open levels, the innermost first
unfoldable pub stack : ℕ → List ℕ → List ℕ
stack zero left = []
stack (suc n) left = get_or left n 0 ∷ stack n left

stack_set : (n m v : ℕ) (left : List ℕ) → n ≤ m → stack n (set left m v) ≡ stack n left
unfolding stack
stack_set zero m v left h = refl
stack_set (suc n) m v left h = ap₂ (λ (x : ℕ) (xs : List ℕ). x ∷ xs) (get_or-set_other left m n v 0 (λ e. omega arith)) (stack_set n m v left (omega arith))

stack_top : (depth level : ℕ) (left : List ℕ) → depth ≡ suc level → stack depth left ≡ get_or left level 0 ∷ stack level left
unfolding stack
stack_top depth level left e = rw e

-- one less at the innermost level, and a new one above it
stack-step : (depth level n m : ℕ) (left : List ℕ) → depth ≡ suc level → depth < length left → stack (suc depth) (set (set left level n) depth m) ≡ m ∷ n ∷ stack level left
unfolding stack
stack-step depth level n m left e h =
    ap₂ (λ (x : ℕ) (xs : List ℕ). x ∷ xs)
    (get_or-set_same (set left level n) depth m 0 (omega (arith, length-set left level n)))
    (stack_set depth depth m (set left level n) (omega arith) ∙ stack_top depth level (set left level n) e
    ∙ ap₂ (λ (x : ℕ) (xs : List ℕ). x ∷ xs) (get_or-set_same left level n 0 (omega arith)) (stack_set level level n left (omega arith)))

module _ (form : Form) (test : LeafTest) (s : List ℕ) where
  -- the last test, and the bytes so far in front of what is still read
  abbrev finish : List ℕ → List Node → ℕ → ℕ → Outcome (List ℕ)
  finish bs ns m p = require 5 (at_end form s p) >> accepted (bs ++ map row_byte ns)

  -- a node put in front of what is still read is its byte put behind the bytes so far
  behind : (bs : List ℕ) (node : Node) → ◌≡◌ {A = Then ℕ (List ℕ)}
      (λ ns m p. require 5 (at_end form s p) >> accepted (bs ++ (row_byte node ∷ map row_byte ns)))
      (λ ns m p. require 5 (at_end form s p) >> accepted ((bs ++ (row_byte node ∷ [])) ++ map row_byte ns))
  behind bs node = simp append_assoc

  unfoldable pub still : List ℕ → List ℕ → ℕ → ℕ → ℕ → Outcome (List ℕ)
  still nodes left depth done at = levels test (take_in form s) (13 - depth) (stack depth left) done at (finish (take done nodes))

  pub record Held (nodes left : List ℕ) (depth done at : ℕ) : Type 0 where
    pub nodes-long : length nodes ≡ 48
    pub left-long : length left ≡ 13
    pub deep : depth ≤ 13
    pub few : done ≤ 48
    pub near : at ≤ 7 * done
    pub within : at ≤ 8 * length s
    pub zeros : drop done nodes ≡ replicate (48 - done) 0
    pub reads : expression_of (read_form form test s) ≡ laid (still nodes left depth done at)

  pub begin : Held (replicate 48 0) (set (replicate 13 0) 0 1) 1 0 0
  unfolding still stack
  begin = record {
    nodes-long = refl;
    left-long = refl;
    deep = omega arith;
    few = omega arith;
    near = omega arith;
    within = omega arith;
    zeros = refl;
    reads = expression-laid (read_form form test s) ∙ ap laid (read_by_position s form test);
  }

module _ {form : Form} {test : LeafTest} {s nodes left : List ℕ} {depth done at : ℕ} (h : Held form test s nodes left depth done at) where
  -- what is refused now is what the whole reading comes to
  refuses : {number : ℕ} → still form test s nodes left depth done at ≡ refused number → expression_of (read_form form test s) ≡ refused number
  unfolding laid
  refuses e = h.reads ∙ ap laid e

  ended : depth ≡ 0 → still form test s nodes left depth done at ≡ (require 5 (at_end form s at) >> accepted (take done nodes))
  unfolding still levels stack
  ended e = rw e (simp append-nil)

  pub at_5 : depth ≡ 0 → at_end form s at ≡ false → expression_of (read_form form test s) ≡ refused 5
  at_5 e f = refuses (ended e ∙ rw f)

  pub whole : depth ≡ 0 → at_end form s at ≡ true → expression_of (read_form form test s) ≡ accepted (record { count = done; nodes = nodes })
  unfolding laid
  whole e f =
      let l : length (take done nodes) ≡ done = omega (arith, length-take done nodes) in
      h.reads ∙ rw (ended e, f, l, ← h.zeros, take-append-drop)

  pub close : 0 < depth → get_or left (depth - 1) 0 ≡ 0 → Held form test s nodes left (depth - 1) done at
  unfolding still
  close o f =
      let d : suc (13 - depth) ≡ 13 - (depth - 1) = omega arith in
      record {
        nodes-long = h.nodes-long;
        left-long = h.left-long;
        deep = omega arith;
        few = h.few;
        near = h.near;
        within = h.within;
        zeros = h.zeros;
        reads = h.reads ∙ ap laid (rw (stack_top depth (depth - 1) left (omega arith), f) (closed test (take_in form s) (13 - depth) (stack (depth - 1) left) done at _ ∙ rw d));
      }

  -- a node is due: one of those still to come at the innermost level
  module _ (o : 0 < depth) (some : get_or left (depth - 1) 0 ≡ 0 → ⊥) where
    top : stack depth left ≡ suc (get_or left (depth - 1) 0 - 1) ∷ stack (depth - 1) left
    top = stack_top depth (depth - 1) left (omega arith) ∙ ap (λ (n : ℕ). n ∷ stack (depth - 1) left) (omega (arith, some))

    pub at_2 : 48 ≤ done → expression_of (read_form form test s) ≡ refused 2
    unfolding still
    at_2 g = refuses (rw top (refused_2 test (take_in form s) (13 - depth) _ _ done at _ g))

    pub at_3 : done < 48 → depth ≡ 13 → expression_of (read_form form test s) ≡ refused 3
    unfolding still
    at_3 g f = let d : 13 - depth ≡ 0 = omega arith in refuses (rw (top, d) (refused_3 test (take_in form s) 0 _ _ done at _ g))

    module _ (g : done < 48) (f : depth < 13) where
      deeper : 13 - depth ≡ suc (12 - depth)
      deeper = omega arith

      pub at_1 : {number : ℕ} → take_in form s at ≡ refused number → expression_of (read_form form test s) ≡ refused number
      unfolding still
      at_1 r = refuses (rw (top, deeper) (refused_1 test (take_in form s) (12 - depth) _ _ done at _ g r))

      pub at_leaf : {node : Node} {next number : ℕ} → take_in form s at ≡ accepted (node, next) → named test node ≡ refused number → expression_of (read_form form test s) ≡ refused number
      unfolding still
      at_leaf r b = refuses (rw (top, deeper) (refused-leaf test (take_in form s) (12 - depth) _ _ done at _ g r b))

      pub step : {node : Node} {next : ℕ} → take_in form s at ≡ accepted (node, next) → named test node ≡ accepted tt
          → Held form test s (set nodes done (row_byte node)) (set (set left (depth - 1) (get_or left (depth - 1) 0 - 1)) depth (members node)) (depth + 1) (done + 1) next
      unfolding still
      step {node} {next} r b =
          let n = get_or left (depth - 1) 0 - 1 in
          let d : 13 - suc depth ≡ 12 - depth = omega arith in
          let z : 48 - done ≡ suc (48 - suc done) = omega arith in
          let t = node_taken s form at (node, next) r in
          rw (add-one depth, add-one done) (record {
            nodes-long = length-set nodes done (row_byte node) ∙ h.nodes-long;
            left-long = length-set (set left (depth - 1) n) depth (members node) ∙ length-set left (depth - 1) n ∙ h.left-long;
            deep = omega arith;
            few = omega arith;
            near = omega (arith, t.near, h.near);
            within = t.within;
            zeros = drop-set-lt (suc done) nodes done (row_byte node) (omega arith) ∙ ap (λ (k : ℕ). drop k nodes) (sym (add-one done)) ∙ sym (drop-drop 1 done nodes) ∙ ap (drop 1) h.zeros ∙ ap (λ (k : ℕ). drop 1 (replicate k 0)) z;
            reads = h.reads ∙ ap laid (rw (top, deeper, d, stack-step depth (depth - 1) n (members node) left (omega arith) (omega (arith, h.left-long)), take-suc-set nodes done (row_byte node) (omega (arith, h.nodes-long)))
                (due test (take_in form s) (12 - depth) n (stack (depth - 1) left) done at _ g r t.few b ∙ ap (levels test (take_in form s) (12 - depth) (members node ∷ n ∷ stack (depth - 1) left) (suc done) next) (behind form test s (take done nodes) node)));
          })
