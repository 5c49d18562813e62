-- What acceptance says: of an outcome's tests, of lists, and of an expression that reads. Assumes nothing.
use mathlib.Core.Path.{◌≡◌, refl, ap}
use mathlib.Core.Bool.{Bool, true, false, ◌&&◌, cond}
use mathlib.Core.List.{List, [], ◌∷◌}
use Prim.Native.Nat.{ℕ, zero, suc, ◌+◌, ◌-◌, ◌^◌, ◌≤◌, ◌<◌}
use native.Mathlib.Omega.{arith}
use native.Mathlib.Nat.{pow-suc}
use lib.Dec.{ltb, leb, eqb}
use borrow.Author.Tests.{ltb-true, lt-ltb, leb-true}
use lib.ListN.{get_or, length, take, drop, length-take, get_or-eq_default}
use lib.Seq.{get_or-take, get_or-drop}
use Rattle.model.specs.declared.Node.{Node}
use Rattle.model.specs.declared.Node.TheVariants.{Leaf, Difference, Union, Intersection}
use Rattle.model.specs.Outcome.{Outcome, refused, accepted, ◌>>=◌, ◌>>◌, require}
use Rattle.model.specs.Lists.{top, Numbers, rises, ascending, all_ascending, part, lists_from, Lent, lists_of, count_holds, ends_hold, delivered, word_holds}
use Rattle.model.specs.Expression.{Tree, leaf, difference, union, intersection, Members, one, more, size, sizes, depth, depths, count}
use Rattle.model.specs.Fields.{value, take_field, bits, only_fill}
use Rattle.model.specs.Forms.{node_of, take_byte, take_rest, take_kind, take_node, LeafTest, there, read_members, operator, read_below, read_tree, read_row, read_packed}
use Rattle.model.specs.Demands.{Named, NamedAll, Expression}
use Rattle.model.proofs.Order.{and_true, split, Up}

-- ---- outcomes

pub never_accepted : {A B : Type 0} {n : ℕ} {b : B} → refused n ≡ accepted b → A
never_accepted {A} {B} {n} {b} h = let z : ◌≡◌ {A = ℕ} 0 1 = cc in absurd (omega arith)

pub accepted-same : {A : Type 0} {a b : A} → accepted a ≡ accepted b → a ≡ b
accepted-same {A} {a} {b} h = cc

pub record Bound {A B : Type 0} (o : Outcome A) (f : A → Outcome B) (b : B) : Type 0 where
  pub got : A
  pub first : o ≡ accepted got
  pub rest : f got ≡ accepted b

-- what comes before was accepted, and so was the rest
pub bound : {A B : Type 0} (o : Outcome A) (f : A → Outcome B) (b : B) → o >>= f ≡ accepted b → Bound o f b
bound (refused n) f b h = never_accepted h
bound (accepted a) f b h = record { got = a; first = refl; rest = h }

-- the test held, and the rest was accepted
pub both : {B : Type 0} (t : Outcome (Unit {0})) (o : Outcome B) (b : B) → t >> o ≡ accepted b → (t ≡ accepted tt) × (o ≡ accepted b)
both (refused n) o b h = never_accepted h
both (accepted u) o b h = (refl, h)

held : (n : ℕ) (t : Bool) → require n t ≡ accepted tt → t ≡ true
held n true h = refl
held n false h = never_accepted h

pub required : {B : Type 0} (n : ℕ) (t : Bool) (o : Outcome B) (b : B) → require n t >> o ≡ accepted b → (t ≡ true) × (o ≡ accepted b)
required n t o b h = let a = both (require n t) o b h in (held n t a.0, a.1)

-- two steps as one
pub assoc : {A B C : Type 0} (o : Outcome A) (f : A → Outcome B) (g : B → Outcome C) (h : A → Outcome C) → ((a : A) → (f a >>= g) ≡ h a) → ((o >>= f) >>= g) ≡ (o >>= h)
assoc (refused n) f g h e = refl
assoc (accepted a) f g h e = e a

-- ---- lists

pub numbers_part : (numbers : List ℕ) (n start : ℕ) → Numbers numbers → Numbers (take n (drop start numbers))
numbers_part numbers n start h i = split (get_or (take n (drop start numbers)) i 0 < top) i n
    (λ lt. rw (get_or-take n (drop start numbers) i 0 lt, get_or-drop start numbers i 0) (h (start + i)))
    (λ ge. rw (get_or-eq_default (take n (drop start numbers)) 0 {n = i} (omega (arith, length-take n (drop start numbers)))) (omega arith))

rises_up : (x : ℕ) (l : List ℕ) → Numbers l → rises x l ≡ true → Up (suc x) l
unfolding rises
rises_up x [] n h = tt
rises_up x (y ∷ ys) n h = let p = and_true (ltb x y) (rises y ys) h in (ltb-true x y p.0, n 0, rises_up y ys (λ i. n (suc i)) p.1)

pub ascending_up : (l : List ℕ) → Numbers l → ascending l ≡ true → Up 0 l
unfolding ascending
ascending_up [] n h = tt
ascending_up (x ∷ xs) n h = (omega arith, n 0, rises_up x xs (λ i. n (suc i)) h)

-- every list of accepted lists is ascending
lists_up : (numbers : List ℕ) (start : ℕ) (ends : List ℕ) → Numbers numbers → all_ascending (lists_from numbers start ends) ≡ true → (k : ℕ) → Up 0 (get_or (lists_from numbers start ends) k [])
unfolding lists_from all_ascending part
lists_up numbers start [] n h k = tt
lists_up numbers start (stop ∷ ends) n h zero =
    ascending_up (part numbers start stop) (numbers_part numbers (stop - start) start n) (and_true (ascending (part numbers start stop)) (all_ascending (lists_from numbers stop ends)) h).0
lists_up numbers start (stop ∷ ends) n h (suc k) =
    lists_up numbers stop ends n (and_true (ascending (part numbers start stop)) (all_ascending (lists_from numbers stop ends)) h).1 k

pub record AcceptedLists (l : Lent) (ls : List (List ℕ)) : Type 0 where
  pub count : count_holds (length l.ends) ≡ true
  pub hold : ends_hold (length l.numbers) 0 l.ends ≡ true
  pub told : word_holds l.word 0 0 l.ends ≡ true
  pub rise : all_ascending (lists_from l.numbers 0 l.ends) ≡ true
  pub are : lists_from l.numbers 0 l.ends ≡ ls

pub lists_accepted : (l : Lent) (ls : List (List ℕ)) → lists_of l ≡ accepted ls → AcceptedLists l ls
unfolding lists_of
lists_accepted l ls h =
    let a = required 7 (count_holds (length l.ends)) _ ls h in
    let b = required 10 (ends_hold (length l.numbers) 0 l.ends && word_holds l.word 0 0 l.ends) _ ls a.1 in
    let h₁₀ = and_true (ends_hold (length l.numbers) 0 l.ends) (word_holds l.word 0 0 l.ends) b.0 in
    let c = required 11 (all_ascending (lists_from l.numbers 0 l.ends)) _ ls b.1 in
    record { count = a.0; hold = h₁₀.0; told = h₁₀.1; rise = c.0; are = cc c.1 }

pub accepted_up : (l : Lent) (ls : List (List ℕ)) → Numbers l.numbers → lists_of l ≡ accepted ls → (k : ℕ) → Up 0 (get_or ls k [])
accepted_up l ls n h k = let a = lists_accepted l ls h in rw a.are at (lists_up l.numbers 0 l.ends n a.rise k)

-- ---- expressions

-- a test that lets a leaf name list numbers of 5 bits only
abbrev pub Narrow : LeafTest → Type 0
Narrow test = (k : ℕ) → test k ≡ accepted tt → k < 32

-- the list numbers that are there
pub there-is : (lists word k : ℕ) → there lists word k ≡ accepted tt → k < lists
unfolding there
there-is lists word k h = ltb-true k lists (required 4 (ltb k lists) _ tt h).0

-- and of lists that were delivered
pub there-came : (lists word k : ℕ) → there lists word k ≡ accepted tt → delivered word k ≡ true
unfolding there
there-came lists word k h = held 18 (delivered word k) (required 4 (ltb k lists) _ tt h).1

pub is_there : (lists word k : ℕ) → k < lists → delivered word k ≡ true → there lists word k ≡ accepted tt
unfolding there
is_there lists word k h d = rw (lt-ltb k lists h, d)

pub there_narrow : (lists word : ℕ) → lists ≤ 32 → Narrow (there lists word)
there_narrow lists word few k h = omega (arith, there-is lists word k h)

-- a tree that reads with so much depth left and so many nodes done: then so many are done
record Read (test : LeafTest) (d done : ℕ) (t : Tree) (after : ℕ) : Type 0 where
  counted : after ≡ done + size t
  nodes : after ≤ 48
  levels : depth t ≤ d
  named : Named test t

record ReadAll (test : LeafTest) (d done n : ℕ) (ts : Members) (after : ℕ) : Type 0 where
  counted : after ≡ done + sizes ts
  nodes : after ≤ 48
  levels : depths ts ≤ d
  named : NamedAll test ts
  many : count ts ≡ suc n

-- an operator of 1 to 8 member nodes
abbrev pub Few : Node → Type 0
Few (Leaf k) = Unit {0}
Few Difference = Unit {0}
Few (Union n) = (1 ≤ n) × (n ≤ 8)
Few (Intersection n) = (1 ≤ n) × (n ≤ 8)

module _ {S : Type 0} (test : LeafTest) (take_one : S → Outcome (Node × S)) (few : (s : S) (r : Node × S) → take_one s ≡ accepted r → Few r.0) where
  abbrev Reads : ℕ → (ℕ → S → Outcome (Tree × ℕ × S)) → Type 0
  Reads d tree = (done : ℕ) (s : S) (r : Tree × ℕ × S) → tree done s ≡ accepted r → Read test d done r.0 r.1

  members_read : (d : ℕ) (tree : ℕ → S → Outcome (Tree × ℕ × S)) → Reads d tree → (n done : ℕ) (s : S) (r : Members × ℕ × S)
      → read_members test take_one tree n done s ≡ accepted r → ReadAll test d done n r.0 r.1
  unfolding read_members sizes depths count
  members_read d tree h zero done s r e =
      let a = bound (tree done s) _ r e in
      let x = h done s a.got a.first in
      let q : (one a.got.0, a.got.1, a.got.2) ≡ r = cc a.rest in
      rw (← q) (record { counted = x.counted; nodes = x.nodes; levels = x.levels; named = x.named; many = refl })
  members_read d tree h (suc n) done s r e =
      let a = bound (tree done s) _ r e in
      let x = h done s a.got a.first in
      let b = bound (read_members test take_one tree n a.got.1 a.got.2) _ r a.rest in
      let y = members_read d tree h n a.got.1 a.got.2 b.got b.first in
      let q : (more a.got.0 b.got.0, b.got.1, b.got.2) ≡ r = cc b.rest in
      rw (← q) (record {
        counted = omega (arith, x.counted, y.counted);
        nodes = y.nodes;
        levels = omega (arith, x.levels, y.levels);
        named = (x.named, y.named);
        many = ap suc y.many;
      })

  -- an operator over members that read, as `of` makes it
  operator_read : (d : ℕ) (tree : ℕ → S → Outcome (Tree × ℕ × S)) → Reads d tree → (of : Members → Tree)
      → ((ts : Members) → size (of ts) ≡ 1 + sizes ts) → ((ts : Members) → depth (of ts) ≡ 1 + depths ts) → ((ts : Members) → NamedAll test ts → count ts ≤ 8 → Named test (of ts))
      → (n done : ℕ) (s : S) (r : Tree × ℕ × S) → 1 ≤ n → n ≤ 8
      → operator test take_one of (read_members test take_one tree (n - 1) (suc done) s) ≡ accepted r → Read test (suc d) done r.0 r.1
  unfolding operator
  operator_read d tree h of sz dp nm n done s r h₁ h₈ e =
      let a = bound (read_members test take_one tree (n - 1) (suc done) s) _ r e in
      let x = members_read d tree h (n - 1) (suc done) s a.got a.first in
      let q : (of a.got.0, a.got.1, a.got.2) ≡ r = cc a.rest in
      rw (← q) (record {
        counted = omega (arith, x.counted, sz a.got.0);
        nodes = x.nodes;
        levels = omega (arith, x.levels, dp a.got.0);
        named = nm a.got.0 x.named (omega (arith, x.many));
      })

  below_read : (d : ℕ) (tree : ℕ → S → Outcome (Tree × ℕ × S)) → Reads d tree → (n : Node) → Few n → (done : ℕ) → done < 48 → (s : S) (r : Tree × ℕ × S)
      → read_below test take_one tree n (suc done) s ≡ accepted r → Read test (suc d) done r.0 r.1
  unfolding read_below size depth
  below_read d tree h (Leaf k) f done lt s r e =
      let a = both (test k) _ r e in
      let q : (leaf k, suc done, s) ≡ r = cc a.1 in
      rw (← q) (record { counted = omega arith; nodes = lt; levels = omega arith; named = a.0 })
  below_read d tree h Difference f done lt s r e =
      let a = bound (tree (suc done) s) _ r e in
      let x = h (suc done) s a.got a.first in
      let b = bound (tree a.got.1 a.got.2) _ r a.rest in
      let y = h a.got.1 a.got.2 b.got b.first in
      let q : (difference a.got.0 b.got.0, b.got.1, b.got.2) ≡ r = cc b.rest in
      rw (← q) (record {
        counted = omega (arith, x.counted, y.counted);
        nodes = y.nodes;
        levels = omega (arith, x.levels, y.levels);
        named = (x.named, y.named);
      })
  below_read d tree h (Union n) f done lt s r e = operator_read d tree h union (λ ts. refl) (λ ts. refl) (λ ts a b. (a, b)) n done s r f.0 f.1 e
  below_read d tree h (Intersection n) f done lt s r e = operator_read d tree h intersection (λ ts. refl) (λ ts. refl) (λ ts a b. (a, b)) n done s r f.0 f.1 e

  tree_read : (d : ℕ) → Reads d (read_tree test take_one d)
  unfolding read_tree
  tree_read zero done s r e = never_accepted (required 2 (ltb done 48) _ r e).1
  tree_read (suc d) done s r e =
      let a = required 2 (ltb done 48) _ r e in
      let b = bound (take_one s) _ r a.1 in
      below_read d (read_tree test take_one d) (tree_read d) b.got.0 (few s b.got b.first) done (ltb-true done 48 a.0) b.got.1 r b.rest

  pub expression_read : (s : S) (r : Tree × ℕ × S) → read_tree test take_one 12 0 s ≡ accepted r → Expression test r.0
  expression_read s r e = let x = tree_read 12 0 s r e in record { nodes = omega (arith, x.counted, x.nodes); levels = x.levels; named = x.named }

-- a row byte's operator has 1 to 8 member nodes, and so has a packed node's
accepted_is : {n m : Node} → accepted m ≡ accepted n → Few m → Few n
accepted_is {n} {m} e f = let q : m ≡ n = cc in rw (← q) f

few_node : (b : ℕ) (n : Node) → node_of b ≡ accepted n → Few n
unfolding node_of
few_node b n e = go (leb b 31) (eqb b 64) (leb 129 b && leb b 136) refl (leb 193 b && leb b 200) refl e
  where
    go : (p q r : Bool) → leb 129 b && leb b 136 ≡ r → (s : Bool) → leb 193 b && leb b 200 ≡ s
        → cond p (accepted (Leaf b)) (cond q (accepted Difference) (cond r (accepted (Union (b - 128))) (cond s (accepted (Intersection (b - 192))) (refused 14)))) ≡ accepted n → Few n
    go true q r hr s hs e = accepted_is e tt
    go false true r hr s hs e = accepted_is e tt
    go false false true hr s hs e =
        let c = and_true (leb 129 b) (leb b 136) hr in
        accepted_is e (omega (arith, leb-true 129 b c.0), omega (arith, leb-true b 136 c.1))
    go false false false hr true hs e =
        let c = and_true (leb 193 b) (leb b 200) hs in
        accepted_is e (omega (arith, leb-true 193 b c.0), omega (arith, leb-true b 200 c.1))
    go false false false hr false hs e = never_accepted e

pub few_byte : (s : List ℕ) (r : Node × List ℕ) → take_byte s ≡ accepted r → Few r.0
unfolding take_byte
few_byte [] r e = never_accepted e
few_byte (b ∷ bs) r e =
    let a = bound (node_of b) _ r e in
    let q : (a.got, bs) ≡ r = cc a.rest in
    rw (← q) (few_node b a.got a.first)

-- bits write a number that they hold
pub value-lt : (bs : List Bool) → value bs < 2 ^ length bs
unfolding value
value-lt [] = omega arith
value-lt (true ∷ bs) = rw (pow-suc 2 (length bs)) (omega (arith, value-lt bs))
value-lt (false ∷ bs) = rw (pow-suc 2 (length bs)) (omega (arith, value-lt bs))

pub field_lt : (w : ℕ) (bs : List Bool) (r : ℕ × List Bool) → take_field w bs ≡ accepted r → r.0 < 2 ^ w
unfolding take_field
field_lt w bs r e =
    let a = required 1 (leb w (length bs)) _ r e in
    let q : (value (take w bs), drop w bs) ≡ r = cc a.1 in
    let l : length (take w bs) ≡ w = omega (arith, length-take w bs, leb-true w (length bs) a.0) in
    rw (← q) (rw l at (value-lt (take w bs)))

few_rest : (w : ℕ) (of : ℕ → Node) → ((n : ℕ) → n < 2 ^ w → Few (of n)) → (bs : List Bool) (r : Node × List Bool) → take_rest take_field w of bs ≡ accepted r → Few r.0
unfolding take_rest
few_rest w of f bs r e =
    let a = bound (take_field w bs) _ r e in
    let q : (of a.got.0, a.got.1) ≡ r = cc a.rest in
    rw (← q) (f a.got.0 (field_lt w bs a.got a.first))

few_kind : (kind : ℕ) (bs : List Bool) (r : Node × List Bool) → take_kind take_field kind bs ≡ accepted r → Few r.0
unfolding take_kind
few_kind zero bs r e = few_rest 5 Leaf (λ n h. tt) bs r e
few_kind (suc zero) bs r e = let q : (Difference, bs) ≡ r = cc in rw (← q) tt
few_kind (suc (suc zero)) bs r e = few_rest 3 (λ n. Union (n + 1)) (λ n h. (omega arith, omega arith)) bs r e
few_kind (suc (suc (suc kind))) bs r e = few_rest 3 (λ n. Intersection (n + 1)) (λ n h. (omega arith, omega arith)) bs r e

pub few_packed : (s : List Bool) (r : Node × List Bool) → take_node take_field s ≡ accepted r → Few r.0
unfolding take_node
few_packed s r e = let a = bound (take_field 2 s) _ r e in few_kind a.got.0 a.got.1 r a.rest

-- what reads is an expression, from either form
pub row_reads : (test : LeafTest) (bs : List ℕ) (t : Tree) → read_row test bs ≡ accepted t → Expression test t
unfolding read_row
row_reads test bs t e =
    let a = bound (read_tree test take_byte 12 0 bs) _ t e in
    let b = required 5 (eqb (length a.got.2) 0) _ t a.rest in
    let q : a.got.0 ≡ t = cc b.1 in
    rw (← q) (expression_read test take_byte few_byte bs a.got a.first)

pub packed_reads : (test : LeafTest) (bs : List ℕ) (t : Tree) → read_packed test bs ≡ accepted t → Expression test t
unfolding read_packed
packed_reads test bs t e =
    let a = bound (read_tree test (take_node take_field) 12 0 (bits bs)) _ t e in
    let b = required 5 (only_fill a.got.2) _ t a.rest in
    let q : a.got.0 ≡ t = cc b.1 in
    rw (← q) (expression_read test (take_node take_field) few_packed (bits bs) a.got a.first)
