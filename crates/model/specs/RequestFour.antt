-- Request Four's promise, "How large will it get", about what the calls send back.
use Rattle.std.specs.Prelude.{◌≡◌, true, false, List, [], ◌∷◌, ℕ, suc, ◌+◌, ◌-◌, ◌≤◌, ◌<◌, ltb, length, get_or, take, replicate}
use Rattle.model.specs.Outcome.{refused, accepted, Sent}
use Rattle.model.specs.Lists.{top, Numbers, count_holds, delivered, Lent, lend, lists_of, span_of}
use Rattle.model.specs.Expression.{Tree, leaf, difference, union, intersection, Members, one, more}
use Rattle.model.specs.Sets.{among, members}
use Rattle.model.specs.Run.{Start, Low, Source, source_of}
use Rattle.model.specs.Fields.{Bytes}
use Rattle.model.specs.Forms.{there, read_packed}
use Rattle.model.specs.Delivery.{largest_gap, width}
use Rattle.model.specs.Calls.{decode_delivery, encode_delivery, run_call}
use Rattle.model.specs.Demands.{sum, left_lent}
use Rattle.model.specs.RequestTwo.{refused_by, every_bit}
use Rattle.model.specs.Bounds.{lengths_from, most_members, most_moves, most_bytes, bounds}

-- the member nodes' values, in order
unfoldable pub each : (Tree → ℕ) → Members → List ℕ
each f (one t) = f t ∷ []
each f (more t ts) = f t ∷ each f ts

-- the least of a row: one of its numbers, and none is below it
pub record IsLeast (n : ℕ) (row : List ℕ) : Type 0 where
  pub one_of : among n row ≡ true
  pub below : (x : ℕ) → among x row ≡ true → n ≤ x

-- the rule, over lists of these lengths: "a list its length, a union the sum, an intersection the least, a difference its first part's";
-- "the summed leaf lengths"
pub record Rule (ns : List ℕ) : Type 0 where
  pub a_list : (k : ℕ) → most_members ns (leaf k) ≡ get_or ns k 0
  pub a_union : (ts : Members) → most_members ns (union ts) ≡ sum (each (most_members ns) ts)
  pub an_intersection : (ts : Members) → IsLeast (most_members ns (intersection ts)) (each (most_members ns) ts)
  pub a_difference : (s t : Tree) → most_members ns (difference s t) ≡ most_members ns s
  pub at_a_leaf : (k : ℕ) → most_moves ns (leaf k) ≡ get_or ns k 0
  pub below_a_union : (ts : Members) → most_moves ns (union ts) ≡ sum (each (most_moves ns) ts)
  pub below_an_intersection : (ts : Members) → most_moves ns (intersection ts) ≡ sum (each (most_moves ns) ts)
  pub below_a_difference : (s t : Tree) → most_moves ns (difference s t) ≡ most_moves ns s + most_moves ns t

-- what the call says: the most members, the most moves, the most bytes
abbrev pub members_said : Sent → ℕ
members_said back = get_or back.parts 0 0

abbrev pub moves_said : Sent → ℕ
moves_said back = get_or back.parts 1 0

abbrev pub bytes_said : Sent → ℕ
bytes_said back = get_or back.parts 2 0

-- how many replies of a row are members: "a member stands as itself", every other reply is no number
unfoldable pub member_replies : List ℕ → ℕ
member_replies [] = 0
member_replies (r ∷ rs) = elim (ltb r top) [ true ↦ suc (member_replies rs) | false ↦ member_replies rs ]

-- what a run has made: the replies to its calls, so many, and its moves
abbrev pub replies_made : ℕ → Sent → List ℕ
replies_made calls back = take calls (get_or back.rows 0 [])

abbrev pub moves_made : Sent → ℕ
moves_made back = get_or back.parts 0 0

-- how many bytes a call has written
abbrev pub bytes_made : Sent → ℕ
bytes_made back = get_or back.parts 0 0

-- list k neither begins behind its end nor is over 65,535
abbrev pub RisesAt : List ℕ → ℕ → Type 0
RisesAt ends k = (get_or (0 ∷ ends) k 0 ≤ get_or ends k 0) × (get_or ends k 0 - get_or (0 ∷ ends) k 0 ≤ 65535)

-- a list whose gaps have 32 bits; with fewer than two numbers it has none
abbrev pub Widest : List ℕ → Type 0
Widest [] = Unit {0}
Widest (x ∷ []) = Unit {0}
Widest (x ∷ y ∷ ys) = width (largest_gap x (y ∷ ys)) ≡ 32

-- what is said ahead of the runs over these lists and this expression, `said`: "Neither is ever below what a run makes, and for a single
-- list the first is exact"
pub record Enough (l : Lent) (expression : List ℕ) (s : Source) (said : Sent) : Type 0 where
  pub accepts : said.number ≡ 0
  pub replies_bounded : (start : Start) (codes ds lent : List ℕ) → Numbers ds → let made = run_call l expression start codes ds lent in
      made.number ≡ 0 → member_replies (replies_made (length codes) made) ≤ members_said said
  pub moves_bounded : (start : Start) (codes ds lent : List ℕ) → let made = run_call l expression start codes ds lent in
      made.number ≡ 0 → moves_made made ≤ moves_said said
  pub single : (k : ℕ) → s.tree ≡ leaf k → (members_said said ≡ (span_of l k).size) × (members_said said ≡ length (members s.lists s.tree))
  -- "Before a run the console reserves memory": so many nexts and one more have drawn all members, from any bookmark
  pub draws_all : (start : Start) → Low start → (ds lent : List ℕ) → length ds ≡ suc (members_said said) → length ds ≤ length lent
      → get_or (get_or (run_call l expression start (replicate (length ds) 0) ds lent).rows 0 []) (members_said said) 0 ≡ 4294967298

-- lists with these ends whose delivery fills just so many bytes
pub record Reached (ends : List ℕ) (bytes : ℕ) : Type 0 where
  pub numbers : List ℕ
  pub are_numbers : Numbers numbers
  pub fills : (lent : List ℕ) → bytes ≤ length lent → let made = encode_delivery (lend numbers ends every_bit) lent in (made.number ≡ 0) × (bytes_made made ≡ bytes)

pub record RequestFour : Type 0 where
  -- what is said is by the rule, and "each width taken as 32. Every list counts as delivered"
  pub rule : (ns : List ℕ) → Rule ns
  pub by_the_rule : (ends expression : List ℕ) (t : Tree) → count_holds (length ends) ≡ true → ((k : ℕ) → k < length ends → RisesAt ends k) → read_packed (there (length ends) every_bit) expression ≡ accepted t
      → let ns = lengths_from 0 ends in bounds ends expression ≡ record { number = 0; parts = most_members ns t ∷ most_moves ns t ∷ most_bytes ns ∷ []; rows = [] }
  -- "Neither is ever below what a run makes": over whatever numbers and word these ends are accepted with, and from every bookmark; the
  -- members also where a run is refused because a list did not come
  pub members_bounded : (l : Lent) (expression : List ℕ) → Numbers l.numbers → (ls : List (List ℕ)) → lists_of l ≡ accepted ls → (t : Tree) → read_packed (there (length l.ends) every_bit) expression ≡ accepted t
      → length (members ls t) ≤ members_said (bounds l.ends expression)
  pub enough : (l : Lent) (expression : List ℕ) → Numbers l.numbers → (s : Source) → source_of l expression ≡ accepted s → Enough l expression s (bounds l.ends expression)
  -- "the most bytes a delivery of these lengths can fill in Two's form": whatever was delivered, a row of so many is never too short, and
  -- no more are written
  pub bytes_fit : (l : Lent) (expression : List ℕ) → Numbers l.numbers → (ls : List (List ℕ)) → lists_of l ≡ accepted ls → (bounds l.ends expression).number ≡ 0
      → (lent : List ℕ) → bytes_said (bounds l.ends expression) ≤ length lent → (encode_delivery l lent).number ≡ 0
  pub bytes_bounded : (l : Lent) (expression : List ℕ) → Numbers l.numbers → (ls : List (List ℕ)) → lists_of l ≡ accepted ls → (bounds l.ends expression).number ≡ 0
      → (lent : List ℕ) → (encode_delivery l lent).number ≡ 0 → bytes_made (encode_delivery l lent) ≤ bytes_said (bounds l.ends expression)
  -- and just so many where every list was delivered and every width is 32
  pub bytes_exact : (l : Lent) (expression : List ℕ) → Numbers l.numbers → (ls : List (List ℕ)) → lists_of l ≡ accepted ls → (bounds l.ends expression).number ≡ 0
      → ((k : ℕ) → k < length ls → (delivered l.word k ≡ true) × Widest (get_or ls k []))
      → (lent : List ℕ) → (encode_delivery l lent).number ≡ 0 → bytes_made (encode_delivery l lent) ≡ bytes_said (bounds l.ends expression)
  -- nor has any delivery more that reads as lists with these ends
  pub stored_bounded : (bytes lent_numbers lent_ends expression : List ℕ) → Bytes bytes → let s = decode_delivery bytes lent_numbers lent_ends in s.number ≡ 0
      → (bounds (left_lent s).ends expression).number ≡ 0 → length bytes ≤ bytes_said (bounds (left_lent s).ends expression)
  -- so it is the most: some lists of these lengths fill them
  pub bytes_reached : (ends expression : List ℕ) → (bounds ends expression).number ≡ 0 → Reached ends (bytes_said (bounds ends expression))
  -- "Numbers 7, 10 (falling ends or a length over 65,535) and the expression's but 18 apply", in this order
  pub refused_7 : (ends expression : List ℕ) → count_holds (length ends) ≡ false → bounds ends expression ≡ refused_by 7 3 []
  pub refused_10 : (ends expression : List ℕ) → count_holds (length ends) ≡ true → (k : ℕ) → k < length ends → (RisesAt ends k → ⊥) → bounds ends expression ≡ refused_by 10 3 []
  pub refused_expression : (ends expression : List ℕ) (n : ℕ) → count_holds (length ends) ≡ true → ((k : ℕ) → k < length ends → RisesAt ends k)
      → read_packed (there (length ends) every_bit) expression ≡ refused n → bounds ends expression ≡ refused_by n 3 []
  pub never_18 : (ends expression : List ℕ) → (bounds ends expression).number ≡ 18 → ⊥
  -- none of the three is more than its type holds: 48 nodes of 65,535, and 32 lists of as many, delivered
  pub small : (ends expression : List ℕ) → let said = bounds ends expression in (members_said said ≤ 3145680) × (moves_said said ≤ 3145680) × (bytes_said said ≤ 8388569)
