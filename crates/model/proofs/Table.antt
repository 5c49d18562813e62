-- 01's table: P1 to P9 as one theorem about the definitions, and the small inputs of the refusal table as another; behind
-- them rows of the requests' calls, and request Seven's pairs. Each side computes, so each proof is `refl`, but that a pair is a
-- regrouping, which is said by its kind. Assumes nothing.
use mathlib.Core.Path.{◌≡◌, refl}
use mathlib.Core.Bool.{true, false}
use mathlib.Core.List.{List, [], ◌∷◌, ◌++◌, map, flat_map}
use Prim.Native.Nat.{ℕ, zero, suc, ◌+◌, ◌-◌, ◌≤◌}
use native.Mathlib.Omega.{arith}
use Rattle.std.proofs.lemmas.Bool.{le-leb}
use Rattle.std.proofs.Math.Dec.{leb, leb-zero}
use Rattle.model.proofs.Bits.{bits-length}
use Rattle.model.specs.Lists.{Numbers, Lent, lend}
use lib.ListN.{replicate, length, length-replicate}
use Rattle.model.specs.declared.Reply.{Reply}
use Rattle.model.specs.declared.Reply.TheVariants.{Member, Finished, Yes, No, Unknown}
use Rattle.model.specs.Outcome.{refused, accepted, Sent, sent, over}
use Rattle.model.specs.Lists
use Rattle.model.specs.Expression.{Tree, leaf, difference, union, intersection, Members, one, more, size, sizes, count}
use Rattle.model.specs.Sets
use Rattle.model.specs.Machine.{Call, next, at_or_past, past, check, call, calls, draw, reply, machine, encode}
use Rattle.model.specs.Steps
use Rattle.model.specs.Run
use Rattle.model.specs.Run.{starting, Result, run, source_of, run_of}
use Rattle.model.specs.Fields
use Rattle.model.specs.Forms
use Rattle.model.specs.Forms.{row, packed, there, read_row, read_packed}
use Rattle.model.specs.Delivery
use Rattle.model.specs.Delivery.{by_count, undelivered, came, by_bit, read_stored, delivery, read_delivery, old_delivery, read_old_delivery}
use Rattle.model.specs.Calls.{unpack_expression, pack_expression, decode_delivery, encode_delivery, stored, upgrade_delivery, downgrade_delivery, run_size, run_call, ends_from}
use Rattle.model.specs.Program.{halves, listing_of, listing, listed, list_members}
use Rattle.model.specs.Update
use Rattle.model.specs.Update.{Change, change, update, updated}
use Rattle.model.specs.RequestTwo.{every_bit}
use Rattle.model.specs.Demands.{lengths, sum, wrote}
use Rattle.model.specs.Bounds
use Rattle.model.specs.Bounds.{bounds}
use Rattle.model.specs.Joined
use Rattle.model.specs.Joined.{join_lists, lengths_hold, join_deliveries}
use Rattle.model.specs.Regrouped
use Rattle.model.specs.Regrouped.{none, first, Regrouped, union_reordered, intersection_reordered, union_opened, intersection_opened, difference_of_union, intersection_of_union, in_first, in_second, in_union, in_intersection, back, then}
use Rattle.model.specs.RequestSeven.{last_bookmark}

-- opens the definitions: under `unfolding computes` each side of a table computes
opens_lists : Unit {0}
unfolding sent over Lists.span_of Lists.or_empty Lists.count_holds Lists.lists_of Lists.lists_from Lists.part Lists.ends_hold Lists.delivered Lists.word_holds Lists.all_ascending Lists.ascending Lists.rises size count sizes
opens_lists = tt

opens_machine : Unit {0}
unfolding Sets.all_numbers Sets.member Sets.among Sets.members Sets.select Sets.insert machine reply draw encode calls call
opens_machine = tt

opens_steps : Unit {0}
unfolding Steps.seek_by Steps.check_by Steps.read_by Steps.answer Steps.passed Steps.singly Steps.hops Steps.hopped Steps.hop_up_to Steps.hopping Steps.fuel Steps.differ Steps.unite Steps.follow Steps.intersect Steps.is_at Steps.turned Steps.on_yes Steps.on_no Run.run_by Run.begin Run.steps_by Run.step_by Run.drawn Run.told run_of Run.source_of
opens_steps = tt

opens_forms : Unit {0}
unfolding Fields.take_field Fields.bits Fields.field Fields.value Fields.only_fill Fields.zeros Fields.bytes Fields.fill read_packed there Forms.read_tree Forms.read_below Forms.operator Forms.read_members Forms.take_node Forms.take_kind Forms.take_rest packed Forms.packed_nodes Forms.packed_node Forms.nodes read_row Forms.take_byte Forms.node_of row Forms.row_byte
opens_forms = tt

opens_delivery : Unit {0}
unfolding read_delivery read_old_delivery read_stored Delivery.read_in Delivery.read_lists Delivery.read_list Delivery.read_body Delivery.read_gaps Delivery.width Delivery.width_from Delivery.largest_gap delivery old_delivery Delivery.delivery_in flat_map Delivery.list_bits Delivery.body_bits Delivery.gap_bits Delivery.supplied_numbers Delivery.is_delivered Delivery.all_delivered Delivery.bit_and_count Delivery.take_count Delivery.supplied_from Delivery.word_of
opens_delivery = tt

opens_calls : Unit {0}
unfolding unpack_expression pack_expression decode_delivery encode_delivery stored upgrade_delivery downgrade_delivery run_call ends_from listing listing_of halves listed list_members
opens_calls = tt

opens_update : Unit {0}
unfolding update Update.update_of Update.fits Update.has_room Update.is_new Update.shows Update.same Update.new_lists Update.new_list Update.remove
opens_update = tt

opens_bounds : Unit {0}
unfolding bounds Bounds.bounds_of Bounds.lengths_from Bounds.ends_rise Bounds.most_members Bounds.most_moves Bounds.most_bits Bounds.most_bytes Delivery.list_size lengths sum
opens_bounds = tt

opens_joined : Unit {0}
unfolding join_deliveries join_lists Joined.join_list Joined.list_union lengths_hold
opens_joined = tt

opens_regrouped : Unit {0}
unfolding Regrouped.between Regrouped.behind Regrouped.several Regrouped.listed Regrouped.on_each Regrouped.less_each
opens_regrouped = tt

computes : Unit {0}
unfolding opens_lists opens_machine opens_steps opens_forms opens_delivery opens_calls opens_update opens_bounds opens_joined opens_regrouped
computes = tt

-- P9's list 2 3 5 in Two's form, a bit of 1 ahead of its count; and the program's stored example, the expression list 0
-- over it: 01 00 06 00 06 00 00 00 04 04
abbrev new_235 : List ℕ
new_235 = 0x06 ∷ 0x00 ∷ 0x06 ∷ 0x00 ∷ 0x00 ∷ 0x00 ∷ 0x04 ∷ 0x04 ∷ []

abbrev stored_example : List ℕ
stored_example = 0x01 ∷ 0x00 ∷ new_235

-- L0 to L3 of the report's figures 1 to 3
abbrev pub figures : List (List ℕ)
figures = (0 ∷ 1 ∷ 2 ∷ 5 ∷ 6 ∷ 8 ∷ 9 ∷ []) ∷ (0 ∷ 2 ∷ 3 ∷ 4 ∷ 5 ∷ []) ∷ (2 ∷ 3 ∷ 6 ∷ 8 ∷ 9 ∷ []) ∷ (0 ∷ 1 ∷ 2 ∷ 3 ∷ 7 ∷ 9 ∷ []) ∷ []

abbrev pub all_four : Members
all_four = more (leaf 0) (more (leaf 1) (more (leaf 2) (one (leaf 3))))

abbrev members : List ℕ → List Reply
members = map Member

-- a run, and what it is to give: the places up to the last that is not 0
pub record Row : Type 0 where
  pub lists : List (List ℕ)
  pub tree : Tree
  pub bookmark : ℕ
  pub calls : List Call
  pub replies : List Reply
  pub last : ℕ
  pub moves : ℕ
  pub places : List ℕ

abbrev P1 : Row
P1 = record {
  lists = figures;
  tree = difference (leaf 0) (leaf 3);
  bookmark = 0;
  calls = replicate 4 next;
  replies = members (5 ∷ 6 ∷ 8 ∷ []) ++ (Finished ∷ []);
  last = 4294967296;
  moves = 12;
  places = 0 ∷ 7 ∷ 5 ∷ [];
}

abbrev P2 : Row
P2 = record {
  lists = figures;
  tree = difference (leaf 0) (leaf 3);
  bookmark = 0;
  calls = next ∷ [];
  replies = Member 5 ∷ [];
  last = 6;
  moves = 7;
  places = 0 ∷ 3 ∷ 4 ∷ [];
}

abbrev p2_from_6 : Row
p2_from_6 = record {
  lists = figures;
  tree = difference (leaf 0) (leaf 3);
  bookmark = 6;
  calls = replicate 3 next;
  replies = Member 6 ∷ Member 8 ∷ Finished ∷ [];
  last = 4294967296;
  moves = 12;
  places = 0 ∷ 7 ∷ 5 ∷ [];
}

abbrev P3 : Row
P3 = record {
  lists = figures;
  tree = union all_four;
  bookmark = 0;
  calls = replicate 11 next;
  replies = members (0 ∷ 1 ∷ 2 ∷ 3 ∷ 4 ∷ 5 ∷ 6 ∷ 7 ∷ 8 ∷ 9 ∷ []) ++ (Finished ∷ []);
  last = 4294967296;
  moves = 23;
  places = 0 ∷ 7 ∷ 5 ∷ 5 ∷ 6 ∷ [];
}

abbrev P4 : Row
P4 = record {
  lists = figures;
  tree = intersection all_four;
  bookmark = 0;
  calls = next ∷ [];
  replies = Member 2 ∷ [];
  last = 3;
  moves = 5;
  places = 0 ∷ 2 ∷ 1 ∷ 0 ∷ 2 ∷ [];
}

abbrev p4_finished : Row
p4_finished = record {
  lists = figures;
  tree = intersection all_four;
  bookmark = 0;
  calls = replicate 2 next;
  replies = Member 2 ∷ Finished ∷ [];
  last = 4294967296;
  moves = 13;
  places = 0 ∷ 4 ∷ 5 ∷ 2 ∷ 2 ∷ [];
}

abbrev P5 : Row
P5 = record {
  lists = (5 ∷ []) ∷ (5 ∷ []) ∷ [];
  tree = intersection (more (leaf 0) (one (leaf 1)));
  bookmark = 0;
  calls = check 3 ∷ next ∷ [];
  replies = No ∷ Member 5 ∷ [];
  last = 6;
  moves = 0;
  places = [];
}

abbrev P6 : Row
P6 = record {
  lists = (5 ∷ []) ∷ [];
  tree = leaf 0;
  bookmark = 0;
  calls = check 5 ∷ check 5 ∷ next ∷ check 5 ∷ [];
  replies = Yes ∷ Yes ∷ Member 5 ∷ No ∷ [];
  last = 6;
  moves = 0;
  places = [];
}

abbrev P7 : Row
P7 = record {
  lists = (4294967295 ∷ []) ∷ [];
  tree = leaf 0;
  bookmark = 0;
  calls = replicate 2 next;
  replies = Member 4294967295 ∷ Finished ∷ [];
  last = 4294967296;
  moves = 1;
  places = 1 ∷ [];
}

abbrev pub runs : List Row
runs = P1 ∷ P2 ∷ p2_from_6 ∷ P3 ∷ P4 ∷ p4_finished ∷ P5 ∷ P6 ∷ P7 ∷ []

-- what the plain machine and the steps give for a row, and what the row says they give
abbrev pub computed : Row → (List Reply × ℕ) × Result
computed r = (machine (Sets.members r.lists r.tree) r.bookmark r.calls, run r.lists r.tree (starting r.bookmark) r.calls)

abbrev pub stated : Row → (List Reply × ℕ) × Result
stated r = (
  (r.replies, r.last),
  record { replies = r.replies; moves = r.moves; places = r.places ++ replicate (48 - length r.places) 0; last = starting r.last },
)

-- P8, read and written: bytes, and the tree that they are over two lists
abbrev pub expressions : List (List ℕ × Tree)
expressions = (0x40 ∷ 0x01 ∷ [], difference (leaf 0) (leaf 1)) ∷ (0x88 ∷ 0x00 ∷ 0x20 ∷ [], union (more (leaf 0) (one (leaf 1)))) ∷ []

-- P9, read and written: bytes, and the lists that they are. Two: "P9 and the table's delivery bytes stay the old form's"
abbrev old_235 : List ℕ
old_235 = 0x04 ∷ 0x00 ∷ 0x0C ∷ 0x00 ∷ 0x00 ∷ 0x00 ∷ 0x08 ∷ 0x08 ∷ []

abbrev pub deliveries : List (List ℕ × List (List ℕ))
deliveries = (old_235, (2 ∷ 3 ∷ 5 ∷ []) ∷ []) ∷ (0x04 ∷ 0x00 ∷ 0x00 ∷ [], [] ∷ []) ∷ []

-- P1 to P9
pub record Papers : Type 0 where
  pub p1_to_p7 : map computed runs ≡ map stated runs
  pub p8_read : map (λ e. read_packed (there 2 every_bit) e.0) expressions ≡ map (λ e. accepted e.1) expressions
  pub p8_written : map (λ e. packed e.1) expressions ≡ map (λ e. e.0) expressions
  pub p9_read : map (λ d. read_old_delivery 3 1 d.0) deliveries ≡ map (λ d. accepted d.1) deliveries
  pub p9_written : map (λ d. old_delivery d.1) deliveries ≡ map (λ d. d.0) deliveries

pub papers : Papers
unfolding computes
papers = record { p1_to_p7 = refl; p8_read = refl; p8_written = refl; p9_read = refl; p9_written = refl }

-- 01's slipping points that no P shows, and a call of each code: a number that two union members hold is handed out
-- once; a difference whose second part has finished goes on; past D, a check that only the second union member answers,
-- and code 4, after which the next call is unaffected; a check that stops early, or stands below the floor, moves nothing
abbrev pub slips : List Row
slips =
    record {
      lists = (5 ∷ []) ∷ (5 ∷ 6 ∷ []) ∷ [];
      tree = union (more (leaf 0) (one (leaf 1)));
      bookmark = 0;
      calls = replicate 3 next;
      replies = Member 5 ∷ Member 6 ∷ Finished ∷ [];
      last = 4294967296;
      moves = 3;
      places = 0 ∷ 1 ∷ 2 ∷ [];
    } ∷
    record {
      lists = (1 ∷ 2 ∷ 3 ∷ []) ∷ (1 ∷ []) ∷ [];
      tree = difference (leaf 0) (leaf 1);
      bookmark = 0;
      calls = replicate 3 next;
      replies = Member 2 ∷ Member 3 ∷ Finished ∷ [];
      last = 4294967296;
      moves = 4;
      places = 0 ∷ 3 ∷ 1 ∷ [];
    } ∷
    record {
      lists = (5 ∷ []) ∷ (5 ∷ 6 ∷ 7 ∷ []) ∷ [];
      tree = union (more (leaf 0) (one (leaf 1)));
      bookmark = 0;
      calls = call 3 6 ∷ call 4 0 ∷ call 2 6 ∷ call 1 6 ∷ [];
      replies = Yes ∷ Unknown ∷ Member 7 ∷ Finished ∷ [];
      last = 4294967296;
      moves = 4;
      places = 0 ∷ 1 ∷ 3 ∷ [];
    } ∷
    record {
      lists = (5 ∷ []) ∷ (1 ∷ 5 ∷ []) ∷ [];
      tree = union (more (leaf 0) (one (leaf 1)));
      bookmark = 0;
      calls = check 5 ∷ check 3 ∷ [];
      replies = Yes ∷ No ∷ [];
      last = 5;
      moves = 0;
      places = [];
    } ∷
    says_no (intersection (more (leaf 0) (one (leaf 1)))) ∷ says_no (difference (leaf 0) (leaf 1)) ∷ []
  where
    says_no : Tree → Row
    says_no t = record {
      lists = (5 ∷ []) ∷ (1 ∷ 5 ∷ []) ∷ [];
      tree = t;
      bookmark = 0;
      calls = check 3 ∷ [];
      replies = No ∷ [];
      last = 3;
      moves = 0;
      places = [];
    }

pub slipping_points : map computed slips ≡ map stated slips
unfolding computes
slipping_points = refl

-- Five's hops, over the numbers 10, 20, .. up to n tens, of which the 64th is 640 and the 128th 1280
abbrev tens_from : ℕ → ℕ → List ℕ
tens_from zero x = []
tens_from (suc n) x = x ∷ tens_from n (x + 10)

abbrev tens : ℕ → List ℕ
tens n = tens_from n 10

-- over so many of them, calls that are replied a member, or finished, at last; the moves and the place then
abbrev to_number : ℕ → List Call → List Reply → ℕ → ℕ → ℕ → Row
to_number n cs rs x moves place = record { lists = tens n ∷ []; tree = leaf 0; bookmark = 0; calls = cs; replies = rs ++ (Member x ∷ []); last = suc x; moves = moves; places = place ∷ [] }

abbrev to_end : ℕ → List Call → List Reply → ℕ → ℕ → Row
to_end n cs rs moves place = record { lists = tens n ∷ []; tree = leaf 0; bookmark = 0; calls = cs; replies = rs ++ (Finished ∷ []); last = 4294967296; moves = moves; places = place ∷ [] }

abbrev pub hop_rows : List Row
hop_rows =
    -- 63 numbers: no hop, however far
    to_end 63 (at_or_past 640 ∷ []) [] 63 63 ∷
    to_end 63 (at_or_past 641 ∷ []) [] 63 63 ∷
    to_number 63 (at_or_past 630 ∷ []) [] 630 62 62 ∷
    -- 64, sought below the 64th, at it and above it
    to_number 64 (at_or_past 639 ∷ []) [] 640 63 63 ∷
    to_number 64 (at_or_past 640 ∷ []) [] 640 63 63 ∷
    to_end 64 (at_or_past 641 ∷ []) [] 1 64 ∷
    to_end 64 (past 640 ∷ []) [] 1 64 ∷
    -- 65
    to_number 65 (at_or_past 640 ∷ []) [] 640 63 63 ∷
    to_number 65 (at_or_past 641 ∷ []) [] 650 1 64 ∷
    to_number 65 (at_or_past 650 ∷ []) [] 650 1 64 ∷
    to_end 65 (at_or_past 651 ∷ []) [] 2 65 ∷
    -- 128: also below, at and above the 128th
    to_number 128 (at_or_past 640 ∷ []) [] 640 63 63 ∷
    to_number 128 (at_or_past 641 ∷ []) [] 650 1 64 ∷
    to_number 128 (at_or_past 1279 ∷ []) [] 1280 64 127 ∷
    to_number 128 (at_or_past 1280 ∷ []) [] 1280 64 127 ∷
    to_end 128 (at_or_past 1281 ∷ []) [] 2 128 ∷
    -- 129
    to_number 129 (at_or_past 641 ∷ []) [] 650 1 64 ∷
    to_number 129 (at_or_past 1280 ∷ []) [] 1280 64 127 ∷
    to_number 129 (at_or_past 1281 ∷ []) [] 1290 2 128 ∷
    to_end 129 (at_or_past 1291 ∷ []) [] 3 129 ∷
    -- from a place in the middle, by the 64th from there: 650 from place 1
    to_number 129 (at_or_past 20 ∷ at_or_past 650 ∷ []) (Member 20 ∷ []) 650 64 64 ∷
    to_number 129 (at_or_past 20 ∷ at_or_past 651 ∷ []) (Member 20 ∷ []) 660 2 65 ∷
    -- from place 65, with 64 left; from place 66, with 63
    to_end 129 (at_or_past 660 ∷ past 4294967295 ∷ []) (Member 660 ∷ []) 3 129 ∷
    to_end 129 (at_or_past 670 ∷ past 4294967295 ∷ []) (Member 670 ∷ []) 66 129 ∷
    -- to 4,294,967,296
    to_end 63 (past 4294967295 ∷ []) [] 63 63 ∷
    to_end 64 (past 4294967295 ∷ []) [] 1 64 ∷
    to_end 65 (past 4294967295 ∷ []) [] 2 65 ∷
    to_end 128 (past 4294967295 ∷ []) [] 2 128 ∷
    to_end 129 (past 4294967295 ∷ []) [] 3 129 ∷
    -- in checks as in seeks
    to_number 129 (check 640 ∷ next ∷ []) (Yes ∷ []) 640 63 63 ∷
    to_number 129 (check 641 ∷ next ∷ []) (No ∷ []) 650 1 64 ∷
    to_number 129 (check 1290 ∷ next ∷ []) (Yes ∷ []) 1290 2 128 ∷
    -- and below an operator
    record {
      lists = (650 ∷ 1290 ∷ []) ∷ tens 129 ∷ [];
      tree = intersection (more (leaf 0) (one (leaf 1)));
      bookmark = 0;
      calls = replicate 3 next;
      replies = Member 650 ∷ Member 1290 ∷ Finished ∷ [];
      last = 4294967296;
      moves = 4;
      places = 0 ∷ 2 ∷ 128 ∷ [];
    } ∷
    -- at a later node; three hops, from a bookmark
    record {
      lists = (5 ∷ []) ∷ tens 192 ∷ [];
      tree = union (more (leaf 0) (more (leaf 0) (one (difference (leaf 1) (leaf 1)))));
      bookmark = 1921;
      calls = next ∷ [];
      replies = Finished ∷ [];
      last = 4294967296;
      moves = 5;
      places = 0 ∷ 1 ∷ 1 ∷ 0 ∷ 192 ∷ 0 ∷ [];
    } ∷
    -- a difference whose second hops to the first's answer, and a check below it that hops at both
    record {
      lists = (650 ∷ 1300 ∷ []) ∷ tens 129 ∷ [];
      tree = difference (leaf 0) (leaf 1);
      bookmark = 0;
      calls = next ∷ [];
      replies = Member 1300 ∷ [];
      last = 1301;
      moves = 4;
      places = 0 ∷ 1 ∷ 129 ∷ [];
    } ∷
    record {
      lists = tens 65 ∷ tens 129 ∷ [];
      tree = difference (leaf 0) (leaf 1);
      bookmark = 0;
      calls = check 650 ∷ [];
      replies = No ∷ [];
      last = 650;
      moves = 2;
      places = 0 ∷ 64 ∷ 64 ∷ [];
    } ∷
    []

pub hops : map computed hop_rows ≡ map stated hop_rows
unfolding computes
hops = refl

abbrev eight_of_list_0 : List ℕ
eight_of_list_0 = 136 ∷ replicate 8 0

-- the refusal table's delivery bytes, 7 to 9
abbrev old_7 : List ℕ
old_7 = 0x00 ∷ []

abbrev old_8 : List ℕ
old_8 = 0x04 ∷ 0x00 ∷ 0x0B ∷ 0xFF ∷ 0xFF ∷ 0xFF ∷ 0xFC ∷ 0x00 ∷ []

abbrev old_9 : List ℕ
old_9 = 0x04 ∷ 0x00 ∷ 0x08 ∷ 0x00 ∷ 0x00 ∷ 0x00 ∷ 0x08 ∷ 0x20 ∷ []

-- the refusal table's small inputs in its order, 1 to 14, and the byte behind the last known one, each with lent rows of 7s;
-- the old form's bytes as the call that reads them sends them back
abbrev pub refused_inputs : List Sent
refused_inputs =
    unpack_expression [] 1 every_bit lent ∷
    pack_expression (136 ∷ (eight_of_list_0 ++ eight_of_list_0 ++ eight_of_list_0 ++ eight_of_list_0 ++ eight_of_list_0 ++ replicate 3 0)) 1 every_bit lent ∷
    unpack_expression (0x84 ∷ 0x21 ∷ 0x08 ∷ 0x42 ∷ 0x10 ∷ 0x84 ∷ 0x21 ∷ 0x00 ∷ 0x00 ∷ []) 1 every_bit lent ∷
    unpack_expression (0x02 ∷ []) 1 every_bit lent ∷
    unpack_expression (0x01 ∷ []) 1 every_bit lent ∷
    decode_delivery new_235 lent lent ∷
    upgrade_delivery old_7 lent ∷
    upgrade_delivery old_8 lent ∷
    upgrade_delivery old_9 lent ∷
    encode_delivery (lend (2 ∷ 3 ∷ []) (2 ∷ 1 ∷ []) every_bit) lent ∷
    encode_delivery (lend (5 ∷ 5 ∷ []) (2 ∷ []) every_bit) lent ∷
    run_call (lend (5 ∷ []) (1 ∷ []) every_bit) (0x00 ∷ []) (starting 4294967297) (0 ∷ []) (0 ∷ []) lent ∷
    run_call (lend (5 ∷ []) (1 ∷ []) every_bit) (0x00 ∷ []) (starting 0) (0 ∷ []) [] lent ∷
    pack_expression (32 ∷ []) 1 every_bit lent ∷ pack_expression (201 ∷ replicate 9 0) 1 every_bit lent ∷ []
  where
    lent : List ℕ
    lent = 7 ∷ 7 ∷ []

abbrev pub refusal : ℕ → ℕ → ℕ → Sent
refusal n parts rows = record { number = n; parts = replicate parts 0; rows = replicate rows (7 ∷ 7 ∷ []) }

pub refusals : refused_inputs ≡
    refusal 1 1 1 ∷ refusal 2 1 1 ∷ refusal 3 1 1 ∷ refusal 4 1 1 ∷ refusal 5 1 1 ∷ refusal 6 3 2 ∷ refusal 7 1 1 ∷ refusal 8 1 1 ∷ refusal 9 1 1 ∷
    refusal 10 1 1 ∷ refusal 11 1 1 ∷ refusal 12 run_size 1 ∷ refusal 13 run_size 1 ∷ refusal 14 1 1 ∷ refusal 14 1 1 ∷ []
unfolding computes
refusals = refl

-- 6 to 9 as the old form's reading refuses them, with rows lent: 2 places for numbers and 2 for ends
pub refusals_old : map (read_old_delivery 2 2) (old_235 ∷ old_7 ∷ old_8 ∷ old_9 ∷ []) ≡ map refused (6 ∷ 7 ∷ 8 ∷ 9 ∷ [])
unfolding computes
refusals_old = refl

-- and the same in Two's form, a bit of 1 ahead of each count: count 2, first 4294967295, width 1, gap 0; count 2, first 2,
-- width 2, gap 0
pub refusals_new :
    map (λ bytes. decode_delivery bytes (7 ∷ 7 ∷ []) (7 ∷ 7 ∷ []))
    (new_235 ∷ (0x00 ∷ []) ∷ (0x06 ∷ 0x00 ∷ 0x05 ∷ 0xFF ∷ 0xFF ∷ 0xFF ∷ 0xFE ∷ 0x00 ∷ []) ∷ (0x06 ∷ 0x00 ∷ 0x04 ∷ 0x00 ∷ 0x00 ∷ 0x00 ∷ 0x04 ∷ 0x10 ∷ []) ∷ [])
    ≡ refusal 6 3 2 ∷ refusal 7 3 2 ∷ refusal 8 3 2 ∷ refusal 9 3 2 ∷ []
unfolding computes
refusals_new = refl

-- what success sends back: the parts in 01's order, and behind the written elements what the row held. P8 unpacked and
-- packed, P9's list read and written in Two's form, and a run with every kind of reply over it
pub successes :
    unpack_expression (0x40 ∷ 0x01 ∷ []) 2 every_bit (7 ∷ 7 ∷ 7 ∷ 7 ∷ []) ∷
    pack_expression (64 ∷ 0 ∷ 1 ∷ []) 2 every_bit (7 ∷ 7 ∷ 7 ∷ []) ∷
    decode_delivery new_235 (7 ∷ 7 ∷ 7 ∷ 7 ∷ []) (7 ∷ 7 ∷ []) ∷
    encode_delivery (lend (2 ∷ 3 ∷ 5 ∷ 7 ∷ []) (3 ∷ []) every_bit) (replicate 9 7) ∷
    run_call (lend (2 ∷ 3 ∷ 5 ∷ []) (3 ∷ []) every_bit) (0x00 ∷ []) (starting 0) (3 ∷ 4 ∷ 0 ∷ 2 ∷ 3 ∷ 1 ∷ []) (2 ∷ 9 ∷ 9 ∷ 2 ∷ 2 ∷ 6 ∷ []) (replicate 7 7) ∷ []
    ≡
    record { number = 0; parts = 3 ∷ []; rows = (64 ∷ 0 ∷ 1 ∷ 7 ∷ []) ∷ [] } ∷
    record { number = 0; parts = 2 ∷ []; rows = (0x40 ∷ 0x01 ∷ 7 ∷ []) ∷ [] } ∷
    record { number = 0; parts = 2147483648 ∷ 1 ∷ 3 ∷ []; rows = (2 ∷ 3 ∷ 5 ∷ 7 ∷ []) ∷ (3 ∷ 7 ∷ []) ∷ [] } ∷
    record { number = 0; parts = 8 ∷ []; rows = (0x06 ∷ 0x00 ∷ 0x06 ∷ 0x00 ∷ 0x00 ∷ 0x00 ∷ 0x04 ∷ 0x04 ∷ 7 ∷ []) ∷ [] } ∷
    record {
      number = 0;
      parts = 3 ∷ 3 ∷ (replicate 47 0 ++ (4294967296 ∷ []));
      rows = (4294967297 ∷ 4294967299 ∷ 2 ∷ 3 ∷ 4294967296 ∷ 4294967298 ∷ 7 ∷ []) ∷ [];
    } ∷ []
unfolding computes
successes = refl

-- ---- tests at their bounds and in their order: a refusal of so many parts, and a success
abbrev refuses : ℕ → ℕ → List (List ℕ) → Sent
refuses n parts rows = record { number = n; parts = replicate parts 0; rows = rows }

abbrev gives : List ℕ → List (List ℕ) → Sent
gives parts rows = record { number = 0; parts = parts; rows = rows }

pub record Edges : Type 0 where
  -- 7 comes before all: 0 and 33 lists, and 32 are there
  unpack_7 : unpack_expression (0x01 ∷ []) 0 every_bit (7 ∷ []) ≡ refuses 7 1 ((7 ∷ []) ∷ [])
  unpack_33 : unpack_expression (0x00 ∷ []) 33 every_bit (7 ∷ []) ≡ refuses 7 1 ((7 ∷ []) ∷ [])
  unpack_31 : unpack_expression (0x3E ∷ []) 32 every_bit (7 ∷ []) ≡ gives (1 ∷ []) ((31 ∷ []) ∷ [])
  pack_7 : pack_expression (32 ∷ []) 0 every_bit (7 ∷ []) ≡ refuses 7 1 ((7 ∷ []) ∷ [])
  encode_7 : encode_delivery (lend [] [] every_bit) [] ≡ refuses 7 1 ([] ∷ [])
  -- an intersection of lists 0 and 1, into rows that just fit; 6 comes last, one element short
  unpack_fits : unpack_expression (0xC8 ∷ 0x00 ∷ 0x20 ∷ []) 2 every_bit (7 ∷ 7 ∷ 7 ∷ []) ≡ gives (3 ∷ []) ((194 ∷ 0 ∷ 1 ∷ []) ∷ [])
  unpack_short : unpack_expression (0xC8 ∷ 0x00 ∷ 0x20 ∷ []) 2 every_bit (7 ∷ 7 ∷ []) ≡ refuses 6 1 ((7 ∷ 7 ∷ []) ∷ [])
  unpack_none : unpack_expression [] 1 every_bit [] ≡ refuses 1 1 ([] ∷ [])
  pack_fits : pack_expression (194 ∷ 0 ∷ 1 ∷ []) 2 every_bit (7 ∷ 7 ∷ 7 ∷ []) ≡ gives (3 ∷ []) ((0xC8 ∷ 0x00 ∷ 0x20 ∷ []) ∷ [])
  pack_bytes : pack_expression (64 ∷ 0 ∷ 1 ∷ []) 2 every_bit (7 ∷ 7 ∷ []) ≡ gives (2 ∷ []) ((0x40 ∷ 0x01 ∷ []) ∷ [])
  pack_short : pack_expression (64 ∷ 0 ∷ 1 ∷ []) 2 every_bit (7 ∷ []) ≡ refuses 6 1 ((7 ∷ []) ∷ [])
  encode-fits : encode_delivery (lend (2 ∷ 3 ∷ 5 ∷ []) (3 ∷ []) every_bit) (replicate 8 7) ≡ gives (8 ∷ []) (new_235 ∷ [])
  encode-short : encode_delivery (lend (2 ∷ 3 ∷ 5 ∷ []) (3 ∷ []) every_bit) (replicate 7 7) ≡ refuses 6 1 (replicate 7 7 ∷ [])
  -- a row that ends early, and a node left over
  row_early : pack_expression (64 ∷ 0 ∷ []) 1 every_bit (7 ∷ []) ≡ refuses 1 1 ((7 ∷ []) ∷ [])
  row-over : pack_expression (0 ∷ 0 ∷ []) 1 every_bit (7 ∷ []) ≡ refuses 5 1 ((7 ∷ []) ∷ [])
  -- an empty list is fine, an end may not pass the row, and a list may have 65,535 numbers
  empty_lists : encode_delivery (lend [] (0 ∷ 0 ∷ []) every_bit) (replicate 5 7) ≡ gives (5 ∷ []) ((0x0A ∷ 0x00 ∷ 0x01 ∷ 0x00 ∷ 0x00 ∷ []) ∷ [])
  end_passes : encode_delivery (lend (2 ∷ 3 ∷ []) (3 ∷ []) every_bit) [] ≡ refuses 10 1 ([] ∷ [])
  long-lists : Lists.ends_hold 131070 0 (65535 ∷ 131070 ∷ []) ≡ true
  too_long : Lists.ends_hold 65536 0 (65536 ∷ []) ≡ false
  -- two lists read, each with its end
  two_ends : decode_delivery (0x0A ∷ 0x00 ∷ 0x02 ∷ 0x00 ∷ 0x00 ∷ 0x00 ∷ 0x0B ∷ 0x00 ∷ 0x01 ∷ 0x00 ∷ 0x00 ∷ 0x00 ∷ 0x07 ∷ []) (9 ∷ 9 ∷ []) (9 ∷ 9 ∷ []) ≡ gives (3221225472 ∷ 2 ∷ 2 ∷ []) ((5 ∷ 7 ∷ []) ∷ (1 ∷ 2 ∷ []) ∷ [])
  -- a run's 50 other parts; the reply row one short; code 1 draws D itself
  fifty : run_size ≡ 50
  replies-short : run_call (lend (5 ∷ []) (1 ∷ []) every_bit) (0x00 ∷ []) (starting 0) (0 ∷ []) (0 ∷ []) [] ≡ refuses 13 run_size ([] ∷ [])
  at-d : run_call (lend (5 ∷ 6 ∷ []) (2 ∷ []) every_bit) (0x00 ∷ []) (starting 0) (1 ∷ []) (5 ∷ []) (7 ∷ []) ≡ gives (0 ∷ (replicate 48 0 ++ (6 ∷ []))) ((5 ∷ []) ∷ [])
  -- the part of a list: its place and its length; the empty part at the start where there is none, or 11 would apply
  part_1 : Lists.span_of (lend (2 ∷ 3 ∷ 5 ∷ 7 ∷ []) (1 ∷ 3 ∷ []) every_bit) 1 ≡ record { start = 1; size = 2 }
  part_2 : Lists.span_of (lend (2 ∷ 3 ∷ 5 ∷ 7 ∷ []) (1 ∷ 3 ∷ []) every_bit) 2 ≡ record { start = 0; size = 0 }
  part_11 : Lists.span_of (lend (2 ∷ 3 ∷ 3 ∷ []) (1 ∷ 3 ∷ []) every_bit) 1 ≡ record { start = 0; size = 0 }
  -- the program: no length byte, an expression that is short
  no_length : listing [] ≡ refused 1
  short-expression : listing (0x05 ∷ 0x00 ∷ []) ≡ refused 1
  -- its members in a row that they fill, in a longer one, and in one that is one short
  listed_exactly : list_members stored_example (7 ∷ 7 ∷ 7 ∷ []) ≡ gives (3 ∷ 3 ∷ []) ((2 ∷ 3 ∷ 5 ∷ []) ∷ [])
  listed_longer : list_members stored_example (7 ∷ 7 ∷ 7 ∷ 7 ∷ []) ≡ gives (3 ∷ 3 ∷ []) ((2 ∷ 3 ∷ 5 ∷ 7 ∷ []) ∷ [])
  listed-short : list_members stored_example (7 ∷ 7 ∷ []) ≡ refuses 6 2 ((7 ∷ 7 ∷ []) ∷ [])

pub edges : Edges
unfolding computes
edges = record {
  unpack_7 = refl;
  unpack_33 = refl;
  unpack_31 = refl;
  pack_7 = refl;
  encode_7 = refl;
  unpack_fits = refl;
  unpack_short = refl;
  unpack_none = refl;
  pack_fits = refl;
  pack_bytes = refl;
  pack_short = refl;
  encode-fits = refl;
  encode-short = refl;
  row_early = refl;
  row-over = refl;
  empty_lists = refl;
  end_passes = refl;
  long-lists = refl;
  too_long = refl;
  two_ends = refl;
  fifty = refl;
  replies-short = refl;
  at-d = refl;
  part_1 = refl;
  part_2 = refl;
  part_11 = refl;
  no_length = refl;
  short-expression = refl;
  listed_exactly = refl;
  listed_longer = refl;
  listed-short = refl;
}

-- ---- orders: inputs to which two refusals apply, and the other side of a bound

abbrev sevens : List ℕ
sevens = 7 ∷ 7 ∷ []

abbrev eights : ℕ → List ℕ
eights zero = []
eights (suc n) = eight_of_list_0 ++ eights n

-- a union of 7, its first 5 members unions of 8, all others list 0: 48 nodes, 324 bits
abbrev forty_eight : List ℕ
forty_eight =
    (0xB5 ∷ 0xC0 ∷ []) ++ replicate 6 0 ++ (0x2E ∷ []) ++ replicate 6 0 ++ (0x01 ∷ 0x70 ∷ []) ++ replicate 6 0 ++ (0x0B ∷ 0x80 ∷ []) ++ replicate 6 0 ++ (0x5C ∷ []) ++ replicate 9 0

-- "At each node: 2, 3, 1": the row ends before a 49th node; before one at depth 13; before a 48th at depth 13. A field
-- that lacks one bit. 48 nodes, packed and as a row, and depth 12, packed and as a row: only the lent row is too short.
-- 128, 137 and 192 are unknown
pub order_expressions :
    pack_expression (136 ∷ (eights 5 ++ replicate 2 0)) 1 every_bit sevens ∷
    pack_expression (133 ∷ (eights 4 ++ replicate 11 129)) 1 every_bit sevens ∷
    pack_expression (133 ∷ (eights 3 ++ (135 ∷ replicate 7 0) ++ replicate 11 129)) 1 every_bit sevens ∷
    unpack_expression (0x84 ∷ 0x00 ∷ []) 2 every_bit sevens ∷
    pack_expression (134 ∷ (eights 4 ++ (135 ∷ replicate 7 0) ++ (64 ∷ 0 ∷ 0 ∷ []))) 1 every_bit sevens ∷
    unpack_expression forty_eight 1 every_bit sevens ∷
    pack_expression (replicate 11 193 ++ (0 ∷ [])) 1 every_bit sevens ∷
    unpack_expression (0x84 ∷ 0x21 ∷ 0x08 ∷ 0x42 ∷ 0x10 ∷ 0x84 ∷ 0x20 ∷ 0x00 ∷ []) 1 every_bit sevens ∷
    pack_expression (128 ∷ 0 ∷ []) 1 every_bit sevens ∷
    pack_expression (137 ∷ replicate 9 0) 1 every_bit sevens ∷
    pack_expression (192 ∷ 0 ∷ []) 1 every_bit sevens ∷ []
    ≡
    refusal 2 1 1 ∷ refusal 2 1 1 ∷ refusal 3 1 1 ∷ refusal 1 1 1 ∷ refusal 6 1 1 ∷ refusal 6 1 1 ∷ refusal 6 1 1 ∷ refusal 6 1 1 ∷ refusal 14 1 1 ∷
    refusal 14 1 1 ∷ refusal 14 1 1 ∷ []
unfolding computes
order_expressions = refl

-- the largest union, intersection and list number: a union of 8, its first an intersection of 8 that begins with list 0 and
-- ends with list 31, written and read
abbrev largest_row : List ℕ
largest_row = 136 ∷ 200 ∷ (replicate 7 0 ++ (31 ∷ replicate 7 0))

abbrev largest_packed : List ℕ
largest_packed = 0xBF ∷ 0xC0 ∷ (replicate 5 0 ++ (0x07 ∷ 0xC0 ∷ replicate 6 0))

pub order-largest : pack_expression largest_row 32 every_bit (replicate 15 7) ∷ unpack_expression largest_packed 32 every_bit (replicate 17 7) ∷ [] ≡ gives (15 ∷ []) (largest_packed ∷ []) ∷ gives (17 ∷ []) (largest_row ∷ []) ∷ []
unfolding computes
order-largest = refl

-- "8 at the gap", before the next gap's bits run out; "6 for the numbers once its count is read", before 1, and over all
-- lists; 7 before "6 for the ends row"; "finally 5"
pub order_deliveries :
    decode_delivery (0x06 ∷ 0x00 ∷ 0x07 ∷ 0xFF ∷ 0xFF ∷ 0xFF ∷ 0xFE ∷ 0x20 ∷ []) (replicate 3 7) (7 ∷ []) ∷
    decode_delivery (0x06 ∷ 0x00 ∷ 0x06 ∷ []) sevens sevens ∷
    decode_delivery (0x0A ∷ 0x00 ∷ 0x02 ∷ 0x00 ∷ 0x00 ∷ 0x00 ∷ 0x03 ∷ 0x00 ∷ 0x01 ∷ []) (7 ∷ []) sevens ∷
    decode_delivery (0x84 ∷ []) sevens sevens ∷
    decode_delivery (0x06 ∷ 0x00 ∷ 0x01 ∷ []) sevens sevens ∷
    encode_delivery (lend [] (1 ∷ replicate 32 0) every_bit) sevens ∷
    encode_delivery (lend (5 ∷ 5 ∷ []) (2 ∷ 1 ∷ []) every_bit) sevens ∷ []
    ≡
    refuses 8 3 (replicate 3 7 ∷ (7 ∷ []) ∷ []) ∷
    refusal 6 3 2 ∷
    refuses 6 3 ((7 ∷ []) ∷ sevens ∷ []) ∷
    refusal 7 3 2 ∷
    refusal 5 3 2 ∷
    refusal 7 1 1 ∷
    refusal 10 1 1 ∷ []
unfolding computes
order_deliveries = refl

-- where no row is lent: P9, and what with rows is 6, once the count is read, is 1 here
pub order-stored : read_stored by_count (0x04 ∷ 0x00 ∷ 0x0C ∷ []) ∷ map (λ d. read_stored by_count d.0) deliveries ≡ refused 1 ∷ map (λ d. accepted d.1) deliveries
unfolding computes
order-stored = refl

-- a run: "lists [..], the packed expression [..], bookmark (12), row lengths (13)"; more numbers than codes; a list number
-- that is not there; and one empty list, drawn
pub order_runs :
    run_call (lend (5 ∷ 5 ∷ []) (2 ∷ []) every_bit) [] (starting 0) [] [] sevens ∷
    run_call (lend (5 ∷ []) (1 ∷ []) every_bit) [] (starting 4294967297) [] [] sevens ∷
    run_call (lend (5 ∷ []) (1 ∷ []) every_bit) (0x00 ∷ []) (starting 4294967297) (0 ∷ []) [] sevens ∷
    run_call (lend (5 ∷ []) (1 ∷ []) every_bit) (0x00 ∷ []) (starting 0) [] (0 ∷ []) sevens ∷
    run_call (lend (5 ∷ []) (1 ∷ []) every_bit) (0x02 ∷ []) (starting 0) [] [] sevens ∷
    run_call (lend [] (0 ∷ []) every_bit) (0x00 ∷ []) (starting 0) (0 ∷ []) (0 ∷ []) sevens ∷ []
    ≡
    refusal 11 run_size 1 ∷ refusal 1 run_size 1 ∷ refusal 12 run_size 1 ∷ refusal 13 run_size 1 ∷ refusal 4 run_size 1 ∷
    record { number = 0; parts = replicate 49 0 ++ (4294967296 ∷ []); rows = (4294967298 ∷ 7 ∷ []) ∷ [] } ∷ []
unfolding computes
order_runs = refl

-- where the replies are the same and the moves are not: "A union checks in order until a yes", and a check below the floor
-- moves nothing; "an intersection until a no", and a difference its second "on yes" only; the higher answer is the candidate
abbrev pub order_rows : List Row
order_rows =
    record {
      lists = (1 ∷ 5 ∷ []) ∷ (1 ∷ 5 ∷ []) ∷ [];
      tree = union (more (leaf 0) (one (leaf 1)));
      bookmark = 0;
      calls = check 5 ∷ check 2 ∷ [];
      replies = Yes ∷ No ∷ [];
      last = 5;
      moves = 1;
      places = 0 ∷ 1 ∷ [];
    } ∷
    record {
      lists = (1 ∷ 6 ∷ []) ∷ (1 ∷ 5 ∷ []) ∷ [];
      tree = union (more (intersection (more (leaf 0) (one (leaf 1)))) (one (difference (leaf 0) (leaf 1))));
      bookmark = 0;
      calls = check 5 ∷ [];
      replies = No ∷ [];
      last = 5;
      moves = 2;
      places = 0 ∷ 0 ∷ 1 ∷ 0 ∷ 0 ∷ 1 ∷ [];
    } ∷
    record {
      lists = (1 ∷ 5 ∷ []) ∷ (1 ∷ 3 ∷ 7 ∷ []) ∷ (9 ∷ []) ∷ [];
      tree = intersection (more (leaf 0) (more (leaf 1) (one (leaf 2))));
      bookmark = 0;
      calls = next ∷ [];
      replies = Finished ∷ [];
      last = 4294967296;
      moves = 2;
      places = 0 ∷ 2 ∷ [];
    } ∷ []

pub order-moves : map computed order_rows ≡ map stated order_rows
unfolding computes
order-moves = refl

-- the program: its whole size first, 65,536 bytes; "then the delivery, then the expression"; 4,096 numbers
-- and 32 lists are read on until bits run out, 4,097 numbers are not; a list number that is not there
pub order_listings :
    map listing (replicate 65536 0 ∷ (0x00 ∷ 0x00 ∷ []) ∷ (0x01 ∷ 0x00 ∷ 0x06 ∷ 0x20 ∷ 0x00 ∷ []) ∷ (0x01 ∷ 0x00 ∷ 0x06 ∷ 0x20 ∷ 0x02 ∷ []) ∷
    (0x01 ∷ 0x00 ∷ 0x82 ∷ []) ∷ (0x01 ∷ 0x02 ∷ 0x06 ∷ 0x00 ∷ 0x00 ∷ []) ∷ [])
    ≡ map refused (6 ∷ 7 ∷ 1 ∷ 6 ∷ 1 ∷ 4 ∷ [])
unfolding computes
order_listings = refl

-- "A number is 0 to 4,294,967,295"
pub order_numbers : Numbers (4294967295 ∷ [])
order_numbers zero = omega arith
order_numbers (suc i) = omega arith

-- 65,535 bytes are read: an expression of no bytes, and a delivery of 0 lists, which is tested first
no_lists : (bs : List ℕ) → leb (length (0 ∷ 0 ∷ bs)) 65535 ≡ true → leb 6 (length (Fields.bits (0 ∷ bs))) ≡ true → listing (0 ∷ 0 ∷ bs) ≡ refused 7
unfolding computes
no_lists bs h k = rw (h, leb-zero (length (0 ∷ bs)), k) refl

zeros_refused : (n : ℕ) → n ≤ 65533 → listing (replicate (suc (suc n)) 0) ≡ refused 7
zeros_refused n h = no_lists (replicate n 0) (le-leb _ _ (omega (arith, length-replicate {A = ℕ} n 0))) (le-leb _ _ (omega (arith, bits-length (0 ∷ replicate n 0))))

pub largest_input : listing (replicate 65535 0) ≡ refused 7
largest_input = zeros_refused 65533 (omega arith)

pub example : listing stored_example ≡ accepted (record { members = 2 ∷ 3 ∷ 5 ∷ []; moves = 3 })
unfolding computes
example = refl

-- ---- request One: the kept row, over two lists and their difference, or one list

-- a call of it, but for the change
pub record Shown : Type 0 where
  pub lent : Lent
  pub expression : List ℕ
  pub kept : List ℕ
  pub count : ℕ

abbrev pub shown_two : List ℕ → List ℕ → List ℕ → ℕ → Shown
shown_two numbers ends kept count = record { lent = lend numbers ends every_bit; expression = 0x40 ∷ 0x01 ∷ []; kept = kept; count = count }

abbrev pub shown_one : List ℕ → List ℕ → List ℕ → ℕ → Shown
shown_one numbers ends kept count = record { lent = lend numbers ends every_bit; expression = 0x00 ∷ []; kept = kept; count = count }

abbrev pub changes : Shown → Change → Sent
changes h c = update h.lent h.expression c h.kept h.count

-- 2 5 6 without 3 6, with 9 8 behind the last end and 7s behind the members. Added to the first list, a member comes, and
-- none; added to the subtracted one, a member goes, and none; removed from the first, a member goes, and none; removed
-- from the subtracted one, a member comes, and none
pub updates :
    map (changes (shown_two (2 ∷ 5 ∷ 6 ∷ 3 ∷ 6 ∷ 9 ∷ 8 ∷ []) (3 ∷ 5 ∷ []) (2 ∷ 5 ∷ 7 ∷ 7 ∷ []) 2))
    (change 0 4 1 ∷ change 0 3 255 ∷ change 1 2 1 ∷ change 1 4294967295 1 ∷ change 0 2 0 ∷ change 0 6 0 ∷ change 1 6 0 ∷ change 1 3 0 ∷ [])
    ≡
    updated 0 (2 ∷ 4 ∷ 5 ∷ 6 ∷ 3 ∷ 6 ∷ 8 ∷ []) (4 ∷ 6 ∷ []) (2 ∷ 4 ∷ 5 ∷ 7 ∷ []) 3 ∷
    updated 0 (2 ∷ 3 ∷ 5 ∷ 6 ∷ 3 ∷ 6 ∷ 8 ∷ []) (4 ∷ 6 ∷ []) (2 ∷ 5 ∷ 7 ∷ 7 ∷ []) 2 ∷
    updated 0 (2 ∷ 5 ∷ 6 ∷ 2 ∷ 3 ∷ 6 ∷ 8 ∷ []) (3 ∷ 6 ∷ []) (5 ∷ 5 ∷ 7 ∷ 7 ∷ []) 1 ∷
    updated 0 (2 ∷ 5 ∷ 6 ∷ 3 ∷ 6 ∷ 4294967295 ∷ 8 ∷ []) (3 ∷ 6 ∷ []) (2 ∷ 5 ∷ 7 ∷ 7 ∷ []) 2 ∷
    updated 0 (5 ∷ 6 ∷ 3 ∷ 6 ∷ 6 ∷ 9 ∷ 8 ∷ []) (2 ∷ 4 ∷ []) (5 ∷ 5 ∷ 7 ∷ 7 ∷ []) 1 ∷
    updated 0 (2 ∷ 5 ∷ 3 ∷ 6 ∷ 6 ∷ 9 ∷ 8 ∷ []) (2 ∷ 4 ∷ []) (2 ∷ 5 ∷ 7 ∷ 7 ∷ []) 2 ∷
    updated 0 (2 ∷ 5 ∷ 6 ∷ 3 ∷ 6 ∷ 9 ∷ 8 ∷ []) (3 ∷ 4 ∷ []) (2 ∷ 5 ∷ 6 ∷ 7 ∷ []) 3 ∷
    updated 0 (2 ∷ 5 ∷ 6 ∷ 6 ∷ 6 ∷ 9 ∷ 8 ∷ []) (3 ∷ 4 ∷ []) (2 ∷ 5 ∷ 7 ∷ 7 ∷ []) 2 ∷ []
unfolding computes
updates = refl

-- the first number of a list, into the only place, and taken out again; rows that are full, and need no place more: a
-- member goes as a number comes, and a number goes that was no member
pub updates_fit :
    changes (shown_one (7 ∷ []) (0 ∷ []) (7 ∷ []) 0) (change 0 0 1) ∷
    changes (shown_one (0 ∷ []) (1 ∷ []) (0 ∷ []) 1) (change 0 0 0) ∷
    changes (shown_two (5 ∷ 7 ∷ []) (1 ∷ 1 ∷ []) (5 ∷ []) 1) (change 1 5 1) ∷
    changes (shown_two (5 ∷ 6 ∷ 6 ∷ []) (2 ∷ 3 ∷ []) (5 ∷ []) 1) (change 0 6 0) ∷ []
    ≡
    updated 0 (0 ∷ []) (1 ∷ []) (0 ∷ []) 1 ∷
    updated 0 (0 ∷ []) (0 ∷ []) (0 ∷ []) 0 ∷
    updated 0 (5 ∷ 5 ∷ []) (1 ∷ 2 ∷ []) (5 ∷ []) 0 ∷
    updated 0 (5 ∷ 6 ∷ 6 ∷ []) (1 ∷ 2 ∷ []) (5 ∷ []) 1 ∷ []
unfolding computes
updates_fit = refl

-- a call and the number that refuses it
pub record RefusedUpdate : Type 0 where
  pub number : ℕ
  pub shown : Shown
  pub change : Change

-- then all four rows are as they were
abbrev pub RefusedUpdates : List RefusedUpdate → Type 0
RefusedUpdates rs =
    map (λ r. changes r.shown r.change) rs
    ≡ map (λ r. updated r.number r.shown.lent.numbers r.shown.lent.ends r.shown.kept r.shown.count) rs

abbrev refuses_update : ℕ → Shown → Change → RefusedUpdate
refuses_update n h c = record { number = n; shown = h; change = c }

-- 4 for the list; 17 for a count too low and too high, another row, a row in another order, rows that are shorter than
-- the count; 15 both ways, also where the number stands in the other list alone; 6 with no place behind the last end, and
-- with none in the kept row, adding and removing
abbrev refused_ones : List RefusedUpdate
refused_ones =
    refuses_update 4 (two (2 ∷ 5 ∷ []) 2) (change 2 4 1) ∷
    refuses_update 17 (two (2 ∷ 5 ∷ []) 1) (change 0 4 1) ∷
    refuses_update 17 (two (2 ∷ 5 ∷ 7 ∷ []) 3) (change 0 4 1) ∷
    refuses_update 17 (two (2 ∷ 6 ∷ []) 2) (change 0 4 1) ∷
    refuses_update 17 (two (5 ∷ 2 ∷ []) 2) (change 0 4 1) ∷
    refuses_update 17 (two (2 ∷ []) 2) (change 0 2 0) ∷
    refuses_update 17 (two (2 ∷ 5 ∷ []) 3) (change 0 2 0) ∷
    refuses_update 15 (two (2 ∷ 5 ∷ []) 2) (change 0 5 1) ∷
    refuses_update 15 (two (2 ∷ 5 ∷ []) 2) (change 0 3 0) ∷
    refuses_update 6 (shown_one (5 ∷ []) (1 ∷ []) (5 ∷ 7 ∷ []) 1) (change 0 4 1) ∷
    refuses_update 6 (two (2 ∷ 5 ∷ []) 2) (change 0 4 1) ∷
    refuses_update 6 (two (2 ∷ 5 ∷ []) 2) (change 1 6 0) ∷ []
  where
    two : List ℕ → ℕ → Shown
    two = shown_two (2 ∷ 5 ∷ 6 ∷ 3 ∷ 6 ∷ 9 ∷ 8 ∷ []) (3 ∷ 5 ∷ [])

pub update_refusals : RefusedUpdates refused_ones
unfolding computes
update_refusals = refl

-- 16 at 65,535 numbers, not at 65,534, and not on removing
pub update_longest :
    Update.has_room (change 0 7 1) (replicate 65535 0 ∷ []) ∷ Update.has_room (change 0 7 1) (replicate 65534 0 ∷ []) ∷
    Update.has_room (change 0 7 0) (replicate 65535 0 ∷ []) ∷ [] ≡ false ∷ true ∷ true ∷ []
unfolding computes
update_longest = refl

-- "tested after the lists and the expression": 11 before 1; 5 before 4 for the list, "straight after the expression's own
-- tests"; then 4 before 17, "in the order 17, 15, 16, then 6"
abbrev order_ones : List RefusedUpdate
order_ones =
    refuses_update 11 (record { lent = lend (5 ∷ 5 ∷ []) (2 ∷ []) every_bit; expression = []; kept = []; count = 1 }) (change 1 5 1) ∷
    refuses_update 5 (record { lent = lend (5 ∷ []) (1 ∷ []) every_bit; expression = 0x01 ∷ []; kept = []; count = 1 }) (change 1 5 1) ∷
    refuses_update 4 (shown_one (5 ∷ []) (1 ∷ []) (5 ∷ []) 0) (change 1 5 1) ∷
    refuses_update 17 (shown_one (5 ∷ []) (1 ∷ []) (5 ∷ []) 0) (change 0 5 1) ∷
    refuses_update 17 (shown_one (5 ∷ []) (1 ∷ []) (5 ∷ []) 0) (change 0 4 1) ∷
    refuses_update 15 (shown_one (5 ∷ []) (1 ∷ []) (5 ∷ []) 1) (change 0 5 1) ∷ []

pub order_updates : RefusedUpdates order_ones
unfolding computes
order_updates = refl

-- ---- request Two: a list that didn't come. Words in hexadecimal: 0x80000000 is list 0 alone, 0x40000000 list 1,
-- 0x00000001 list 31

-- "list 0 in its most significant bit", and so list 31 in the least; in calls: list 0, and list 31, with a word of that list
-- alone and one that lacks that list alone
pub word_bits :
    map (Lists.delivered 0x80000000) (0 ∷ 1 ∷ 31 ∷ 32 ∷ []) ++ map (Lists.delivered 0x40000000) (0 ∷ 1 ∷ 2 ∷ []) ++ map (Lists.delivered 0x00000001) (0 ∷ 30 ∷ 31 ∷ [])
    ≡ (true ∷ false ∷ false ∷ false ∷ []) ++ (false ∷ true ∷ false ∷ []) ++ (false ∷ false ∷ true ∷ [])
unfolding computes
word_bits = refl

pub word_ends :
    map (λ word. unpack_expression (0x00 ∷ []) 32 word sevens) (0x80000000 ∷ 0x7FFFFFFF ∷ []) ++
    map (λ word. unpack_expression (0x3E ∷ []) 32 word sevens) (0x00000001 ∷ 0xFFFFFFFE ∷ [])
    ≡ gives (1 ∷ []) ((0 ∷ 7 ∷ []) ∷ []) ∷ refusal 18 1 1 ∷ gives (1 ∷ []) ((31 ∷ 7 ∷ []) ∷ []) ∷ refusal 18 1 1 ∷ []
unfolding computes
word_ends = refl

-- "tells an empty list from one that failed to run": 04 is one list that was not delivered, 06 00 00 one that came empty; read
-- and written
pub empty_or_not :
    decode_delivery (0x04 ∷ []) [] sevens ∷
    decode_delivery (0x06 ∷ 0x00 ∷ 0x00 ∷ []) [] sevens ∷
    encode_delivery (lend [] (0 ∷ []) 0x00000000) (replicate 4 7) ∷
    encode_delivery (lend [] (0 ∷ []) 0x80000000) (replicate 4 7) ∷ []
    ≡
    gives (0x00000000 ∷ 1 ∷ 0 ∷ []) ([] ∷ (0 ∷ 7 ∷ []) ∷ []) ∷
    gives (0x80000000 ∷ 1 ∷ 0 ∷ []) ([] ∷ (0 ∷ 7 ∷ []) ∷ []) ∷
    gives (1 ∷ []) ((0x04 ∷ 7 ∷ 7 ∷ 7 ∷ []) ∷ []) ∷
    gives (3 ∷ []) ((0x06 ∷ 0x00 ∷ 0x00 ∷ 7 ∷ []) ∷ []) ∷ []
unfolding computes
empty_or_not = refl

-- bits of lists that are not there are "ignored elsewhere": one undelivered list, one that came, and P8, with those bits 1 and 0
pub bits_ignored :
    map (λ word. encode_delivery (lend [] (0 ∷ []) word) (7 ∷ [])) (0x00000000 ∷ 0x7FFFFFFF ∷ []) ++
    map (λ word. encode_delivery (lend (2 ∷ 3 ∷ 5 ∷ []) (3 ∷ []) word) (replicate 8 7)) (0x80000000 ∷ 0xFFFFFFFF ∷ []) ++
    map (λ word. unpack_expression (0x40 ∷ 0x01 ∷ []) 2 word (7 ∷ 7 ∷ 7 ∷ [])) (0xC0000000 ∷ 0xFFFFFFFF ∷ [])
    ≡
    replicate 2 (gives (1 ∷ []) ((0x04 ∷ []) ∷ [])) ++
    replicate 2 (gives (8 ∷ []) (new_235 ∷ [])) ++
    replicate 2 (gives (3 ∷ []) ((64 ∷ 0 ∷ 1 ∷ []) ∷ []))
unfolding computes
bits_ignored = refl

-- the lists 2, and 5, and an undelivered one between them
abbrev two_of_three : List ℕ
two_of_three = 0x0E ∷ 0x00 ∷ 0x02 ∷ 0x00 ∷ 0x00 ∷ 0x00 ∷ 0x04 ∷ 0x80 ∷ 0x00 ∷ 0x80 ∷ 0x00 ∷ 0x00 ∷ 0x02 ∷ 0x80 ∷ []

-- an undelivered list, 2 3 5, and an undelivered one
abbrev one_of_three : List ℕ
one_of_three = 0x0D ∷ 0x00 ∷ 0x03 ∷ 0x00 ∷ 0x00 ∷ 0x00 ∷ 0x02 ∷ 0x02 ∷ []

-- "after 0 nothing more for that list": the next list's bit; the two above written and read, the second into rows that just
-- fit. Bits for lists that are not there "are 0 in every word handed back"; of 32 lists the first alone came, and the last
pub some_delivered :
    encode_delivery (lend (2 ∷ 5 ∷ 7 ∷ []) (1 ∷ 1 ∷ 2 ∷ []) 0xBFFFFFFF) (replicate 15 7) ∷
    encode_delivery (lend (2 ∷ 3 ∷ 5 ∷ []) (0 ∷ 3 ∷ 3 ∷ []) 0x40000000) (replicate 8 7) ∷
    decode_delivery two_of_three (7 ∷ 7 ∷ 7 ∷ []) (7 ∷ 7 ∷ 7 ∷ 7 ∷ []) ∷
    decode_delivery one_of_three (7 ∷ 7 ∷ 7 ∷ []) (7 ∷ 7 ∷ 7 ∷ []) ∷
    decode_delivery (0x82 ∷ replicate 6 0x00) [] (replicate 32 7) ∷
    decode_delivery (0x80 ∷ 0x00 ∷ 0x00 ∷ 0x00 ∷ 0x04 ∷ 0x00 ∷ 0x00 ∷ []) [] (replicate 32 7) ∷ []
    ≡
    gives (14 ∷ []) ((two_of_three ++ (7 ∷ [])) ∷ []) ∷
    gives (8 ∷ []) (one_of_three ∷ []) ∷
    gives (0xA0000000 ∷ 3 ∷ 2 ∷ []) ((2 ∷ 5 ∷ 7 ∷ []) ∷ (1 ∷ 1 ∷ 2 ∷ 7 ∷ []) ∷ []) ∷
    gives (0x40000000 ∷ 3 ∷ 3 ∷ []) ((2 ∷ 3 ∷ 5 ∷ []) ∷ (0 ∷ 3 ∷ 3 ∷ []) ∷ []) ∷
    gives (0x80000000 ∷ 32 ∷ 0 ∷ []) ([] ∷ replicate 32 0 ∷ []) ∷
    gives (0x00000001 ∷ 32 ∷ 0 ∷ []) ([] ∷ replicate 32 0 ∷ []) ∷ []
unfolding computes
some_delivered = refl

-- the new form's order: "1 wherever bits run out", at the third list's bit, in a count, and behind one that has room; "6 for
-- the numbers once its count is read" behind an undelivered list, which itself takes no room; "6 for the ends row" for
-- undelivered lists too; behind bit 0 a whole byte left over, and a fill bit of 1
pub order_new_form :
    decode_delivery (0x0C ∷ []) [] (replicate 3 7) ∷
    decode_delivery (0x06 ∷ 0x00 ∷ []) [] (7 ∷ []) ∷
    decode_delivery (0x06 ∷ 0x00 ∷ 0x06 ∷ []) (replicate 3 7) (7 ∷ []) ∷
    decode_delivery (0x09 ∷ 0x00 ∷ 0x01 ∷ []) [] sevens ∷
    decode_delivery (0x08 ∷ []) [] (7 ∷ []) ∷
    decode_delivery (0x08 ∷ []) [] sevens ∷
    decode_delivery (0x04 ∷ 0x00 ∷ []) sevens sevens ∷
    decode_delivery (0x05 ∷ []) sevens sevens ∷ []
    ≡
    refuses 1 3 ([] ∷ replicate 3 7 ∷ []) ∷
    refuses 1 3 ([] ∷ (7 ∷ []) ∷ []) ∷
    refuses 1 3 (replicate 3 7 ∷ (7 ∷ []) ∷ []) ∷
    refuses 6 3 ([] ∷ sevens ∷ []) ∷
    refuses 6 3 ([] ∷ (7 ∷ []) ∷ []) ∷
    gives (0x00000000 ∷ 2 ∷ 0 ∷ []) ([] ∷ (0 ∷ 0 ∷ []) ∷ []) ∷
    refusal 5 3 2 ∷
    refusal 5 3 2 ∷ []
unfolding computes
order_new_form = refl

-- the same where no row is lent: 1 in the bit and behind a count; a list that came, and one that did not
pub order_stored_new :
    map (read_stored by_bit) ((0x0C ∷ []) ∷ (0x06 ∷ 0x00 ∷ 0x06 ∷ []) ∷ new_235 ∷ (0x04 ∷ []) ∷ one_of_three ∷ [])
    ≡
    refused 1 ∷ refused 1 ∷ accepted (came (2 ∷ 3 ∷ 5 ∷ []) ∷ []) ∷ accepted (undelivered ∷ []) ∷
    accepted (undelivered ∷ came (2 ∷ 3 ∷ 5 ∷ []) ∷ undelivered ∷ []) ∷ []
unfolding computes
order_stored_new = refl

-- "a word that contradicts this is sent back as 10": 5 in a list that was not delivered, and in the second of two; ahead of
-- 11, and of the expression's own; 7 ahead of it; where start and end are equal the word says nothing wrong
abbrev contradicting : Lent
contradicting = lend (2 ∷ 5 ∷ []) (1 ∷ 2 ∷ []) 0x80000000

pub order_word :
    encode_delivery (lend (5 ∷ []) (1 ∷ []) 0x7FFFFFFF) sevens ∷
    encode_delivery contradicting sevens ∷
    encode_delivery (lend (5 ∷ 5 ∷ []) (2 ∷ []) 0x00000000) sevens ∷
    encode_delivery (lend (5 ∷ []) (replicate 33 1) 0x00000000) sevens ∷
    encode_delivery (lend (5 ∷ []) (1 ∷ 1 ∷ []) 0x80000000) [] ∷
    run_call contradicting [] (starting 0) [] [] sevens ∷
    update contradicting (0x00 ∷ []) (change 1 6 1) sevens 0 ∷ []
    ≡
    refusal 10 1 1 ∷
    refusal 10 1 1 ∷
    refusal 10 1 1 ∷
    refusal 7 1 1 ∷
    refuses 6 1 ([] ∷ []) ∷
    refusal 10 run_size 1 ∷
    updated 10 (2 ∷ 5 ∷ []) (1 ∷ 2 ∷ []) sevens 0 ∷ []
unfolding computes
order_word = refl

-- the part of a list: where the word contradicts, the empty one at the start; an undelivered list has the empty part at its
-- own place, in the middle and last; the list behind one
pub parts_by_word :
    map (Lists.span_of contradicting) (0 ∷ 1 ∷ []) ++
    map (Lists.span_of (lend (2 ∷ 3 ∷ 5 ∷ []) (1 ∷ 1 ∷ 3 ∷ 3 ∷ []) 0xA0000000)) (1 ∷ 2 ∷ 3 ∷ [])
    ≡
    replicate 2 (record { start = 0; size = 0 }) ++
    (record { start = 1; size = 0 } ∷ record { start = 1; size = 2 } ∷ record { start = 3; size = 0 } ∷ [])
unfolding computes
parts_by_word = refl

-- 18 for an undelivered list alone, and as the second and the first of two, packed and as a row; in a run; and where the
-- expression does not name it, none
pub undelivered_leaves :
    unpack_expression (0x00 ∷ []) 1 0x00000000 sevens ∷
    unpack_expression (0x40 ∷ 0x01 ∷ []) 2 0x80000000 sevens ∷
    pack_expression (0 ∷ []) 1 0x00000000 sevens ∷
    pack_expression (64 ∷ 0 ∷ 1 ∷ []) 2 0x40000000 sevens ∷
    run_call (lend [] (0 ∷ []) 0x00000000) (0x00 ∷ []) (starting 0) (0 ∷ []) (0 ∷ []) sevens ∷
    unpack_expression (0x02 ∷ []) 2 0x40000000 sevens ∷
    pack_expression (0 ∷ []) 2 0x80000000 sevens ∷
    run_call (lend (5 ∷ []) (0 ∷ 1 ∷ []) 0x40000000) (0x02 ∷ []) (starting 0) (0 ∷ []) (0 ∷ []) sevens ∷ []
    ≡
    refusal 18 1 1 ∷ refusal 18 1 1 ∷ refusal 18 1 1 ∷ refusal 18 1 1 ∷
    refusal 18 run_size 1 ∷
    gives (1 ∷ []) ((1 ∷ 7 ∷ []) ∷ []) ∷
    gives (1 ∷ []) ((0x00 ∷ 7 ∷ []) ∷ []) ∷
    gives (0 ∷ (replicate 48 0 ++ (6 ∷ []))) ((5 ∷ 7 ∷ []) ∷ []) ∷ []
unfolding computes
undelivered_leaves = refl

-- 18 "straight after 4": a list that is not there and whose bit is 0; then by the order of the nodes, list 0 undelivered and
-- list 1 not there. 5, a fill bit of 1 and a node left over, and 6 come behind; 7 comes before
pub order_leaves :
    map (λ bytes. unpack_expression bytes 1 0x80000000 sevens) ((0x02 ∷ []) ∷ []) ++
    map (λ bytes. unpack_expression bytes 1 0x00000000 sevens) ((0x02 ∷ []) ∷ (0x40 ∷ 0x01 ∷ []) ∷ (0x40 ∷ 0x80 ∷ []) ∷ (0x01 ∷ []) ∷ (0x00 ∷ 0x00 ∷ []) ∷ []) ++
    map (λ row. pack_expression row 1 0x00000000 sevens) ((1 ∷ []) ∷ (64 ∷ 0 ∷ 1 ∷ []) ∷ (64 ∷ 1 ∷ 0 ∷ []) ∷ (0 ∷ 0 ∷ []) ∷ []) ++
    (unpack_expression (0x00 ∷ []) 1 0x00000000 [] ∷ pack_expression (0 ∷ []) 1 0x00000000 [] ∷ []) ++
    map (λ lists. unpack_expression (0x00 ∷ []) lists 0x00000000 sevens) (0 ∷ 33 ∷ []) ++
    map (λ lists. pack_expression (0 ∷ []) lists 0x00000000 sevens) (0 ∷ 33 ∷ [])
    ≡
    (refusal 4 1 1 ∷ []) ++
    (refusal 4 1 1 ∷ refusal 18 1 1 ∷ refusal 4 1 1 ∷ refusal 18 1 1 ∷ refusal 18 1 1 ∷ []) ++
    (refusal 4 1 1 ∷ refusal 18 1 1 ∷ refusal 4 1 1 ∷ refusal 18 1 1 ∷ []) ++
    replicate 2 (refuses 18 1 ([] ∷ [])) ++
    replicate 4 (refusal 7 1 1)
unfolding computes
order_leaves = refl

-- "At each node: 2, 3, 1 [..]", of two lists the second undelivered. It is the 49th node, and the 48th; a node of depth 13, and
-- of depth 12; behind a node of depth 13, and ahead of one
pub order_nodes :
    map (λ row. pack_expression row 2 0x80000000 sevens)
    ((136 ∷ (eights 5 ++ (0 ∷ 0 ∷ 1 ∷ []))) ∷ (136 ∷ (eights 5 ++ (0 ∷ 1 ∷ 0 ∷ []))) ∷ (replicate 12 193 ++ (1 ∷ [])) ∷ (replicate 11 193 ++ (1 ∷ [])) ∷
    (64 ∷ (replicate 12 193 ++ (0 ∷ 1 ∷ []))) ∷ (64 ∷ 1 ∷ (replicate 12 193 ++ (0 ∷ []))) ∷ [])
    ≡ refusal 2 1 1 ∷ refusal 18 1 1 ∷ refusal 3 1 1 ∷ refusal 18 1 1 ∷ refusal 3 1 1 ∷ refusal 18 1 1 ∷ []
unfolding computes
order_nodes = refl

-- the bits run out in an undelivered leaf's number, and behind it; the row ends behind it; an unknown byte ahead of it, and
-- behind it; 3 in the table's bytes
pub order_early :
    map (λ bytes. unpack_expression bytes 1 0x00000000 sevens)
    ((0x40 ∷ []) ∷ (0x90 ∷ 0x00 ∷ []) ∷ (0x84 ∷ 0x21 ∷ 0x08 ∷ 0x42 ∷ 0x10 ∷ 0x84 ∷ 0x21 ∷ 0x00 ∷ 0x00 ∷ []) ∷ []) ++
    map (λ row. pack_expression row 1 0x00000000 sevens) ((64 ∷ []) ∷ (64 ∷ 0 ∷ []) ∷ (64 ∷ 32 ∷ 0 ∷ []) ∷ (64 ∷ 0 ∷ 32 ∷ []) ∷ [])
    ≡
    (refusal 1 1 1 ∷ refusal 18 1 1 ∷ refusal 3 1 1 ∷ []) ++
    (refusal 1 1 1 ∷ refusal 18 1 1 ∷ refusal 14 1 1 ∷ refusal 18 1 1 ∷ [])
unfolding computes
order_early = refl

-- a run: 11 before the expression's 18, that before 12 and 13
pub order_undelivered :
    run_call (lend (5 ∷ 5 ∷ []) (2 ∷ 2 ∷ []) 0x80000000) (0x02 ∷ []) (starting 0) [] [] sevens ∷
    run_call (lend (5 ∷ []) (1 ∷ 1 ∷ []) 0x80000000) (0x02 ∷ []) (starting 4294967297) (0 ∷ []) [] sevens ∷ []
    ≡ refusal 11 run_size 1 ∷ refusal 18 run_size 1 ∷ []
unfolding computes
order_undelivered = refl

-- One's call, over the list 5 and an undelivered one behind it
abbrev shown_beside : ℕ → List ℕ → ℕ → Shown
shown_beside word expression count = record { lent = lend (5 ∷ 7 ∷ []) (1 ∷ 1 ∷ []) word; expression = expression; kept = 5 ∷ 7 ∷ []; count = count }

-- a number comes to the first list: the undelivered one moves on, and stays one
pub updates_beside : changes (shown_beside 0x80000000 (0x00 ∷ []) 1) (change 0 6 1) ≡ updated 0 (5 ∷ 6 ∷ []) (2 ∷ 2 ∷ []) (5 ∷ 6 ∷ []) 2
unfolding computes
updates_beside = refl

-- "gives 18 for an undelivered list k too, straight after its 4", adding and removing; 4 where no list k is there, with its bit
-- 0 and 1, and where no bit is; 18 before 17; the expression's own 18, and its 5, before 4 and 18 for list k; 10 before all
abbrev undelivered_updates : List RefusedUpdate
undelivered_updates =
    refuses_update 18 (shown_beside 0x80000000 (0x00 ∷ []) 1) (change 1 6 1) ∷
    refuses_update 18 (shown_beside 0x80000000 (0x00 ∷ []) 1) (change 1 6 0) ∷
    refuses_update 4 (shown_beside 0x80000000 (0x00 ∷ []) 1) (change 2 6 1) ∷
    refuses_update 4 (shown_beside 0xBFFFFFFF (0x00 ∷ []) 1) (change 2 6 1) ∷
    refuses_update 4 (shown_beside 0x80000000 (0x00 ∷ []) 0) (change 32 6 1) ∷
    refuses_update 18 (shown_beside 0x80000000 (0x00 ∷ []) 0) (change 1 6 1) ∷
    refuses_update 18 (shown_beside 0x80000000 (0x02 ∷ []) 0) (change 2 6 1) ∷
    refuses_update 5 (shown_beside 0x80000000 (0x01 ∷ []) 1) (change 1 6 1) ∷
    refuses_update 10 (shown_beside 0x00000000 (0x00 ∷ []) 1) (change 1 6 1) ∷ []

pub order_updates_18 : RefusedUpdates undelivered_updates
unfolding computes
order_updates_18 = refl

-- "Stored deliveries move to the new form, all lists delivered, and back": P9, the list 2 3 5 and an empty one, and an
-- empty one between 5 7 and 9, old and new
abbrev moved : List (List ℕ × List ℕ)
moved =
    (old_235, new_235) ∷
    (0x04 ∷ 0x00 ∷ 0x00 ∷ [], 0x06 ∷ 0x00 ∷ 0x00 ∷ []) ∷
    (0x08 ∷ 0x00 ∷ 0x0C ∷ 0x00 ∷ 0x00 ∷ 0x00 ∷ 0x08 ∷ 0x08 ∷ 0x00 ∷ 0x00 ∷ [], 0x0A ∷ 0x00 ∷ 0x06 ∷ 0x00 ∷ 0x00 ∷ 0x00 ∷ 0x04 ∷ 0x06 ∷ 0x00 ∷ 0x00 ∷ []) ∷ (
      0x0C ∷ 0x00 ∷ 0x08 ∷ 0x00 ∷ 0x00 ∷ 0x00 ∷ 0x14 ∷ 0x10 ∷ 0x00 ∷ 0x00 ∷ 0x00 ∷ 0x10 ∷ 0x00 ∷ 0x00 ∷ 0x00 ∷ 0x90 ∷ [],
      0x0E ∷ 0x00 ∷ 0x04 ∷ 0x00 ∷ 0x00 ∷ 0x00 ∷ 0x0A ∷ 0x0C ∷ 0x00 ∷ 0x02 ∷ 0x00 ∷ 0x02 ∷ 0x00 ∷ 0x00 ∷ 0x00 ∷ 0x12 ∷ [],
    ) ∷ []

-- with two elements behind the written ones
pub both_moves :
    map (λ m. upgrade_delivery m.0 (replicate (length m.1 + 2) 7)) moved ++ map (λ m. downgrade_delivery m.1 (replicate (length m.0 + 2) 7)) moved
    ≡ map (λ m. gives (length m.1 ∷ []) ((m.1 ++ sevens) ∷ [])) moved ++ map (λ m. gives (length m.0 ∷ []) ((m.0 ++ sevens) ∷ [])) moved
unfolding computes
both_moves = refl

-- three empty lists: 7 bytes, and 8 with a bit for each
abbrev old_empty : List ℕ
old_empty = 0x0C ∷ replicate 6 0x00

abbrev new_empty : List ℕ
new_empty = 0x0E ∷ 0x00 ∷ 0x01 ∷ 0x00 ∷ 0x00 ∷ 0x80 ∷ 0x00 ∷ 0x00 ∷ []

-- "and 6 last": rows that just fit, and one byte short
pub moves_fit :
    upgrade_delivery old_empty (replicate 8 7) ∷ upgrade_delivery old_empty (replicate 7 7) ∷ downgrade_delivery new_empty (replicate 7 7) ∷
    downgrade_delivery new_empty (replicate 6 7) ∷ encode_delivery (lend [] (0 ∷ 0 ∷ 0 ∷ []) 0xE0000000) (replicate 7 7) ∷ []
    ≡
    gives (8 ∷ []) (new_empty ∷ []) ∷ refuses 6 1 (replicate 7 7 ∷ []) ∷ gives (7 ∷ []) (old_empty ∷ []) ∷
    refuses 6 1 (replicate 6 7 ∷ []) ∷ refuses 6 1 (replicate 7 7 ∷ []) ∷ []
unfolding computes
moves_fit = refl

-- "both moves make the reading's own tests bar 6 first": of the old form, with no byte lent, 1 with none and behind a count, 7,
-- 8, 9, and 5; Two's form is none of it, its bit and count being a count of 32,769
pub order_upgrades :
    map (λ bytes. upgrade_delivery bytes []) ([] ∷ (0x04 ∷ 0x00 ∷ 0x0C ∷ []) ∷ old_7 ∷ (0x84 ∷ []) ∷ old_8 ∷ old_9 ∷ (0x04 ∷ 0x00 ∷ 0x01 ∷ []) ∷ new_235 ∷ [])
    ≡ map (λ n. refuses n 1 ([] ∷ [])) (1 ∷ 1 ∷ 7 ∷ 7 ∷ 8 ∷ 9 ∷ 5 ∷ 1 ∷ [])
unfolding computes
order_upgrades = refl

-- "19 moving back with any list undelivered", before 6: one list, the first of two, the second of two, behind 2 3 5
pub moves_refused :
    map (λ bytes. downgrade_delivery bytes sevens) ((0x04 ∷ []) ∷ (0x09 ∷ 0x00 ∷ 0x00 ∷ []) ∷ (0x0A ∷ 0x00 ∷ 0x00 ∷ []) ∷ (0x0A ∷ 0x00 ∷ 0x06 ∷ 0x00 ∷ 0x00 ∷ 0x00 ∷ 0x04 ∷ 0x04 ∷ []) ∷ []) ++
    (downgrade_delivery (0x04 ∷ []) [] ∷ []) ≡ replicate 4 (refusal 19 1 1) ++ (refuses 19 1 ([] ∷ []) ∷ [])
unfolding computes
moves_refused = refl

-- Two's form ahead of 19: 7; behind an undelivered list 1 in a count, 8 and 9, a fill bit of 1 and a byte left over; and the
-- old form is none of it: one undelivered list, and bytes left over
pub order_downgrades :
    map (λ bytes. downgrade_delivery bytes [])
    ((0x00 ∷ []) ∷ (0x09 ∷ []) ∷ (0x09 ∷ 0x00 ∷ 0x02 ∷ 0xFF ∷ 0xFF ∷ 0xFF ∷ 0xFF ∷ 0x00 ∷ []) ∷ (0x09 ∷ 0x00 ∷ 0x02 ∷ 0x00 ∷ 0x00 ∷ 0x00 ∷ 0x02 ∷ 0x08 ∷ []) ∷
    (0x05 ∷ []) ∷ (0x04 ∷ 0x00 ∷ []) ∷ old_235 ∷ [])
    ≡ map (λ n. refuses n 1 ([] ∷ [])) (7 ∷ 1 ∷ 8 ∷ 9 ∷ 5 ∷ 5 ∷ 5 ∷ [])
unfolding computes
order_downgrades = refl

-- the program: 18, "then the delivery, then the expression" so that 5 comes before it, 4 and 18 by the order of the nodes; the
-- old form is not read; an undelivered list that is not named stands in no one's way
pub order_program :
    map listing ((0x01 ∷ 0x00 ∷ 0x04 ∷ []) ∷ (0x01 ∷ 0x00 ∷ 0x05 ∷ []) ∷ (0x02 ∷ 0x40 ∷ 0x01 ∷ 0x04 ∷ []) ∷ (0x02 ∷ 0x40 ∷ 0x80 ∷ 0x04 ∷ []) ∷ (0x01 ∷ 0x00 ∷ old_235) ∷
    (0x01 ∷ 0x00 ∷ 0x0A ∷ 0x00 ∷ 0x06 ∷ 0x00 ∷ 0x00 ∷ 0x00 ∷ 0x04 ∷ 0x04 ∷ []) ∷ [])
    ≡ map refused (18 ∷ 5 ∷ 18 ∷ 4 ∷ 5 ∷ []) ++ (accepted (record { members = 2 ∷ 3 ∷ 5 ∷ []; moves = 3 }) ∷ [])
unfolding computes
order_program = refl

pub members_18 : list_members (0x01 ∷ 0x00 ∷ 0x04 ∷ []) sevens ≡ refuses 18 2 (sevens ∷ [])
unfolding computes
members_18 = refl

-- ---- request Four

-- over lists as long as L0 to L3, by 7, 5, 5 and 6: a list; a difference, whose second is the shorter, and the longer; a union; an
-- intersection with the least in the middle, and last; a list at two leaves; operators below an operator, ahead of a list and behind one
abbrev bound_cases : List (Tree × ℕ × ℕ)
bound_cases =
    (leaf 3, 6, 6) ∷
    (difference (leaf 0) (leaf 3), 7, 13) ∷
    (difference (leaf 1) (leaf 0), 5, 12) ∷
    (union all_four, 23, 23) ∷
    (intersection all_four, 5, 23) ∷
    (intersection (more (leaf 0) (more (leaf 3) (one (leaf 1)))), 5, 18) ∷
    (union (more (leaf 0) (one (leaf 0))), 14, 14) ∷
    (intersection (more (leaf 0) (one (leaf 0))), 7, 14) ∷
    (difference (union (more (intersection (more (leaf 0) (one (leaf 3)))) (one (leaf 1)))) (leaf 2), 11, 23) ∷
    (intersection (more (leaf 0) (one (union (more (leaf 1) (one (difference (leaf 2) (leaf 3))))))), 7, 23) ∷
    (union (one (union (one (leaf 2)))), 5, 5) ∷ []

pub bounds-said : map (λ b. bounds (7 ∷ 12 ∷ 17 ∷ 23 ∷ []) (packed b.0)) bound_cases ≡ map (λ b. gives (b.1 ∷ b.2 ∷ 104 ∷ []) []) bound_cases
unfolding computes
bounds-said = refl

-- the bytes by the lengths: 0, 1 and 2, alone and one after the other; two and three empty lists, which take 40 bits and 57; 32 empty
-- lists; the most, and 48 nodes, 42 of them a list as long
abbrev full_ends : ℕ → ℕ → List ℕ
full_ends zero start = []
full_ends (suc n) start = (start + 65535) ∷ full_ends n (start + 65535)

pub bounds_bytes :
    map (λ ends. bounds ends (0x00 ∷ [])) ((0 ∷ []) ∷ (1 ∷ []) ∷ (2 ∷ []) ∷ (0 ∷ 1 ∷ 3 ∷ []) ∷ (0 ∷ 0 ∷ []) ∷ (0 ∷ 0 ∷ 0 ∷ []) ∷ replicate 32 0 ∷ full_ends 32 0 ∷ []) ++ (bounds (full_ends 1 0) forty_eight ∷ [])
    ≡
    gives (0 ∷ 0 ∷ 3 ∷ []) [] ∷ gives (1 ∷ 1 ∷ 7 ∷ []) [] ∷ gives (2 ∷ 2 ∷ 12 ∷ []) [] ∷ gives (0 ∷ 0 ∷ 20 ∷ []) [] ∷ gives (0 ∷ 0 ∷ 5 ∷ []) [] ∷ gives (0 ∷ 0 ∷ 8 ∷ []) [] ∷ gives (0 ∷ 0 ∷ 69 ∷ []) [] ∷
    gives (65535 ∷ 65535 ∷ 8388569 ∷ []) [] ∷ gives (2752470 ∷ 2752470 ∷ 262144 ∷ []) [] ∷ []
unfolding computes
bounds_bytes = refl

-- "each width taken as 32": a delivery that fills them, in as many bytes and in one less; and one of the same length that does not
pub bounds_filled :
    (encode_delivery (lend (0 ∷ 4294967295 ∷ []) (2 ∷ []) every_bit) (replicate 12 0)).parts ∷ (encode_delivery (lend (0 ∷ 4294967295 ∷ []) (2 ∷ []) every_bit) (replicate 11 0)).parts ∷
    (encode_delivery (lend (0 ∷ 1 ∷ []) (2 ∷ []) every_bit) (replicate 12 0)).parts ∷ []
    ≡ (12 ∷ []) ∷ (0 ∷ []) ∷ (8 ∷ []) ∷ []
unfolding computes
bounds_filled = refl

-- a union of list 0 eight times
abbrev eight : Tree
eight = union (more (leaf 0) (more (leaf 0) (more (leaf 0) (more (leaf 0) (more (leaf 0) (more (leaf 0) (more (leaf 0) (one (leaf 0)))))))))

-- the tests: 7 for no list and for 33, before 10; 10 for an end that falls, for a first list over 65,535, before 1, and for a later one, before 5; 1, 2, 3, 4, 5
pub bounds_refused :
    bounds [] [] ∷ bounds (replicate 33 0) (0x00 ∷ []) ∷ bounds (65536 ∷ replicate 32 0) (0x00 ∷ []) ∷ bounds (2 ∷ 1 ∷ []) (0x00 ∷ []) ∷ bounds (65536 ∷ []) [] ∷
    bounds (65535 ∷ 131071 ∷ []) (0x01 ∷ []) ∷ bounds (0 ∷ []) [] ∷
    bounds (0 ∷ []) (packed (union (more eight (more eight (more eight (more eight (more eight (more (leaf 0) (more (leaf 0) (one (leaf 0))))))))))) ∷
    bounds (0 ∷ []) (0x84 ∷ 0x21 ∷ 0x08 ∷ 0x42 ∷ 0x10 ∷ 0x84 ∷ 0x21 ∷ 0x00 ∷ 0x00 ∷ []) ∷ bounds (0 ∷ []) (0x02 ∷ []) ∷ bounds (0 ∷ []) (0x01 ∷ []) ∷ []
    ≡ map (λ n. refuses n 3 []) (7 ∷ 7 ∷ 7 ∷ 10 ∷ 10 ∷ 10 ∷ 1 ∷ 2 ∷ 3 ∷ 4 ∷ 5 ∷ [])
unfolding computes
bounds_refused = refl

-- ---- request Six

-- 2 5, and 9, two undelivered lists, an empty one and an undelivered one; 3 5, an undelivered list, 4, two undelivered ones and an
-- empty one; so joined 2 3 5, and 9, and 4, an undelivered list and two empty ones
abbrev weekly : List ℕ
weekly = 0x1A ∷ 0x00 ∷ 0x04 ∷ 0x00 ∷ 0x00 ∷ 0x00 ∷ 0x04 ∷ 0x1A ∷ 0x00 ∷ 0x02 ∷ 0x00 ∷ 0x00 ∷ 0x00 ∷ 0x12 ∷ 0x40 ∷ 0x00 ∷ 0x00 ∷ []

abbrev daily : List ℕ
daily = 0x1A ∷ 0x00 ∷ 0x04 ∷ 0x00 ∷ 0x00 ∷ 0x00 ∷ 0x06 ∷ 0x0A ∷ 0x00 ∷ 0x02 ∷ 0x00 ∷ 0x00 ∷ 0x00 ∷ 0x08 ∷ 0x40 ∷ 0x00 ∷ 0x00 ∷ []

abbrev joined : List ℕ
joined =
    0x1A ∷ 0x00 ∷ 0x06 ∷ 0x00 ∷ 0x00 ∷ 0x00 ∷ 0x04 ∷ 0x06 ∷ 0x00 ∷ 0x02 ∷ 0x00 ∷ 0x00 ∷ 0x00 ∷ 0x13 ∷ 0x00 ∷ 0x01 ∷ 0x00 ∷ 0x00 ∷ 0x00 ∷ 0x04 ∷ 0x40 ∷ 0x00 ∷ 0x20 ∷ 0x00 ∷
    0x00 ∷ []

-- either way round, with two elements behind the written ones, and with none; one byte short. 100 101, of width 1, and 1 ahead of
-- it: joined they have width 7. One undelivered list joined to one; 2 3 5 joined to itself
pub joins :
    join_deliveries weekly daily (replicate 27 7) ∷
    join_deliveries daily weekly (replicate 25 7) ∷
    join_deliveries weekly daily (replicate 24 7) ∷
    join_deliveries (0x06 ∷ 0x00 ∷ 0x04 ∷ 0x00 ∷ 0x00 ∷ 0x00 ∷ 0xC8 ∷ 0x00 ∷ []) (0x06 ∷ 0x00 ∷ 0x02 ∷ 0x00 ∷ 0x00 ∷ 0x00 ∷ 0x02 ∷ []) (replicate 10 7) ∷
    join_deliveries (0x04 ∷ []) (0x04 ∷ []) sevens ∷
    join_deliveries new_235 new_235 (replicate 8 7) ∷ []
    ≡
    gives (25 ∷ []) ((joined ++ sevens) ∷ []) ∷
    gives (25 ∷ []) (joined ∷ []) ∷
    refuses 6 1 (replicate 24 7 ∷ []) ∷
    gives (10 ∷ []) ((0x06 ∷ 0x00 ∷ 0x06 ∷ 0x00 ∷ 0x00 ∷ 0x00 ∷ 0x02 ∷ 0x6C ∷ 0x40 ∷ 0x00 ∷ []) ∷ []) ∷
    gives (1 ∷ []) ((0x04 ∷ 7 ∷ []) ∷ []) ∷
    gives (8 ∷ []) (new_235 ∷ []) ∷ []
unfolding computes
joins = refl

-- "pass the reading's tests but 6 first, the full one first": 1, 7, 8, 9 and 5 of the full one where the daily one is 7, and of the
-- daily one where 20 applies too; that ahead of 6, with more lists and with fewer
abbrev unread : List (List ℕ)
unread = (0x06 ∷ 0x00 ∷ []) ∷ (0x00 ∷ []) ∷ (0x06 ∷ 0x00 ∷ 0x05 ∷ 0xFF ∷ 0xFF ∷ 0xFF ∷ 0xFE ∷ 0x00 ∷ []) ∷ (0x06 ∷ 0x00 ∷ 0x04 ∷ 0x00 ∷ 0x00 ∷ 0x00 ∷ 0x04 ∷ 0x10 ∷ []) ∷ (0x05 ∷ []) ∷ []

pub order_joins :
    map (λ bytes. join_deliveries bytes (0x00 ∷ []) []) unread ++ map (λ bytes. join_deliveries (0x08 ∷ []) bytes []) unread ++
    (join_deliveries (0x08 ∷ []) (0x04 ∷ []) [] ∷ join_deliveries (0x04 ∷ []) (0x08 ∷ []) [] ∷ join_deliveries (0x04 ∷ []) (0x04 ∷ []) [] ∷ [])
    ≡ map (λ n. refuses n 1 ([] ∷ [])) (1 ∷ 7 ∷ 8 ∷ 9 ∷ 5 ∷ 1 ∷ 7 ∷ 8 ∷ 9 ∷ 5 ∷ 20 ∷ 20 ∷ 6 ∷ [])
unfolding computes
order_joins = refl

-- "21 a joined list over 65,535": in one list, and in the second of two (`Longest` has it in the call)
pub joined_longest : map lengths_hold ((came (replicate 65535 0) ∷ []) ∷ (came (replicate 65536 0) ∷ []) ∷ (undelivered ∷ came (replicate 65536 0) ∷ []) ∷ []) ≡ true ∷ false ∷ false ∷ []
unfolding computes
joined_longest = refl

-- "An expression without a difference": list 0 without list 1 has the member 5 over 5 and an empty list, and none once 5 came to the
-- latter. Over the daily one, where it did not come, list 0 is refused, and over both it is not
abbrev withdrawn : List ℕ
withdrawn = wrote (join_deliveries (0x0A ∷ 0x00 ∷ 0x02 ∷ 0x00 ∷ 0x00 ∷ 0x00 ∷ 0x0B ∷ 0x00 ∷ 0x00 ∷ []) (0x09 ∷ 0x00 ∷ 0x01 ∷ 0x00 ∷ 0x00 ∷ 0x00 ∷ 0x05 ∷ []) (replicate 13 7))

pub joined_members :
    map listing ((0x02 ∷ 0x40 ∷ 0x01 ∷ 0x0A ∷ 0x00 ∷ 0x02 ∷ 0x00 ∷ 0x00 ∷ 0x00 ∷ 0x0B ∷ 0x00 ∷ 0x00 ∷ []) ∷ (0x02 ∷ 0x40 ∷ 0x01 ∷ withdrawn) ∷
    (0x01 ∷ 0x00 ∷ 0x09 ∷ 0x00 ∷ 0x01 ∷ 0x00 ∷ 0x00 ∷ 0x00 ∷ 0x05 ∷ []) ∷ (0x01 ∷ 0x00 ∷ withdrawn) ∷ [])
    ≡ accepted (record { members = 5 ∷ []; moves = 1 }) ∷ accepted (record { members = []; moves = 1 }) ∷ refused 18 ∷ accepted (record { members = 5 ∷ []; moves = 1 }) ∷ []
unfolding computes
joined_members = refl

-- ---- request Seven, over the report's lists, all four delivered
abbrev report : Lent
report = lend (0 ∷ 1 ∷ 2 ∷ 5 ∷ 6 ∷ 8 ∷ 9 ∷ 0 ∷ 2 ∷ 3 ∷ 4 ∷ 5 ∷ 2 ∷ 3 ∷ 6 ∷ 8 ∷ 9 ∷ 0 ∷ 1 ∷ 2 ∷ 3 ∷ 7 ∷ 9 ∷ []) (7 ∷ 12 ∷ 17 ∷ 23 ∷ []) every_bit

abbrev L0 : Tree
L0 = leaf 0

abbrev L1 : Tree
L1 = leaf 1

abbrev L2 : Tree
L2 = leaf 2

abbrev L3 : Tree
L3 = leaf 3

-- two packed expressions, both accepted, the second a regrouping of the first
pub record Pair (expression regrouping : List ℕ) : Type 0 where
  pub tree : Tree
  pub regrouped : Tree
  pub accepts : map (source_of report) (expression ∷ regrouping ∷ []) ≡ map (λ t. accepted (record { lists = figures; tree = t })) (tree ∷ regrouped ∷ [])
  pub is_regrouping : Regrouped tree regrouped

-- "members of a union or an intersection in another order": the last of three moved ahead of the others
pub in_another_order : Pair (0x90 ∷ 0x00 ∷ 0x20 ∷ 0x80 ∷ []) (0x90 ∷ 0x20 ∷ 0x00 ∷ 0x40 ∷ [])
unfolding computes
in_another_order = record {
  tree = union (more L0 (more L1 (one L2)));
  regrouped = union (more L2 (more L0 (one L1)));
  accepts = refl;
  is_regrouping = union_reordered _ _ (first L0 (L1 ∷ L2 ∷ []) (L2 ∷ []) (L1 ∷ []) (first L1 (L2 ∷ []) (L2 ∷ []) [] (first L2 [] [] [] none)));
}

-- an intersection's, turned round
pub intersection_in_another_order : Pair (0xD0 ∷ 0x00 ∷ 0x40 ∷ 0xC0 ∷ []) (0xD0 ∷ 0x30 ∷ 0x40 ∷ 0x00 ∷ [])
unfolding computes
intersection_in_another_order = record {
  tree = intersection (more L0 (more L2 (one L3)));
  regrouped = intersection (more L3 (more L2 (one L0)));
  accepts = refl;
  is_regrouping = intersection_reordered _ _ (first L0 (L2 ∷ L3 ∷ []) (L3 ∷ L2 ∷ []) [] (first L2 (L3 ∷ []) (L3 ∷ []) [] (first L3 [] [] [] none)));
}

-- "a union within a union opened out", between others
pub opened_out : Pair (0x90 ∷ 0x08 ∷ 0x81 ∷ 0x04 ∷ 0x0C ∷ []) (0x98 ∷ 0x00 ∷ 0x20 ∷ 0x81 ∷ 0x80 ∷ [])
unfolding computes
opened_out = record {
  tree = union (more L0 (more (union (more L1 (one L2))) (one L3)));
  regrouped = union (more L0 (more L1 (more L2 (one L3))));
  accepts = refl;
  is_regrouping = union_opened (L0 ∷ []) (more L1 (one L2)) (L3 ∷ []);
}

-- "and the same for intersections": one of a single member, between others
pub intersection_opened_out : Pair (0xD0 ∷ 0x0C ∷ 0x02 ∷ 0x06 ∷ []) (0xD0 ∷ 0x00 ∷ 0x40 ∷ 0xC0 ∷ [])
unfolding computes
intersection_opened_out = record {
  tree = intersection (more L0 (more (intersection (one L2)) (one L3)));
  regrouped = intersection (more L0 (more L2 (one L3)));
  accepts = refl;
  is_regrouping = intersection_opened (L0 ∷ []) (one L2) (L3 ∷ []);
}

-- "a − (b ∪ c) as (a − b) − c", of three
pub taken_away : Pair (0x41 ∷ 0xC8 ∷ 0x00 ∷ 0x10 ∷ 0x40 ∷ []) (0x54 ∷ 0x18 ∷ 0x00 ∷ 0x20 ∷ 0x80 ∷ [])
unfolding computes
taken_away = record {
  tree = difference L3 (union (more L0 (more L1 (one L2))));
  regrouped = difference (difference (difference L3 L0) L1) L2;
  accepts = refl;
  is_regrouping = difference_of_union L3 (more L0 (more L1 (one L2)));
}

-- "a ∩ (b ∪ c) as (a ∩ b) ∪ (a ∩ c)", with one ahead and one behind
pub distributed : Pair (0xD0 ∷ 0x08 ∷ 0x81 ∷ 0x04 ∷ 0x0C ∷ []) (0x8E ∷ 0x80 ∷ 0x01 ∷ 0x07 ∷ 0xA0 ∷ 0x00 ∷ 0x81 ∷ 0x80 ∷ [])
unfolding computes
distributed = record {
  tree = intersection (more L0 (more (union (more L1 (one L2))) (one L3)));
  regrouped = union (more (intersection (more L0 (more L1 (one L3)))) (one (intersection (more L0 (more L2 (one L3))))));
  accepts = refl;
  is_regrouping = intersection_of_union (L0 ∷ []) (more L1 (one L2)) (L3 ∷ []);
}

-- "anywhere inside the tree", and in the other direction: in a second part, in a union, (L3 − L1) − L2 as L3 − (L1 ∪ L2)
pub in_a_second_part : Pair (0x40 ∷ 0x48 ∷ 0x0A ∷ 0x83 ∷ 0x02 ∷ 0x08 ∷ 0x08 ∷ []) (0x40 ∷ 0x48 ∷ 0x0A ∷ 0x0E ∷ 0x20 ∷ 0x41 ∷ 0x01 ∷ [])
unfolding computes
in_a_second_part = record {
  tree = difference L0 (union (more L1 (more (difference (difference L3 L1) L2) (one L1))));
  regrouped = difference L0 (union (more L1 (more (difference L3 (union (more L1 (one L2)))) (one L1))));
  accepts = refl;
  is_regrouping = in_second L0 _ _ (in_union (L1 ∷ []) _ _ (L1 ∷ []) (back _ _ (difference_of_union L3 (more L1 (one L2)))));
}

-- in a first part, in an intersection
pub in_a_first_part : Pair (0x74 ∷ 0x02 ∷ 0x20 ∷ 0x41 ∷ 0x03 ∷ 0x04 ∷ []) (0x74 ∷ 0x02 ∷ 0x20 ∷ 0x80 ∷ 0x83 ∷ 0x04 ∷ [])
unfolding computes
in_a_first_part = record {
  tree = difference (intersection (more L0 (more (union (more L1 (one L2))) (one L3)))) L2;
  regrouped = difference (intersection (more L0 (more (union (more L2 (one L1))) (one L3)))) L2;
  accepts = refl;
  is_regrouping = in_first _ _ L2 (in_intersection (L0 ∷ []) _ _ (L3 ∷ []) (union_reordered _ _ (first L1 (L2 ∷ []) (L2 ∷ []) [] (first L2 [] [] [] none))));
}

-- two of them, through a union of nine members, which no packed expression has
pub through_nine : Pair (0xBC ∷ 0x40 ∷ 0x01 ∷ 0x04 ∷ 0x08 ∷ 0x10 ∷ 0x20 ∷ 0x40 ∷ 0x81 ∷ 0x00 ∷ []) (0xB8 ∷ 0x00 ∷ 0x20 ∷ 0x81 ∷ 0x02 ∷ 0x04 ∷ 0x0A ∷ 0x20 ∷ 0x81 ∷ 0x00 ∷ [])
unfolding computes
through_nine = record {
  tree = union (more (union (more L0 (one L1))) (more L2 (more L2 (more L2 (more L2 (more L2 (more L2 (one L2))))))));
  regrouped = union (more L0 (more L1 (more L2 (more L2 (more L2 (more L2 (more L2 (one (union (more L2 (one L2)))))))))));
  accepts = refl;
  is_regrouping = then _ _ _ (union_opened [] (more L0 (one L1)) (replicate 7 L2)) (back _ _ (union_opened (L0 ∷ L1 ∷ replicate 5 L2) (more L2 (one L2)) []));
}

-- "Moves and places may differ": a check of 5 over the first pair, where L0, which answers it, is asked first, and after L2
pub moves_differ :
    map (λ expression. run_call report expression (starting 0) (3 ∷ []) (5 ∷ []) sevens) ((0x90 ∷ 0x00 ∷ 0x20 ∷ 0x80 ∷ []) ∷ (0x90 ∷ 0x20 ∷ 0x00 ∷ 0x40 ∷ []) ∷ [])
    ≡
    gives (3 ∷ 0 ∷ 3 ∷ (replicate 46 0 ++ (5 ∷ []))) ((4294967297 ∷ 7 ∷ []) ∷ []) ∷
    gives (5 ∷ 0 ∷ 2 ∷ 3 ∷ (replicate 45 0 ++ (5 ∷ []))) ((4294967297 ∷ 7 ∷ []) ∷ []) ∷ []
unfolding computes
moves_differ = refl

pub last-of-both : map (λ expression. last_bookmark (run_call report expression (starting 0) (3 ∷ []) (5 ∷ []) sevens)) ((0x90 ∷ 0x00 ∷ 0x20 ∷ 0x80 ∷ []) ∷ (0x90 ∷ 0x20 ∷ 0x00 ∷ 0x40 ∷ []) ∷ []) ≡ 5 ∷ 5 ∷ []
unfolding computes
last-of-both = refl

-- what looks like a regrouping and is none, by what two nexts are replied: a − (b ∩ c) as (a − b) − c; a ∪ (b ∩ c) as (a ∪ b) ∩ c; a
-- difference's parts swapped
abbrev two_nexts : List ℕ → List (List ℕ)
two_nexts expression = (run_call report expression (starting 0) (0 ∷ 0 ∷ []) (7 ∷ 7 ∷ []) sevens).rows

pub no_regroupings :
    map two_nexts ((0x40 ∷ 0x64 ∷ 0x08 ∷ 0x20 ∷ []) ∷ (0x50 ∷ 0x00 ∷ 0x41 ∷ 0x00 ∷ []) ∷ []) ++
    map two_nexts ((0x88 ∷ 0x0C ∷ 0x81 ∷ 0x04 ∷ []) ∷ (0xCC ∷ 0x40 ∷ 0x01 ∷ 0x04 ∷ []) ∷ []) ++
    map two_nexts ((0x40 ∷ 0x02 ∷ []) ∷ (0x41 ∷ 0x00 ∷ []) ∷ [])
    ≡
    ((0 ∷ 1 ∷ []) ∷ []) ∷ ((1 ∷ 4294967298 ∷ []) ∷ []) ∷
    ((0 ∷ 1 ∷ []) ∷ []) ∷ ((2 ∷ 3 ∷ []) ∷ []) ∷
    ((0 ∷ 1 ∷ []) ∷ []) ∷ ((3 ∷ 4294967298 ∷ []) ∷ []) ∷ []
unfolding computes
no_regroupings = refl
