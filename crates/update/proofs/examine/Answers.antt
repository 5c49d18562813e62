-- `examine` meets its contract: what is asked of the lists and of the kept row is what the definitions ask, and the first number that
-- applies is told. Assumes nothing.
use mathlib.Core.Path.{◌≡◌, sym, ap, ◌∙◌}
use mathlib.Core.Bool.{Bool, not, ◌||◌, beq}
use mathlib.Core.List.{List, []}
use Prim.Native.Nat.{ℕ, ◌<◌}
use native.Mathlib.Omega.{arith}
use lib.Dec.{ltb}
use lib.ListN.{length, get_or, take}
use lib.Seq.{length-take-le}
use Rattle.std.proofs.Common.{Result}
use Rattle.model.specs.Outcome.{accepted, number_of}
use Rattle.model.specs.Expression.{Tree}
use Rattle.model.specs.Lists.{top, ascending, lists_from}
use Rattle.model.specs.Sets.{among, member, members}
use Rattle.model.specs.Update.{Change, new_lists, is_new}
use Rattle.model.proofs.Order.{Up}
use Rattle.model.proofs.Denoted.{members_up, up-ascending, members_are}
use Rattle.lists.proofs.Spans.{readable_up}
use Rattle.kept.specs.Kept.{as_change}
use Rattle.refusals.specs.declared.Refusal.{Refusal}
use Rattle.refusals.specs.Numbers.{outcome}
use Rattle.reader.specs.Rows.{Stands}
use Rattle.update.specs.Plans.{first_number}
use Rattle.update.proofs.Tests.{Takes, Verdict, is_news, number_above, says-refused, verdict-refused, verdict_passed}
use Rattle.update.proofs.examine.Goals as goal
use Rattle.update.proofs.examine.Goals.{After-verdict}

pub find-shown-requires : goal.find-shown-requires
find-shown-requires c =
    let s = c.requires.standing in
    let ls : List (List ℕ) = lists_from c.args.generator.now.numbers.now 0 c.args.generator.now.ends.now in
    ap ascending (c.requires.kept.1 s.tree s.stands)
    ∙ up-ascending 0 _ (members_up ls (readable_up c.args.generator.now.numbers.now c.args.generator.now.ends.now c.args.generator.now.fit c.args.generator.now.ready.lists) s.tree)

-- what is asked of the lists and of the kept row is what the definitions ask
module _ (c : After-verdict) where
  abbrev numbers : List ℕ
  numbers = c.args.generator.now.numbers.now

  abbrev ends : List ℕ
  ends = c.args.generator.now.ends.now

  abbrev ls : List (List ℕ)
  ls = lists_from numbers 0 ends

  abbrev asked : Change
  asked = as_change c.args.list c.args.number c.args.adds

  up : (k : ℕ) → Up 0 (get_or ls k [])
  up = readable_up numbers ends c.args.generator.now.fit c.args.generator.now.ready.lists

  small : c.args.number < top
  small = omega (arith, c.ranges.number.fits)

  module _ (t : Tree) (h : Stands (length ends) c.args.generator.now.nodes.now t 0) where
    kept : take c.args.count c.args.members.now ≡ members ls t
    kept = c.requires.kept.1 t h

    many : c.args.count ≡ length (members ls t)
    many = sym (length-take-le c.args.count c.args.members.now c.requires.kept.0) ∙ ap (λ (l : List ℕ). length l) kept

    -- the number was a member, or not, and will be one, or not
    was : c.is_ok-was.result ≡ member ls t c.args.number
    was = c.is_ok-was.ensures.value ∙ c.find-shown.ensures.1 ∙ ap (among c.args.number) kept ∙ members_are ls t c.args.number

    will : c.will_be_member-will.result ≡ member (new_lists asked ls) t c.args.number
    will = c.will_be_member-will.ensures t h

    -- the number of the verdict
    told : number_of (outcome c.verdict.result) ≡ Verdict numbers ends c.requires.ends_value.0 up asked c.requires.ends_value.2 small t (length c.args.members.now)
    told = c.verdict.ensures ∙ (λ i. first_number (news i) (c.test_room-room.ensures i) (taken i))
      where
        news : not (beq c.args.adds c.is_ok.result) ≡ is_new asked ls
        news = ap (λ (b : Bool). not (beq c.args.adds b)) (c.is_ok.ensures.value ∙ c.find_in-found.ensures.1) ∙ is_news asked ls

        -- whether the kept row takes it
        taken : c.takes-fits.result ≡ Takes ls asked t (length c.args.members.now)
        taken = c.takes-fits.ensures ∙ (λ i. was i || (not (will i) || ltb (many i) (length c.args.members.now)))

pub returns-in_err-verdict : goal.returns-in_err-verdict
unfolding number_of
returns-in_err-verdict c =
    let v = (goal.at.returns-in_err-verdict c).After-verdict in
    λ t h.
    says-refused _ _ c.from_residual.ensures.1
    ∙ verdict-refused (numbers v) (ends v) c.requires.ends_value.0 (up v) (asked v) c.requires.ends_value.2 (small v) t c.args.generator.now.ready.lists c.args.members.now c.args.count _ (number_above _)
    (sym (ap (λ (r : Result (Unit {0}) Refusal). number_of (outcome r)) c.in_err-verdict.was) ∙ told v t h)

pub returns : goal.returns
unfolding number_of
returns c =
    let v = (goal.at.returns c).After-verdict in
    λ t h.
    (λ i. accepted (record { at = (c.place_of.ensures ∙ c.find_in-found.ensures.0) i; used = c.start_of.ensures i; place = (c.place_of-2.ensures ∙ c.find-shown.ensures.0) i; was = was v t h i; will = will v t h i }))
    ∙ verdict_passed (numbers v) (ends v) c.requires.ends_value.0 (up v) (asked v) c.requires.ends_value.2 (small v) t c.args.generator.now.ready.lists c.args.members.now c.args.count (omega (arith, many v t h, c.requires.kept.0))
    (sym (ap (λ (r : Result (Unit {0}) Refusal). number_of (outcome r)) c.in_ok-verdict.was) ∙ told v t h)
