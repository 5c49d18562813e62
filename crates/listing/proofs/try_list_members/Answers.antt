-- `try_list_members` meets its contract: test by test, in the order of `Program.listing`; behind the delivery the lists stand in the
-- rows, and `list_delivered` sends back what the definition does. Assumes nothing.
use mathlib.Core.Path.{◌≡◌, refl, sym, ap, ap₂, ◌∙◌}
use mathlib.Core.List.{List}
use Prim.Native.Nat.{ℕ}
use native.Mathlib.Omega.{arith}
use lib.ListN.{length, replicate, length-take, length-replicate}
use Rattle.std.proofs.Common.{Err}
use Rattle.model.specs.declared.DecodeResult.{DecodeResult}
use Rattle.model.specs.Outcome.{number_of}
use Rattle.model.specs.Delivery.{read_delivery}
use Rattle.model.specs.Calls.{counted, counted_refused}
use Rattle.lists.proofs.Tested.{refuses}
use Rattle.model.proofs.Told.{SuccessOf, zero_accepts, refused_by, delivery_told}
use Rattle.listing.specs.Over.{list_over}
use Rattle.listing.proofs.Whole.{handed, first_part, second_part, refuses-size, refuses-none, refuses-short, refuses-delivery, goes_over, delivered-number, LaidLists, lists_laid}
use Rattle.listing.proofs.try_list_members.Goals as goal
use Rattle.listing.proofs.try_list_members.Goals.{In_ok-got}

zeros : (n : ℕ) → length {A = ℕ} (replicate n 0) ≡ n
zeros n = length-replicate n 0

pub returns-then-input-gt-LONGEST : goal.returns-then-input-gt-LONGEST
returns-then-input-gt-LONGEST c = refuses-size _ _ c.if-input-gt-LONGEST.true

pub returns-then-input-eq0 : goal.returns-then-input-eq0
returns-then-input-eq0 c = refuses-none _ _ c.if-input-gt-LONGEST.false c.if-input-eq0.true

pub returns-then-input-end : goal.returns-then-input-end
returns-then-input-end c = refuses-short _ _ c.if-input-gt-LONGEST.false c.if-input-eq0.false c.if-input-end.true

pub returns-in_err-got : goal.returns-in_err-got
unfolding number_of
returns-in_err-got c =
    let args = c.args in
    let o = read_delivery 4096 32 (second_part args.input.now) in
    let told = delivered-number (second_part args.input.now) (replicate 4096 0) (replicate 32 0) (zeros 4096) (zeros 32) _ _ _ c.in_err-got.ensures.sent in
    handed args.members.now _ _ c.from_residual.ensures.1
    ∙ ap (λ (n : ℕ). counted (counted_refused n) args.members.now) told
    ∙ refuses-delivery _ _ c.if-input-gt-LONGEST.false c.if-input-eq0.false c.if-input-end.false _ (refused_by o (refuses {A = DecodeResult} {tested = Err _} o told refl))

-- the lists that were read stand in the rows
module _ (c : In_ok-got) where
  abbrev stored : List ℕ
  stored = second_part c.args.input.now

  read : SuccessOf (read_delivery 4096 32 stored)
  read = zero_accepts (read_delivery 4096 32 stored) (delivery_told 4096 32 stored) (sym (delivered-number stored (replicate 4096 0) (replicate 32 0) (zeros 4096) (zeros 32) _ _ _ c.in_ok-got.ensures.sent) ∙ c.in_ok-got.ensures.number)

  laid : LaidLists c.in_ok-got.got c.read_delivery.new.numbers c.read_delivery.new.ends read.got
  laid = lists_laid stored (replicate 4096 0) (replicate 32 0) (zeros 4096) (zeros 32) _ _ _ c.in_ok-got.ensures.sent read.got read.is

pub slice_bounds-ends-end : goal.slice_bounds-ends-end
slice_bounds-ends-end c = (laid (goal.at.slice_bounds-ends-end c).In_ok-got).inside

pub slice_bounds-list_delivered-end-2 : goal.slice_bounds-list_delivered-end-2
slice_bounds-list_delivered-end-2 c =
    let got = c.in_ok-got.got in
    omega (arith, length-take got.lists c.read_delivery.new.ends, (laid (goal.at.slice_bounds-list_delivered-end-2 c).In_ok-got).inside)

pub list_delivered-requires : goal.list_delivered-requires
list_delivered-requires c = (laid (goal.at.list_delivered-requires c).In_ok-got).delivered_lists

pub returns : goal.returns
returns c =
    let args = c.args in
    c.list_delivered.ensures
    ∙ ap₂ (λ (v : ℕ) (ls : List (List ℕ)). list_over v ls (first_part args.input.now) args.members.now) (laid (goal.at.returns c).In_ok-got).word-is (laid (goal.at.returns c).In_ok-got).lists_are
    ∙ goes_over _ _ c.if-input-gt-LONGEST.false c.if-input-eq0.false c.if-input-end.false _ (read (goal.at.returns c).In_ok-got).is
