-- What the program lists is the denoted set, drawn by one run over the delivered lists. Assumes nothing.
use mathlib.Core.Path.{◌≡◌, refl, sym, ap, ap₂, ◌∙◌, subst}
use mathlib.Core.Bool.{Bool, ◌&&◌}
use mathlib.Core.List.{List, ◌++◌, map}
use Prim.Native.Nat.{ℕ, suc, ◌-◌}
use native.Mathlib.Omega.{arith}
use lib.Dec.{leb}
use borrow.Author.Tests.{le-leb}
use lib.ListN.{length, replicate}
use lib.Seq.{take_all}
use Rattle.model.specs.declared.Reply.TheVariants.{Member, Finished}
use Rattle.model.specs.Outcome.{accepted}
use Rattle.model.specs.Expression.{Tree}
use Rattle.model.specs.Sets.{member, members}
use Rattle.model.specs.Run.{starting, Source, named_in, source_of}
use Rattle.model.specs.Forms.{read_packed}
use Rattle.model.specs.Delivery.{Supplied, supplied_numbers, read_delivery}
use Rattle.model.specs.Calls.{laid_out}
use Rattle.model.specs.Program.{halves, Listing, listing_of, listing}
use Rattle.model.specs.Demands.{SoundRun, Listed}
use Rattle.model.proofs.Accepted.{accepted-same, bound, required}
use Rattle.model.proofs.Denoted.{members_up, from_all}
use Rattle.model.proofs.Deliveries.{Delivered, delivery_holds}
use Rattle.model.proofs.Laid.{laid_numbers, laid-delivery}
use Rattle.model.proofs.DemandThree.{up, drawn}

module _ (input : List ℕ) (stored : List ℕ × List ℕ) (is_stored : halves input ≡ accepted stored) (ss : List Supplied) (is_supplied : read_delivery 4096 32 stored.1 ≡ accepted ss)
    (t : Tree) (is_tree : read_packed (named_in (laid_out ss)) stored.0 ≡ accepted t) where
  holds : Delivered 4096 32 ss
  holds = delivery_holds 4096 32 stored.1 ss is_supplied

  source : Source
  source = record { lists = map supplied_numbers ss; tree = t }

  -- the delivered lists, laid one after the other, are accepted with the expression
  is-source : source_of (laid_out ss) stored.0 ≡ accepted source
  unfolding source_of source
  is-source = rw (laid-delivery ss holds.count holds.storable, is_tree)

  listed : Listed input (listing_of (map supplied_numbers ss) t)
  unfolding source drawn listing_of
  listed =
      let ls : List (List ℕ) = map supplied_numbers ss in
      let d = drawn (laid_out ss) stored.0 (laid_numbers ls holds.storable) source is-source (starting 0) (omega arith) in
      let all : d.members ≡ members ls t = from_all 0 (members ls t) (members_up ls (up (laid_out ss) stored.0 (laid_numbers ls holds.storable) source is-source) t) in
      let m : ℕ = suc (length (members ls t)) in
      let more : m - length (members ls t) ≡ 1 = omega arith in
      record {
        stored = stored;
        is_stored = is_stored;
        source = source;
        supplied = ss;
        is_supplied = is_supplied;
        is_lists = refl;
        is_tree = is_tree;
        ascend = rw all at d.ascend;
        every = λ x. rw all at (d.every x) ∙ ap (λ (b : Bool). b && member ls t x) (le-leb 0 x (omega arith));
        result = d.result m;
        ran = λ ds e lent f. subst (λ (n : ℕ). SoundRun (laid_out ss) stored.0 source (starting 0) (replicate n 0) ds lent (d.result m)) (sym e) (d.ran m ds e lent (omega arith));
        replies = rw all at (d.replies m) ∙ ap₂ (λ (k : List ℕ) (n : ℕ). map Member k ++ replicate n Finished) (take_all m (members ls t) (omega arith)) more;
        moved = refl;
      }

-- what the program lists is the denoted set
pub listing_is : (input : List ℕ) (l : Listing) → listing input ≡ accepted l → Listed input l
unfolding listing
listing_is input l e =
    let a = required 6 (leb (length input) 65535) _ l e in
    let b = bound (halves input) _ l a.1 in
    let c = bound (read_delivery 4096 32 b.got.1) _ l b.rest in
    let d = bound (read_packed (named_in (laid_out c.got)) b.got.0) _ l c.rest in
    subst (Listed input) (accepted-same d.rest) (listed input b.got b.first c.got c.first d.got d.first)
