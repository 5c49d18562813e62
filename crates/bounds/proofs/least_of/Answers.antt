-- `least_of` meets its contract: the library's least of a row is that of the definition. Assumes nothing.
use mathlib.Core.Path.{◌≡◌, refl, sym, ap, ◌∙◌}
use mathlib.Core.List.{List, [], ◌∷◌}
use Prim.Native.Nat.{ℕ, min}
use Rattle.std.specs.List.{fold, reduce}
use Rattle.std.proofs.lemmas.Iterator.Adapters.{option_map_id}
use Rattle.std.specs.Option.{unwrap_or}
use Rattle.std.proofs.Common.{Option}
use Rattle.std.proofs.lemmas.Iterator.{YieldsList-from_slice}
use Rattle.std.proofs.lemmas.Iterator.Consumers.{YieldsList-from_copied, min_from_yields_List}
use Rattle.bounds.specs.Backwards.{least}
use Rattle.bounds.proofs.Sums.{least-joins}
use Rattle.bounds.proofs.least_of.Goals as goal

folded : (x : ℕ) (l : List ℕ) → fold min x l ≡ least (x ∷ l)
unfolding least
folded x [] = refl
folded x (y ∷ l) = folded (min x y) l ∙ sym (least-joins x y l)

least_is : (l : List ℕ) → unwrap_or (reduce min l) 0 ≡ least l
unfolding least
least_is [] = refl
least_is (x ∷ l) = folded x l

pub returns : goal.returns
returns c =
    let found = min_from_yields_List c.copied.result c.min.result c.min.ensures.ran (YieldsList-from_copied (YieldsList-from_slice c.args.row.now cc)) in
    c.unwrap_or.ensures ∙ ap (λ (o : Option ℕ). unwrap_or o 0) (sym (option_map_id _) ∙ found) ∙ least_is c.args.row.now
