-- `sum_of` meets its contract: the library's sum of a row is the paper's. Assumes nothing.
use mathlib.Core.Path.{◌≡◌, refl, ap, ◌∙◌}
use mathlib.Core.List.{List, [], ◌∷◌}
use Prim.Native.Nat.{ℕ, ◌+◌}
use Rattle.std.specs.List as std
use Rattle.std.proofs.lemmas.List.Sums.{sum_by-cons}
use Rattle.std.proofs.lemmas.Iterator.{YieldsList-from_slice}
use Rattle.std.proofs.lemmas.Iterator.Consumers.{sum_from_yields_List, fits_from_yields_list}
use Rattle.model.specs.Demands.{sum}
use Rattle.bounds.proofs.sum_of.Goals as goal

same : (l : List ℕ) → std.sum l ≡ sum l
unfolding sum
same [] = refl
same (x ∷ l) = sum_by-cons (λ n. n) x l ∙ ap (λ (n : ℕ). x + n) (same l)

pub sum-requires-clause-fits : goal.sum-requires-clause-fits
sum-requires-clause-fits c = fits_from_yields_list c.iter.result _ (YieldsList-from_slice c.args.row.now cc) (rw (same c.args.row.now) c.requires)

pub returns : goal.returns
returns c = sum_from_yields_List c.iter.result c.sum.result c.sum.ensures.ran (YieldsList-from_slice c.args.row.now cc) ∙ same c.args.row.now
