-- `Output::put_line` meets its contract: a word, a number and a line end, each laid behind the other. Assumes nothing.
use mathlib.Core.Path.{◌≡◌, refl, sym, ap, ◌∙◌}
use mathlib.Core.List.{List, [], ◌∷◌, ◌++◌}
use Prim.Native.Nat.{ℕ, ◌≤◌, ◌+◌}
use native.Mathlib.Omega.{arith}
use lib.ListN.{length, length-append}
use Rattle.report.specs.Text.{decimal, line}
use Rattle.report.proofs.Text.{decimal_is, lay-then, laid_long, line-length, line-is}
use Rattle.report.proofs.Output.put_line.Goals as goal
use Rattle.report.proofs.Output.put_line.Goals.{Start, After-put, After-as_bytes, After-put-2}

-- the bytes printed are the number's digits
printed : (c : After-as_bytes) → c.as_bytes.result.now ≡ decimal c.args.n
printed c = c.as_bytes.ensures.value ∙ c.format.ensures.text ∙ decimal_is c.args.n c.ranges.n.fits

-- and there is room for them, and one byte more, behind the word
word_fits : (c : After-put) → (c.args.self.now.len + length c.args.word.now + length (decimal c.args.n) + 1 ≤ length c.args.self.now.row.now) × (length c.put.new.self.row.now ≡ length c.args.self.now.row.now)
word_fits c =
    let long = line-length c.args.word.now c.args.n in
    (omega arith, laid_long _ _ _ _ c.put.ensures.row (omega arith))

digits_fit : (c : After-as_bytes) → c.put.new.self.len + length c.as_bytes.result.now + 1 ≤ length c.put.new.self.row.now
digits_fit c =
    let fits = word_fits (goal.at.put-requires-2 c).After-put in
    omega (arith, ap (λ (l : List ℕ). length l) (printed c))

pub put-requires : goal.put-requires
put-requires c = omega (arith, line-length c.args.word.now c.args.n)

pub put-requires-2 : goal.put-requires-2
put-requires-2 c = let h = digits_fit (goal.at.put-requires-2 c).After-as_bytes in omega arith

pub put-requires-3 : goal.put-requires-3
put-requires-3 c =
    let h = digits_fit (goal.at.put-requires-3 c).After-as_bytes in
    omega (arith, laid_long _ _ _ _ c.put-2.ensures.row (omega arith))

pub returns-clause-len : goal.returns-clause-len
returns-clause-len c =
    omega (arith, line-length c.args.word.now c.args.n, ap (λ (l : List ℕ). length l) (printed (goal.at.returns-clause-len c).After-as_bytes))

pub returns-clause-row : goal.returns-clause-row
returns-clause-row c =
    let row : List ℕ = c.args.self.now.row.now in
    let at : ℕ = c.args.self.now.len in
    let word : List ℕ = c.args.word.now in
    let digits : List ℕ = c.as_bytes.result.now in
    let fits = word_fits (goal.at.returns-clause-row c).After-put in
    let both = lay-then row c.put.new.self.row.now c.put-2.new.self.row.now at c.put.new.self.len word digits (word ++ digits) (omega arith) c.put.ensures.row c.put.ensures.len c.put-2.ensures.row refl in
    lay-then row c.put-2.new.self.row.now c.put-3.new.self.row.now at c.put-2.new.self.len (word ++ digits) (10 ∷ []) (line word c.args.n) (omega arith) both
    (omega (arith, length-append word digits)) c.put-3.ensures.row
    (line-is word c.args.n ∙ ap (λ (d : List ℕ). (word ++ d) ++ (10 ∷ [])) (sym (printed (goal.at.returns-clause-row c).After-as_bytes)))
