-- The number of a refusal of the call is never 0. Assumes nothing.
use mathlib.Core.List.{List}
use Prim.Native.Nat.{ℕ}
use native.Mathlib.Omega.{arith}
use lib.ListN.{length}
use Rattle.model.specs.Lists.{Lent, lists_of}
use Rattle.model.specs.Run.{named_in, source_of}
use Rattle.model.specs.Forms.{read_packed}
use Rattle.model.specs.Update.{Change, shown, changed, shows, is_new, has_room, fits, update_of}
use Rattle.model.proofs.Told.{Told, told_right, told_then, told_and, told_test, lists_told, there_told, packed_told}

source_told : (l : Lent) (expression : List ℕ) → Told (source_of l expression)
unfolding source_of
source_told l expression = told_then (lists_of l) _ (lists_told l) (λ ls. told_then (read_packed (named_in l) expression) _ (packed_told (named_in l) (there_told (length l.ends) l.word) expression) (λ t. told_right))

pub update_told : (l : Lent) (expression : List ℕ) (c : Change) (kept : List ℕ) (count : ℕ) → Told (update_of l expression c kept count)
unfolding update_of
update_told l expression c kept count =
    told_then (source_of l expression) _ (source_told l expression) (λ s. told_and (named_in l c.list) _ (there_told (length l.ends) l.word c.list)
    (told_test 17 (shows kept count (shown s)) _ (omega arith) (told_test 15 (is_new c s.lists) _ (omega arith)
    (told_test 16 (has_room c s.lists) _ (omega arith) (told_test 6 (fits l kept (changed c s)) _ (omega arith) told_right)))))
