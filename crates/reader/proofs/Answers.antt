-- An answer as a number, told from finished. Assumes nothing.
use mathlib.Core.Path.{◌≡◌}
use Prim.Native.Nat.{ℕ, ◌≤◌, ◌<◌}
use borrow.Author.Tests.{lt-ltb, le-ltb}
use Rattle.model.specs.Lists.{top}
use Rattle.model.specs.Steps.{Readers, end, at}
use Rattle.reader.specs.Sought.{found}

pub found_at : (x : ℕ) (rs : Readers) → x < top → found x rs ≡ at x rs
unfolding found
found_at x rs h = rw (found, lt-ltb x top h)

pub found-end : (x : ℕ) (rs : Readers) → top ≤ x → found x rs ≡ end rs
unfolding found
found-end x rs h = rw (found, le-ltb x top h)
