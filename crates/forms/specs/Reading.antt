-- What both calls begin with.
use Rattle.std.specs.Prelude.{List, ℕ}
use Rattle.model.specs.Outcome.{Outcome, ◌>>◌, require}
use Rattle.model.specs.Lists.{count_holds}
use Rattle.model.specs.Expression.{Tree}
use Rattle.model.specs.Forms.{there}
use Rattle.expression.specs.declared.Form.{Form}
use Rattle.expression.specs.Reading.{read_form}

-- "Reading checks 7 first"; of so many lists, with this word
abbrev pub read_over : Form → ℕ → ℕ → List ℕ → Outcome Tree
read_over form lists word s = require 7 (count_holds lists) >> read_form form (there lists word) s
