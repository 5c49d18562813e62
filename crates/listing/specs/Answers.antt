-- What is handed back for what listing the members answers: a refusal is its number, and every other part 0.
use Rattle.std.specs.Prelude.{Result, Ok, Err}
use Rattle.model.specs.declared.MembersResult.{MembersResult}
use Rattle.model.specs.Calls.{counted_refused}
use Rattle.refusals.specs.declared.Refusal.{Refusal}
use Rattle.refusals.specs.Numbers.{number}

abbrev pub counted_as : Result MembersResult Refusal → MembersResult
counted_as (Ok r) = r
counted_as (Err r) = counted_refused (number r)
