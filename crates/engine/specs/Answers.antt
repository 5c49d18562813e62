-- What is handed back for what a run answers: a refusal is its number, and every other part 0.
use Rattle.std.specs.Prelude.{Result, Ok, Err}
use Rattle.model.specs.declared.RunResult.{RunResult}
use Rattle.model.specs.Calls.{ran_refused}
use Rattle.refusals.specs.declared.Refusal.{Refusal}
use Rattle.refusals.specs.Numbers.{number}

abbrev pub ran_as : Result RunResult Refusal → RunResult
ran_as (Ok r) = r
ran_as (Err r) = ran_refused (number r)
