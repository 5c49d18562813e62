-- What is handed back for the bounds that were found, or for a refusal.
use Rattle.std.specs.Prelude.{Result, Ok, Err}
use Rattle.model.specs.declared.BoundsResult.{BoundsResult}
use Rattle.model.specs.Bounds.{bounded_refused}
use Rattle.refusals.specs.declared.Refusal.{Refusal}
use Rattle.refusals.specs.Numbers.{number}

abbrev pub bounded_as : Result BoundsResult Refusal → BoundsResult
bounded_as (Ok r) = r
bounded_as (Err e) = bounded_refused (number e)
