-- What is handed back for what reading a delivery answers: a refusal is its number, and every other part 0.
use Rattle.std.specs.Prelude.{Result, Ok, Err}
use Rattle.model.specs.declared.DecodeResult.{DecodeResult}
use Rattle.model.specs.Calls.{decoded_refused}
use Rattle.refusals.specs.declared.Refusal.{Refusal}
use Rattle.refusals.specs.Numbers.{number}

abbrev pub decoded_as : Result DecodeResult Refusal → DecodeResult
decoded_as (Ok d) = d
decoded_as (Err r) = decoded_refused (number r)
