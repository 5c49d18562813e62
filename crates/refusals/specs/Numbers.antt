-- "What is sent back, by number": the paper's number for each refusal, and an outcome of the paper for what the engine answers.
use Rattle.std.specs.Prelude.{◌≡◌, ℕ, Result, Ok, Err}
use Rattle.model.specs.Outcome.{Outcome, refused, accepted}
use Rattle.model.specs.declared.WriteResult.{WriteResult}
use Rattle.refusals.specs.declared.Refusal.{Refusal}
use Rattle.refusals.specs.declared.Refusal.TheVariants.{RunsOut, TooManyNodes, TooDeep, NoSuchList, LeftOver, NoRoom, ListCount, GapPassesTop, WidthNotLeast, BadEnds, NotAscending, BadBookmark, RowLengths, UnknownByte, NothingChanges, ListFull, NotKept, NotDelivered, ListMissing, CountsDiffer, JoinTooLong}

-- the number of a refusal, by the tables of 01 and of the change requests
abbrev pub number : Refusal → ℕ
number RunsOut = 1
number TooManyNodes = 2
number TooDeep = 3
number NoSuchList = 4
number LeftOver = 5
number NoRoom = 6
number ListCount = 7
number GapPassesTop = 8
number WidthNotLeast = 9
number BadEnds = 10
number NotAscending = 11
number BadBookmark = 12
number RowLengths = 13
number UnknownByte = 14
number NothingChanges = 15
number ListFull = 16
number NotKept = 17
number NotDelivered = 18
number ListMissing = 19
number CountsDiffer = 20
number JoinTooLong = 21

abbrev pub IsNumber : Refusal → ℕ → Type 0
IsNumber r n = n ≡ number r

-- what the engine answers, as an outcome of the paper
abbrev pub outcome : {A : Type 0} → Result A Refusal → Outcome A
outcome (Ok a) = accepted a
outcome (Err r) = refused (number r)

-- what C is handed for it
abbrev pub written_as : Result ℕ Refusal → WriteResult
written_as (Ok n) = record { number = 0; count = n }
written_as (Err r) = record { number = number r; count = 0 }
