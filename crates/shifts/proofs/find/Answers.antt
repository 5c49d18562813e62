-- `find` meets its contract: by what the library says of its search. Assumes nothing.
use Rattle.shifts.proofs.Places.{search_places}
use Rattle.shifts.proofs.find.Goals as goal

pub returns : goal.returns
returns c = search_places c.args.row.now c.args.x c.requires _ c.binary_search.ensures.position
