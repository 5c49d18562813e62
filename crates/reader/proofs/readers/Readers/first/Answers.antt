-- `Readers::first` keeps what readers keep. Assumes nothing.
use Rattle.reader.proofs.Moves.{none_moved}
use Rattle.reader.proofs.readers.Readers.first.Goals as goal

pub invariant_of-result : goal.invariant_of-result
invariant_of-result c = record { tallied = none_moved }
