-- What the proofs of several functions cite.
pub mod Left
pub mod Rises
pub mod Ends
pub mod Spans
pub mod Tested
