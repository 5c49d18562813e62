-- What the proofs of several functions cite.
pub mod Tests
pub mod Whole
pub mod Leaves
