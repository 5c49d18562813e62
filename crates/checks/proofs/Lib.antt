-- What the proofs of several functions cite.
pub mod Until
pub mod Nodes
pub mod Stepping
