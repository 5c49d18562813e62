-- What the proofs of several functions cite.
pub mod Drawing
pub mod Cuts
