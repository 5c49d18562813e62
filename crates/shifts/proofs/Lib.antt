-- What the proofs of several functions cite.
pub mod Places
pub mod Shifts
