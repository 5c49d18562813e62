-- What the proofs of several functions cite, in other crates too.
pub mod Answers
pub mod Moves
pub mod Standing
pub mod Members
pub mod Siblings
pub mod Laying
