-- What the proofs of several functions cite.
pub mod Table
pub mod Text
pub mod Listed
