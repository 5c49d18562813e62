-- What the proofs of several functions cite.
pub mod Replies
pub mod Sends
pub mod Whole
