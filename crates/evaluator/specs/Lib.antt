-- What the crate's contracts speak of.
pub mod Node
