-- The root of the definitions.
pub mod Heads
pub mod Counts
pub mod Answers
