-- The root of the definitions.
pub mod Stores
pub mod Answers
