-- The laws that belong to no one function.
pub mod Sizes
pub mod Rest
pub mod Whole
