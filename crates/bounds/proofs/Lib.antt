-- The laws that belong to no one function.
pub mod Sums
pub mod Forest
pub mod Turns
