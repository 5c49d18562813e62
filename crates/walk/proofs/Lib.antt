-- The laws that belong to no one function.
pub mod Reading
pub mod Counting
pub mod Bounds
pub mod Whole
