-- The laws that belong to no one function.
pub mod Reading
pub mod Walks
pub mod Copies
pub mod Pieces
pub mod Whole
