-- The laws that belong to no one function.
pub mod Streams
pub mod Lists
pub mod Opening
pub mod Whole
