-- The laws that belong to no one function.
pub mod Rows
pub mod Fields
pub mod Puts
