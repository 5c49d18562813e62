-- The laws about refusals.
pub mod Up
