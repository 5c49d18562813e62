-- The root of the definitions.
pub mod Measures
pub mod Fits
