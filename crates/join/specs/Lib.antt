-- The root of the definitions.
pub mod Streams
pub mod Measures
pub mod Fits
