-- The root of the definitions.
pub mod Packing
pub mod Reading
