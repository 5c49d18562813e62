-- The root of the definitions.
pub mod Backwards
pub mod Handed
