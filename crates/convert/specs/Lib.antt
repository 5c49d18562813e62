-- The root of the definitions.
pub mod Forms
pub mod Walks
pub mod Copies
pub mod Pieces
