-- The theory about reading an expression.
pub mod Levels
pub mod Positions
pub mod Turns
pub mod Handed
